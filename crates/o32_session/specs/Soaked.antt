-- What an answer says where `soak N` asks for the soak program, and the answer by the command that the words begin with. This project's own.
use Rattle.std.specs.Prelude.{ℕ, ◌≡◌, ◌<◌, ◌⊎◌, List, [], ◌∷◌, ◌==◌, if◌then◌else◌, codes, unwrap_or, Option, Some, None}
use Rattle.outside.specs.Count.{Rose}
use Rattle.outside.specs.Output.{GainsText, GainsBetween}
use Rattle.kernel_core.specs.declared.finish.Finish.{Finish}
use Rattle.kernel_core.specs.declared.finish.Finish.TheVariants as finishes
use Rattle.kernel_core.specs.declared.tree.Tree.{Tree}
use Rattle.o32_runner.specs.Emulators.{Emulated}
use Rattle.o32_runner.specs.Runs.{no_turn_follows}
use Rattle.o32_turns.specs.Machine.{Machine}
use Rattle.o32_turns.specs.Runs.{IsOverAt, IsRunningAt, last_machine, reached}
use Rattle.soak_ends.specs.Line as lines
use Rattle.soak_ends.specs.Line.{soak_plan}
use Rattle.o32_session.specs.Words.{Command, RunCommand, ReplayCommand, SoakCommand, SoakReading, AsksSoak, WrongSoakAt, command_of, default_budget, read_soak}
use Rattle.o32_session.specs.Asked.{Refuse, first_machine}
use Rattle.session_files.specs.Inputs.{empty_schedule, empty_tree, no_names}
use Rattle.session_files.specs.Seen.{Seen, Writes}
use Rattle.o32_session.specs.Session.{Answers, AnswersWords, KeepsNamed, final_tree}
use Rattle.session_replay.specs.Replayed.{AnswersReplayWords, RestStands}
use Rattle.session_files.specs.declared.refusal.Refusal.TheVariants.{Usage}
use Rattle.session_files.specs.declared.end.End.{End}
use Rattle.session_files.specs.declared.end.End.TheVariants.{Exited, Killed, Budget, Blocked, Soaked, Replayed, Refused, Diverged, ReadFault, WriteFault, NoMemory}

-- The run

-- the program's one argument, its name; there is no environment
abbrev pub soak_arguments : List (List ℕ)
soak_arguments = codes "soak" ∷ []

-- the machine of the program for so many numbers at its first instruction, beside one empty root directory and under the schedule of the empty text
unfoldable pub soak_machine : ℕ → Machine
soak_machine count = first_machine (soak_plan count) soak_arguments [] empty_tree empty_schedule

-- The run of a machine over an input of no bytes, for the budget of words that give none, is over so after these turns, and leaves this machine.
pub record EndsSo (machine : Machine) (turns : ℕ) (finish : Finish) (final : Machine) : Type 0 where
  pub over : IsOverAt empty_schedule.quantum machine [] default_budget turns finish
  pub leaves : final ≡ last_machine empty_schedule.quantum machine [] turns finish

-- after these turns of it the process has not ended, and the budget has more
pub record GoesSoFar (machine : Machine) (turns : ℕ) : Type 0 where
  pub alive : (reached empty_schedule.quantum machine [] turns).over ≡ None
  pub first : (j : ℕ) → j < turns → IsRunningAt empty_schedule.quantum machine [] j
  pub few : turns < default_budget

-- the run of the program for so many numbers
abbrev pub IsSoak : ℕ → ℕ → Finish → Machine → Type 0
IsSoak count turns finish final = EndsSo (soak_machine count) turns finish final

-- memory ran out before the run, in the turn behind these, or once the run was over after these
pub data StopsSoak (count : ℕ) : ℕ → Type 0 where
  stops_unbegun : StopsSoak count 0
  stops_within : (turns : ℕ) → GoesSoFar (soak_machine count) turns → StopsSoak count turns
  stops_behind : (turns : ℕ) (finish : Finish) (final : Machine) → IsSoak count turns finish final → StopsSoak count turns

-- The line

-- There is one where the run exited with 0 and left the program's file.
abbrev pub line_on : ℕ → ℕ → Finish → Tree → Option (List ℕ)
line_on count turns (finishes.Exited status) tree = if status == 0 then lines.line_on count turns tree else None
line_on count turns (finishes.Killed signal) tree = None
line_on count turns finishes.Budget tree = None
line_on count turns finishes.Blocked tree = None

-- what is written of a run for so many numbers that was over so after these turns and left this machine
abbrev pub text_on : ℕ → ℕ → Finish → Machine → List ℕ
text_on count turns finish final = unwrap_or (line_on count turns finish (final_tree final)) []

-- The answer

-- The run was over so after these turns, its line was written, and the emulator is handed out in the run's last state with its
-- quantum, and keeps no native log and no records. Nothing of the input was taken, and no file was looked at.
pub record IsSoaked (count : ℕ) (old new : Seen) (turns : ℕ) (finish : Finish) (host : Option Emulated) : Type 0 where
  pub emulated : Emulated
  pub hosted : host ≡ Some emulated
  pub turned : emulated.turns ≡ turns
  pub quantum : emulated.quantum ≡ empty_schedule.quantum
  pub keeps : KeepsNamed no_names emulated
  pub last : emulated.over ≡ no_turn_follows finish
  pub over : IsSoak count turns finish emulated.machine
  pub wrote : Writes old new (text_on count turns finish emulated.machine) []
  pub rest : RestStands old new

-- the same with at most a part of the line
pub record StopsAtSoakLine (count : ℕ) (old new : Seen) (turns : ℕ) : Type 0 where
  pub finish : Finish
  pub final : Machine
  pub over : IsSoak count turns finish final
  pub to_out : GainsBetween old.out new.out [] (text_on count turns finish final)
  pub to_err : GainsText old.err new.err []
  pub rest : RestStands old new

-- memory ran out before the line, once these turns were finished
pub record StopsInSoak (count : ℕ) (old new : Seen) (turns : ℕ) : Type 0 where
  pub stopped : StopsSoak count turns
  pub wrote : Writes old new [] []
  pub rest : RestStands old new

-- What an end with its turns says where the program for so many numbers is asked for. A fault has its cause in the line's output.
abbrev pub AnswersSoak : ℕ → Seen → Seen → ℕ → End → Option Emulated → Type 0
AnswersSoak count old new turns (Soaked finish) host = IsSoaked count old new turns finish host
AnswersSoak count old new turns WriteFault host = StopsAtSoakLine count old new turns × Rose old.out_faults new.out_faults
AnswersSoak count old new turns NoMemory host = StopsInSoak count old new turns ⊎ StopsAtSoakLine count old new turns
AnswersSoak count old new turns ReadFault host = ⊥
AnswersSoak count old new turns (Refused given) host = ⊥
AnswersSoak count old new turns (Replayed finish) host = ⊥
AnswersSoak count old new turns (Diverged turn wanted found) host = ⊥
AnswersSoak count old new turns (Exited status) host = ⊥
AnswersSoak count old new turns (Killed signal) host = ⊥
AnswersSoak count old new turns Budget host = ⊥
AnswersSoak count old new turns Blocked host = ⊥

-- The same by the reading of the words.
abbrev pub AnswersSoakReading : SoakReading → Seen → Seen → ℕ → End → Option Emulated → Type 0
AnswersSoakReading (WrongSoakAt word) old new turns end host = Answers (Refuse (Usage word)) no_names old new turns end None
AnswersSoakReading (AsksSoak count) old new turns end host = AnswersSoak count old new turns end host

-- All words, by the command that they begin with

abbrev pub AnswersCommand : Command → List (List ℕ) → Seen → Seen → ℕ → End → Option Emulated → Type 0
AnswersCommand RunCommand words old new turns end host = AnswersWords words old new turns end host
AnswersCommand ReplayCommand words old new turns end host = AnswersReplayWords words old new turns end
AnswersCommand SoakCommand words old new turns end host = AnswersSoakReading (read_soak words) old new turns end host

abbrev pub AnswersSession : List (List ℕ) → Seen → Seen → ℕ → End → Option Emulated → Type 0
AnswersSession words old new turns end host = AnswersCommand (command_of words) words old new turns end host

-- Where nothing fails

-- the words ask for the soak program for so many numbers
pub record AsksForSoak (words : List (List ℕ)) (count : ℕ) : Type 0 where
  pub soaks : command_of words ≡ SoakCommand
  pub in_order : read_soak words ≡ AsksSoak count

-- this is how its run is over
abbrev pub EndsAsSoak : ℕ → ℕ → End → Type 0
EndsAsSoak count turns (Soaked finish) = (final : Machine) × IsSoak count turns finish final
EndsAsSoak count turns (Refused given) = ⊥
EndsAsSoak count turns (Replayed finish) = ⊥
EndsAsSoak count turns (Diverged turn wanted found) = ⊥
EndsAsSoak count turns (Exited status) = ⊥
EndsAsSoak count turns (Killed signal) = ⊥
EndsAsSoak count turns Budget = ⊥
EndsAsSoak count turns Blocked = ⊥
EndsAsSoak count turns ReadFault = ⊥
EndsAsSoak count turns WriteFault = ⊥
EndsAsSoak count turns NoMemory = ⊥

-- A run that left its journal, and what a later replay over both is. This project's own.
use Rattle.std.specs.Prelude.{ℕ, ◌≡◌, ◌+◌, ◌<◌, ◌⊎◌, List, Option, Some}
use Rattle.elf_image.specs.Loading.{plan_of}
use Rattle.journal.specs.Text.{text_of}
use Rattle.kernel_core.specs.declared.finish.Finish.{Finish}
use Rattle.o32_session.specs.Asked.{arguments_of, first_machine}
use Rattle.o32_session.specs.LeftJournal.{LeavesJournal}
use Rattle.session_replay.specs.Replayed.{RestStands}
use Rattle.o32_session.specs.Session.{AsksForRun}
use Rattle.session_files.specs.Seen.{Seen, Writes}
use Rattle.o32_session.specs.Words.{AsksReplay, ReplayCommand, ReplayLine, command_of, read_replay}
use Rattle.session_files.specs.declared.end.End.{End}
use Rattle.session_files.specs.declared.end.End.TheVariants.{Exited, Killed, Budget, Blocked, Soaked, Replayed, Refused, Diverged, ReadFault, WriteFault, NoMemory}
use Rattle.o32_turns.specs.Machine.{Machine}
use Rattle.o32_turns.specs.Runs.{Reached, reached}
use Rattle.outside.specs.Count.{Rose}
use Rattle.outside.specs.Files.{Files}
use Rattle.outside.specs.Output.{GainsBetween}

-- A run that is over and left its journal, as a session says of each run for which a file is named: the words of its session, the store before it, what
-- these ask for, the input, the turns and the finish, the name of the file, the store behind it, and the journal that the file has.
pub record LeftRun : Type 0 where
  pub words : List (List ℕ)
  pub before : Option Files
  pub run : AsksForRun words before
  pub input : List ℕ
  pub turns : ℕ
  pub finish : Finish
  pub name : List ℕ
  pub behind : Option Files
  pub leaves : LeavesJournal words before run input turns finish name behind

-- what the file has
abbrev pub text_left : LeftRun → List ℕ
text_left left = text_of left.leaves.journal

-- the machine of the run
abbrev pub machine_left : LeftRun → Machine
machine_left left =
    first_machine (plan_of left.run.bytes) (arguments_of left.words left.run.line) left.run.line.environment left.leaves.tree left.run.schedule

-- what it had come to after so many turns, and when it was over

abbrev pub run_at : LeftRun → ℕ → Reached
run_at left turns = reached left.run.schedule.quantum (machine_left left) left.input turns

abbrev pub run_left : LeftRun → Reached
run_left left = run_at left left.turns

-- The words are those of `replay`, in order, with these names.
pub record AreReplayWords (words : List (List ℕ)) (line : ReplayLine) : Type 0 where
  pub replays : command_of words ≡ ReplayCommand
  pub in_order : read_replay words ≡ AsksReplay line

-- The store tells its files: that of PROGRAM has the bytes that were run, and that of JOURNAL the text that was left.
pub record HasBoth (left : LeftRun) (line : ReplayLine) (told : Option Files) : Type 0 where
  pub files : Files
  pub is_told : told ≡ Some files
  pub program : files line.program ≡ Some left.run.bytes
  pub journal : files line.journal ≡ Some (text_left left)

-- It is over as the run was, after as many turns, and wrote what the run sent; the input and the store stand as they were.
pub record IsRunAgain (left : LeftRun) (old new : Seen) (turns : ℕ) (finish : Finish) : Type 0 where
  pub as_many : turns ≡ left.turns
  pub as_over : finish ≡ left.finish
  pub wrote : Writes old new (run_left left).sent.out (run_left left).sent.err
  pub rest : RestStands old new

-- It stopped in the turn behind these, one of the run's: on each output stands at least what the run sent in these turns and at most what it sent in
-- one more.
pub record IsPartAgain (left : LeftRun) (old new : Seen) (turns : ℕ) : Type 0 where
  pub more : turns < left.turns
  pub to_out : GainsBetween old.out new.out (run_at left turns).sent.out (run_at left (turns + 1)).sent.out
  pub to_err : GainsBetween old.err new.err (run_at left turns).sent.err (run_at left (turns + 1)).sent.err
  pub rest : RestStands old new

-- What an end of a replay says, once both files are loaded: the run again, or a part of it. There is no difference.
abbrev pub RepeatsRun : LeftRun → Seen → Seen → ℕ → End → Type 0
RepeatsRun left old new turns (Replayed finish) = IsRunAgain left old new turns finish
RepeatsRun left old new turns (Diverged turn wanted found) = ⊥
RepeatsRun left old new turns WriteFault =
    IsPartAgain left old new turns × (Rose old.out_faults new.out_faults ⊎ Rose old.err_faults new.err_faults)
RepeatsRun left old new turns NoMemory = IsPartAgain left old new turns
RepeatsRun left old new turns ReadFault = ⊥
RepeatsRun left old new turns (Soaked finish) = ⊥
RepeatsRun left old new turns (Refused given) = ⊥
RepeatsRun left old new turns (Exited status) = ⊥
RepeatsRun left old new turns (Killed signal) = ⊥
RepeatsRun left old new turns Budget = ⊥
RepeatsRun left old new turns Blocked = ⊥

-- What `replay PROGRAM JOURNAL` asks for, and what an answer says of it. This project's own.
use Rattle.std.specs.Prelude.{ℕ, ◌≡◌, ◌≤◌, ⊤, ◌⊎◌, List, [], ◌∷◌, ◌++◌, Option, Some, None, Result, Ok, Err, nat_lt, ◌==◌, if◌then◌else◌}
use Rattle.outside.specs.Count.{Rose}
use Rattle.outside.specs.Files.{Files}
use Rattle.outside.specs.Output.{GainsText, GainsBetween}
use Rattle.outside.specs.Turned.{TurnedLoad}
use Rattle.outside.specs.declared.errors.LoadError.{LoadError}
use Rattle.outside.specs.declared.errors.LoadError.TheVariants as answers
use Rattle.kernel_core.specs.declared.finish.Finish.{Finish}
use Rattle.elf_image.specs.Rules as elf
use Rattle.elf_image.specs.Loading.{plan_of}
use Rattle.elf_image.specs.declared.refusal.ElfRefusal.{ElfRefusal}
use Rattle.elf_image.specs.declared.load_plan.Plan.{Plan}
use Rattle.start_stack.specs.Stack.{start_size, start_limit}
use Rattle.journal.specs.Text.{Kept}
use Rattle.journal.specs.Reading.{reading_of}
use Rattle.replay_core.specs.Answered.{Written, EndsBy, DivergesBy, StopsAt}
use Rattle.replay_core.specs.Whole.{last_of, replay_of, start_of}
use Rattle.stored_files.specs.Stored.{Stored}
use Rattle.session_words.specs.Words.{ReplayCommand, ReplayLine, ReplayReading, AsksReplay, WrongReplayAt, command_of, read_replay}
use Rattle.session_files.specs.Inputs.{Found, Absent, Long, Bytes, HasProgram, IsFound, found_at, program_file, program_limit, journal_file, journal_limit}
use Rattle.session_files.specs.Saved.{after_loads}
use Rattle.session_files.specs.Seen.{Seen, Writes}
use Rattle.session_files.specs.Unrun.{AnswersRefusal, DoesNothing}
use Rattle.session_files.specs.Lines.{divergence_line}
use Rattle.session_files.specs.declared.refusal.Refusal.{Refusal}
use Rattle.session_files.specs.declared.refusal.Refusal.TheVariants.{Usage, Missing, TooLong, Elf, Image, Schedule, Start, Journal}
use Rattle.session_files.specs.declared.end.End.{End}
use Rattle.session_files.specs.declared.end.End.TheVariants.{Exited, Killed, Budget, Blocked, Soaked, Replayed, Refused, Diverged, ReadFault, WriteFault, NoMemory}

-- What is asked for: a refusal, or the replay of a journal from the program's plan
pub data ReplayAsked : Type 0 where
  RefuseReplay : Refusal → ReplayAsked
  Repeat : Plan → Kept → ReplayAsked

-- the journal's arguments and environment fit on the first stack
abbrev pub asked_of_journal : Plan → Kept → ReplayAsked
asked_of_journal plan journal =
    if nat_lt start_limit (start_size journal.args journal.env) then RefuseReplay Start else Repeat plan journal

-- the journal of a file, or where its bytes are bad
abbrev pub asked_of_reading : Plan → Result Kept ℕ → ReplayAsked
asked_of_reading plan (Err at) = RefuseReplay (Journal at)
asked_of_reading plan (Ok journal) = asked_of_journal plan journal

-- what was found of the journal comes to this
abbrev pub asked_of_found : Plan → Found → ReplayAsked
asked_of_found plan Absent = RefuseReplay (Missing journal_file)
asked_of_found plan Long = RefuseReplay (TooLong journal_file)
asked_of_found plan (Bytes bytes) = asked_of_reading plan (reading_of bytes)

-- the program's first broken rule; and the journal is looked at where there is none
abbrev pub ReplayAsksUnless : ReplayLine → Option Files → List ℕ → Option ElfRefusal → ReplayAsked → Type 0
ReplayAsksUnless line files bytes (Some rule) asked = asked ≡ RefuseReplay (Elf rule)
ReplayAsksUnless line files bytes None asked =
    (found : Found) × IsFound files journal_limit line.journal found × (asked ≡ asked_of_found (plan_of bytes) found)

abbrev pub ReplayAsksOf : ReplayLine → Option Files → Found → ReplayAsked → Type 0
ReplayAsksOf line files Absent asked = asked ≡ RefuseReplay (Missing program_file)
ReplayAsksOf line files Long asked = asked ≡ RefuseReplay (TooLong program_file)
ReplayAsksOf line files (Bytes bytes) asked = ReplayAsksUnless line files bytes (elf.first_failure bytes) asked

-- What a line asks for, which a store that tells its files determines.
abbrev pub ReplayAsksFor : ReplayLine → Option Files → ReplayAsked → Type 0
ReplayAsksFor line files asked =
    (found : Found) × IsFound files program_limit line.program found × ReplayAsksOf line files found asked

-- The loads

-- both files are loaded, each once, in their order
abbrev pub both_names : ReplayLine → List (List ℕ)
both_names line = line.program ∷ line.journal ∷ []

-- up to the file of this number
abbrev pub replay_names_up_to : ReplayLine → ℕ → List (List ℕ)
replay_names_up_to line file = if file == journal_file then both_names line else line.program ∷ []

-- the names of the loads that were answered before a refusal: up to the file that is refused
abbrev pub replay_loaded_by : ReplayLine → Refusal → List (List ℕ)
replay_loaded_by line (Missing file) = replay_names_up_to line file
replay_loaded_by line (TooLong file) = replay_names_up_to line file
replay_loaded_by line (Elf rule) = replay_names_up_to line program_file
replay_loaded_by line (Journal at) = both_names line
replay_loaded_by line Start = both_names line
replay_loaded_by line (Usage word) = []
replay_loaded_by line (Image broken) = []
replay_loaded_by line (Schedule broken) = []

-- the load of a file by its number
abbrev pub replay_load_of : ReplayLine → ℕ → LoadError → TurnedLoad
replay_load_of line file answer =
    if file == journal_file
    then record { name = line.journal; limit = journal_limit; answer = answer }
    else record { name = line.program; limit = program_limit; answer = answer }

-- the load that a refusal turned away
abbrev pub replay_turned_by : ReplayLine → Refusal → List TurnedLoad
replay_turned_by line (Missing file) = replay_load_of line file answers.Missing ∷ []
replay_turned_by line (TooLong file) = replay_load_of line file answers.TooLong ∷ []
replay_turned_by line (Elf rule) = []
replay_turned_by line (Journal at) = []
replay_turned_by line Start = []
replay_turned_by line (Usage word) = []
replay_turned_by line (Image broken) = []
replay_turned_by line (Schedule broken) = []

-- the loads that come before what is asked for
abbrev pub once_replay_loaded : ReplayAsked → ReplayLine → Seen → Seen
once_replay_loaded (RefuseReplay refusal) line seen =
    record seen { store = after_loads seen.store (replay_loaded_by line refusal) (replay_turned_by line refusal) }
once_replay_loaded (Repeat plan journal) line seen = record seen { store = after_loads seen.store (both_names line) [] }

-- The replay

abbrev pub outputs : Seen → Written
outputs seen = record { out = seen.out; err = seen.err }

-- the input and the store stand as they were
pub record RestStands (old new : Seen) : Type 0 where
  pub untaken : new.left ≡ old.left
  pub stands : new.store ≡ old.store

-- All turns up to the journal's end were taken and met no difference, and what they send was written.
pub record IsReplayed (plan : Plan) (journal : Kept) (old new : Seen) (turns : ℕ) (finish : Finish) : Type 0 where
  pub over : EndsBy (replay_of plan journal) (last_of journal.records).turn (last_of journal.records).finish turns finish
  pub wrote : Writes old new (replay_of plan journal).sent.out (replay_of plan journal).sent.err
  pub rest : RestStands old new

-- It met this difference first. What was sent before it was written, and the line that tells it.
pub record HasDiverged (plan : Plan) (journal : Kept) (old new : Seen) (turns turn wanted found : ℕ) : Type 0 where
  pub met : DivergesBy (replay_of plan journal) turns turn wanted found
  pub wrote : Writes old new (replay_of plan journal).sent.out ((replay_of plan journal).sent.err ++ divergence_line turn wanted found)
  pub rest : RestStands old new

-- the same with at most a part of the line
pub record StopsAtDivergence (plan : Plan) (journal : Kept) (old new : Seen) (turns : ℕ) : Type 0 where
  pub turn : ℕ
  pub wanted : ℕ
  pub found : ℕ
  pub met : DivergesBy (replay_of plan journal) turns turn wanted found
  pub to_out : GainsText old.out new.out (replay_of plan journal).sent.out
  pub to_err : GainsBetween old.err new.err (replay_of plan journal).sent.err ((replay_of plan journal).sent.err ++ divergence_line turn wanted found)
  pub rest : RestStands old new

-- It stopped in the turn behind these: what was written lies between what these turns send and what one more sends.
pub record StopsInReplay (plan : Plan) (journal : Kept) (old new : Seen) (turns : ℕ) : Type 0 where
  pub stopped : StopsAt (start_of plan journal) (last_of journal.records).turn turns (outputs old) (outputs new)
  pub rest : RestStands old new

-- What an end with its turns says where this was asked for, once both files are loaded. A fault has its cause in the output that it came from.
abbrev pub AnswersReplay : ReplayAsked → Seen → Seen → ℕ → End → Type 0
AnswersReplay (RefuseReplay refusal) old new turns end = AnswersRefusal refusal old new turns end
AnswersReplay (Repeat plan journal) old new turns (Soaked finish) = ⊥
AnswersReplay (Repeat plan journal) old new turns (Replayed finish) = IsReplayed plan journal old new turns finish
AnswersReplay (Repeat plan journal) old new turns (Diverged turn wanted found) = HasDiverged plan journal old new turns turn wanted found
AnswersReplay (Repeat plan journal) old new turns WriteFault =
    (StopsInReplay plan journal old new turns × (Rose old.out_faults new.out_faults ⊎ Rose old.err_faults new.err_faults))
    ⊎ (StopsAtDivergence plan journal old new turns × Rose old.err_faults new.err_faults)
AnswersReplay (Repeat plan journal) old new turns NoMemory =
    StopsInReplay plan journal old new turns ⊎ StopsAtDivergence plan journal old new turns
AnswersReplay (Repeat plan journal) old new turns ReadFault = ⊥
AnswersReplay (Repeat plan journal) old new turns (Refused given) = ⊥
AnswersReplay (Repeat plan journal) old new turns (Exited status) = ⊥
AnswersReplay (Repeat plan journal) old new turns (Killed signal) = ⊥
AnswersReplay (Repeat plan journal) old new turns Budget = ⊥
AnswersReplay (Repeat plan journal) old new turns Blocked = ⊥

-- How far the loads have come
pub data ReplayStage : Type 0 where
  AtPlan : ReplayStage
  AtJournal : ReplayStage

abbrev pub replay_name_at : ReplayStage → ReplayLine → List ℕ
replay_name_at AtPlan line = line.program
replay_name_at AtJournal line = line.journal

abbrev pub replay_loaded_before : ReplayStage → ReplayLine → List (List ℕ)
replay_loaded_before AtPlan line = []
replay_loaded_before AtJournal line = line.program ∷ []

-- the program is in order before the journal is loaded
abbrev pub IsReplayInOrder : ReplayStage → ReplayLine → Option Files → Type 0
IsReplayInOrder AtPlan line files = ⊤
IsReplayInOrder AtJournal line files = HasProgram files line.program

-- the load of a stage failed
pub record ReplayFailsToLoad (line : ReplayLine) (old new : Stored) : Type 0 where
  pub stage : ReplayStage
  pub in_order : IsReplayInOrder stage line old.files
  pub stands : new ≡ after_loads old (replay_loaded_before stage line) []

-- memory ran out at a stage, before or behind its load
pub record ReplayWantsMemory (line : ReplayLine) (old new : Stored) : Type 0 where
  pub stage : ReplayStage
  pub in_order : IsReplayInOrder stage line old.files
  pub stands : (new ≡ after_loads old (replay_loaded_before stage line) [])
      ⊎ (new ≡ after_loads old (replay_loaded_before stage line ++ replay_name_at stage line ∷ []) [])

abbrev pub StopsAtReplayStage : ReplayLine → End → Stored → Stored → Type 0
StopsAtReplayStage line end old new = ((end ≡ ReadFault) × ReplayFailsToLoad line old new) ⊎ ((end ≡ NoMemory) × ReplayWantsMemory line old new)

-- Nothing is done but that files are loaded: a load failed, whose count rose, or memory ran out.
pub record StopsUnbegun (line : ReplayLine) (old new : Seen) (turns : ℕ) (end : End) : Type 0 where
  pub at_stage : StopsAtReplayStage line end old.store new.store
  pub cause : end ≡ ReadFault → Rose old.load_faults new.load_faults
  pub nothing : DoesNothing (record old { store = new.store }) new turns

-- The same by the reading of the words. Wrong words are refused before any load.
abbrev pub AnswersReplayReading : ReplayReading → Seen → Seen → ℕ → End → Type 0
AnswersReplayReading (WrongReplayAt word) old new turns end = AnswersReplay (RefuseReplay (Usage word)) old new turns end
AnswersReplayReading (AsksReplay line) old new turns end =
    StopsUnbegun line old new turns end
    ⊎ ((asked : ReplayAsked) × ReplayAsksFor line old.store.files asked × AnswersReplay asked (once_replay_loaded asked line old) new turns end)

abbrev pub AnswersReplayWords : List (List ℕ) → Seen → Seen → ℕ → End → Type 0
AnswersReplayWords words old new turns end = AnswersReplayReading (read_replay words) old new turns end

-- Where nothing fails

-- The words ask for a replay: they are in order, the told store's file of PROGRAM is there, within its limit and breaks no rule, the file of JOURNAL
-- is there, within its limit and the text of this journal, and the journal's arguments fit.
pub record AsksForReplay (words : List (List ℕ)) (told : Option Files) : Type 0 where
  pub line : ReplayLine
  pub files : Files
  pub bytes : List ℕ
  pub text : List ℕ
  pub journal : Kept
  pub replays : command_of words ≡ ReplayCommand
  pub in_order : read_replay words ≡ AsksReplay line
  pub is_told : told ≡ Some files
  pub found : found_at program_limit (files line.program) ≡ Bytes bytes
  pub formed : elf.first_failure bytes ≡ None
  pub found_too : found_at journal_limit (files line.journal) ≡ Bytes text
  pub read : reading_of text ≡ Ok journal
  pub fits : start_size journal.args journal.env ≤ start_limit

-- this is how the replay is over
abbrev pub IsReplayEnd : Plan → Kept → ℕ → End → Type 0
IsReplayEnd plan journal turns (Soaked finish) = ⊥
IsReplayEnd plan journal turns (Replayed finish) =
    EndsBy (replay_of plan journal) (last_of journal.records).turn (last_of journal.records).finish turns finish
IsReplayEnd plan journal turns (Diverged turn wanted found) = DivergesBy (replay_of plan journal) turns turn wanted found
IsReplayEnd plan journal turns (Refused given) = ⊥
IsReplayEnd plan journal turns (Exited status) = ⊥
IsReplayEnd plan journal turns (Killed signal) = ⊥
IsReplayEnd plan journal turns Budget = ⊥
IsReplayEnd plan journal turns Blocked = ⊥
IsReplayEnd plan journal turns ReadFault = ⊥
IsReplayEnd plan journal turns WriteFault = ⊥
IsReplayEnd plan journal turns NoMemory = ⊥

abbrev pub EndsAsReplay : (words : List (List ℕ)) (told : Option Files) → AsksForReplay words told → ℕ → End → Type 0
EndsAsReplay words told replay turns end = IsReplayEnd (plan_of replay.bytes) replay.journal turns end

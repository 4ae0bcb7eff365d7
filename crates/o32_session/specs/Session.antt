-- What an answer says where a refusal or a run is asked for. This project's own.
pub use Rattle.o32_runner.specs.Emulators.{Emulated}
pub use Rattle.stored_files.specs.Stored.{Stored, stored_of}
use Rattle.std.specs.Prelude.{ℕ, ◌≡◌, ◌<◌, ◌≤◌, ⊤, ◌⊎◌, List, [], Option, Some, None, is_some, Ok, Err}
use Rattle.outside.specs.Files.{Files}
use Rattle.outside.specs.Count.{Rose}
use Rattle.outside.specs.Output.{GainsBetween}
use Rattle.journal.specs.Form.{IsFinish}
use Rattle.kernel_core.specs.LoadedTree.{saved}
use Rattle.kernel_core.specs.declared.tree.Tree.{Tree}
use Rattle.fs_image.specs.Meaning as images
use Rattle.elf_image.specs.Rules as elf
use Rattle.elf_image.specs.Loading.{plan_of}
use Rattle.start_stack.specs.Stack.{start_size, start_limit}
use Rattle.schedule.specs.declared.Schedule.{Schedule}
use Rattle.o32_session.specs.Words.{Line, Reading, Asks, WrongAt, read_words}
use Rattle.o32_session.specs.Asked.{Asked, Refuse, Run, AsksFor, arguments_of, first_machine}
use Rattle.session_files.specs.Inputs.{no_names, Names, names_of, Bytes, found_at, program_limit, image_limit, IsOpened, schedule_limit, schedule_of_text, empty_schedule}
use Rattle.session_files.specs.Saved.{after_loads, loaded_by, loaded_names, turned_by, SavesTree, SavesTreeInPart}
use Rattle.o32_runner.specs.Making.{IsByStore}
use Rattle.o32_runner.specs.Runs.{no_turn_follows, turns_begun}
use Rattle.o32_turns.specs.Runs.{IsOverAt, IsRunningAt, last_machine, reached}
use Rattle.o32_turns.specs.Machine.{Machine}
use Rattle.o32_runner.specs.Texts.{WritesTexts}
use Rattle.session_files.specs.declared.refusal.Refusal.TheVariants.{Usage}
use Rattle.kernel_core.specs.declared.finish.Finish.{Finish}
use Rattle.kernel_core.specs.declared.finish.Finish.TheVariants as finishes
use Rattle.kernel_core.specs.declared.core_error.Stop.{Stop}
use Rattle.kernel_core.specs.declared.core_error.Stop.TheVariants as stops
use Rattle.session_files.specs.declared.end.End.{End}
use Rattle.session_files.specs.declared.end.End.TheVariants.{Exited, Killed, Budget, Blocked, Soaked, Replayed, Refused, Diverged, ReadFault, WriteFault, NoMemory}
use Rattle.session_files.specs.Unrun.{AnswersRefusal, DoesNothing, StopsEarly}
use Rattle.session_files.specs.Seen.{Seen, Writes, contents_of}

-- The run over this input is over so after these turns. What it sends was written, what it leaves of the input is left, and this is the machine
-- that it leaves.
pub record IsRun (quantum : ℕ) (machine : Machine) (left : List ℕ) (budget : ℕ) (old new : Seen) (turns : ℕ) (finish : Finish) (final : Machine) : Type 0 where
  pub over : IsOverAt quantum machine left budget turns finish
  pub wrote : Writes old new (reached quantum machine left turns).sent.out (reached quantum machine left turns).sent.err
  pub rest : new.left ≡ Some (reached quantum machine left turns).left
  pub leaves : final ≡ last_machine quantum machine left turns finish

-- the tree of the files that a machine leaves
abbrev pub final_tree : Machine → Tree
final_tree machine = saved machine.kernel.files.nodes

-- The process has not ended after these turns, and the attempt at the next stopped, or its lines or the last ones of the trace could not be added. What was
-- written lies between what it has sent then and what it has sent one turn later, and of the input there is left what is left then or what is left
-- one turn later; where the budget's turns are done no turn more was begun.
pub record IsPartOfRun (quantum : ℕ) (machine : Machine) (left : List ℕ) (budget : ℕ) (old new : Seen) (turns : ℕ) : Type 0 where
  pub alive : (reached quantum machine left turns).over ≡ None
  pub first : (j : ℕ) → j < turns → IsRunningAt quantum machine left j
  pub to_out : GainsBetween old.out new.out (reached quantum machine left turns).sent.out (reached quantum machine left (turns_begun budget turns)).sent.out
  pub to_err : GainsBetween old.err new.err (reached quantum machine left turns).sent.err (reached quantum machine left (turns_begun budget turns)).sent.err
  pub rest : (new.left ≡ Some (reached quantum machine left turns).left) ⊎ (new.left ≡ Some (reached quantum machine left (turns_begun budget turns)).left)

-- An emulator keeps a native log exactly where a file is named for it, and records of a journal where one is named for that.
pub record KeepsNamed (names : Names) (emulated : Emulated) : Type 0 where
  pub native : is_some emulated.native.entries ≡ is_some names.native
  pub records : is_some emulated.records ≡ is_some names.journal

-- A run ended so, within the budget; a status and a signal are bytes. Its trace, its native log and its journal were written to the files that are named for them, the emulator is
-- handed out with the run's quantum, and its final tree was saved. Where the input tells what is left of it, the run is the machine's, and the emulator keeps
-- a log and records as they are named, and has a further turn only behind the budget's.
pub record Finishes (quantum : ℕ) (machine : Machine) (budget : ℕ) (front : List ℕ) (names : Names) (old new : Seen) (turns : ℕ) (finish : Finish) (host : Option Emulated) :
    Type 0 where
  pub within : turns ≤ budget
  pub small : IsFinish finish
  pub emulated : Emulated
  pub hosted : host ≡ Some emulated
  pub turned : emulated.turns ≡ turns
  pub quantum_stays : emulated.quantum ≡ quantum
  pub keeps : (left : List ℕ) → old.left ≡ Some left → KeepsNamed names emulated
  pub last : (left : List ℕ) → old.left ≡ Some left → emulated.over ≡ no_turn_follows finish
  pub middle : Stored
  pub texts : WritesTexts names.trace names.native names.journal front quantum machine budget turns (Ok finish) (contents_of old) (contents_of new) old.store middle
  pub saves : SavesTree names.save (final_tree emulated.machine) middle new.store
  pub told : (left : List ℕ) → old.left ≡ Some left → IsRun quantum machine left budget old new turns finish emulated.machine

-- A run stopped early after these turns, and had written parts of its texts; or one of its files could not be made, and nothing was run. Where a trace
-- or a journal is written, it may also stop once the budget's turns are done, by the store.
pub record StopsInRun (quantum : ℕ) (machine : Machine) (budget : ℕ) (front : List ℕ) (names : Names) (stop : Stop) (old new : Seen) (turns : ℕ) : Type 0 where
  pub within : turns ≤ budget
  pub early : names.trace ≡ None → names.journal ≡ None → turns < budget
  pub behind : turns ≡ budget → IsByStore stop old.store.write_faults new.store.write_faults
  pub texts : WritesTexts names.trace names.native names.journal front quantum machine budget turns (Err stop) (contents_of old) (contents_of new) old.store new.store
  pub told : (left : List ℕ) → old.left ≡ Some left → IsPartOfRun quantum machine left budget old new turns

-- a run ended, and at most a part of its final tree was saved
pub record StopsAtSave (quantum : ℕ) (machine : Machine) (budget : ℕ) (front : List ℕ) (names : Names) (old new : Seen) (turns : ℕ) : Type 0 where
  pub within : turns ≤ budget
  pub finish : Finish
  pub final : Machine
  pub middle : Stored
  pub texts : WritesTexts names.trace names.native names.journal front quantum machine budget turns (Ok finish) (contents_of old) (contents_of new) old.store middle
  pub saves : SavesTreeInPart names.save (final_tree final) middle new.store
  pub told : (left : List ℕ) → old.left ≡ Some left → IsRun quantum machine left budget old new turns finish final

-- What an end with its turns says where this was asked for, with these names of files, once they are loaded: each refusal writes its line and
-- nothing else, and each run is the machine's. A fault has its cause in the device or the file that it came from.
abbrev pub Answers : Asked → Names → Seen → Seen → ℕ → End → Option Emulated → Type 0
Answers (Refuse refusal) names old new turns end host = AnswersRefusal refusal old new turns end
Answers (Run quantum machine budget front) names old new turns (Exited status) host =
    Finishes quantum machine budget front names old new turns (finishes.Exited status) host
Answers (Run quantum machine budget front) names old new turns (Killed signal) host =
    Finishes quantum machine budget front names old new turns (finishes.Killed signal) host
Answers (Run quantum machine budget front) names old new turns Budget host = Finishes quantum machine budget front names old new turns finishes.Budget host
Answers (Run quantum machine budget front) names old new turns Blocked host = Finishes quantum machine budget front names old new turns finishes.Blocked host
Answers (Run quantum machine budget front) names old new turns (Soaked finish) host = ⊥
Answers (Run quantum machine budget front) names old new turns (Replayed finish) host = ⊥
Answers (Run quantum machine budget front) names old new turns (Diverged turn wanted found) host = ⊥
Answers (Run quantum machine budget front) names old new turns (Refused given) host = ⊥
Answers (Run quantum machine budget front) names old new turns ReadFault host =
    StopsInRun quantum machine budget front names stops.ReadFault old new turns × Rose old.read_faults new.read_faults
Answers (Run quantum machine budget front) names old new turns WriteFault host =
    (StopsInRun quantum machine budget front names stops.WriteFault old new turns
    × (Rose old.out_faults new.out_faults ⊎ (Rose old.err_faults new.err_faults ⊎ Rose old.store.write_faults new.store.write_faults)))
    ⊎ (StopsAtSave quantum machine budget front names old new turns × Rose old.store.write_faults new.store.write_faults)
Answers (Run quantum machine budget front) names old new turns NoMemory host =
    StopsInRun quantum machine budget front names stops.NoMemory old new turns ⊎ StopsAtSave quantum machine budget front names old new turns

-- The loads that come before what is asked for: each is answered once, in the order of the names, up to the first that a refusal comes of.
abbrev pub once_loaded : Asked → Names → Seen → Seen
once_loaded (Refuse refusal) names seen = record seen { store = after_loads seen.store (loaded_by names refusal) (turned_by names refusal) }
once_loaded (Run quantum machine budget front) names seen = record seen { store = after_loads seen.store (loaded_names names) [] }

-- The same by the reading of the words. Wrong words are refused before any load, so that want of memory alone may come
-- first. Else a fault of a load or want of memory may come before all is loaded; or the answer is that of what the line
-- asks for.
abbrev pub AnswersReading : List (List ℕ) → Reading → Seen → Seen → ℕ → End → Option Emulated → Type 0
AnswersReading words (WrongAt word) old new turns end host =
    ((end ≡ NoMemory) × DoesNothing old new turns) ⊎ Answers (Refuse (Usage word)) no_names old new turns end host
AnswersReading words (Asks line) old new turns end host =
    StopsEarly (names_of words line) old new turns end
    ⊎ ((asked : Asked) × AsksFor words line old.store.files asked
    × Answers asked (names_of words line) (once_loaded asked (names_of words line) old) new turns end host)

abbrev pub AnswersWords : List (List ℕ) → Seen → Seen → ℕ → End → Option Emulated → Type 0
AnswersWords words old new turns end host = AnswersReading words (read_words words) old new turns end host

-- the run's own end
abbrev pub IsRunEnd : ℕ → Machine → List ℕ → ℕ → ℕ → End → Type 0
IsRunEnd quantum machine left budget turns (Exited status) = IsOverAt quantum machine left budget turns (finishes.Exited status)
IsRunEnd quantum machine left budget turns (Killed signal) = IsOverAt quantum machine left budget turns (finishes.Killed signal)
IsRunEnd quantum machine left budget turns Budget = IsOverAt quantum machine left budget turns finishes.Budget
IsRunEnd quantum machine left budget turns Blocked = IsOverAt quantum machine left budget turns finishes.Blocked
IsRunEnd quantum machine left budget turns (Soaked finish) = ⊥
IsRunEnd quantum machine left budget turns (Replayed finish) = ⊥
IsRunEnd quantum machine left budget turns (Diverged turn wanted found) = ⊥
IsRunEnd quantum machine left budget turns (Refused given) = ⊥
IsRunEnd quantum machine left budget turns ReadFault = ⊥
IsRunEnd quantum machine left budget turns WriteFault = ⊥
IsRunEnd quantum machine left budget turns NoMemory = ⊥

-- the image that is named is there, in its limit and in its form
abbrev pub HasImage : Files → Option (List ℕ) → Type 0
HasImage files None = ⊤
HasImage files (Some name) =
    (bytes : List ℕ) × (found_at image_limit (files name) ≡ Bytes bytes) × (images.first_failure bytes ≡ None)

-- the schedule that is named is there, in its limit and in its form; and where none is named it is that of the empty text
abbrev pub HasSchedule : Files → Option (List ℕ) → Schedule → Type 0
HasSchedule files None schedule = schedule ≡ empty_schedule
HasSchedule files (Some name) schedule =
    (text : List ℕ) × (found_at schedule_limit (files name) ≡ Bytes text) × (schedule_of_text text ≡ Ok schedule)

-- The words ask for a run: they are in order, the told store's file of PROGRAM is there, within its limit and breaks no rule, so are the image
-- and the schedule where one is named, and the arguments fit.
pub record AsksForRun (words : List (List ℕ)) (told : Option Files) : Type 0 where
  pub line : Line
  pub files : Files
  pub bytes : List ℕ
  pub in_order : read_words words ≡ Asks line
  pub is_told : told ≡ Some files
  pub found : found_at program_limit (files (names_of words line).program) ≡ Bytes bytes
  pub formed : elf.first_failure bytes ≡ None
  pub image : HasImage files (names_of words line).image
  pub schedule : Schedule
  pub scheduled : HasSchedule files (names_of words line).schedule schedule
  pub fits : start_size (arguments_of words line) line.environment ≤ start_limit

-- this is the end of that run over this input, beside the image's tree and under the schedule
abbrev pub EndsAsRun : (words : List (List ℕ)) (told : Option Files) → AsksForRun words told → List ℕ → ℕ → End → Type 0
EndsAsRun words told run left turns end =
    (tree : Tree) × IsOpened (Some run.files) (names_of words run.line).image (Ok tree)
    × IsRunEnd run.schedule.quantum (first_machine (plan_of run.bytes) (arguments_of words run.line) run.line.environment tree run.schedule) left
    run.line.budget turns end

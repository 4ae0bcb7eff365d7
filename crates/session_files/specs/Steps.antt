-- What the steps of a session without a run come to: why nothing is run, what is loaded, read and saved, and what is told. This project's own.
use Rattle.std.specs.Prelude.{ℕ, ◌≡◌, ⊤, ◌⊎◌, List, [], ◌∷◌, is_some, true, Option, Some, None, Result, Ok, Err, Vec}
use Rattle.outside.specs.Output.{GainsText, GainsBetween}
use Rattle.outside.specs.Count.{Rose}
use Rattle.outside.specs.Files.{Files}
use Rattle.outside.specs.Turned.{TurnedLoad}
use Rattle.outside.specs.declared.errors.LoadError.{LoadError}
use Rattle.outside.specs.declared.errors.LoadError.TheVariants as loads
use Rattle.kernel_core.specs.declared.tree.Tree.{Tree}
use Rattle.kernel_core.specs.ValidTree.{IsValidTree}
use Rattle.fs_image.specs.declared.refusal.ImageError.{ImageError}
use Rattle.fs_image.specs.declared.refusal.ImageError.TheVariants as images
use Rattle.elf_image.specs.Rules.{first_failure}
use Rattle.elf_image.specs.Loading as elf_plans
use Rattle.elf_image.specs.declared.load_plan.Plan.{Plan}
use Rattle.elf_image.specs.declared.refusal.ElfRefusal.{ElfRefusal}
use Rattle.elf_image.specs.declared.refusal.ElfError.{ElfError}
use Rattle.elf_image.specs.declared.refusal.ElfError.TheVariants as elf
use Rattle.schedule.specs.declared.Schedule.{Schedule}
use Rattle.schedule.specs.declared.refusal.ScheduleError.{ScheduleError}
use Rattle.schedule.specs.declared.refusal.ScheduleError.TheVariants as schedules
use Rattle.journal.specs.declared.refusal.JournalError.{JournalError}
use Rattle.journal.specs.declared.refusal.JournalError.TheVariants as journals
use Rattle.start_stack.specs.declared.error.StartError.{StartError}
use Rattle.start_stack.specs.declared.error.StartError.TheVariants as start
use Rattle.session_files.specs.Lines.{divergence_line, line_of}
use Rattle.session_words.specs.Words.{Reading, Asks, WrongAt}
use Rattle.session_files.specs.Inputs.{Names, Absent, Long, Bytes, IsFound, IsReadAs, IsOpened, IsScheduled, names_of, schedule_of_text, program_file, image_file, schedule_file, journal_file, program_limit, image_limit, schedule_limit, journal_limit}
use Rattle.session_files.specs.Saved.{after_loads, loaded_by, loaded_names, named, turned_by}
use Rattle.session_files.specs.Unrun.{FailsToLoad, WantsMemory}
use Rattle.stored_files.specs.Stored.{Stored}
use Rattle.session_files.specs.declared.refusal.Refusal.{Refusal}
use Rattle.session_files.specs.declared.refusal.Refusal.TheVariants as refusals
use Rattle.session_files.specs.declared.end.End.{End}
use Rattle.session_files.specs.declared.end.End.TheVariants as ends
use Rattle.session_words.specs.declared.words.WordsError.{WordsError}
use Rattle.session_words.specs.declared.words.WordsError.TheVariants as words
use Rattle.session_files.specs.declared.inputs.Inputs.{Inputs}
use Rattle.session_files.specs.declared.not_run.NotRun.{NotRun}
use Rattle.session_files.specs.declared.not_run.NotRun.TheVariants.{Refused, ReadFault, NoMemory}
use Rattle.session_files.specs.declared.save.SaveError.{SaveError}
use Rattle.session_files.specs.declared.save.SaveError.TheVariants as save
use Rattle.session_files.specs.declared.load.SessionFile.{SessionFile}
use Rattle.session_files.specs.declared.load.SessionFile.TheVariants as files

-- why nothing is run, by the cause of each step
abbrev pub of_words : WordsError → NotRun
of_words (words.Usage word) = Refused (refusals.Usage word)
of_words words.NoMemory = NoMemory

abbrev pub of_load : ℕ → LoadError → NotRun
of_load file loads.Missing = Refused (refusals.Missing file)
of_load file loads.TooLong = Refused (refusals.TooLong file)
of_load file loads.Failed = ReadFault
of_load file loads.NoMemory = NoMemory

abbrev pub of_elf : ElfError → NotRun
of_elf (elf.Refused rule) = Refused (refusals.Elf rule)
of_elf elf.NoMemory = NoMemory

abbrev pub of_image : ImageError → NotRun
of_image (images.Refused broken) = Refused (refusals.Image broken)
of_image images.NoMemory = NoMemory

abbrev pub of_schedule : ScheduleError → NotRun
of_schedule (schedules.Refused broken) = Refused (refusals.Schedule broken)
of_schedule schedules.NoMemory = NoMemory

abbrev pub of_start : StartError → NotRun
of_start start.TooLong = Refused refusals.Start
of_start start.NoMemory = NoMemory

abbrev pub of_journal : JournalError → NotRun
of_journal (journals.Bad at) = Refused (refusals.Journal at)
of_journal journals.NoMemory = NoMemory

-- a read fault comes only where the count rose, which rises in no other case
abbrev pub ReasonOnlyIfRose : {T : Type 0} → Result T NotRun → ℕ → ℕ → Type 0
ReasonOnlyIfRose (Ok value) before now = now ≡ before
ReasonOnlyIfRose (Err (Refused refusal)) before now = now ≡ before
ReasonOnlyIfRose (Err ReadFault) before now = Rose before now
ReasonOnlyIfRose (Err NoMemory) before now = now ≡ before

-- Loads

abbrev pub number_of : SessionFile → ℕ
number_of files.Program = program_file
number_of files.Image = image_file
number_of files.Schedule = schedule_file
number_of files.Journal = journal_file

abbrev pub limit_of : SessionFile → ℕ
limit_of files.Program = program_limit
limit_of files.Image = image_limit
limit_of files.Schedule = schedule_limit
limit_of files.Journal = journal_limit

-- what was loaded, or what was found in its place; a fault or want of memory says nothing of the file
abbrev pub IsLoaded : {A : Type 0} → Option Files → SessionFile → List ℕ → Result (Vec ℕ A) NotRun → Type 0
IsLoaded told file name (Ok bytes) = IsFound told (limit_of file) name (Bytes bytes.items)
IsLoaded told file name (Err (Refused (refusals.Missing number))) =
    (number ≡ number_of file) × IsFound told (limit_of file) name Absent
IsLoaded told file name (Err (Refused (refusals.TooLong number))) =
    (number ≡ number_of file) × IsFound told (limit_of file) name Long
IsLoaded told file name (Err (Refused (refusals.Usage word))) = ⊥
IsLoaded told file name (Err (Refused (refusals.Elf rule))) = ⊥
IsLoaded told file name (Err (Refused (refusals.Image broken))) = ⊥
IsLoaded told file name (Err (Refused (refusals.Schedule broken))) = ⊥
IsLoaded told file name (Err (Refused refusals.Start)) = ⊥
IsLoaded told file name (Err (Refused (refusals.Journal at))) = ⊥
IsLoaded told file name (Err ReadFault) = ⊤
IsLoaded told file name (Err NoMemory) = ⊤

-- the load that was turned away where a refusal came of it
abbrev pub turned_at : SessionFile → List ℕ → Refusal → List TurnedLoad
turned_at file name (refusals.Missing number) = record { name = name; limit = limit_of file; answer = loads.Missing } ∷ []
turned_at file name (refusals.TooLong number) = record { name = name; limit = limit_of file; answer = loads.TooLong } ∷ []
turned_at file name (refusals.Usage word) = []
turned_at file name (refusals.Elf rule) = []
turned_at file name (refusals.Image broken) = []
turned_at file name (refusals.Schedule broken) = []
turned_at file name refusals.Start = []
turned_at file name (refusals.Journal at) = []

-- the same of a file that is loaded where it has a name
abbrev pub turned_with : SessionFile → Option (List ℕ) → Refusal → List TurnedLoad
turned_with file None refusal = []
turned_with file (Some name) refusal = turned_at file name refusal

-- what a step that loads this file, where it has a name, makes of the store: the load is answered once; but a fault says that it was not, and
-- want of memory that it was or not
abbrev pub LoadsFile : {T : Type 0} → SessionFile → Option (List ℕ) → Result T NotRun → Stored → Stored → Type 0
LoadsFile file name (Ok value) old new = new ≡ after_loads old (named name) []
LoadsFile file name (Err (Refused refusal)) old new = new ≡ after_loads old (named name) (turned_with file name refusal)
LoadsFile file name (Err ReadFault) old new = (is_some name ≡ true) × (new ≡ after_loads old [] [])
LoadsFile file name (Err NoMemory) old new = (new ≡ after_loads old [] []) ⊎ (new ≡ after_loads old (named name) [])

-- what the loads of a line make of the store
abbrev pub LoadsFiles : {T : Type 0} → Names → Result T NotRun → Stored → Stored → Type 0
LoadsFiles names (Ok value) old new = new ≡ after_loads old (loaded_names names) []
LoadsFiles names (Err (Refused refusal)) old new = new ≡ after_loads old (loaded_by names refusal) (turned_by names refusal)
LoadsFiles names (Err ReadFault) old new = FailsToLoad names old new
LoadsFiles names (Err NoMemory) old new = WantsMemory names old new

-- The program

-- why a file gives no plan: the first rule that it breaks, unless memory ran out
abbrev pub IsElfReason : Option ElfRefusal → NotRun → Type 0
IsElfReason failure (Refused (refusals.Elf rule)) = failure ≡ Some rule
IsElfReason failure (Refused _) = ⊥
IsElfReason failure ReadFault = ⊥
IsElfReason failure NoMemory = ⊤

-- the program was refused for this
pub data IsRefusedFor (told : Option Files) (name : List ℕ) : Refusal → Type 0 where
  is_absent : IsFound told program_limit name Absent → IsRefusedFor told name (refusals.Missing program_file)
  is_long : IsFound told program_limit name Long → IsRefusedFor told name (refusals.TooLong program_file)
  is_broken : (bytes : List ℕ) (rule : ElfRefusal) → IsFound told program_limit name (Bytes bytes) →
      first_failure bytes ≡ Some rule → IsRefusedFor told name (refusals.Elf rule)

-- the plan is that of the file's bytes
pub record IsPlanOf (told : Option Files) (name : List ℕ) (plan : Plan) : Type 0 where
  pub bytes : List ℕ
  pub found : IsFound told program_limit name (Bytes bytes)
  pub formed : first_failure bytes ≡ None
  pub same : plan ≡ elf_plans.plan_of bytes
  pub valid : elf_plans.IsValidPlan plan

abbrev pub IsPlanned : Option Files → List ℕ → Result Plan NotRun → Type 0
IsPlanned told name (Ok plan) = IsPlanOf told name plan
IsPlanned told name (Err (Refused refusal)) = IsRefusedFor told name refusal
IsPlanned told name (Err ReadFault) = ⊤
IsPlanned told name (Err NoMemory) = ⊤

-- The image

-- what an image's bytes were read as; want of memory says nothing
abbrev pub IsRead : List ℕ → Result Tree NotRun → Type 0
IsRead bytes (Ok tree) = IsReadAs bytes (Ok tree)
IsRead bytes (Err (Refused refusal)) = IsReadAs bytes (Err refusal)
IsRead bytes (Err ReadFault) = ⊥
IsRead bytes (Err NoMemory) = ⊤

-- the tree that was opened; a fault or want of memory says nothing
abbrev pub IsTree : Option Files → Option (List ℕ) → Result Tree NotRun → Type 0
IsTree told name (Ok tree) = IsOpened told name (Ok tree) × IsValidTree tree
IsTree told name (Err (Refused refusal)) = IsOpened told name (Err refusal)
IsTree told name (Err ReadFault) = ⊤
IsTree told name (Err NoMemory) = ⊤

-- The schedule

-- what a text's schedule was read as; want of memory says nothing
abbrev pub IsTaken : List ℕ → Result Schedule NotRun → Type 0
IsTaken text (Ok schedule) = schedule_of_text text ≡ Ok schedule
IsTaken text (Err (Refused refusal)) = schedule_of_text text ≡ Err refusal
IsTaken text (Err ReadFault) = ⊥
IsTaken text (Err NoMemory) = ⊤

-- the schedule of a run; a fault or want of memory says nothing
abbrev pub IsScheduledAs : Option Files → Option (List ℕ) → Result Schedule NotRun → Type 0
IsScheduledAs told name (Ok schedule) = IsScheduled told name (Ok schedule)
IsScheduledAs told name (Err (Refused refusal)) = IsScheduled told name (Err refusal)
IsScheduledAs told name (Err ReadFault) = ⊤
IsScheduledAs told name (Err NoMemory) = ⊤

-- All files of a run

-- what was loaded is what the files come to
pub record AreLoaded (told : Option Files) (names : Names) (inputs : Inputs) : Type 0 where
  pub plan : IsPlanOf told names.program inputs.plan
  pub tree : IsOpened told names.image (Ok inputs.tree)
  pub schedule : IsScheduled told names.schedule (Ok inputs.schedule)

-- the first file that is refused is refused for this
pub data AreRefusedFor (told : Option Files) (names : Names) (refusal : Refusal) : Type 0 where
  at_program : IsRefusedFor told names.program refusal → AreRefusedFor told names refusal
  at_image : (plan : Plan) → IsPlanOf told names.program plan → IsOpened told names.image (Err refusal) → AreRefusedFor told names refusal
  at_schedule : (plan : Plan) (tree : Tree) → IsPlanOf told names.program plan → IsOpened told names.image (Ok tree) →
      IsScheduled told names.schedule (Err refusal) → AreRefusedFor told names refusal

-- what the files come to, or why they are refused; a fault or want of memory says nothing
abbrev pub AreInputs : Option Files → Names → Result Inputs NotRun → Type 0
AreInputs told names (Ok inputs) = AreLoaded told names inputs
AreInputs told names (Err (Refused refusal)) = AreRefusedFor told names refusal
AreInputs told names (Err ReadFault) = ⊤
AreInputs told names (Err NoMemory) = ⊤

-- wrong words load nothing
abbrev pub LoadsReading : {T : Type 0} → List (List ℕ) → Reading → Result T NotRun → Stored → Stored → Type 0
LoadsReading words (WrongAt word) result old new = new ≡ old
LoadsReading words (Asks line) result old new = LoadsFiles (names_of words line) result old new

-- The line of a refusal

-- a refusal wrote its line, or a part of it where the device or memory gave out
abbrev pub EndsRefused : Refusal → End → Option (List ℕ) → Option (List ℕ) → Type 0
EndsRefused refusal (ends.Refused given) old new = (given ≡ refusal) × GainsText old new (line_of refusal)
EndsRefused refusal ends.WriteFault old new = GainsBetween old new [] (line_of refusal)
EndsRefused refusal ends.NoMemory old new = GainsBetween old new [] (line_of refusal)
EndsRefused refusal ends.ReadFault old new = ⊥
EndsRefused refusal (ends.Exited status) old new = ⊥
EndsRefused refusal (ends.Killed signal) old new = ⊥
EndsRefused refusal ends.Budget old new = ⊥
EndsRefused refusal ends.Blocked old new = ⊥
EndsRefused refusal (ends.Soaked finish) old new = ⊥
EndsRefused refusal (ends.Replayed finish) old new = ⊥
EndsRefused refusal (ends.Diverged turn wanted found) old new = ⊥

-- the count of what the line is written to rose only in a write fault
abbrev pub LineFailsOnlyIfRose : End → ℕ → ℕ → Type 0
LineFailsOnlyIfRose ends.WriteFault before now = Rose before now
LineFailsOnlyIfRose (ends.Refused given) before now = now ≡ before
LineFailsOnlyIfRose ends.ReadFault before now = now ≡ before
LineFailsOnlyIfRose ends.NoMemory before now = now ≡ before
LineFailsOnlyIfRose (ends.Exited status) before now = now ≡ before
LineFailsOnlyIfRose (ends.Killed signal) before now = now ≡ before
LineFailsOnlyIfRose ends.Budget before now = now ≡ before
LineFailsOnlyIfRose ends.Blocked before now = now ≡ before
LineFailsOnlyIfRose (ends.Soaked finish) before now = now ≡ before
LineFailsOnlyIfRose (ends.Replayed finish) before now = now ≡ before
LineFailsOnlyIfRose (ends.Diverged turn wanted found) before now = now ≡ before

-- where nothing is run, a refusal writes its line, and a fault or want of memory nothing
abbrev pub EndsWithoutRun : NotRun → End → Option (List ℕ) → Option (List ℕ) → Type 0
EndsWithoutRun (Refused refusal) end old new = EndsRefused refusal end old new
EndsWithoutRun ReadFault end old new = (end ≡ ends.ReadFault) × (new ≡ old)
EndsWithoutRun NoMemory end old new = (end ≡ ends.NoMemory) × (new ≡ old)

-- The line of a divergence

-- a divergence wrote its line, or a part of it where the device or memory gave out
abbrev pub EndsDiverged : ℕ → ℕ → ℕ → End → Option (List ℕ) → Option (List ℕ) → Type 0
EndsDiverged turn wanted found (ends.Diverged t w f) old new =
    (ends.Diverged t w f ≡ ends.Diverged turn wanted found) × GainsText old new (divergence_line turn wanted found)
EndsDiverged turn wanted found ends.WriteFault old new = GainsBetween old new [] (divergence_line turn wanted found)
EndsDiverged turn wanted found ends.NoMemory old new = GainsBetween old new [] (divergence_line turn wanted found)
EndsDiverged turn wanted found ends.ReadFault old new = ⊥
EndsDiverged turn wanted found (ends.Refused refusal) old new = ⊥
EndsDiverged turn wanted found (ends.Soaked finish) old new = ⊥
EndsDiverged turn wanted found (ends.Replayed finish) old new = ⊥
EndsDiverged turn wanted found (ends.Exited status) old new = ⊥
EndsDiverged turn wanted found (ends.Killed signal) old new = ⊥
EndsDiverged turn wanted found ends.Budget old new = ⊥
EndsDiverged turn wanted found ends.Blocked old new = ⊥

-- The save

-- the count of faulty writes rose in a save that failed, and in no other
abbrev pub SaveFailsOnlyIfRose : {T : Type 0} → Result T SaveError → ℕ → ℕ → Type 0
SaveFailsOnlyIfRose (Ok done) before now = now ≡ before
SaveFailsOnlyIfRose (Err save.NoImage) before now = now ≡ before
SaveFailsOnlyIfRose (Err save.Failed) before now = Rose before now
SaveFailsOnlyIfRose (Err save.NoMemory) before now = now ≡ before

-- without memory for the image the store stands as it was
abbrev pub StandsWithoutImage : {T : Type 0} → Result T SaveError → Stored → Stored → Type 0
StandsWithoutImage (Ok done) old new = ⊤
StandsWithoutImage (Err save.NoImage) old new = new ≡ old
StandsWithoutImage (Err save.Failed) old new = ⊤
StandsWithoutImage (Err save.NoMemory) old new = ⊤

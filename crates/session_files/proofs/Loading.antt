-- Which loads were answered, and which were turned away.
use Rattle.std.proofs.Common.{◌≡◌, ℕ, List, [], ◌∷◌, ◌++◌, Option, Some, None, Result, Ok, Err, ◌⊎◌, inl, inr, refl, sym, ap, ◌∙◌, subst, append-nil, append_assoc}
use Rattle.outside.specs.Files.{Files}
use Rattle.outside.specs.Turned.{TurnedLoad}
use Rattle.outside.specs.declared.errors.LoadError.{LoadError}
use Rattle.outside.specs.declared.errors.LoadError.TheVariants as answers
use Rattle.kernel_core.specs.declared.tree.Tree.{Tree}
use Rattle.elf_image.specs.declared.load_plan.Plan.{Plan}
use Rattle.schedule.specs.declared.Schedule.{Schedule}
use Rattle.schedule.specs.declared.refusal.ScheduleRefusal.{ScheduleRefusal}
use Rattle.schedule.specs.Grammar.{meaning_of}
use Rattle.session_files.specs.Inputs.{Names, names_of, Found, Absent, Long, Bytes, HasProgram, HasTree, IsOpenedBy, image_file, schedule_file, image_limit, schedule_limit, schedule_of_found, taken_schedule}
use Rattle.session_files.specs.Saved.{AtProgram, AtImage, AtSchedule, after_loads, load_of, loaded_by, loaded_names, named, turned_by}
use Rattle.session_files.specs.Unrun.{WantsMemory}
use Rattle.stored_files.specs.Stored.{Stored}
use Rattle.session_words.specs.Words.{Reading, Asks, WrongAt}
use Rattle.session_files.specs.Steps.{IsPlanOf, IsPlanned, IsRefusedFor, is_absent, is_long, is_broken, IsScheduledAs, IsTree, LoadsFile, LoadsFiles, LoadsReading, turned_at}
use Rattle.session_files.specs.declared.refusal.Refusal.{Refusal}
use Rattle.session_files.specs.declared.refusal.Refusal.TheVariants as refusals
use Rattle.session_files.specs.declared.load.SessionFile.TheVariants as which
use Rattle.session_files.specs.declared.not_run.NotRun.{NotRun}
use Rattle.session_files.specs.declared.not_run.NotRun.TheVariants.{Refused, ReadFault, NoMemory}

-- Several loads

after_twice : (store : Stored) (first second : List (List ℕ)) (turned : List TurnedLoad) → after_loads (after_loads store first []) second turned ≡ after_loads store (first ++ second) turned
after_twice store first second turned =
    ap (λ (l : List (List ℕ)). let s : Stored = record store { loads = l; turned = (store.turned ++ []) ++ turned } in s) (append_assoc store.loads first second)
    ∙ ap (λ (t : List TurnedLoad). let s : Stored = record store { loads = store.loads ++ (first ++ second); turned = t ++ turned } in s) (append-nil store.turned)

pub then_loaded : (old middle new : Stored) (first second : List (List ℕ)) (turned : List TurnedLoad) → middle ≡ after_loads old first [] → new ≡ after_loads middle second turned → new ≡ after_loads old (first ++ second) turned
then_loaded old middle new first second turned before after =
    after ∙ (ap (λ (s : Stored). after_loads s second turned) before ∙ after_twice old first second turned)

-- and none behind them
then_none : (old middle new : Stored) (first : List (List ℕ)) → middle ≡ after_loads old first [] → new ≡ after_loads middle [] [] → new ≡ after_loads old first []
then_none old middle new first before after =
    then_loaded old middle new first [] [] before after ∙ ap (λ (l : List (List ℕ)). after_loads old l []) (append-nil first)

-- The program

program_refused : (told : Option Files) (names : Names) (refusal : Refusal) (old new : Stored) → IsRefusedFor told names.program refusal →
    new ≡ after_loads old (names.program ∷ []) (turned_at which.Program names.program refusal) → new ≡ after_loads old (loaded_by names refusal) (turned_by names refusal)
program_refused told names _ old new (is_absent found) is = is
program_refused told names _ old new (is_long found) is = is
program_refused told names _ old new (is_broken bytes rule found broken) is = is

pub program_loads : (T : Type 0) (told : Option Files) (names : Names) (reason : NotRun) (old new : Stored) → IsPlanned told names.program (Err reason) →
    LoadsFile {T = Plan} which.Program (Some names.program) (Err reason) old new → LoadsFiles {T = T} names (Err reason) old new
program_loads T told names (Refused refusal) old new is loads = program_refused told names refusal old new is loads
program_loads T told names ReadFault old new is loads = record { stage = AtProgram; some = loads.0; in_order = tt; stands = loads.1 }
program_loads T told names NoMemory old new is loads = record { stage = AtProgram; in_order = tt; stands = loads }

-- the program of a plan is in order
pub program_is : (told : Option Files) (name : List ℕ) (plan : Plan) → IsPlanOf told name plan → HasProgram told name
program_is told name plan is = (is.bytes, is.found, is.formed)

-- The image

-- what an image that is refused turned away
abbrev TurnsImage : Names → Refusal → List ℕ → Type 0
TurnsImage names refusal name = (turned_at which.Image name refusal ≡ turned_by names refusal) × (loaded_by names refusal ≡ names.program ∷ named names.image)

image_turned : (names : Names) (name : List ℕ) (answer : LoadError) → names.image ≡ Some name →
    record { name = name; limit = image_limit; answer = answer } ∷ [] ≡ load_of names image_file answer ∷ []
image_turned names name answer is = cc

image_refused : (names : Names) (name : List ℕ) (refusal : Refusal) (found : Found) → names.image ≡ Some name → IsOpenedBy found (Err refusal) → TurnsImage names refusal name
image_refused names name refusal Absent is opened =
    let same : refusal ≡ refusals.Missing image_file = cc in
    subst (λ (r : Refusal). TurnsImage names r name) (sym same) (image_turned names name answers.Missing is, refl)
image_refused names name refusal Long is opened =
    let same : refusal ≡ refusals.TooLong image_file = cc in
    subst (λ (r : Refusal). TurnsImage names r name) (sym same) (image_turned names name answers.TooLong is, refl)
image_refused names name refusal (Bytes bytes) is opened =
    subst (λ (r : Refusal). TurnsImage names r name) (sym opened.1) (refl, refl)

-- an image by its name, after the program
image_turned_away : (T : Type 0) (told : Option Files) (names : Names) (image : Option (List ℕ)) (refusal : Refusal) (old new : Stored) → names.image ≡ image → IsTree told image (Err (Refused refusal)) →
    LoadsFile {T = Tree} which.Image image (Err (Refused refusal)) (after_loads old (names.program ∷ []) []) new → LoadsFiles {T = T} names (Err (Refused refusal)) old new
image_turned_away T told names None refusal old new is tree loads = absurd cc
image_turned_away T told names (Some name) refusal old new is tree loads =
    let turns = image_refused names name refusal tree.0 is tree.2 in
    let all : new ≡ after_loads old ((names.program ∷ []) ++ named (Some name)) (turned_at which.Image name refusal) =
    then_loaded old (after_loads old (names.program ∷ []) []) new (names.program ∷ []) (named (Some name)) (turned_at which.Image name refusal) refl loads in
    all
    ∙ (ap (λ (i : Option (List ℕ)). after_loads old (names.program ∷ named i) (turned_at which.Image name refusal)) (sym is)
    ∙ (ap (λ (l : List (List ℕ)). after_loads old l (turned_at which.Image name refusal)) (sym turns.1)
    ∙ ap (λ (t : List TurnedLoad). after_loads old (loaded_by names refusal) t) turns.0))

pub image_loads : (T : Type 0) (told : Option Files) (names : Names) (reason : NotRun) (old middle new : Stored) → HasProgram old.files names.program → IsTree told names.image (Err reason) → middle ≡ after_loads old (names.program ∷ []) [] →
    LoadsFile {T = Tree} which.Image names.image (Err reason) middle new → LoadsFiles {T = T} names (Err reason) old new
image_loads T told names (Refused refusal) old middle new program tree before loads =
    image_turned_away T told names names.image refusal old new refl tree
    (subst (λ (s : Stored). LoadsFile {T = Tree} which.Image names.image (Err (Refused refusal)) s new) before loads)
image_loads T told names ReadFault old middle new program tree before loads =
    record { stage = AtImage; some = loads.0; in_order = program; stands = then_loaded old middle new (names.program ∷ []) [] [] before loads.1 }
image_loads T told names NoMemory old middle new program tree before loads = record {
  stage = AtImage;
  in_order = program;
  stands = elim loads as (λ _. (new ≡ after_loads old (names.program ∷ []) []) ⊎ (new ≡ after_loads old (names.program ∷ named names.image) [])) [
    | inl none ↦ inl (then_loaded old middle new (names.program ∷ []) [] [] before none)
    | inr one ↦ inr (then_loaded old middle new (names.program ∷ []) (named names.image) [] before one)
  ];
}

-- The schedule

-- the names of the program and of the image
abbrev before_schedule : Names → List (List ℕ)
before_schedule names = names.program ∷ named names.image

abbrev TurnsSchedule : Names → Refusal → List ℕ → Type 0
TurnsSchedule names refusal name = (turned_at which.Schedule name refusal ≡ turned_by names refusal) × (loaded_by names refusal ≡ loaded_names names)

schedule_turned : (names : Names) (name : List ℕ) (answer : LoadError) → names.schedule ≡ Some name →
    record { name = name; limit = schedule_limit; answer = answer } ∷ [] ≡ load_of names schedule_file answer ∷ []
schedule_turned names name answer is = cc

-- a text that is refused is refused as a schedule
text_refused : (names : Names) (name : List ℕ) (refusal : Refusal) (meaning : Result Schedule ScheduleRefusal) → Err refusal ≡ taken_schedule meaning → TurnsSchedule names refusal name
text_refused names name refusal (Err broken) is =
    let same : refusal ≡ refusals.Schedule broken = cc in
    subst (λ (r : Refusal). TurnsSchedule names r name) (sym same) (refl, refl)
text_refused names name refusal (Ok schedule) is = absurd cc

schedule_refused : (names : Names) (name : List ℕ) (refusal : Refusal) (found : Found) → names.schedule ≡ Some name → Err refusal ≡ schedule_of_found found → TurnsSchedule names refusal name
schedule_refused names name refusal Absent is scheduled =
    let same : refusal ≡ refusals.Missing schedule_file = cc in
    subst (λ (r : Refusal). TurnsSchedule names r name) (sym same) (schedule_turned names name answers.Missing is, refl)
schedule_refused names name refusal Long is scheduled =
    let same : refusal ≡ refusals.TooLong schedule_file = cc in
    subst (λ (r : Refusal). TurnsSchedule names r name) (sym same) (schedule_turned names name answers.TooLong is, refl)
schedule_refused names name refusal (Bytes text) is scheduled = text_refused names name refusal (meaning_of text) scheduled

schedule_turned_away : (T : Type 0) (told : Option Files) (names : Names) (name : Option (List ℕ)) (refusal : Refusal) (old new : Stored) → names.schedule ≡ name → IsScheduledAs told name (Err (Refused refusal)) →
    LoadsFile {T = Schedule} which.Schedule name (Err (Refused refusal)) (after_loads old (before_schedule names) []) new → LoadsFiles {T = T} names (Err (Refused refusal)) old new
schedule_turned_away T told names None refusal old new is scheduled loads = absurd cc
schedule_turned_away T told names (Some name) refusal old new is scheduled loads =
    let turns = schedule_refused names name refusal scheduled.0 is scheduled.2 in
    let all : new ≡ after_loads old (before_schedule names ++ named (Some name)) (turned_at which.Schedule name refusal) =
    then_loaded old (after_loads old (before_schedule names) []) new (before_schedule names) (named (Some name)) (turned_at which.Schedule name refusal) refl loads in
    all
    ∙ (ap (λ (i : Option (List ℕ)). after_loads old (before_schedule names ++ named i) (turned_at which.Schedule name refusal)) (sym is)
    ∙ (ap (λ (l : List (List ℕ)). after_loads old l (turned_at which.Schedule name refusal)) (sym turns.1)
    ∙ ap (λ (t : List TurnedLoad). after_loads old (loaded_by names refusal) t) turns.0))

-- the store after the loads of the program and of the image
before_scheduled : (names : Names) (old first second : Stored) → first ≡ after_loads old (names.program ∷ []) [] → second ≡ after_loads first (named names.image) [] →
    second ≡ after_loads old (before_schedule names) []
before_scheduled names old first second program image = then_loaded old first second (names.program ∷ []) (named names.image) [] program image

pub schedule_loads : (T : Type 0) (told : Option Files) (names : Names) (reason : NotRun) (old first second new : Stored) → HasProgram old.files names.program → HasTree old.files names.image → IsScheduledAs told names.schedule (Err reason)
    → first ≡ after_loads old (names.program ∷ []) [] → second ≡ after_loads first (named names.image) [] → LoadsFile {T = Schedule} which.Schedule names.schedule (Err reason) second new → LoadsFiles {T = T} names (Err reason) old new
schedule_loads T told names (Refused refusal) old first second new program image scheduled loaded opened loads =
    schedule_turned_away T told names names.schedule refusal old new refl scheduled
    (subst (λ (s : Stored). LoadsFile {T = Schedule} which.Schedule names.schedule (Err (Refused refusal)) s new) (before_scheduled names old first second loaded opened) loads)
schedule_loads T told names ReadFault old first second new program image scheduled loaded opened loads = record {
  stage = AtSchedule;
  some = loads.0;
  in_order = (program, image);
  stands = then_none old second new (before_schedule names) (before_scheduled names old first second loaded opened) loads.1;
}
schedule_loads T told names NoMemory old first second new program image scheduled loaded opened loads = record {
  stage = AtSchedule;
  in_order = (program, image);
  stands = elim loads as (λ _. (new ≡ after_loads old (before_schedule names) []) ⊎ (new ≡ after_loads old (before_schedule names ++ named names.schedule) [])) [
    | inl none ↦ inl (then_none old second new (before_schedule names) (before_scheduled names old first second loaded opened) none)
    | inr one ↦ inr (then_loaded old second new (before_schedule names) (named names.schedule) [] (before_scheduled names old first second loaded opened) one)
  ];
}

-- all files of a line
pub all_loaded : (names : Names) (old first second new : Stored) → first ≡ after_loads old (names.program ∷ []) [] → second ≡ after_loads first (named names.image) [] →
    new ≡ after_loads second (named names.schedule) [] → new ≡ after_loads old (loaded_names names) []
all_loaded names old first second new program image schedule =
    then_loaded old second new (before_schedule names) (named names.schedule) [] (before_scheduled names old first second program image) schedule

-- Memory ran out before the first load
pub nothing_loaded : (names : Names) (store : Stored) → WantsMemory names store store
nothing_loaded names store = record { stage = AtProgram; in_order = tt; stands = inl (sym (no_loads store)) }
  where
    no_loads : (store : Stored) → after_loads store [] [] ≡ store
    no_loads store =
        ap (λ (l : List (List ℕ)). let s : Stored = record store { loads = l; turned = store.turned ++ [] } in s) (append-nil store.loads)
        ∙ ap (λ (t : List TurnedLoad). let s : Stored = record store { turned = t } in s) (append-nil store.turned)

-- The count of faulty writes

files_write : {T : Type 0} (names : Names) (result : Result T NotRun) (old new : Stored) → LoadsFiles names result old new → new.write_faults ≡ old.write_faults
files_write names (Ok ready) old new loads = ap (λ (s : Stored). s.write_faults) loads
files_write names (Err (Refused refusal)) old new loads = ap (λ (s : Stored). s.write_faults) loads
files_write names (Err ReadFault) old new loads = ap (λ (s : Stored). s.write_faults) loads.stands
files_write names (Err NoMemory) old new loads =
    elim loads.stands as (λ _. new.write_faults ≡ old.write_faults) [
      | inl before ↦ ap (λ (s : Stored). s.write_faults) before
      | inr behind ↦ ap (λ (s : Stored). s.write_faults) behind
    ]

pub reading_writes : {T : Type 0} (words : List (List ℕ)) (reading : Reading) (result : Result T NotRun) (old new : Stored) → LoadsReading words reading result old new → new.write_faults ≡ old.write_faults
reading_writes words (WrongAt word) result old new loads = ap (λ (s : Stored). s.write_faults) loads
reading_writes words (Asks line) result old new loads = files_write (names_of words line) result old new loads

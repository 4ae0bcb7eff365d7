-- What becomes of the store of a session: the loads that it answers and those of them that it turns away, and the file that the final tree is
-- saved to. This project's own.
use Rattle.std.specs.Prelude.{ℕ, ◌≡◌, ◌⊎◌, List, [], ◌∷◌, ◌++◌, unwrap_or, Option, Some, None, ◌==◌, if◌then◌else◌}
use Rattle.outside.specs.Files.{ChangesFile}
use Rattle.outside.specs.Output.{IsPrefix}
use Rattle.outside.specs.Turned.{TurnedLoad}
use Rattle.outside.specs.declared.errors.LoadError.{LoadError}
use Rattle.outside.specs.declared.errors.LoadError.TheVariants as answers
use Rattle.kernel_core.specs.ValidTree.{IsValidTree}
use Rattle.kernel_core.specs.declared.tree.Tree.{Tree}
use Rattle.fs_image.specs.Text.{text_of}
use Rattle.stored_files.specs.Stored.{Stored, SavesText}
use Rattle.session_files.specs.Inputs.{Names, program_file, image_file, schedule_file, program_limit, image_limit, schedule_limit}
use Rattle.session_files.specs.declared.refusal.Refusal.{Refusal}
use Rattle.session_files.specs.declared.refusal.Refusal.TheVariants.{Usage, Missing, TooLong, Elf, Image, Schedule, Start, Journal}

-- the store answered loads of these names, turned these away, and else stands as it was
abbrev pub after_loads : Stored → List (List ℕ) → List TurnedLoad → Stored
after_loads store names turned = record store { loads = store.loads ++ names; turned = store.turned ++ turned }

-- The loads

-- the name of a file, where there is one
abbrev pub named : Option (List ℕ) → List (List ℕ)
named None = []
named (Some name) = name ∷ []

-- How far the steps before a run have come: to the load of the program, to that of the image or of the schedule, where one is named, or to the first
-- machine.
pub data Stage : Type 0 where
  AtProgram : Stage
  AtImage : Stage
  AtSchedule : Stage
  AtMachine : Stage

-- the name of the file that is loaded there
abbrev pub name_at : Stage → Names → Option (List ℕ)
name_at AtProgram names = Some names.program
name_at AtImage names = names.image
name_at AtSchedule names = names.schedule
name_at AtMachine names = None

-- the names of the files that are loaded before, each once, in their order
abbrev pub loaded_before : Stage → Names → List (List ℕ)
loaded_before AtProgram names = []
loaded_before AtImage names = names.program ∷ []
loaded_before AtSchedule names = names.program ∷ named names.image
loaded_before AtMachine names = names.program ∷ (named names.image ++ named names.schedule)

-- those of all files of a line: of the program, of the image, of the schedule
abbrev pub loaded_names : Names → List (List ℕ)
loaded_names names = loaded_before AtMachine names

-- those of them up to the file of this number
abbrev pub names_up_to : Names → ℕ → List (List ℕ)
names_up_to names file =
    if file == image_file then names.program ∷ named names.image
    else (if file == schedule_file then loaded_names names else names.program ∷ [])

-- the names of the loads that were answered before a refusal: up to the file that is refused
abbrev pub loaded_by : Names → Refusal → List (List ℕ)
loaded_by names (Usage word) = []
loaded_by names (Missing file) = names_up_to names file
loaded_by names (TooLong file) = names_up_to names file
loaded_by names (Elf rule) = names_up_to names program_file
loaded_by names (Image broken) = names_up_to names image_file
loaded_by names (Schedule broken) = names_up_to names schedule_file
loaded_by names Start = loaded_names names
loaded_by names (Journal at) = []

-- the load of a file by its number
abbrev pub load_of : Names → ℕ → LoadError → TurnedLoad
load_of names file answer =
    if file == image_file
    then record { name = unwrap_or names.image []; limit = image_limit; answer = answer }
    else (if file == schedule_file
    then record { name = unwrap_or names.schedule []; limit = schedule_limit; answer = answer }
    else record { name = names.program; limit = program_limit; answer = answer })

-- the load that a refusal turned away
abbrev pub turned_by : Names → Refusal → List TurnedLoad
turned_by names (Missing file) = load_of names file answers.Missing ∷ []
turned_by names (TooLong file) = load_of names file answers.TooLong ∷ []
turned_by names (Usage word) = []
turned_by names (Elf rule) = []
turned_by names (Image broken) = []
turned_by names (Schedule broken) = []
turned_by names Start = []
turned_by names (Journal at) = []

-- the file stands as it was, or has a first part of this text
abbrev pub StandsOrBegins : List ℕ → Option (List ℕ) → Option (List ℕ) → Type 0
StandsOrBegins text before after = (after ≡ before) ⊎ ((part : List ℕ) × IsPrefix part text × (after ≡ Some part))

-- the file of this name stands as it was or has a first part of this text, and every other stands as it was
pub record SavesPart (name text : List ℕ) (old new : Stored) : Type 0 where
  pub files : ChangesFile old.files new.files name (StandsOrBegins text)
  pub created : (new.created ≡ old.created) ⊎ (new.created ≡ old.created ++ name ∷ [])
  pub loads : new.loads ≡ old.loads
  pub turned : new.turned ≡ old.turned

-- the tree, a valid one, was saved where a file is named for it; else the store stands as it was
abbrev pub SavesTree : Option (List ℕ) → Tree → Stored → Stored → Type 0
SavesTree None tree old new = new ≡ old
SavesTree (Some name) tree old new = IsValidTree tree × SavesText name (text_of tree) old new

-- at most a part of the tree was saved, to the file that is named for it
abbrev pub SavesTreeInPart : Option (List ℕ) → Tree → Stored → Stored → Type 0
SavesTreeInPart None tree old new = ⊥
SavesTreeInPart (Some name) tree old new = SavesPart name (text_of tree) old new

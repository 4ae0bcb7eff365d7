-- What the files that the words name come to: no file, one that is too long, or its bytes; a tree of files; a schedule. This project's own.
use Rattle.std.specs.Prelude.{ℕ, ◌≡◌, ⊤, List, [], ◌∷◌, length, option_map, Option, Some, None, Result, Ok, Err, nat_lt, if◌then◌else◌, pos}
use Rattle.outside.specs.Files.{Files}
use Rattle.kernel_core.specs.declared.tree.Tree.{Tree}
use Rattle.kernel_core.specs.declared.tree.Node.{Node}
use Rattle.kernel_core.specs.declared.tree.Kind.TheVariants.{Dir}
use Rattle.kernel_core.specs.ValidTree.{IsValidTree}
use Rattle.fs_image.specs.Text.{text_of}
use Rattle.fs_image.specs.Meaning as images
use Rattle.fs_image.specs.declared.refusal.ImageRefusal.{ImageRefusal}
use Rattle.elf_image.specs.Rules as elf
use Rattle.session_words.specs.Words.{Line, word_at}
use Rattle.schedule.specs.Grammar.{meaning_of}
use Rattle.schedule.specs.declared.Schedule.{Schedule}
use Rattle.schedule.specs.declared.refusal.ScheduleRefusal.{ScheduleRefusal}
use Rattle.session_files.specs.declared.refusal.Refusal.{Refusal}
use Rattle.session_files.specs.declared.refusal.Refusal.TheVariants.{Missing, TooLong, Image}
use Rattle.session_files.specs.declared.refusal.Refusal.TheVariants as refusals

-- Files

-- the files that are loaded have numbers
abbrev pub program_file : ℕ
program_file = 1

abbrev pub image_file : ℕ
image_file = 2

abbrev pub schedule_file : ℕ
schedule_file = 3

abbrev pub journal_file : ℕ
journal_file = 4

-- the greatest length of a program's file: 64 MiB
abbrev pub program_limit : ℕ
program_limit = 67108864

-- the greatest length of an image: 640 MiB
abbrev pub image_limit : ℕ
image_limit = 671088640

-- the greatest length of a schedule: 16 MiB
abbrev pub schedule_limit : ℕ
schedule_limit = 16777216

-- the greatest length of a journal that is replayed: 256 MiB
abbrev pub journal_limit : ℕ
journal_limit = 268435456

-- the names of the files of a line: of the program, of the image, of the schedule, of the files of the trace, of the native log and of the journal,
-- and of the one that the final tree is saved to
pub record Names : Type 0 where
  pub program : List ℕ
  pub image : Option (List ℕ)
  pub schedule : Option (List ℕ)
  pub trace : Option (List ℕ)
  pub native : Option (List ℕ)
  pub journal : Option (List ℕ)
  pub save : Option (List ℕ)

abbrev pub names_of : List (List ℕ) → Line → Names
names_of words line = record {
  program = word_at words line.program;
  image = option_map (word_at words) line.image;
  schedule = option_map (word_at words) line.schedule;
  trace = option_map (word_at words) line.trace;
  native = option_map (word_at words) line.native;
  journal = option_map (word_at words) line.journal;
  save = option_map (word_at words) line.save;
}

-- a line that names no file
abbrev pub no_names : Names
no_names = record { program = []; image = None; schedule = None; trace = None; native = None; journal = None; save = None }

-- what a load of a file finds: no file, one that is too long, or its bytes
pub data Found : Type 0 where
  Absent : Found
  Long : Found
  Bytes : List ℕ → Found

-- what is found where the store has this file
abbrev pub found_at : ℕ → Option (List ℕ) → Found
found_at limit None = Absent
found_at limit (Some bytes) = if nat_lt limit (length bytes) then Long else Bytes bytes

-- a load under this limit and name finds this: where the store tells its files, what it has
abbrev pub IsFound : Option Files → ℕ → List ℕ → Found → Type 0
IsFound None limit name found = ⊤
IsFound (Some files) limit name found = found ≡ found_at limit (files name)

-- The tree of files

-- the root of a tree without an image: an empty directory of mode 0755 and time 0
abbrev pub empty_root : Node
empty_root = record { number = 1; mode = 493; mtime = pos 0; kind = Dir [] }

abbrev pub empty_tree : Tree
empty_tree = record { nodes = empty_root ∷ [] }

-- the tree of an image: the valid one whose text the file is
pub record IsTreeOf (bytes : List ℕ) (tree : Tree) : Type 0 where
  pub valid : IsValidTree tree
  pub text : bytes ≡ text_of tree

-- an image's tree, or the first rule that it breaks
abbrev pub IsReadAs : List ℕ → Result Tree Refusal → Type 0
IsReadAs bytes (Ok tree) = IsTreeOf bytes tree
IsReadAs bytes (Err refusal) =
    (broken : ImageRefusal) × (refusal ≡ Image broken) × (images.first_failure bytes ≡ Some broken)

-- what was found of an image comes to this
abbrev pub IsOpenedBy : Found → Result Tree Refusal → Type 0
IsOpenedBy Absent opened = opened ≡ Err (Missing image_file)
IsOpenedBy Long opened = opened ≡ Err (TooLong image_file)
IsOpenedBy (Bytes bytes) opened = IsReadAs bytes opened

-- the tree that a run begins with, or why its image gives none
abbrev pub IsOpened : Option Files → Option (List ℕ) → Result Tree Refusal → Type 0
IsOpened files None opened = opened ≡ Ok empty_tree
IsOpened files (Some name) opened = (found : Found) × IsFound files image_limit name found × IsOpenedBy found opened

-- The schedule

-- the schedule of the empty text: a turn takes 1,000 nanoseconds, the clock begins at the epoch, the streams are no
-- terminal, chance is zeros, and no signal comes from outside
abbrev pub empty_schedule : Schedule
empty_schedule = record { quantum = 1000; epoch_s = 0; epoch_n = 0; tty = None; random = 0 ∷ []; events = []; at = 0 }

-- a text's schedule, or why it is refused

abbrev pub taken_schedule : Result Schedule ScheduleRefusal → Result Schedule Refusal
taken_schedule (Err broken) = Err (refusals.Schedule broken)
taken_schedule (Ok schedule) = Ok schedule

abbrev pub schedule_of_text : List ℕ → Result Schedule Refusal
schedule_of_text text = taken_schedule (meaning_of text)

-- what was found of a schedule comes to this
abbrev pub schedule_of_found : Found → Result Schedule Refusal
schedule_of_found Absent = Err (Missing schedule_file)
schedule_of_found Long = Err (TooLong schedule_file)
schedule_of_found (Bytes text) = schedule_of_text text

-- the schedule of a run, or why its file gives none
abbrev pub IsScheduled : Option Files → Option (List ℕ) → Result Schedule Refusal → Type 0
IsScheduled files None scheduled = scheduled ≡ Ok empty_schedule
IsScheduled files (Some name) scheduled =
    (found : Found) × IsFound files schedule_limit name found × (scheduled ≡ schedule_of_found found)

-- The files in order, one by one

-- the program is there, within its limit and breaks no rule
abbrev pub HasProgram : Option Files → List ℕ → Type 0
HasProgram files name = (bytes : List ℕ) × IsFound files program_limit name (Bytes bytes) × (elf.first_failure bytes ≡ None)

-- there is a tree to begin with
abbrev pub HasTree : Option Files → Option (List ℕ) → Type 0
HasTree files image = (tree : Tree) × IsOpened files image (Ok tree)

-- and a schedule
abbrev pub HasSettings : Option Files → Option (List ℕ) → Type 0
HasSettings files name = (schedule : Schedule) × IsScheduled files name (Ok schedule)

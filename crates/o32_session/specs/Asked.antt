-- What the words and the files that they name ask for: a refusal, or a run. This project's own.
use Rattle.std.specs.Prelude.{ℕ, ◌≡◌, List, drop, Option, Some, None, Result, Ok, Err, nat_lt, if◌then◌else◌}
use Rattle.outside.specs.Files.{Files}
use Rattle.kernel_core.specs.declared.tree.Tree.{Tree}
use Rattle.elf_image.specs.Rules as elf
use Rattle.elf_image.specs.Loading.{plan_of}
use Rattle.elf_image.specs.declared.refusal.ElfRefusal.{ElfRefusal}
use Rattle.elf_image.specs.declared.load_plan.Plan.{Plan}
use Rattle.start_stack.specs.Stack.{start_size, start_limit}
use Rattle.start_stack.specs.Start.{start_memory, start_processor}
use Rattle.journal.specs.Text.{head_text}
use Rattle.o32_session.specs.Words.{Line}
use Rattle.kernel_model.specs.Begin.{first_state}
use Rattle.kernel_model.specs.System.{round}
use Rattle.native_kernel.specs.Settings.{settings_of}
use Rattle.schedule.specs.declared.Schedule.{Schedule}
use Rattle.o32_runner.specs.Emulators as emulators
use Rattle.o32_turns.specs.Machine.{Machine}
use Rattle.session_files.specs.declared.refusal.Refusal.{Refusal}
use Rattle.session_files.specs.declared.refusal.Refusal.TheVariants.{Missing, TooLong, Elf, Start}
use Rattle.session_files.specs.Inputs.{Absent, Bytes, Found, IsFound, IsOpened, IsScheduled, Long, Names, names_of, program_file, program_limit}

-- The run

-- the guest's sixteen random bytes are the first of chance, which is used round and round
abbrev pub stack_chance : Schedule → List ℕ
stack_chance schedule = round schedule.random 0 16

-- the machine of a plan with these arguments and this environment, beside this tree of files, under this schedule
abbrev pub first_machine : Plan → List (List ℕ) → List (List ℕ) → Tree → Schedule → Machine
first_machine plan args env tree schedule =
    emulators.first_machine (start_processor plan args env) (start_memory plan args env (stack_chance schedule))
    (first_state tree (settings_of schedule)) (emulators.coming_of schedule)

-- what its journal begins with
abbrev pub journal_front : List (List ℕ) → List (List ℕ) → Schedule → List ℕ
journal_front args env schedule = head_text args env (stack_chance schedule)

-- a refusal, or a run: how many nanoseconds of the clock a turn with an instruction takes, its machine, its budget, and what its journal begins with
pub data Asked : Type 0 where
  Refuse : Refusal → Asked
  Run : ℕ → Machine → ℕ → List ℕ → Asked

-- what is asked for with this tree under this schedule
abbrev pub asked_of_schedule : List (List ℕ) → Line → Plan → Tree → Schedule → Asked
asked_of_schedule args line plan tree schedule =
    if nat_lt start_limit (start_size args line.environment)
    then Refuse Start
    else Run schedule.quantum (first_machine plan args line.environment tree schedule) line.budget (journal_front args line.environment schedule)

-- the schedule is looked at where there is a tree, and before the start
abbrev pub asked_of_tree : List (List ℕ) → Line → Plan → Tree → Result Schedule Refusal → Asked
asked_of_tree args line plan tree (Err refusal) = Refuse refusal
asked_of_tree args line plan tree (Ok schedule) = asked_of_schedule args line plan tree schedule

-- the image is looked at where the program has a plan, and before the schedule
abbrev pub AsksOfPlan : List (List ℕ) → Line → Names → Option Files → Plan → Result Tree Refusal → Asked → Type 0
AsksOfPlan args line names files plan (Err refusal) asked = asked ≡ Refuse refusal
AsksOfPlan args line names files plan (Ok tree) asked =
    (scheduled : Result Schedule Refusal) × IsScheduled files names.schedule scheduled × (asked ≡ asked_of_tree args line plan tree scheduled)

-- the program's first broken rule, or what its plan asks for
abbrev pub AsksUnless : List (List ℕ) → Line → Names → Option Files → List ℕ → Option ElfRefusal → Asked → Type 0
AsksUnless args line names files bytes (Some rule) asked = asked ≡ Refuse (Elf rule)
AsksUnless args line names files bytes None asked =
    (opened : Result Tree Refusal) × IsOpened files names.image opened × AsksOfPlan args line names files (plan_of bytes) opened asked

-- what is asked for where this was found of the program
abbrev pub AsksOf : List (List ℕ) → Line → Names → Option Files → Found → Asked → Type 0
AsksOf args line names files Absent asked = asked ≡ Refuse (Missing program_file)
AsksOf args line names files Long asked = asked ≡ Refuse (TooLong program_file)
AsksOf args line names files (Bytes bytes) asked = AsksUnless args line names files bytes (elf.first_failure bytes) asked

-- the guest's arguments: PROGRAM and the words after it
abbrev pub arguments_of : List (List ℕ) → Line → List (List ℕ)
arguments_of words line = drop line.program words

-- What a line asks for, which a store that tells its files determines.
abbrev pub AsksFor : List (List ℕ) → Line → Option Files → Asked → Type 0
AsksFor words line files asked =
    (found : Found)
    × IsFound files program_limit (names_of words line).program found
    × AsksOf (arguments_of words line) line (names_of words line) files found asked

-- What the steps before a run come to.
use Rattle.std.proofs.Common.{◌≡◌, ◌<◌, ◌≤◌, ℕ, Bool, cond, List, Option, Result, Ok, Err, IfOk, IfErr, ap, ◌∙◌, sym, subst, refl, arith}
use Rattle.std.proofs.lemmas.Bool.{le-ltb}
use Rattle.guest_space.specs.Memory.{Memory}
use Rattle.kernel_model.specs.Begin.{first_state}
use Rattle.native_kernel.specs.Settings.{settings_of}
use Rattle.schedule.specs.declared.Schedule.{Schedule}
use Rattle.mips_exec.specs.Processor.{Processor}
use Rattle.o32_runner.specs.Emulators as emulators
use Rattle.o32_turns.specs.Machine.{Machine}
use Rattle.start_stack.specs.Stack.{start_size, start_limit}
use Rattle.start_stack.specs.Start.{start_memory, start_processor}
use Rattle.outside.specs.Files.{Files}
use Rattle.kernel_core.specs.declared.tree.Tree.{Tree}
use Rattle.elf_image.specs.declared.load_plan.Plan.{Plan}
use Rattle.o32_session.specs.Words.{Line}
use Rattle.o32_session.specs.Asked.{Asked, Refuse, Run, asked_of_schedule, AsksOfPlan, AsksUnless, AsksFor, arguments_of, first_machine, journal_front, stack_chance}
use Rattle.session_files.specs.Inputs.{names_of, Absent, Long, Bytes, IsOpened, IsScheduled}
use Rattle.session_files.specs.Steps.{AreInputs, AreLoaded, AreRefusedFor, at_program, at_image, at_schedule, IsRefusedFor, is_absent, is_long, is_broken, IsPlanOf}
use Rattle.o32_session.specs.inside.Prepared.{IsStartReason, IsPreparedLine}
use Rattle.session_files.specs.declared.refusal.Refusal.{Refusal}
use Rattle.session_files.specs.declared.refusal.Refusal.TheVariants.{Usage, Missing, TooLong, Elf, Image, Start, Journal}
use Rattle.session_files.specs.declared.refusal.Refusal.TheVariants as refusals
use Rattle.session_files.specs.declared.inputs.Inputs.{Inputs}
use Rattle.session_files.specs.declared.not_run.NotRun.{NotRun}
use Rattle.session_files.specs.declared.not_run.NotRun.TheVariants.{Refused, ReadFault, NoMemory}
use Rattle.o32_session.specs.declared.prepare.Ready.{Ready}

-- A line

-- what a plan asks for, with what came of the image
asks_planned : (words : List (List ℕ)) (line : Line) (told : Option Files) (plan : Plan) (found : Result Tree Refusal) (asked : Asked) →
    IsPlanOf told (names_of words line).program plan → IsOpened told (names_of words line).image found →
    AsksOfPlan (arguments_of words line) line (names_of words line) told plan found asked → AsksFor words line told asked
asks_planned words line told plan found asked is image asks = (
  Bytes is.bytes,
  is.found,
  subst (λ f. AsksUnless (arguments_of words line) line (names_of words line) told is.bytes f asked) (sym is.formed)
      (found, image, subst (λ p. AsksOfPlan (arguments_of words line) line (names_of words line) told p found asked) is.same asks),
)

start_prepared : (words : List (List ℕ)) (line : Line) (told : Option Files) (plan : Plan) (tree : Tree) (schedule : Schedule) (reason : NotRun) →
    IsPlanOf told (names_of words line).program plan → IsOpened told (names_of words line).image (Ok tree) →
    IsScheduled told (names_of words line).schedule (Ok schedule) →
    IsStartReason (asked_of_schedule (arguments_of words line) line plan tree schedule) reason → IsPreparedLine words line told (Err reason)
start_prepared words line told plan tree schedule (Refused Start) is image scheduled reason =
    asks_planned words line told plan (Ok tree) (Refuse Start) is image (Ok schedule, scheduled, sym reason)
start_prepared words line told plan tree schedule (Refused (Usage word)) is image scheduled reason = absurd reason
start_prepared words line told plan tree schedule (Refused (Missing file)) is image scheduled reason = absurd reason
start_prepared words line told plan tree schedule (Refused (TooLong file)) is image scheduled reason = absurd reason
start_prepared words line told plan tree schedule (Refused (Elf rule)) is image scheduled reason = absurd reason
start_prepared words line told plan tree schedule (Refused (Image broken)) is image scheduled reason = absurd reason
start_prepared words line told plan tree schedule (Refused (refusals.Schedule broken)) is image scheduled reason = absurd reason
start_prepared words line told plan tree schedule (Refused (Journal at)) is image scheduled reason = absurd reason
start_prepared words line told plan tree schedule ReadFault is image scheduled reason = tt
start_prepared words line told plan tree schedule NoMemory is image scheduled reason = tt

-- the machine of a plan beside its tree, under its schedule
pub prepared : (words : List (List ℕ)) (line : Line) (told : Option Files) (inputs : Inputs) (args : List (List ℕ)) → args ≡ arguments_of words line →
    AreLoaded told (names_of words line) inputs → (result : Result Ready NotRun) →
    IfOk result (λ ready. asked_of_schedule args line inputs.plan inputs.tree inputs.schedule ≡ Run ready.emulator.quantum ready.emulator.machine ready.budget ready.front.items) →
    IfOk result (λ ready. ready.save ≡ line.save) → IfOk result (λ ready. ready.trace ≡ line.trace) → IfOk result (λ ready. ready.native ≡ line.native) → IfOk result (λ ready. ready.journal ≡ line.journal) →
    IfErr result (IsStartReason (asked_of_schedule args line inputs.plan inputs.tree inputs.schedule)) → IsPreparedLine words line told result
prepared words line told inputs args same is (Ok ready) runs save trace native journal reason = (
  asks_planned words line told inputs.plan (Ok inputs.tree) (Run ready.emulator.quantum ready.emulator.machine ready.budget ready.front.items) is.plan is.tree
      (Ok inputs.schedule, is.schedule, sym (ap (λ a. asked_of_schedule a line inputs.plan inputs.tree inputs.schedule) (sym same) ∙ runs)),
  (save, (trace, (native, journal))),
)
prepared words line told inputs args same is (Err reason) runs save trace native journal why =
    start_prepared words line told inputs.plan inputs.tree inputs.schedule reason is.plan is.tree is.schedule
    (subst (λ a. IsStartReason (asked_of_schedule a line inputs.plan inputs.tree inputs.schedule) reason) same why)

-- a file is refused
refused_program : (words : List (List ℕ)) (line : Line) (told : Option Files) (refusal : Refusal) →
    IsRefusedFor told (names_of words line).program refusal → AsksFor words line told (Refuse refusal)
refused_program words line told _ (is_absent found) = (Absent, found, refl)
refused_program words line told _ (is_long found) = (Long, found, refl)
refused_program words line told _ (is_broken bytes rule found broken) = (
  Bytes bytes,
  found,
  subst (λ f. AsksUnless (arguments_of words line) line (names_of words line) told bytes f (Refuse (Elf rule))) (sym broken) refl,
)

refused_inputs : (words : List (List ℕ)) (line : Line) (told : Option Files) (refusal : Refusal) →
    AreRefusedFor told (names_of words line) refusal → AsksFor words line told (Refuse refusal)
refused_inputs words line told refusal (at_program is) = refused_program words line told refusal is
refused_inputs words line told refusal (at_image plan is image) = asks_planned words line told plan (Err refusal) (Refuse refusal) is image refl
refused_inputs words line told refusal (at_schedule plan tree is image scheduled) =
    asks_planned words line told plan (Ok tree) (Refuse refusal) is image (Err refusal, scheduled, refl)

pub unready_line : (words : List (List ℕ)) (line : Line) (told : Option Files) (reason : NotRun) →
    AreInputs told (names_of words line) (Err reason) → IsPreparedLine words line told (Err reason)
unready_line words line told (Refused refusal) is = refused_inputs words line told refusal is
unready_line words line told ReadFault is = tt
unready_line words line told NoMemory is = tt

-- The machine

-- the emulator of a start that fits, over the kernel of this tree and schedule
pub machine_ready : (args : List (List ℕ)) (line : Line) (plan : Plan) (tree : Tree) (schedule : Schedule) (cpu : Processor) (space : Memory) (quantum : ℕ) (machine : Machine) (front : List ℕ)
    → (start_limit < start_size args line.environment → ⊥) → cpu ≡ start_processor plan args line.environment → space ≡ start_memory plan args line.environment (stack_chance schedule) → quantum ≡ schedule.quantum
    → machine ≡ emulators.first_machine cpu space (first_state tree (settings_of schedule)) (emulators.coming_of schedule) → front ≡ journal_front args line.environment schedule
    → asked_of_schedule args line plan tree schedule ≡ Run quantum machine line.budget front
machine_ready args line plan tree schedule cpu space quantum machine front fits cpu_is space_is quantum_is machine_is front_is =
    let within : start_size args line.environment ≤ start_limit = omega arith in
    let same : first_machine plan args line.environment tree schedule ≡ machine =
    sym (machine_is
    ∙ ap (λ (p : Processor). emulators.first_machine p space (first_state tree (settings_of schedule)) (emulators.coming_of schedule)) cpu_is
    ∙ ap (λ (m : Memory). emulators.first_machine (start_processor plan args line.environment) m (first_state tree (settings_of schedule)) (emulators.coming_of schedule)) space_is) in
    ap (λ (b : Bool). cond b (Refuse Start) (Run schedule.quantum (first_machine plan args line.environment tree schedule) line.budget (journal_front args line.environment schedule)))
    (le-ltb start_limit (start_size args line.environment) within)
    ∙ (ap (λ (m : Machine). Run schedule.quantum m line.budget (journal_front args line.environment schedule)) same
    ∙ ap (λ (q : ℕ). Run q machine line.budget (journal_front args line.environment schedule)) (sym quantum_is)
    ∙ ap (λ (text : List ℕ). Run quantum machine line.budget text) (sym front_is))

-- The second step of a turn: what ends the call that waits.
use Rattle.std.proofs.Common.{◌≡◌, ◌∙◌, ℕ, Bool, true, false, List, [], Option, Some, None, Result, Ok, Err, IfOk, OnOk, refl, sym, ap, subst, append-nil}
use Rattle.std.specs.List.{list_any}
use Rattle.std.specs.Prelude.{◌&&◌, ◌||◌, not, if◌then◌else◌}
use Rattle.std.proofs.lemmas.Bool.{or_from, or_parts}
use Rattle.bridge_delivery.specs.Ended.{ended_wait}
use Rattle.bridge_log.specs.Looks.{Looked, LooksFor}
use Rattle.kernel_core.specs.declared.core_error.Stop.{Stop}
use Rattle.kernel_core.specs.declared.event.Event.{Event}
use Rattle.kernel_core.specs.declared.signal.Sig.{Sig}
use Rattle.kernel_model.specs.SignalRows.{pends}
use Rattle.kernel_model.specs.State.{Kernel}
use Rattle.o32_machine.proofs.Steps.{on_ok}
use Rattle.o32_machine.specs.Emulator.{ProcessState, machine_of, within_now}
use Rattle.o32_machine.specs.inside.Steps.{Finds, Takes, accepts_by, deadline_in, wakes, wakes_for}
use Rattle.o32_model.specs.Logs.{Kept}
use Rattle.o32_model.specs.SignalWaitEnds.{named_signals}
use Rattle.o32_model.specs.declared.wait.Cause.TheVariants.{Accepted, Due}
use Rattle.o32_model.specs.declared.wait.Wait.{Wait}
use Rattle.o32_turns.specs.Machine.{Machine, Within, no_change, with_change}
use Rattle.o32_turns.specs.Posting.{awaited_by}
use Rattle.o32_turns.specs.Turn.{accepts, ended_by, ended_if_over, is_over_at, second_step, whole}
use Rattle.outside.specs.Streams.{Contents}

-- A look at the kernel

pub finds_look : {A : Type 0} (IsThere : A → Type 0) (result : Result A Stop) (old : ProcessState) (became : Kernel) (before after : Contents) (kept later : Kept)
    → LooksFor IsThere result old.kernel became before after kept later → Finds IsThere result old (record old { kernel = became }) before after
finds_look {A = A} IsThere result old became before after kept later looks = λ left told. by left result (looks left told) where
  by : (left : List ℕ) (result : Result A Stop) → Looked IsThere result old.kernel became before after left kept later
      → (after ≡ before) × OnOk result (within_now (record old { kernel = became }) ≡ within_now old) × IfOk result IsThere
  by left (Ok found) looked = (looked.1.rest, ap (λ (k : Kernel). within_now (record old { kernel = k })) looked.1.same, looked.0)
  by left (Err stop) rest = (rest, tt, tt)

-- so a call that no stop has interrupted is asked for

is_named : (process : ProcessState) (wait : Wait) → process.going.wait ≡ Some wait → process.going.stopped ≡ false → process.going.interrupted ≡ false
    → list_any (λ (signal : Sig). pends process.kernel.signals signal) (named_signals process.memory wait) ≡ wakes_for (machine_of process)
is_named process wait is free whole =
    sym
    (ap (λ (b : Bool). not b && accepts_by (machine_of process) process.going.wait) (or_from process.going.stopped process.going.interrupted free whole)
    ∙ ap (accepts_by (machine_of process)) is)

pub finds_named : (result : Result Bool Stop) (process old : ProcessState) (became : Kernel) (wait : Wait) (before after : Contents) (kept later : Kept) → process ≡ old
    → process.going.wait ≡ Some wait → process.going.stopped ≡ false → process.going.interrupted ≡ false
    → LooksFor (λ found. found ≡ list_any (λ (signal : Sig). pends process.kernel.signals signal) (named_signals process.memory wait)) result process.kernel became before after kept later
    → Finds (λ found. found ≡ wakes_for (machine_of old)) result old (record process { kernel = became }) before after
finds_named result process old became wait before after kept later same is free whole looks =
    subst (λ (o : ProcessState). Finds (λ found. found ≡ wakes_for (machine_of o)) result o (record process { kernel = became }) before after) same
    (subst (λ (b : Bool). Finds (λ found. found ≡ b) result process (record process { kernel = became }) before after) (is_named process wait is free whole)
    (finds_look (λ found. found ≡ list_any (λ (signal : Sig). pends process.kernel.signals signal) (named_signals process.memory wait)) result process became before after kept later looks))

-- What the step comes to

module _ (within : Within) where
  abbrev machine : Machine
  machine = within.machine

  abbrev step_by : Bool → Option Wait → Within
  step_by held wait = if held then within else with_change within (ended_if_over whole machine wait)

  -- a call that is not held waits for the signals that it names
  names_all : (wait : Wait) → (machine.stopped || machine.interrupted) ≡ false → machine.wait ≡ Some wait → accepts whole machine ≡ accepts_by machine (Some wait)
  names_all wait free is =
      ap (λ (w : Option Wait). list_any (λ (signal : Sig). pends machine.kernel.signals signal) (awaited_by machine w)) is
      ∙ ap (λ (b : Bool). list_any (λ (signal : Sig). pends machine.kernel.signals signal) (if b then [] else named_signals machine.memory wait))
      (or_parts machine.stopped machine.interrupted free).1

  accepted_by : (held : Bool) (wait : Option Wait) → (machine.stopped || machine.interrupted) ≡ held → machine.wait ≡ wait → (not held && accepts_by machine wait) ≡ true
      → step_by held wait ≡ ended_wait false Accepted within wait
  accepted_by true wait is same some = absurd cc
  accepted_by false None is same some = absurd cc
  accepted_by false (Some wait) is same some =
      ap (λ (b : Bool). with_change within (if b then ended_by whole Accepted wait machine
      else (if is_over_at machine.kernel.clock wait.deadline then ended_by whole Due wait machine else no_change machine)))
      (names_all wait is same ∙ some)

  due_by : (held : Bool) (wait : Option Wait) → (machine.stopped || machine.interrupted) ≡ held → machine.wait ≡ wait → (not held && accepts_by machine wait) ≡ false
      → (not held && is_over_at machine.kernel.clock (deadline_in wait)) ≡ true → step_by held wait ≡ ended_wait false Due within wait
  due_by true wait is same none over = absurd cc
  due_by false None is same none over = absurd cc
  due_by false (Some wait) is same none over =
      ap (λ (b : Bool). with_change within (if b then ended_by whole Accepted wait machine
      else (if is_over_at machine.kernel.clock wait.deadline then ended_by whole Due wait machine else no_change machine)))
      (names_all wait is same ∙ none)
      ∙ ap (λ (b : Bool). with_change within (if b then ended_by whole Due wait machine else no_change machine)) over

  stays : with_change within (no_change machine) ≡ within
  stays = ap (λ (e : List Event). record within { events = e }) (append-nil within.events)

  waits_by : (held : Bool) (wait : Option Wait) → (machine.stopped || machine.interrupted) ≡ held → machine.wait ≡ wait → (not held && accepts_by machine wait) ≡ false
      → (not held && is_over_at machine.kernel.clock (deadline_in wait)) ≡ false → step_by held wait ≡ within
  waits_by true wait is same none over = refl
  waits_by false None is same none over = stays
  waits_by false (Some wait) is same none over =
      ap (λ (b : Bool). with_change within (if b then ended_by whole Accepted wait machine
      else (if is_over_at machine.kernel.clock wait.deadline then ended_by whole Due wait machine else no_change machine)))
      (names_all wait is same ∙ none)
      ∙ ap (λ (b : Bool). with_change within (if b then ended_by whole Due wait machine else no_change machine)) over
      ∙ stays

  pub accepted : wakes_for machine ≡ true → second_step whole within ≡ ended_wait false Accepted within machine.wait
  accepted some = accepted_by (machine.stopped || machine.interrupted) machine.wait refl refl some

  pub due : wakes_for machine ≡ false → wakes machine.kernel.clock machine ≡ true → second_step whole within ≡ ended_wait false Due within machine.wait
  due none over = due_by (machine.stopped || machine.interrupted) machine.wait refl refl none over

  pub waits : wakes_for machine ≡ false → wakes machine.kernel.clock machine ≡ false → second_step whole within ≡ within
  waits none over = waits_by (machine.stopped || machine.interrupted) machine.wait refl refl none over

-- The step behind a look

pub woken_so : {A : Type 0} (result : Result A Stop) (old middle new : ProcessState) (part : Within → Within) (before between after : Contents) → between ≡ before
    → within_now middle ≡ within_now old → second_step whole (within_now old) ≡ part (within_now old) → Takes part result middle new between after
    → Takes (second_step whole) result old new before after
woken_so result old middle new part before between after rest same is takes = λ left told.
    let done = takes left (ap (λ (c : Contents). c.left) rest ∙ told) in (
      done.0 ∙ rest,
      on_ok result (within_now new ≡ part (within_now middle)) (within_now new ≡ second_step whole (within_now old)) (λ e. e ∙ ap part same ∙ sym is) done.1,
    )

-- A round of a delivery leaves less to come, or it is the last.
use Rattle.std.proofs.Common.{◌≡◌, ◌⊎◌, inl, inr, ℕ, ◌+◌, ◌*◌, ◌<◌, ◌≤◌, Bool, true, false, List, [], ◌∷◌, refl, sym, ap, ◌∙◌, arith, Option, Some, None}
use Rattle.std.specs.Prelude.{◌==◌, ◌&&◌, ◌||◌, not, find, is_none, is_some, length, if◌then◌else◌}
use Rattle.guest_space.specs.Memory.{Memory}
use Rattle.kernel_core.specs.NameCalls.{is_empty_list}
use Rattle.kernel_core.specs.declared.event.Delivery.TheVariants as deliveries
use Rattle.kernel_core.specs.declared.event.Event.TheVariants as events
use Rattle.kernel_core.specs.declared.signal.Sig.{Sig}
use Rattle.kernel_model.specs.Shared.{Info}
use Rattle.kernel_model.specs.SignalRows.{action_at, after_action, default_handler, ignores, is_stop, is_unblockable, no_action, pending_at, pends, with_mask, with_pending, with_signals}
use Rattle.kernel_model.specs.SignalSets.{has, place, union}
use Rattle.kernel_model.specs.State.{Kernel, Signals}
use Rattle.kernel_model.specs.declared.signal.Action.{Action}
use Rattle.o32_model.specs.GuestBytes.{is_storable}
use Rattle.o32_model.specs.Suspending.{all_signals}
use Rattle.o32_model.specs.declared.wait.Cause.TheVariants.{Handler}
use Rattle.o32_model.specs.declared.wait.Close.{Close}
use Rattle.o32_model.specs.declared.wait.Close.TheVariants as closes
use Rattle.o32_model.specs.declared.wait.Wait.{Wait}
use Rattle.o32_turns.specs.Closing.{closed, unwaited, wait_over}
use Rattle.o32_turns.specs.Delivering.{by_default, delivered, fault_delivered, fault_taken, has_handler, is_delivered, next_signal, next_taken, round_by, signal_taken, stops, used_up}
use Rattle.o32_turns.specs.Handling.{Framed, begun, entered_by, entering, faults, frame_fault, handled, handling, is_segv, killed, not_entered, own_mask, wait_left_by, without_action}
use Rattle.o32_turns.specs.Machine.{Ends, Machine, Within, happens, with_machine}
use Rattle.turn_laws.proofs.Sums.{find_passes, set_less, set_none, total}

-- What is still to come: each signal that pends makes a round and at most a fault of its frame, a fault one, or two where it is no SIGSEGV.

abbrev pub weight_of : Bool → ℕ
weight_of segv = if segv then 1 else 2

abbrev pub weight : Option Info → ℕ
weight None = 0
weight (Some info) = weight_of (is_segv info.sig)

abbrev pub to_come : Within → ℕ
to_come within = 2 * total within.machine.kernel.signals + weight within.machine.fault

abbrev pub Less : ℕ → Within → Type 0
Less bound within = (is_delivered within ≡ true) ⊎ (to_come within < bound)

-- how a wait ends by a handler lets no more pend
abbrev pub KeepsFew : Ends → Type 0
KeepsFew ended = (restarts : Bool) (wait : Wait) (kernel : Kernel) (memory : Memory) → total (ended restarts wait Handler kernel memory).kernel.signals ≤ total kernel.signals

more : (a b : ℕ) (within : Within) → a ≤ b → Less a within → Less b within
more a b within le (inl done) = inl done
more a b within le (inr less) = inr (omega (arith, le, less))

pub some_weight : (segv : Bool) → (1 ≤ weight_of segv) × (weight_of segv ≤ 2)
some_weight true = (omega arith, omega arith)
some_weight false = (omega arith, omega arith)

or_true : (b : Bool) → (b || true) ≡ true
or_true true = refl
or_true false = refl

-- A wait that a handler ends

closed_kernel : (wait : Wait) (close : Close) (machine : Machine) → ((closed wait close machine).machine.kernel ≡ machine.kernel) × ((closed wait close machine).machine.fault ≡ machine.fault)
closed_kernel wait (closes.Value value) machine = (refl, refl)
closed_kernel wait (closes.Error error) machine = (refl, refl)
closed_kernel wait closes.Again machine = (refl, refl)
closed_kernel wait closes.Restart machine = (refl, refl)

module _ (ended : Ends) (keeps : KeepsFew ended) where
  left_fault : (action : Action) (wait : Option Wait) (within : Within) → (wait_left_by ended action wait within).machine.fault ≡ within.machine.fault
  left_fault action None within = refl
  left_fault action (Some wait) within =
      let end = ended action.flags.restart wait Handler within.machine.kernel within.machine.memory in
      (closed_kernel wait end.close (unwaited within.machine end)).1

  left_total : (action : Action) (wait : Option Wait) (within : Within)
      → total (wait_left_by ended action wait within).machine.kernel.signals ≤ total within.machine.kernel.signals
  left_total action None within = omega arith
  left_total action (Some wait) within =
      let end = ended action.flags.restart wait Handler within.machine.kernel within.machine.memory in
      omega (arith, ap (λ (k : Kernel). total k.signals) (closed_kernel wait end.close (unwaited within.machine end)).0, keeps action.flags.restart wait within.machine.kernel within.machine.memory)

-- A handler's mask and action

module _ (kernel : Kernel) (signal : Sig) (action : Action) where
  abbrev masked : Kernel
  masked = with_mask kernel (union kernel.signals.mask (union action.mask (own_mask signal action)))

  by_ignored : (ignored : Bool) (changed : Signals) → changed.pending ≡ kernel.signals.pending
      → total (if ignored then with_pending changed signal [] else changed) ≤ total kernel.signals
  by_ignored true changed same = omega (arith, set_none changed.pending (place signal), ap (λ (p : List (List Info)). total (record changed { pending = p })) same)
  by_ignored false changed same = omega (arith, ap (λ (p : List (List Info)). total (record changed { pending = p })) same)

  without_total : (fixed : Bool) → total (if fixed then masked else with_signals masked (after_action masked.signals signal no_action)).signals ≤ total kernel.signals
  without_total true = omega arith
  without_total false = by_ignored (ignores signal no_action) _ refl

  handling_by : (reset : Bool) → total (if reset then without_action signal masked else masked).signals ≤ total kernel.signals
  handling_by true = without_total (is_unblockable signal)
  handling_by false = omega arith

  handling_total : total (handling kernel signal action).signals ≤ total kernel.signals
  handling_total = handling_by action.flags.resethand

-- A handler begins

module _ (within : Within) (info : Info) (action : Action) (none : within.machine.fault ≡ None) where
  abbrev pending : ℕ
  pending = total within.machine.kernel.signals

  no_frame : (segv : Bool) → Less (2 * pending + weight_of segv) (if segv then killed info.sig within else faults frame_fault within)
  no_frame true = inl refl
  no_frame false = inr (omega arith)

  frame_by : (framed : Framed) (stored : Bool) → Less (2 * pending + weight_of (is_segv info.sig)) (if stored then entering within info action framed else not_entered info within)
  frame_by framed true =
      inr (omega (arith, handling_total within.machine.kernel info.sig action, ap weight none, some_weight (is_segv info.sig)))
  frame_by framed false = no_frame (is_segv info.sig)

  entered_less : (framed : Framed) → Less (2 * pending + weight_of (is_segv info.sig)) (entered_by within info action framed)
  entered_less framed = frame_by framed (is_storable within.machine.memory framed.entry.frame (length framed.bytes))

  begun_less : Less (2 * pending + weight_of (is_segv info.sig)) (begun within info action)
  begun_less = entered_less _

-- A delivery

module _ (ended : Ends) (keeps : KeepsFew ended) where
  handled_less : (within : Within) (info : Info) (action : Action) → within.machine.fault ≡ None
      → Less (2 * total within.machine.kernel.signals + weight_of (is_segv info.sig)) (handled ended within info action)
  handled_less within info action none =
      let left = wait_left_by ended action within.machine.wait within in
      let went = happens left (events.Signal info.sig deliveries.Handler) in
      more (2 * total left.machine.kernel.signals + weight_of (is_segv info.sig)) (2 * total within.machine.kernel.signals + weight_of (is_segv info.sig)) (handled ended within info action)
      (omega (arith, left_total ended keeps action within.machine.wait within))
      (begun_less went info action (left_fault ended keeps action within.machine.wait within ∙ none))

  -- of a signal that was used up
  module _ (within : Within) (info : Info) (action : Action) (none : within.machine.fault ≡ None) where
    abbrev bound : ℕ
    bound = 2 * total within.machine.kernel.signals + 2

    stopped_less : (is : Bool) → Less bound (if is then stops info.sig within else killed info.sig within)
    stopped_less true =
        let rest = is_none within.machine.fault && is_none (next_signal within.machine.kernel.signals) in
        inl (ap (λ (b : Bool). b || rest) (or_true (is_some within.over)))
    stopped_less false = inl refl

    acted_less : (default : Bool) → Less bound (if default then by_default info.sig within else handled ended within info action)
    acted_less true = stopped_less (is_stop info.sig)
    acted_less false =
        more (2 * total within.machine.kernel.signals + weight_of (is_segv info.sig)) bound (handled ended within info action)
        (omega (arith, some_weight (is_segv info.sig))) (handled_less within info action none)

    delivered_by : (ignored : Bool)
        → Less bound (if ignored then happens within (events.Signal info.sig deliveries.Ignored)
        else (if action.handler == default_handler then by_default info.sig within else handled ended within info action))
    delivered_by true = inr (omega (arith, ap weight none))
    delivered_by false = acted_less (action.handler == default_handler)

    delivered_less : Less bound (delivered ended within info action)
    delivered_less = delivered_by (ignores info.sig action)

  fault_by : (within : Within) (info : Info) (action : Action) (handles : Bool) → within.machine.fault ≡ None
      → Less (2 * total within.machine.kernel.signals + weight_of (is_segv info.sig)) (if handles then handled ended within info action else killed info.sig within)
  fault_by within info action true none = handled_less within info action none
  fault_by within info action false none = inl refl

  -- One round

  module _ (within : Within) (going : is_delivered within ≡ false) where
    abbrev signals : Signals
    signals = within.machine.kernel.signals

    next_passes : (signal : Sig) → next_signal signals ≡ Some signal → pends signals signal ≡ true
    next_passes signal is = left_true (pends signals signal) (not (has signals.mask signal)) (find_passes (λ (s : Sig). pends signals s && not (has signals.mask s)) all_signals signal is) where
      left_true : (a b : Bool) → (a && b) ≡ true → a ≡ true
      left_true true b both = refl
      left_true false b both = absurd cc

    list_less : (signal : Sig) (infos : List Info) → within.machine.fault ≡ None → pending_at signals signal ≡ infos → pends signals signal ≡ true
        → Less (2 * total signals) (signal_taken ended within signal infos)
    list_less signal [] none is some = absurd (let empty : pends signals signal ≡ false = ap (λ (i : List Info). not (is_empty_list i)) is in let wrong : true ≡ false = sym some ∙ empty in cc)
    list_less signal (info ∷ rest) none is some =
        let used = with_machine within (used_up within.machine signal rest) in
        more (2 * total used.machine.kernel.signals + 2) (2 * total signals) (signal_taken ended within signal (info ∷ rest))
        (omega (arith, set_less signals.pending (place signal) info rest is))
        (delivered_less used info (action_at signals signal) none)

    next_less : (next : Option Sig) → within.machine.fault ≡ None → next_signal signals ≡ next → Less (2 * total signals) (next_taken ended within next)
    next_less None none is =
        absurd (
        let all : is_delivered within ≡ true =
        ap (λ (f : Option Info). is_some within.over || within.machine.stopped || (is_none f && is_none (next_signal signals))) none
        ∙ ap (λ (s : Option Sig). is_some within.over || within.machine.stopped || is_none s) is
        ∙ or_true (is_some within.over || within.machine.stopped) in
        let wrong : true ≡ false = sym all ∙ going in cc)
    next_less (Some signal) none is = list_less signal (pending_at signals signal) none refl (next_passes signal is)

    round_by_less : (fault : Option Info) → within.machine.fault ≡ fault → Less (2 * total signals + weight fault) (round_by ended within fault)
    round_by_less None is = more (2 * total signals) (2 * total signals + 0) (round_by ended within None) (omega arith) (next_less (next_signal signals) is refl)
    round_by_less (Some info) is =
        let cleared = with_machine within (record within.machine { fault = None }) in
        fault_by cleared info (action_at signals info.sig) (not (has signals.mask info.sig) && has_handler (action_at signals info.sig)) refl

    pub round_less : Less (to_come within) (round_by ended within within.machine.fault)
    round_less = round_by_less within.machine.fault refl

    -- and something is to come

    list_some : (signal : Sig) (infos : List Info) → pending_at signals signal ≡ infos → pends signals signal ≡ true → 1 ≤ total signals
    list_some signal [] is some = absurd (let empty : pends signals signal ≡ false = ap (λ (i : List Info). not (is_empty_list i)) is in let wrong : true ≡ false = sym some ∙ empty in cc)
    list_some signal (info ∷ rest) is some = omega (arith, set_less signals.pending (place signal) info rest is)

    next_some : (next : Option Sig) → within.machine.fault ≡ None → next_signal signals ≡ next → 1 ≤ total signals
    next_some None none is =
        absurd (
        let all : is_delivered within ≡ true =
        ap (λ (f : Option Info). is_some within.over || within.machine.stopped || (is_none f && is_none (next_signal signals))) none
        ∙ ap (λ (s : Option Sig). is_some within.over || within.machine.stopped || is_none s) is
        ∙ or_true (is_some within.over || within.machine.stopped) in
        let wrong : true ≡ false = sym all ∙ going in cc)
    next_some (Some signal) none is = list_some signal (pending_at signals signal) refl (next_passes signal is)

    some_by : (fault : Option Info) → within.machine.fault ≡ fault → 1 ≤ 2 * total signals + weight fault
    some_by None is = omega (arith, next_some (next_signal signals) is refl)
    some_by (Some info) is = omega (arith, some_weight (is_segv info.sig))

    pub some_to_come : 1 ≤ to_come within
    some_to_come = some_by within.machine.fault refl

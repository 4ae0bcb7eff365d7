-- Which signal is delivered next, and what that does (signal(7), 'Signal dispositions'; sigaction(2)). That a fault goes first, that signals go
-- by rising numbers of the program, and that a stop ends the delivery is this project's own.
use Rattle.std.specs.Prelude.{ℕ, zero, suc, ◌+◌, ◌*◌, ◌==◌, Bool, true, ◌&&◌, ◌||◌, not, List, [], ◌∷◌, find, Option, Some, None, is_none, is_some, if◌then◌else◌}
use Rattle.kernel_core.specs.declared.event.Delivery.TheVariants as deliveries
use Rattle.kernel_core.specs.declared.event.Event.TheVariants as events
use Rattle.kernel_core.specs.declared.signal.Sig.{Sig}
use Rattle.kernel_model.specs.Shared.{Info}
use Rattle.kernel_model.specs.SignalRows.{action_at, default_handler, ignore_handler, ignores, is_stop, pending_at, pends, queue_limit, with_pending, with_signals}
use Rattle.kernel_model.specs.SignalSets.{has, standard_count}
use Rattle.kernel_model.specs.State.{Signals}
use Rattle.kernel_model.specs.declared.signal.Action.{Action}
use Rattle.o32_turns.specs.Handling.{handled, killed}
use Rattle.o32_turns.specs.Machine.{Ends, Machine, Within, happens, with_machine}
use Rattle.o32_model.specs.Suspending.{all_signals}

-- A signal that was sent

abbrev pub stops : Sig → Within → Within
stops signal within =
    let machine = within.machine in
    happens (with_machine within (record machine { stopped = true; interrupted = is_some machine.wait })) (events.Signal signal deliveries.Stop)

abbrev pub by_default : Sig → Within → Within
by_default signal within = if is_stop signal then stops signal within else killed signal within

abbrev pub delivered : Ends → Within → Info → Action → Within
delivered ended within info action =
    if ignores info.sig action then happens within (events.Signal info.sig deliveries.Ignored)
    else (if action.handler == default_handler then by_default info.sig within
    else handled ended within info action)

-- A fault, whose signal kills where it is blocked or ignored

abbrev pub has_handler : Action → Bool
has_handler action = not (action.handler == default_handler) && not (action.handler == ignore_handler)

abbrev pub fault_delivered : Ends → Within → Info → Action → Within
fault_delivered ended within info action =
    if not (has within.machine.kernel.signals.mask info.sig) && has_handler action then handled ended within info action
    else killed info.sig within

-- One round: the fault, or the unblocked signal of the lowest number that pends, is used up and delivered

abbrev pub next_signal : Signals → Option Sig
next_signal signals = find (λ signal. pends signals signal && not (has signals.mask signal)) all_signals

abbrev pub used_up : Machine → Sig → List Info → Machine
used_up machine signal rest = record machine { kernel = with_signals machine.kernel (with_pending machine.kernel.signals signal rest) }

abbrev pub signal_taken : Ends → Within → Sig → List Info → Within
signal_taken ended within signal [] = within
signal_taken ended within signal (info ∷ rest) =
    delivered ended (with_machine within (used_up within.machine signal rest)) info (action_at within.machine.kernel.signals signal)

abbrev pub next_taken : Ends → Within → Option Sig → Within
next_taken ended within None = within
next_taken ended within (Some signal) = signal_taken ended within signal (pending_at within.machine.kernel.signals signal)

abbrev pub fault_taken : Ends → Within → Info → Within
fault_taken ended within info =
    let machine = within.machine in
    fault_delivered ended (with_machine within (record machine { fault = None })) info (action_at machine.kernel.signals info.sig)

abbrev pub round_by : Ends → Within → Option Info → Within
round_by ended within (Some info) = fault_taken ended within info
round_by ended within None = next_taken ended within (next_signal within.machine.kernel.signals)

-- Rounds, until none is left or the process was stopped or killed

abbrev pub is_delivered : Within → Bool
is_delivered within =
    is_some within.over || within.machine.stopped
    || (is_none within.machine.fault && is_none (next_signal within.machine.kernel.signals))

unfoldable pub rounds : Ends → ℕ → Within → Within
rounds ended zero within = within
rounds ended (suc more) within =
    if is_delivered within then within else rounds ended more (round_by ended within within.machine.fault)

-- Each uses up a fault or a signal that pends, and a signal makes at most one fault: there are so many at most, since of 97 signals together
-- 1,024 pend at most, and of each of the 31 others one.
abbrev pub most_rounds : ℕ
most_rounds = 2 * (queue_limit + standard_count) + 2

-- nothing is delivered between a branch and its slot
abbrev pub deliver : Ends → Within → Within
deliver ended within = if is_some within.machine.processor.slot then within else rounds ended most_rounds within

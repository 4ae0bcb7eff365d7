-- How a turn ends the process: by an exit or a signal; or it finds the process blocked, and then sends and takes nothing.
use Rattle.std.proofs.Common.{◌≡◌, ℕ, zero, suc, Bool, true, false, List, [], ◌∷◌, length, Option, Some, None, refl, sym, ◌∙◌, subst}
use Rattle.std.specs.Prelude.{⊤, ◌==◌, ◌&&◌, ◌||◌, not, nat_le, is_some, if◌then◌else◌}
use Rattle.kernel_core.specs.declared.event.Delivery.TheVariants as deliveries
use Rattle.kernel_core.specs.declared.event.Event.TheVariants as events
use Rattle.kernel_core.specs.declared.finish.Finish.{Finish}
use Rattle.kernel_core.specs.declared.finish.Finish.TheVariants.{Exited, Killed, Budget, Blocked}
use Rattle.kernel_core.specs.declared.signal.Sig.{Sig}
use Rattle.kernel_model.specs.Pipes.{nothing}
use Rattle.kernel_model.specs.Shared.{Info}
use Rattle.kernel_model.specs.SignalRows.{action_at, default_handler, ignores, is_stop, pending_at}
use Rattle.kernel_model.specs.SignalSets.{has}
use Rattle.kernel_model.specs.declared.signal.Action.{Action}
use Rattle.mips_exec.specs.Step.{step_of}
use Rattle.mips_exec.specs.declared.execution.Stepped.{Stepped}
use Rattle.mips_exec.specs.declared.execution.Stepped.TheVariants.{Next, Syscall, Fault}
use Rattle.o32_model.specs.GuestBytes.{is_storable}
use Rattle.o32_turns.specs.Closing.{whole_end}
use Rattle.o32_turns.specs.Delivering.{by_default, deliver, delivered, fault_delivered, has_handler, is_delivered, most_rounds, next_signal, next_taken, round_by, rounds, signal_taken, stops, used_up}
use Rattle.o32_turns.specs.Handling.{Framed, entered_by, entering, faults, frame_fault, frame_for, handled, is_segv, killed, not_entered, saved_or, wait_left_by}
use Rattle.o32_turns.specs.Instruction.{after_outcome, after_step, behind, executed, guest_of, seen_of, stepped}
use Rattle.o32_turns.specs.Machine.{Ends as WaitEnds, Machine, Rules, Turn, Within, begin, happens, turn, with_change, with_machine}
use Rattle.o32_turns.specs.Posting.{event_info, events_posted, sent_to}
use Rattle.o32_turns.specs.Turn.{continued, ended_if_over, fifth_or_sixth, fifth_step, first_step, fourth_step, jumped, next_for, second_step, sixth_step, third_step, turn_of, whole}
use Rattle.o32_model.specs.declared.call_words.CallWords.{CallWords}
use Rattle.o32_model.specs.declared.outcome.Outcome.{Outcome}
use Rattle.o32_model.specs.declared.outcome.Outcome.TheVariants as outcomes
use Rattle.o32_model.specs.declared.wait.Wait.{Wait}
use Rattle.schedule.specs.declared.events.Due.{Due}

abbrev pub EndsSo : List ℕ → Turn → Finish → Type 0
EndsSo left turn (Exited status) = ⊤
EndsSo left turn (Killed signal) = ⊤
EndsSo left turn Budget = ⊥
EndsSo left turn Blocked = (turn.sent ≡ nothing) × (turn.left ≡ left)

abbrev Ends : List ℕ → Turn → Type 0
Ends left turn = (finish : Finish) → turn.over ≡ Some finish → EndsSo left turn finish

-- The first two steps end nothing

either_over : (test : Bool) (one other : Within) (over : Option Finish) → one.over ≡ over → other.over ≡ over → (if test then one else other).over ≡ over
either_over true one other over first second = first
either_over false one other over first second = second

sent_over : (rules : Rules) (within : Within) (info : Info) → (sent_to rules within info).over ≡ within.over
sent_over rules within info = either_over _ _ _ within.over refl refl

events_over : (rules : Rules) (coming : List Due) (within : Within) → (events_posted rules coming within).over ≡ within.over
events_over rules [] within = refl
events_over rules (due ∷ more) within =
    either_over (nat_le due.time within.machine.kernel.clock) (events_posted rules more (sent_to rules within (event_info due))) _ within.over
    (events_over rules more (sent_to rules within (event_info due)) ∙ sent_over rules within (event_info due)) refl

second_over : (rules : Rules) (machine : Machine) → (second_step rules (first_step rules machine)).over ≡ None
second_over rules machine =
    let first = first_step rules machine in
    either_over (first.machine.stopped || first.machine.interrupted) first (with_change first (ended_if_over rules first.machine first.machine.wait)) None
    (events_over rules machine.coming (begin machine)) (events_over rules machine.coming (begin machine))

-- The third kills at most

abbrev IsKillOrNone : Option Finish → Type 0
IsKillOrNone None = ⊤
IsKillOrNone (Some (Killed signal)) = ⊤
IsKillOrNone (Some (Exited status)) = ⊥
IsKillOrNone (Some Budget) = ⊥
IsKillOrNone (Some Blocked) = ⊥

either_kills : (test : Bool) (one other : Within) → IsKillOrNone one.over → IsKillOrNone other.over → IsKillOrNone (if test then one else other).over
either_kills true one other first second = first
either_kills false one other first second = second

-- a handler begins, or its frame can't be written

not_entered_kills : (info : Info) (within : Within) → IsKillOrNone within.over → IsKillOrNone (not_entered info within).over
not_entered_kills info within none = either_kills (is_segv info.sig) (killed info.sig within) (faults frame_fault within) tt none

left_over : (ended : WaitEnds) (action : Action) (wait : Option Wait) (within : Within) → (wait_left_by ended action wait within).over ≡ within.over
left_over ended action None within = refl
left_over ended action (Some wait) within = refl

entered_kills : (within : Within) (info : Info) (action : Action) (framed : Framed) → IsKillOrNone within.over → IsKillOrNone (entered_by within info action framed).over
entered_kills within info action framed none =
    either_kills (is_storable within.machine.memory framed.entry.frame (length framed.bytes)) (entering within info action framed) (not_entered info within) none
    (not_entered_kills info within none)

handled_kills : (ended : WaitEnds) (within : Within) (info : Info) (action : Action) → IsKillOrNone within.over → IsKillOrNone (handled ended within info action).over
handled_kills ended within info action none =
    let left = happens (wait_left_by ended action within.machine.wait within) (events.Signal info.sig deliveries.Handler) in
    entered_kills left info action (frame_for left.machine.kernel left.machine.processor info action (saved_or left.saved left.machine.kernel.signals.mask))
    (subst IsKillOrNone (sym (left_over ended action within.machine.wait within)) none)

-- a signal or a fault is delivered

default_kills : (signal : Sig) (within : Within) → IsKillOrNone within.over → IsKillOrNone (by_default signal within).over
default_kills signal within none = either_kills (is_stop signal) (stops signal within) (killed signal within) none tt

delivered_kills : (ended : WaitEnds) (within : Within) (info : Info) (action : Action) → IsKillOrNone within.over → IsKillOrNone (delivered ended within info action).over
delivered_kills ended within info action none =
    let rest = if action.handler == default_handler then by_default info.sig within else handled ended within info action in
    either_kills (ignores info.sig action) (happens within (events.Signal info.sig deliveries.Ignored)) rest none
    (either_kills (action.handler == default_handler) (by_default info.sig within) (handled ended within info action)
    (default_kills info.sig within none) (handled_kills ended within info action none))

fault_kills : (ended : WaitEnds) (within : Within) (info : Info) (action : Action) → IsKillOrNone within.over → IsKillOrNone (fault_delivered ended within info action).over
fault_kills ended within info action none =
    either_kills (not (has within.machine.kernel.signals.mask info.sig) && has_handler action) (handled ended within info action) (killed info.sig within)
    (handled_kills ended within info action none) tt

taken_kills : (ended : WaitEnds) (within : Within) (signal : Sig) (infos : List Info) → IsKillOrNone within.over → IsKillOrNone (signal_taken ended within signal infos).over
taken_kills ended within signal [] none = none
taken_kills ended within signal (info ∷ rest) none =
    delivered_kills ended (with_machine within (used_up within.machine signal rest)) info (action_at within.machine.kernel.signals signal) none

next_kills : (ended : WaitEnds) (within : Within) (signal : Option Sig) → IsKillOrNone within.over → IsKillOrNone (next_taken ended within signal).over
next_kills ended within None none = none
next_kills ended within (Some signal) none = taken_kills ended within signal (pending_at within.machine.kernel.signals signal) none

round_kills : (ended : WaitEnds) (within : Within) (fault : Option Info) → IsKillOrNone within.over → IsKillOrNone (round_by ended within fault).over
round_kills ended within None none = next_kills ended within (next_signal within.machine.kernel.signals) none
round_kills ended within (Some info) none =
    fault_kills ended (with_machine within (record within.machine { fault = None })) info (action_at within.machine.kernel.signals info.sig) none

rounds_kill : (ended : WaitEnds) (count : ℕ) (within : Within) → IsKillOrNone within.over → IsKillOrNone (rounds ended count within).over
unfolding rounds
rounds_kill ended zero within none = none
rounds_kill ended (suc more) within none =
    either_kills (is_delivered within) within (rounds ended more (round_by ended within within.machine.fault)) none
    (rounds_kill ended more (round_by ended within within.machine.fault) (round_kills ended within within.machine.fault none))

delivery_kills : (within : Within) → IsKillOrNone within.over → IsKillOrNone (deliver whole_end within).over
delivery_kills within none =
    either_kills (is_some within.machine.processor.slot) within (rounds whole_end most_rounds within) none (rounds_kill whole_end most_rounds within none)

third_over : (stopped : Bool) (within : Within) → IsKillOrNone within.over → IsKillOrNone (if stopped then within else whole.deliver within).over
third_over true within none = none
third_over false within none = delivery_kills within none

killed_ends : (left : List ℕ) (turn : Turn) (finish : Finish) → IsKillOrNone (Some finish) → EndsSo left turn finish
killed_ends left turn (Exited status) kill = tt
killed_ends left turn (Killed signal) kill = tt
killed_ends left turn Budget kill = absurd kill
killed_ends left turn Blocked kill = absurd kill

-- The fifth finds the process blocked at most

fifth_ends : (time : Option ℕ) (within : Within) (left : List ℕ) → within.over ≡ None → Ends left (turn (jumped time within) left nothing)
fifth_ends None within left none = λ finish over.
    let same : Blocked ≡ finish = cc in subst (λ (f : Finish). EndsSo left (turn (jumped None within) left nothing) f) same (refl, refl)
fifth_ends (Some time) within left none = λ finish over. absurd cc

-- The sixth exits at most

abbrev IsExit : Finish → Type 0
IsExit (Exited status) = ⊤
IsExit (Killed signal) = ⊥
IsExit Budget = ⊥
IsExit Blocked = ⊥

exit_of_outcome : (words : CallWords) (machine : Machine) (outcome : Outcome) (finish : Finish) → (after_outcome words machine outcome).over ≡ Some finish → IsExit finish
exit_of_outcome words machine (outcomes.Value value) finish over = absurd cc
exit_of_outcome words machine (outcomes.Pair first second) finish over = absurd cc
exit_of_outcome words machine (outcomes.Error error) finish over = absurd cc
exit_of_outcome words machine (outcomes.Sleep wait) finish over = absurd cc
exit_of_outcome words machine outcomes.Frame finish over = absurd cc
exit_of_outcome words machine outcomes.BadFrame finish over = absurd cc
exit_of_outcome words machine (outcomes.Exit status) finish over = subst IsExit (let same : Exited status ≡ finish = cc in same) tt

exit_of_step : (rules : Rules) (machine : Machine) (came : Stepped) (left : List ℕ) (finish : Finish) → (after_step rules machine came left).over ≡ Some finish → IsExit finish
exit_of_step rules machine Next left finish over = absurd cc
exit_of_step rules machine Syscall left finish over =
    let guest = guest_of machine.processor machine.memory in
    let step = rules.call (seen_of machine) machine.kernel guest left in
    exit_of_outcome guest.words (behind machine guest.words step) step.outcome finish over
exit_of_step rules machine (Fault signal code address) left finish over = absurd cc

exit_ends : (left : List ℕ) (turn : Turn) (finish : Finish) → IsExit finish → EndsSo left turn finish
exit_ends left turn (Exited status) exit = tt
exit_ends left turn (Killed signal) exit = absurd exit
exit_ends left turn Budget exit = absurd exit
exit_ends left turn Blocked exit = absurd exit

sixth_ends : (rules : Rules) (quantum : ℕ) (machine : Machine) (left : List ℕ) (turn : Turn) (finish : Finish) → (executed rules quantum machine left).over ≡ Some finish → EndsSo left turn finish
sixth_ends rules quantum machine left turn finish over =
    let step = step_of machine.processor machine.memory in
    exit_ends left turn finish (exit_of_step rules (stepped machine step.processor step.memory) step.came left finish over)

-- A turn

none_of : (over : Option Finish) → is_some over ≡ false → over ≡ None
none_of None is = refl
none_of (Some finish) is = absurd cc

last_ends : (quantum : ℕ) (within : Within) (left : List ℕ) (asleep : Bool) → within.over ≡ None →
    Ends left (if asleep then fifth_step within left else sixth_step whole quantum within left)
last_ends quantum within left true none = fifth_ends (next_for within.machine) within left none
last_ends quantum within left false none = λ finish over. sixth_ends whole quantum within.machine left (sixth_step whole quantum within left) finish over

rest_ends : (quantum : ℕ) (within : Within) (left : List ℕ) (over : Bool) → is_some within.over ≡ over → IsKillOrNone within.over →
    Ends left (if over then turn within left nothing else fifth_or_sixth whole quantum (fourth_step whole within) left)
rest_ends quantum within left true is kill = λ finish over. killed_ends left (turn within left nothing) finish (subst IsKillOrNone over kill)
rest_ends quantum within left false is kill =
    let none : within.over ≡ None = none_of within.over is in
    let machine = within.machine in
    let fourth = fourth_step whole within in
    last_ends quantum fourth left (fourth.machine.stopped || is_some fourth.machine.wait)
    (either_over (machine.interrupted && not machine.stopped) (with_change within (continued whole machine machine.wait)) within None none none)

pub turn_ends : (quantum : ℕ) (machine : Machine) (left : List ℕ) (finish : Finish) → (turn_of quantum machine left).over ≡ Some finish → EndsSo left (turn_of quantum machine left) finish
unfolding turn_of
turn_ends quantum machine left =
    let second = second_step whole (first_step whole machine) in
    let third = third_step whole second in
    let kill : IsKillOrNone second.over = subst IsKillOrNone (sym (second_over whole machine)) tt in
    rest_ends quantum third left (is_some third.over) refl (third_over second.machine.stopped second kill)

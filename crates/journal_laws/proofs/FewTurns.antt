-- No part of a turn lets more signals pend than there may; so its rounds of delivery are enough.
use Rattle.std.proofs.Common.{◌≡◌, ℕ, zero, suc, ◌+◌, ◌<◌, ◌≤◌, ◌==◌, Bool, true, false, All, List, [], ◌∷◌, length, take, get_or, length-take, Option, Some, None, refl, sym, ap, subst, ◌∙◌, arith}
use Rattle.std.specs.Prelude.{◌&&◌, ◌||◌, not, is_some, nat_le, if◌then◌else◌}
use Rattle.std.proofs.lemmas.List.{get_or_default, get_or-take}
use Rattle.std.proofs.lemmas.List.Sums.{sum_by-le, sum_by-take-drop}
use Rattle.guest_space.specs.Memory.{Memory}
use Rattle.kernel_core.specs.declared.event.Delivery.TheVariants as deliveries
use Rattle.kernel_core.specs.declared.event.Event.TheVariants as events
use Rattle.kernel_core.specs.declared.finish.Finish.{Finish}
use Rattle.kernel_core.specs.declared.signal.Sig.{Sig}
use Rattle.kernel_core.specs.declared.signal.Sig.TheVariants as sigs
use Rattle.kernel_model.specs.Clock.{left_until}
use Rattle.kernel_model.specs.Shared.{Info}
use Rattle.kernel_model.specs.SignalRows.{action_at, after_action, default_handler, ignores, is_stop, is_unblockable, no_action, pending_at, queue_limit, with_mask, with_signals}
use Rattle.kernel_model.specs.SignalSets.{SignalSet, has, place, standard_count, union}
use Rattle.kernel_model.specs.State.{Kernel, Signals}
use Rattle.kernel_model.specs.declared.signal.Action.{Action}
use Rattle.mips_exec.specs.Step.{step_of}
use Rattle.mips_exec.specs.declared.cpu.Slot.{Slot}
use Rattle.mips_exec.specs.declared.execution.Stepped.{Stepped}
use Rattle.mips_exec.specs.declared.execution.Stepped.TheVariants.{Next, Syscall, Fault}
use Rattle.o32_model.specs.GuestBytes.{is_storable}
use Rattle.o32_model.specs.Results.{Piece}
use Rattle.o32_model.specs.SignalWaitEnds.{acceptance_ended, finding, signal_wait_ended}
use Rattle.o32_model.specs.Suspending.{rt_sigtimedwait_row}
use Rattle.o32_model.specs.Table.{machine_call}
use Rattle.o32_model.specs.TimeLeft.{LeftForm}
use Rattle.o32_model.specs.Times.{spec_bytes, val_bytes}
use Rattle.o32_model.specs.WaitEnds.{Sleeping, WaitEnd, entries_told, has_room, has_time, interrupted, interrupted_storing, limited_ended, poll_ended, sets_told, sleep_ended, sleep_interrupted, wait_ended, wait_word, with_left, with_old_mask}
use Rattle.o32_model.specs.declared.call_words.CallWords.{CallWords}
use Rattle.o32_model.specs.declared.outcome.Outcome.{Outcome}
use Rattle.o32_model.specs.declared.outcome.Outcome.TheVariants as outcomes
use Rattle.o32_model.specs.declared.wait.Cause.{Cause}
use Rattle.o32_model.specs.declared.wait.Cause.TheVariants.{Due, Accepted, Handler, Stopped}
use Rattle.o32_model.specs.declared.wait.Close.{Close}
use Rattle.o32_model.specs.declared.wait.Close.TheVariants as closes
use Rattle.o32_model.specs.declared.wait.Wait.{Wait}
use Rattle.o32_turns.specs.Closing.{closed, is_one_of, signal_waits, transfer_waits, unwaited, wait_over, whole_end}
use Rattle.o32_turns.specs.Delivering.{by_default, deliver, delivered, has_handler, is_delivered, most_rounds, next_signal, next_taken, round_by, rounds, signal_taken, stops, used_up}
use Rattle.o32_turns.specs.Handling.{begun, entering, faults, frame_fault, frame_for, handled, handling, is_segv, killed, not_entered, own_mask, saved_or, wait_left_by, without_action}
use Rattle.o32_turns.specs.Instruction.{after_outcome, after_step, behind, guest_of, seen_of, stepped}
use Rattle.o32_turns.specs.Machine.{Machine, Rules, Turn, Within, begin, happens, turn, with_machine}
use Rattle.o32_turns.specs.Posting.{event_info, events_posted, sent_to, waits_for}
use Rattle.o32_turns.specs.Runs.{Reached, is_blocked, reached, unless_blocked, unless_over}
use Rattle.o32_turns.specs.Turn.{accepts, continued, ended_by, ended_if_over, fifth_or_sixth, fifth_step, first_step, fourth_step, is_over_at, jumped, next_for, second_step, sixth_step, third_step, turn_of, whole}
use Rattle.schedule.specs.declared.events.Due.{Due as Coming}
use Rattle.turn_laws.proofs.Ending.{KeepsFew, some_weight, weight}
use Rattle.turn_laws.proofs.Enough.{enough}
use Rattle.turn_laws.proofs.Sums.{total}
use Rattle.journal_laws.proofs.FewCalls.{machine_few, result_null_few}
use Rattle.journal_laws.proofs.FewRows.{accept_few, action_few, advance_few}
use Rattle.journal_laws.proofs.Pending.{Few, FewPend, fewer_pend, post_few}

abbrev FewWithin : Within → Type 0
FewWithin within = Few within.machine.kernel

either_within : (test : Bool) (one other : Within) → FewWithin one → FewWithin other → FewWithin (if test then one else other)
either_within true one other first second = first
either_within false one other first second = second

-- What is due is posted

module _ (rules : Rules) where
  sent_few : (within : Within) (info : Info) → FewWithin within → FewWithin (sent_to rules within info)
  sent_few within info few =
      let posted = post_few within.machine.kernel.signals info (waits_for rules within.machine info.sig) few in
      either_within _ _ _ posted posted

  events_few : (coming : List Coming) (within : Within) → FewWithin within → FewWithin (events_posted rules coming within)
  events_few [] within few = few
  events_few (due ∷ more) within few =
      either_within (nat_le due.time within.machine.kernel.clock) (events_posted rules more (sent_to rules within (event_info due))) _
      (events_few more (sent_to rules within (event_info due)) (sent_few within (event_info due) few)) few

  first_few : (machine : Machine) → Few machine.kernel → FewWithin (first_step rules machine)
  first_few machine few =
      let within = events_posted rules machine.coming (begin machine) in
      advance_few within.machine.kernel within.machine.kernel.clock (waits_for rules within.machine sigs.Alrm) (events_few machine.coming (begin machine) few)

-- A wait ends

either_end : (test : Bool) (one other : WaitEnd) → Few one.kernel → Few other.kernel → Few (if test then one else other).kernel
either_end true one other first second = first
either_end false one other first second = second

mask_few : (mask : Option SignalSet) (kernel : Kernel) → Few kernel → Few (with_old_mask mask kernel)
mask_few None kernel few = few
mask_few (Some mask) kernel few = few

module _ (wait : Wait) (kernel : Kernel) (memory : Memory) (few : Few kernel) where
  old_mask : Few (with_old_mask wait.mask kernel)
  old_mask = mask_few wait.mask kernel few

  stored_few : (address : ℕ) (bytes : List ℕ) → Few (interrupted_storing address bytes kernel memory).kernel
  stored_few address bytes = either_end (is_storable memory address (length bytes)) _ _ few few

  sleep_few : (sleeping : Sleeping) (cause : Cause) (clock : ℕ) → Few (sleep_ended sleeping wait cause clock kernel memory).kernel
  sleep_few sleeping Due clock = few
  sleep_few sleeping Accepted clock = few
  sleep_few sleeping Handler clock =
      either_end (sleeping.relative && not (sleeping.address == 0)) _ _ (stored_few sleeping.address (spec_bytes (left_until clock wait.deadline))) few
  sleep_few sleeping Stopped clock = few

  poll_few : (cause : Cause) → Few (poll_ended wait cause kernel memory).kernel
  poll_few Due = few
  poll_few Accepted = few
  poll_few Handler = few
  poll_few Stopped = few

  left_few : (form : LeftForm) (clock : ℕ) (ended : WaitEnd) → Few ended.kernel → Few (with_left form wait clock memory ended).kernel
  left_few form clock ended of_end = either_end (has_time form && has_room form wait clock memory) _ ended of_end of_end

  limited_few : (form : LeftForm) (pieces : List Piece) (cause : Cause) (clock : ℕ) → Few (limited_ended form pieces wait cause clock kernel memory).kernel
  limited_few form pieces Due clock = left_few form clock _ old_mask
  limited_few form pieces Accepted clock = left_few form clock _ old_mask
  limited_few form pieces Handler clock = left_few form clock (interrupted kernel memory) few
  limited_few form pieces Stopped clock = left_few form clock _ old_mask

  timed_few : (cause : Cause) (clock : ℕ) → Few (wait_ended wait cause clock kernel memory).kernel
  timed_few cause clock =
      either_end (wait.nr == 4166) _ _ (sleep_few (record { relative = true; address = wait_word wait 1 }) cause clock)
      (either_end (wait.nr == 4265) _ _ (sleep_few (record { relative = wait_word wait 1 == 0; address = wait_word wait 3 }) cause clock)
      (either_end (wait.nr == 4188) _ _ (poll_few cause)
      (either_end (wait.nr == 4302) _ _ (limited_few (record { address = wait_word wait 2; bytes = spec_bytes }) (entries_told wait memory) cause clock)
      (either_end (wait.nr == 4142) _ _ (limited_few (record { address = wait_word wait 4; bytes = val_bytes }) (sets_told wait) cause clock)
      (limited_few (record { address = wait_word wait 4; bytes = spec_bytes }) (sets_told wait) cause clock)))))

  accepted_few : Few (acceptance_ended wait Accepted kernel memory).kernel
  unfolding rt_sigtimedwait_row
  accepted_few = result_null_few _ _ (finding wait memory) _ _ [] (accept_few kernel few _ _ _ _ _).few

  signal_few : (cause : Cause) → Few (signal_wait_ended wait cause kernel memory).kernel
  signal_few Due = either_end (wait.nr == 4197) _ _ few old_mask
  signal_few Accepted = either_end (wait.nr == 4197) _ _ accepted_few old_mask
  signal_few Handler = either_end (wait.nr == 4197) _ _ few few
  signal_few Stopped = either_end (wait.nr == 4197) _ _ few old_mask

  end_few : (restarts : Bool) (cause : Cause) → Few (whole_end restarts wait cause kernel memory).kernel
  end_few restarts cause =
      either_end (is_one_of transfer_waits wait) _ _ few
      (either_end (is_one_of signal_waits wait) _ _ (signal_few cause) (timed_few cause kernel.clock))

closed_few : (wait : Wait) (close : Close) (machine : Machine) → Few machine.kernel → Few (closed wait close machine).machine.kernel
closed_few wait (closes.Value value) machine few = few
closed_few wait (closes.Error error) machine few = few
closed_few wait closes.Again machine few = few
closed_few wait closes.Restart machine few = few

over_few : (machine : Machine) (wait : Wait) (restarts : Bool) (cause : Cause) → Few machine.kernel
    → Few (wait_over wait (whole_end restarts wait cause machine.kernel machine.memory) machine).machine.kernel
over_few machine wait restarts cause few =
    let end = whole_end restarts wait cause machine.kernel machine.memory in
    closed_few wait end.close (unwaited machine end) (end_few wait machine.kernel machine.memory few restarts cause)

ended_few : (machine : Machine) (wait : Option Wait) → Few machine.kernel → Few (ended_if_over whole machine wait).machine.kernel
ended_few machine None few = few
ended_few machine (Some wait) few = by (accepts whole machine) (is_over_at machine.kernel.clock wait.deadline) where
  by : (accepted due : Bool)
      → Few (if accepted then ended_by whole Accepted wait machine else (if due then ended_by whole Due wait machine else record { machine = machine; events = [] })).machine.kernel
  by true due = over_few machine wait false Accepted few
  by false true = over_few machine wait false Due few
  by false false = few

pub two_few : (machine : Machine) → Few machine.kernel → Few (second_step whole (first_step whole machine)).machine.kernel
two_few machine few =
    let first = first_step whole machine in
    let so = first_few whole machine few in
    either_within (first.machine.stopped || first.machine.interrupted) first _ so (ended_few first.machine first.machine.wait so)

continued_few : (machine : Machine) (wait : Option Wait) → Few machine.kernel → Few (continued whole machine wait).machine.kernel
continued_few machine None few = few
continued_few machine (Some wait) few = over_few machine wait false Stopped few

fourth_few : (within : Within) → FewWithin within → FewWithin (fourth_step whole within)
fourth_few within few =
    either_within (within.machine.interrupted && not within.machine.stopped) _ within (continued_few within.machine within.machine.wait few) few

-- Signals are delivered

handling_few : (kernel : Kernel) (signal : Sig) (action : Action) → Few kernel → Few (handling kernel signal action)
handling_few kernel signal action few =
    let masked = with_mask kernel (union kernel.signals.mask (union action.mask (own_mask signal action))) in
    either_kernel action.flags.resethand (without_action signal masked) masked
    (either_kernel (is_unblockable signal) masked (with_signals masked (after_action masked.signals signal no_action)) few (action_few masked.signals signal no_action few)) few
  where
    either_kernel : (test : Bool) (one other : Kernel) → Few one → Few other → Few (if test then one else other)
    either_kernel true one other first second = first
    either_kernel false one other first second = second

begun_few : (within : Within) (info : Info) (action : Action) → FewWithin within → FewWithin (begun within info action)
begun_few within info action few =
    let framed = frame_for within.machine.kernel within.machine.processor info action (saved_or within.saved within.machine.kernel.signals.mask) in
    either_within (is_storable within.machine.memory framed.entry.frame (length framed.bytes)) (entering within info action framed) (not_entered info within)
    (handling_few within.machine.kernel info.sig action few)
    (either_within (is_segv info.sig) (killed info.sig within) (faults frame_fault within) few few)

left_by_few : (within : Within) (action : Action) (wait : Option Wait) → FewWithin within → FewWithin (wait_left_by whole_end action wait within)
left_by_few within action None few = few
left_by_few within action (Some wait) few = over_few within.machine wait action.flags.restart Handler few

handled_few : (within : Within) (info : Info) (action : Action) → FewWithin within → FewWithin (handled whole_end within info action)
handled_few within info action few =
    let left = wait_left_by whole_end action within.machine.wait within in
    begun_few (happens left (events.Signal info.sig deliveries.Handler)) info action (left_by_few within action within.machine.wait few)

delivered_few : (within : Within) (info : Info) (action : Action) → FewWithin within → FewWithin (delivered whole_end within info action)
delivered_few within info action few =
    either_within (ignores info.sig action) (happens within (events.Signal info.sig deliveries.Ignored)) _ few
    (either_within (action.handler == default_handler) (by_default info.sig within) (handled whole_end within info action)
    (either_within (is_stop info.sig) (stops info.sig within) (killed info.sig within) few few) (handled_few within info action few))

taken_few : (within : Within) (signal : Sig) (infos : List Info) → pending_at within.machine.kernel.signals signal ≡ infos → FewWithin within
    → FewWithin (signal_taken whole_end within signal infos)
taken_few within signal [] is few = few
taken_few within signal (info ∷ rest) is few =
    let signals = within.machine.kernel.signals in
    delivered_few (with_machine within (used_up within.machine signal rest)) info (action_at signals signal)
    (fewer_pend signals.pending (place signal) rest (subst (λ (l : List Info). length rest ≤ length l) (sym is) (omega arith)) few)

next_few : (within : Within) (signal : Option Sig) → FewWithin within → FewWithin (next_taken whole_end within signal)
next_few within None few = few
next_few within (Some signal) few = taken_few within signal (pending_at within.machine.kernel.signals signal) refl few

round_few : (within : Within) (fault : Option Info) → FewWithin within → FewWithin (round_by whole_end within fault)
round_few within None few = next_few within (next_signal within.machine.kernel.signals) few
round_few within (Some info) few =
    let cleared = with_machine within (record within.machine { fault = None }) in
    let action = action_at within.machine.kernel.signals info.sig in
    either_within (not (has within.machine.kernel.signals.mask info.sig) && has_handler action) (handled whole_end cleared info action) (killed info.sig cleared)
    (handled_few cleared info action few) few

rounds_few : (count : ℕ) (within : Within) → FewWithin within → FewWithin (rounds whole_end count within)
unfolding rounds
rounds_few zero within few = few
rounds_few (suc more) within few =
    let next = round_by whole_end within within.machine.fault in
    either_within (is_delivered within) within (rounds whole_end more next) few (rounds_few more next (round_few within within.machine.fault few))

third_few : (within : Within) → FewWithin within → FewWithin (third_step whole within)
third_few within few =
    either_within within.machine.stopped within (deliver whole_end within) few
    (either_within (is_some within.machine.processor.slot) within (rounds whole_end most_rounds within) few (rounds_few most_rounds within few))

-- The last steps

jumped_few : (time : Option ℕ) (within : Within) → FewWithin within → FewWithin (jumped time within)
jumped_few None within few = few
jumped_few (Some time) within few = few

outcome_few : (words : CallWords) (machine : Machine) (outcome : Outcome) → Few machine.kernel → FewWithin (after_outcome words machine outcome)
outcome_few words machine (outcomes.Value value) few = few
outcome_few words machine (outcomes.Pair first second) few = few
outcome_few words machine (outcomes.Error error) few = few
outcome_few words machine (outcomes.Sleep wait) few = few
outcome_few words machine outcomes.Frame few = few
outcome_few words machine outcomes.BadFrame few = few
outcome_few words machine (outcomes.Exit status) few = few

step_few : (machine : Machine) (came : Stepped) (left : List ℕ) → Few machine.kernel → Few (after_step whole machine came left).machine.kernel
step_few machine Next left few = few
step_few machine Syscall left few =
    let guest = guest_of machine.processor machine.memory in
    let step = machine_call (seen_of machine) machine.kernel guest left in
    outcome_few guest.words (behind machine guest.words step) step.outcome (machine_few (seen_of machine) machine.kernel guest left few)
step_few machine (Fault signal code address) left few = few

either_turn : (test : Bool) (one other : Turn) → Few one.machine.kernel → Few other.machine.kernel → Few (if test then one else other).machine.kernel
either_turn true one other first second = first
either_turn false one other first second = second

last_few : (quantum : ℕ) (within : Within) (left : List ℕ) → FewWithin within → Few (fifth_or_sixth whole quantum within left).machine.kernel
last_few quantum within left few =
    let step = step_of within.machine.processor within.machine.memory in
    either_turn (within.machine.stopped || is_some within.machine.wait) (fifth_step within left) (sixth_step whole quantum within left)
    (jumped_few (next_for within.machine) within few) (step_few (stepped within.machine step.processor step.memory) step.came left few)

turn_few : (quantum : ℕ) (machine : Machine) (left : List ℕ) → Few machine.kernel → Few (turn_of quantum machine left).machine.kernel
unfolding turn_of
turn_few quantum machine left few =
    let third = third_step whole (second_step whole (first_step whole machine)) in
    let so : FewWithin third = third_few (second_step whole (first_step whole machine)) (two_few machine few) in
    either_turn (is_some third.over) (turn third left _) (fifth_or_sixth whole quantum (fourth_step whole third) left) so
    (last_few quantum (fourth_step whole third) left (fourth_few third so))

-- A whole run

over_stays : (quantum : ℕ) (run : Reached) (over : Option Finish) → Few run.machine.kernel → Few (unless_over quantum run over).machine.kernel
over_stays quantum run (Some finish) few = few
over_stays quantum run None few = by (is_blocked (turn_of quantum run.machine run.left)) where
  by : (blocked : Bool) → Few (unless_blocked run (turn_of quantum run.machine run.left) blocked).machine.kernel
  by true = few
  by false = turn_few quantum run.machine run.left few

pub reached_few : (quantum : ℕ) (machine : Machine) (left : List ℕ) (turns : ℕ) → Few machine.kernel → Few (reached quantum machine left turns).machine.kernel
unfolding reached
reached_few quantum machine left zero few = few
reached_few quantum machine left (suc turns) few =
    let before = reached quantum machine left turns in over_stays quantum before before.over (reached_few quantum machine left turns few)

-- So many rounds are enough.

either_same : (kernel : Kernel) (test : Bool) (one other : WaitEnd) → one.kernel ≡ kernel → other.kernel ≡ kernel → (if test then one else other).kernel ≡ kernel
either_same kernel true one other first second = first
either_same kernel false one other first second = second

-- a handler that ends a wait leaves the kernel as it is
module _ (wait : Wait) (clock : ℕ) (kernel : Kernel) (memory : Memory) where
  sleep_same : (sleeping : Sleeping) → (sleep_interrupted sleeping wait clock kernel memory).kernel ≡ kernel
  sleep_same sleeping =
      either_same kernel (sleeping.relative && not (sleeping.address == 0)) _ _
      (either_same kernel (is_storable memory sleeping.address (length (spec_bytes (left_until clock wait.deadline)))) _ _ refl refl) refl

  limited_same : (form : LeftForm) → (with_left form wait clock memory (interrupted kernel memory)).kernel ≡ kernel
  limited_same form = either_same kernel (has_time form && has_room form wait clock memory) _ _ refl refl

  timed_same : (wait_ended wait Handler clock kernel memory).kernel ≡ kernel
  timed_same =
      either_same kernel (wait.nr == 4166) _ _ (sleep_same (record { relative = true; address = wait_word wait 1 }))
      (either_same kernel (wait.nr == 4265) _ _ (sleep_same (record { relative = wait_word wait 1 == 0; address = wait_word wait 3 }))
      (either_same kernel (wait.nr == 4188) _ _ refl
      (either_same kernel (wait.nr == 4302) _ _ (limited_same (record { address = wait_word wait 2; bytes = spec_bytes }))
      (either_same kernel (wait.nr == 4142) _ _ (limited_same (record { address = wait_word wait 4; bytes = val_bytes }))
      (limited_same (record { address = wait_word wait 4; bytes = spec_bytes }))))))

whole_same : (restarts : Bool) (wait : Wait) (kernel : Kernel) (memory : Memory) → (whole_end restarts wait Handler kernel memory).kernel ≡ kernel
whole_same restarts wait kernel memory =
    either_same kernel (is_one_of transfer_waits wait) _ _ refl
    (either_same kernel (is_one_of signal_waits wait) _ _ (either_same kernel (wait.nr == 4197) _ _ refl refl) (timed_same wait kernel.clock kernel memory))

keeps_few : KeepsFew whole_end
keeps_few restarts wait kernel memory = let same = ap (λ (k : Kernel). total k.signals) (whole_same restarts wait kernel memory) in omega (arith, same)

total_few : (signals : Signals) → FewPend signals.pending → total signals ≤ queue_limit + standard_count
total_few signals few =
    let low = take standard_count signals.pending in
    let each : All (λ (infos : List Info). length infos ≤ 1) low =
    λ i d h.
    let below : i < standard_count = omega (arith, h, length-take standard_count signals.pending) in
    let there : i < length signals.pending = omega (arith, h, length-take standard_count signals.pending) in
    let same : get_or low i d ≡ get_or signals.pending i [] =
    get_or-take standard_count signals.pending i d below ∙ sym (get_or_default signals.pending i [] d there) in
    omega (arith, ap length same, few.each i below) in
    omega (arith, sum_by-take-drop length signals.pending standard_count, sum_by-le length 1 low each, length-take standard_count signals.pending, few.few)

weight_few : (fault : Option Info) → weight fault ≤ 2
weight_few None = omega arith
weight_few (Some info) = (some_weight (is_segv info.sig)).1

pub delivery_ends : (within : Within) → Few within.machine.kernel → within.machine.processor.slot ≡ None → is_delivered (deliver whole_end within) ≡ true
delivery_ends within few free =
    ap (λ (slot : Option Slot). is_delivered (if is_some slot then within else rounds whole_end most_rounds within)) free
    ∙ enough whole_end keeps_few most_rounds within (omega (arith, total_few within.machine.kernel.signals few, weight_few within.machine.fault))

-- Where a handler was entered nothing is linked; and after a fault one was, or the process was killed.
use Rattle.std.proofs.Common.{◌≡◌, ◌⊎◌, inl, inr, ℕ, zero, suc, ◌<◌, ◌==◌, Bool, true, false, List, [], ◌∷◌, ◌++◌, Option, Some, None, refl, sym, ap, subst, ◌∙◌, arith}
use Rattle.std.specs.Prelude.{◌&&◌, ◌||◌, not, nat_le, length, is_none, is_some, if◌then◌else◌}
use Rattle.std.specs.List.{list_any}
use Rattle.kernel_core.specs.declared.event.Delivery.TheVariants as deliveries
use Rattle.kernel_core.specs.declared.event.Event.{Event}
use Rattle.kernel_core.specs.declared.event.Event.TheVariants as events
use Rattle.kernel_core.specs.declared.finish.Finish.{Finish}
use Rattle.kernel_core.specs.declared.signal.Sig.{Sig}
use Rattle.kernel_model.specs.Clock.{gone_off}
use Rattle.kernel_model.specs.Shared.{Info}
use Rattle.kernel_model.specs.SignalRows.{action_at, default_handler, ignores, is_continue, is_stop, pending_at, post}
use Rattle.kernel_model.specs.SignalSets.{has}
use Rattle.kernel_model.specs.State.{Timer}
use Rattle.kernel_model.specs.declared.signal.Action.{Action}
use Rattle.kernel_model.specs.declared.signal.Post.{Post}
use Rattle.kernel_model.specs.declared.signal.Post.TheVariants as posts
use Rattle.mips_exec.specs.declared.cpu.Slot.{Slot}
use Rattle.o32_model.specs.GuestBytes.{is_storable}
use Rattle.o32_model.specs.WaitEnds.{WaitEnd}
use Rattle.o32_model.specs.declared.wait.Cause.TheVariants.{Due, Accepted, Handler, Stopped}
use Rattle.o32_model.specs.declared.wait.Close.{Close}
use Rattle.o32_model.specs.declared.wait.Close.TheVariants as closes
use Rattle.o32_model.specs.declared.wait.Wait.{Wait}
use Rattle.o32_turns.proofs.Still.{rounds_stay}
use Rattle.o32_turns.specs.Closing.{closed, unwaited, wait_over, whole_end}
use Rattle.o32_turns.specs.Delivering.{by_default, deliver, delivered, fault_delivered, has_handler, is_delivered, most_rounds, next_signal, next_taken, round_by, rounds, signal_taken, stops, used_up}
use Rattle.o32_turns.specs.Handling.{begun, entering, faults, frame_fault, frame_for, handled, is_segv, killed, not_entered, saved_or, wait_left_by}
use Rattle.o32_turns.specs.Machine.{Machine, Rules, Within, begin, happens, with_change, with_machine}
use Rattle.o32_turns.specs.Posting.{event_info, events_posted, expiry_events, is_kill, let_go, post_event, sent_to, timer_posted, waits_for}
use Rattle.o32_turns.specs.Turn.{accepts, continued, ended_by, ended_if_over, first_step, fourth_step, is_over_at, second_step, third_step, whole}
use Rattle.replay_core.specs.Replay.{is_killing}
use Rattle.schedule.specs.declared.events.Due.{Due as Coming}
use Rattle.turn_records.specs.Turn.{begins_handler}
use Rattle.journal_laws.proofs.FewTurns.{delivery_ends, two_few}
use Rattle.journal_laws.proofs.Pending.{Few}
use Rattle.journal_laws.proofs.Going.{any_none, handled_begins, handler_began, not_both, or_none, rounds_go, round_goes, two_go}

-- Parts of a turn beside the delivery

pub record Plain (old new : Within) : Type 0 where
  pub link : new.machine.processor.link ≡ old.machine.processor.link
  pub none : handler_began old ≡ false → handler_began new ≡ false
  pub over : new.over ≡ old.over
  pub fault : new.machine.fault ≡ old.machine.fault
  pub going : old.machine.stopped ≡ false → new.machine.stopped ≡ false

plain_same : (within : Within) → Plain within within
plain_same within = record { link = refl; none = λ no. no; over = refl; fault = refl; going = λ going. going }

plain_then : (a b c : Within) → Plain a b → Plain b c → Plain a c
plain_then a b c first second = record {
  link = second.link ∙ first.link;
  none = λ no. second.none (first.none no);
  over = second.over ∙ first.over;
  fault = second.fault ∙ first.fault;
  going = λ going. second.going (first.going going);
}

plain_either : (test : Bool) (old one other : Within) → Plain old one → Plain old other → Plain old (if test then one else other)
plain_either true old one other first second = first
plain_either false old one other first second = second

begins_none : (within : Within) (more : List Event) → list_any begins_handler more ≡ false → handler_began within ≡ false → list_any begins_handler (within.events ++ more) ≡ false
begins_none within more calm before = any_none begins_handler within.events more before calm

post_begins : (signal : Sig) (post : Post) → begins_handler (post_event signal post) ≡ false
post_begins signal posts.Queued = refl
post_begins signal posts.Dropped = refl
post_begins signal posts.Full = refl

expiry_begins : (went : Option Timer) → list_any begins_handler (expiry_events went) ≡ false
expiry_begins None = refl
expiry_begins (Some timer) = refl

module _ (rules : Rules) where
  let_go_plain : (signal : Sig) (within : Within) → Plain within (let_go signal within)
  let_go_plain signal within =
      let go = happens (with_machine within (record within.machine { stopped = false })) events.Cont in
      plain_either ((is_kill signal || is_continue signal) && within.machine.stopped) within go within
      (record { link = refl; none = begins_none within (events.Cont ∷ []) refl; over = refl; fault = refl; going = λ going. refl })
      (plain_same within)

  sent_plain : (within : Within) (info : Info) → Plain within (sent_to rules within info)
  sent_plain within info =
      let machine = within.machine in
      let became = post machine.kernel.signals info (waits_for rules machine info.sig) in
      let event = post_event info.sig became.post in
      plain_then within _ (sent_to rules within info)
      (record {
        link = refl;
        none = begins_none within (event ∷ []) (or_none (begins_handler event) false (post_begins info.sig became.post) refl);
        over = refl;
        fault = refl;
        going = λ going. going;
      })
      (let_go_plain info.sig _)

  events_plain : (coming : List Coming) (within : Within) → Plain within (events_posted rules coming within)
  events_plain [] within = record { link = refl; none = λ no. no; over = refl; fault = refl; going = λ going. going }
  events_plain (due ∷ more) within =
      plain_either (nat_le due.time within.machine.kernel.clock) within (events_posted rules more (sent_to rules within (event_info due))) _
      (plain_then within (sent_to rules within (event_info due)) (events_posted rules more (sent_to rules within (event_info due)))
      (sent_plain within (event_info due)) (events_plain more (sent_to rules within (event_info due))))
      (record { link = refl; none = λ no. no; over = refl; fault = refl; going = λ going. going })

  timer_plain : (within : Within) → Plain within (timer_posted rules within)
  timer_plain within =
      let kernel = within.machine.kernel in
      let went = gone_off kernel.clock kernel.timer in
      record { link = refl; none = begins_none within (expiry_events went) (expiry_begins went); over = refl; fault = refl; going = λ going. going }

  first_plain : (machine : Machine) → Plain (begin machine) (first_step rules machine)
  first_plain machine =
      plain_then (begin machine) (events_posted rules machine.coming (begin machine)) (first_step rules machine)
      (events_plain machine.coming (begin machine)) (timer_plain (events_posted rules machine.coming (begin machine)))

change_plain : (within : Within) (wait : Wait) (end : WaitEnd) (close : Close) → Plain within (with_change within (closed wait close (unwaited within.machine end)))
change_plain within wait end (closes.Value value) = record { link = refl; none = begins_none within _ refl; over = refl; fault = refl; going = λ going. going }
change_plain within wait end (closes.Error error) = record { link = refl; none = begins_none within _ refl; over = refl; fault = refl; going = λ going. going }
change_plain within wait end closes.Again = record { link = refl; none = begins_none within _ refl; over = refl; fault = refl; going = λ going. going }
change_plain within wait end closes.Restart = record { link = refl; none = begins_none within _ refl; over = refl; fault = refl; going = λ going. going }

over_plain : (within : Within) (wait : Wait) (end : WaitEnd) → Plain within (with_change within (wait_over wait end within.machine))
over_plain within wait end = change_plain within wait end end.close

unchanged_plain : (within : Within) → Plain within (with_change within (record { machine = within.machine; events = [] }))
unchanged_plain within = record { link = refl; none = begins_none within [] refl; over = refl; fault = refl; going = λ going. going }

ended_plain : (within : Within) (wait : Option Wait) → Plain within (with_change within (ended_if_over whole within.machine wait))
ended_plain within None = unchanged_plain within
ended_plain within (Some wait) = by (accepts whole within.machine) (is_over_at within.machine.kernel.clock wait.deadline) where
  by : (accepted due : Bool) → Plain within (with_change within (if accepted then ended_by whole Accepted wait within.machine else (if due then ended_by whole Due wait within.machine else record { machine = within.machine; events = [] })))
  by true due = over_plain within wait (whole.ended false wait Accepted within.machine.kernel within.machine.memory)
  by false true = over_plain within wait (whole.ended false wait Due within.machine.kernel within.machine.memory)
  by false false = unchanged_plain within

second_plain : (within : Within) → Plain within (second_step whole within)
second_plain within =
    plain_either (within.machine.stopped || within.machine.interrupted) within within _ (plain_same within) (ended_plain within within.machine.wait)

continued_plain : (within : Within) (wait : Option Wait) → Plain within (with_change within (continued whole within.machine wait))
continued_plain within None = unchanged_plain within
continued_plain within (Some wait) = over_plain within wait (whole.ended false wait Stopped within.machine.kernel within.machine.memory)

pub fourth_plain : (within : Within) → Plain within (fourth_step whole within)
fourth_plain within =
    plain_either (within.machine.interrupted && not within.machine.stopped) within _ within (continued_plain within within.machine.wait) (plain_same within)

pub two_plain : (machine : Machine) → Plain (begin machine) (second_step whole (first_step whole machine))
two_plain machine =
    plain_then (begin machine) (first_step whole machine) (second_step whole (first_step whole machine))
    (first_plain whole machine) (second_plain (first_step whole machine))

-- The rounds of a delivery: where a handler was entered last nothing is linked, unless its frame could not be written, which is a fault.

record Rounded (within : Within) : Type 0 where
  unlinked : handler_began within ≡ true → within.over ≡ None → within.machine.fault ≡ None → within.machine.processor.link ≡ None
  calm : within.machine.stopped ≡ true → within.machine.fault ≡ None

some_none : {A B : Type 0} (over : Option A) (finish : A) → over ≡ Some finish → over ≡ None → B
some_none over finish some none = absurd (let wrong : Some finish ≡ None = sym some ∙ none in cc)

rounded_either : (test : Bool) (one other : Within) → Rounded one → Rounded other → Rounded (if test then one else other)
rounded_either true one other first second = first
rounded_either false one other first second = second

killed_rounded : (signal : Sig) (within : Within) → within.machine.stopped ≡ false → Rounded (killed signal within)
killed_rounded signal within going = record {
  unlinked = λ began alive none. some_none (killed signal within).over _ refl alive;
  calm = λ stopped. not_both within.machine.stopped stopped going;
}

faults_rounded : (info : Info) (within : Within) → within.machine.stopped ≡ false → Rounded (faults info within)
faults_rounded info within going = record {
  unlinked = λ began alive none. some_none (faults info within).machine.fault info refl none;
  calm = λ stopped. not_both within.machine.stopped stopped going;
}

begun_rounded : (within : Within) (info : Info) (action : Action) → within.machine.stopped ≡ false → Rounded (begun within info action)
begun_rounded within info action going =
    let framed = frame_for within.machine.kernel within.machine.processor info action (saved_or within.saved within.machine.kernel.signals.mask) in
    rounded_either (is_storable within.machine.memory framed.entry.frame (length framed.bytes)) (entering within info action framed) (not_entered info within)
    (record { unlinked = λ began alive none. refl; calm = λ stopped. not_both within.machine.stopped stopped going })
    (rounded_either (is_segv info.sig) (killed info.sig within) (faults frame_fault within) (killed_rounded info.sig within going) (faults_rounded frame_fault within going))

closed_stopped : (wait : Wait) (close : Close) (machine : Machine) → (closed wait close machine).machine.stopped ≡ machine.stopped
closed_stopped wait (closes.Value value) machine = refl
closed_stopped wait (closes.Error error) machine = refl
closed_stopped wait closes.Again machine = refl
closed_stopped wait closes.Restart machine = refl

left_stopped : (within : Within) (action : Action) (wait : Option Wait) → (wait_left_by whole_end action wait within).machine.stopped ≡ within.machine.stopped
left_stopped within action None = refl
left_stopped within action (Some wait) =
    let end = whole_end action.flags.restart wait Handler within.machine.kernel within.machine.memory in
    closed_stopped wait end.close (unwaited within.machine end)

handled_rounded : (within : Within) (info : Info) (action : Action) → within.machine.stopped ≡ false → Rounded (handled whole_end within info action)
handled_rounded within info action going =
    let left = wait_left_by whole_end action within.machine.wait within in
    begun_rounded (happens left (events.Signal info.sig deliveries.Handler)) info action (left_stopped within action within.machine.wait ∙ going)

before_true : (a b : Bool) → (a ≡ false → b ≡ false) → b ≡ true → a ≡ true
before_true true b none is = refl
before_true false b none is = not_both b is (none refl)

module _ (within : Within) (going : within.machine.stopped ≡ false) (delivered_all : within.machine.fault ≡ None) (rounded : Rounded within) where
  began_before : (event : Event) → begins_handler event ≡ false → handler_began (happens within event) ≡ true → handler_began within ≡ true
  began_before event calm = before_true (handler_began within) (handler_began (happens within event)) (begins_none within (event ∷ []) (or_none (begins_handler event) false calm refl))

  default_rounded : (signal : Sig) → Rounded (by_default signal within)
  default_rounded signal =
      rounded_either (is_stop signal) (stops signal within) (killed signal within)
      (record {
        unlinked = λ began alive none. rounded.unlinked (began_before (events.Signal signal deliveries.Stop) refl began) alive none;
        calm = λ stopped. delivered_all;
      })
      (killed_rounded signal within going)

  delivered_rounded : (info : Info) (action : Action) → Rounded (delivered whole_end within info action)
  delivered_rounded info action =
      rounded_either (ignores info.sig action) (happens within (events.Signal info.sig deliveries.Ignored)) _
      (record {
        unlinked = λ began alive none. rounded.unlinked (began_before (events.Signal info.sig deliveries.Ignored) refl began) alive none;
        calm = λ stopped. delivered_all;
      })
      (rounded_either (action.handler == default_handler) (by_default info.sig within) (handled whole_end within info action)
      (default_rounded info.sig) (handled_rounded within info action going))

fault_rounded : (within : Within) (info : Info) (action : Action) → within.machine.stopped ≡ false → Rounded (fault_delivered whole_end within info action)
fault_rounded within info action going =
    rounded_either (not (has within.machine.kernel.signals.mask info.sig) && has_handler action) (handled whole_end within info action) (killed info.sig within)
    (handled_rounded within info action going) (killed_rounded info.sig within going)

module _ (within : Within) (going : within.machine.stopped ≡ false) (rounded : Rounded within) where
  taken_rounded : (signal : Sig) (infos : List Info) → within.machine.fault ≡ None → Rounded (signal_taken whole_end within signal infos)
  taken_rounded signal [] none = rounded
  taken_rounded signal (info ∷ rest) none =
      delivered_rounded (with_machine within (used_up within.machine signal rest)) going none
      (record { unlinked = rounded.unlinked; calm = rounded.calm }) info (action_at within.machine.kernel.signals signal)

  next_rounded : (signal : Option Sig) → within.machine.fault ≡ None → Rounded (next_taken whole_end within signal)
  next_rounded None none = rounded
  next_rounded (Some signal) none = taken_rounded signal (pending_at within.machine.kernel.signals signal) none

  round_rounded : (fault : Option Info) → within.machine.fault ≡ fault → Rounded (round_by whole_end within fault)
  round_rounded None is = next_rounded (next_signal within.machine.kernel.signals) is
  round_rounded (Some info) is =
      fault_rounded (with_machine within (record within.machine { fault = None })) info (action_at within.machine.kernel.signals info.sig) going

going_on : (over stopped rest : Bool) → (over || stopped || rest) ≡ false → stopped ≡ false
going_on true stopped rest is = absurd cc
going_on false true rest is = absurd cc
going_on false false rest is = refl

rounds_rounded : (count : ℕ) (within : Within) → Rounded within → Rounded (rounds whole_end count within)
unfolding rounds
rounds_rounded zero within rounded = rounded
rounds_rounded (suc more) within rounded = by (is_delivered within) refl (rounds_rounded more (round_by whole_end within within.machine.fault)) where
  by : (done : Bool) → is_delivered within ≡ done
      → (Rounded (round_by whole_end within within.machine.fault) → Rounded (rounds whole_end more (round_by whole_end within within.machine.fault)))
      → Rounded (if done then within else rounds whole_end more (round_by whole_end within within.machine.fault))
  by true is later = rounded
  by false is later = later (round_rounded within (going_on (is_some within.over) within.machine.stopped _ is) rounded within.machine.fault refl)

none_of : {A : Type 0} (some : Option A) → is_none some ≡ true → some ≡ None
none_of None is = refl
none_of (Some value) is = absurd cc

done_fault : (within : Within) → Rounded within → is_delivered within ≡ true → within.over ≡ None → within.machine.fault ≡ None
done_fault within rounded done alive = by within.machine.stopped refl (is_none within.machine.fault) refl where
  left : (is_some within.over || within.machine.stopped || (is_none within.machine.fault && is_none (next_signal within.machine.kernel.signals)))
      ≡ (within.machine.stopped || (is_none within.machine.fault && is_none (next_signal within.machine.kernel.signals)))
  left = ap (λ (o : Option Finish). is_some o || within.machine.stopped || (is_none within.machine.fault && is_none (next_signal within.machine.kernel.signals))) alive

  by : (stopped : Bool) → within.machine.stopped ≡ stopped → (none : Bool) → is_none within.machine.fault ≡ none → within.machine.fault ≡ None
  by true is none calm = rounded.calm is
  by false is true calm = none_of within.machine.fault calm
  by false is false calm =
      absurd (
      let first : (within.machine.stopped || (is_none within.machine.fault && is_none (next_signal within.machine.kernel.signals))) ≡ false =
      ap (λ (s : Bool). s || (is_none within.machine.fault && is_none (next_signal within.machine.kernel.signals))) is
      ∙ ap (λ (n : Bool). n && is_none (next_signal within.machine.kernel.signals)) calm in
      let wrong : true ≡ false = sym done ∙ left ∙ first in cc)

-- what is linked after a delivery
abbrev Unlinked : Within → Type 0
Unlinked within = handler_began within ≡ true → within.over ≡ None → within.machine.processor.link ≡ None

module _ (within : Within) (few : Few within.machine.kernel) (none : handler_began within ≡ false) (going : within.machine.stopped ≡ false) where
  rounded_first : Rounded within
  rounded_first = record {
    unlinked = λ began. not_both (handler_began within) began none;
    calm = λ stopped. not_both within.machine.stopped stopped going;
  }

  delivered_unlinked : Unlinked (deliver whole_end within)
  delivered_unlinked = by within.machine.processor.slot refl where
    by : (slot : Option Slot) → within.machine.processor.slot ≡ slot → Unlinked (deliver whole_end within)
    by None is = λ began alive.
        let last = deliver whole_end within in
        let same : last ≡ rounds whole_end most_rounds within = ap (λ (s : Option Slot). if is_some s then within else rounds whole_end most_rounds within) is in
        let rounded : Rounded last = subst Rounded (sym same) (rounds_rounded most_rounds within rounded_first) in
        rounded.unlinked began alive (done_fault last rounded (delivery_ends within few is) alive)
    by (Some slot) is =
        let same : deliver whole_end within ≡ within = ap (λ (s : Option Slot). if is_some s then within else rounds whole_end most_rounds within) is in
        subst Unlinked (sym same) (λ began. not_both (handler_began within) began none)

third_unlinked : (within : Within) → Few within.machine.kernel → handler_began within ≡ false → Unlinked (third_step whole within)
third_unlinked within few none = by within.machine.stopped refl where
  by : (stopped : Bool) → within.machine.stopped ≡ stopped → Unlinked (if stopped then within else deliver whole_end within)
  by true is = λ began. not_both (handler_began within) began none
  by false is = delivered_unlinked within few none is

fourth_unlinked : (within : Within) → Unlinked within → Unlinked (fourth_step whole within)
fourth_unlinked within unlinked = λ began alive.
    let plain = fourth_plain within in
    plain.link ∙ unlinked (before_true (handler_began within) (handler_began (fourth_step whole within)) plain.none began) (sym plain.over ∙ alive)

pub unlinked_before : (machine : Machine) → Few machine.kernel
    → handler_began (fourth_step whole (third_step whole (second_step whole (first_step whole machine)))) ≡ true
    → (fourth_step whole (third_step whole (second_step whole (first_step whole machine)))).over ≡ None
    → (fourth_step whole (third_step whole (second_step whole (first_step whole machine)))).machine.processor.link ≡ None
unlinked_before machine few =
    let second = second_step whole (first_step whole machine) in
    fourth_unlinked (third_step whole second) (third_unlinked second (two_few machine few) ((two_plain machine).none refl))

-- After a fault a handler was begun, or the process was killed.

abbrev pub Settled : Within → Type 0
Settled within = (handler_began within ≡ true) ⊎ (is_killing within.over ≡ true)

is_some_killing : (over : Option Finish) → is_killing over ≡ true → is_some over ≡ true
is_some_killing None is = absurd cc
is_some_killing (Some finish) is = refl

rounds_settled : (count : ℕ) (within : Within) → within.machine.processor.slot ≡ None → Settled within → Settled (rounds whole_end count within)
rounds_settled count within free (inl began) = inl ((rounds_go count within free).grows begins_handler began)
rounds_settled count within free (inr kills) =
    let done : is_delivered within ≡ true =
    ap (λ (b : Bool). b || within.machine.stopped || (is_none within.machine.fault && is_none (next_signal within.machine.kernel.signals))) (is_some_killing within.over kills) in
    inr (ap (λ (w : Within). is_killing w.over) (rounds_stay whole_end count within done) ∙ kills)

fault_settled : (within : Within) (info : Info) (action : Action) → within.machine.processor.slot ≡ None → Settled (fault_delivered whole_end within info action)
fault_settled within info action free = by (not (has within.machine.kernel.signals.mask info.sig) && has_handler action) where
  by : (handles : Bool) → Settled (if handles then handled whole_end within info action else killed info.sig within)
  by true = inl (handled_begins within free info action)
  by false = inr refl

not_done : (within : Within) (info : Info) → within.over ≡ None → within.machine.stopped ≡ false → within.machine.fault ≡ Some info → is_delivered within ≡ false
not_done within info alive going faulted =
    ap (λ (o : Option Finish). is_some o || within.machine.stopped || (is_none within.machine.fault && is_none (next_signal within.machine.kernel.signals))) alive
    ∙ ap (λ (s : Bool). s || (is_none within.machine.fault && is_none (next_signal within.machine.kernel.signals))) going
    ∙ ap (λ (f : Option Info). is_none f && is_none (next_signal within.machine.kernel.signals)) faulted

some_rounds : (count : ℕ) (within : Within) (info : Info) → 0 < count → within.machine.processor.slot ≡ None → within.over ≡ None → within.machine.stopped ≡ false
    → within.machine.fault ≡ Some info → Settled (rounds whole_end count within)
unfolding rounds
some_rounds zero within info some free alive going faulted = absurd (omega (arith, some))
some_rounds (suc more) within info some free alive going faulted =
    let next = round_by whole_end within within.machine.fault in
    let settled : Settled next =
    subst (λ (f : Option Info). Settled (round_by whole_end within f)) (sym faulted)
    (fault_settled (with_machine within (record within.machine { fault = None })) info (action_at within.machine.kernel.signals info.sig) free) in
    subst (λ (done : Bool). Settled (if done then within else rounds whole_end more next)) (sym (not_done within info alive going faulted))
    (rounds_settled more next ((round_goes within free within.machine.fault).slot ∙ free) settled)

-- a fault that is not yet delivered, outside a slot, of a process that is not stopped
pub record Faulted (machine : Machine) : Type 0 where
  pub info : Info
  pub is : machine.fault ≡ Some info
  pub free : machine.processor.slot ≡ None
  pub going : machine.stopped ≡ false

pub settled_third : (machine : Machine) → Faulted machine → Settled (third_step whole (second_step whole (first_step whole machine)))
settled_third machine faulted =
    let second = second_step whole (first_step whole machine) in
    let plain = two_plain machine in
    let free : second.machine.processor.slot ≡ None = (two_go machine).slot ∙ faulted.free in
    let going : second.machine.stopped ≡ false = plain.going faulted.going in
    subst (λ (s : Bool). Settled (if s then second else deliver whole_end second)) (sym going)
    (subst (λ (s : Option Slot). Settled (if is_some s then second else rounds whole_end most_rounds second)) (sym free)
    (some_rounds most_rounds second faulted.info (omega arith) free plain.over going (plain.fault ∙ faulted.is)))

-- What a turn does before its instruction to the processor beside what effects can set, and which events tell of it.
use Rattle.std.proofs.Common.{◌≡◌, ℕ, zero, suc, ◌==◌, Bool, true, false, List, [], ◌∷◌, ◌++◌, Option, Some, None, refl, sym, ap, ◌∙◌}
use Rattle.std.specs.Prelude.{⊤, ◌&&◌, ◌||◌, not, nat_le, length, is_some, if◌then◌else◌}
use Rattle.std.specs.List.{list_any}
use Rattle.std.proofs.lemmas.List.Folds.{list_any-append}
use Rattle.kernel_core.specs.declared.event.Delivery.TheVariants as deliveries
use Rattle.kernel_core.specs.declared.event.Event.{Event}
use Rattle.kernel_core.specs.declared.event.Event.TheVariants as events
use Rattle.kernel_core.specs.declared.finish.Finish.{Finish}
use Rattle.kernel_core.specs.declared.signal.Sig.{Sig}
use Rattle.kernel_model.specs.Clock.{gone_off}
use Rattle.kernel_model.specs.Shared.{Info}
use Rattle.kernel_model.specs.SignalRows.{action_at, default_handler, ignores, is_continue, is_stop, pending_at, post}
use Rattle.kernel_model.specs.SignalSets.{has}
use Rattle.kernel_model.specs.declared.signal.Action.{Action}
use Rattle.kernel_model.specs.declared.signal.Post.{Post}
use Rattle.kernel_model.specs.declared.signal.Post.TheVariants as posts
use Rattle.mips_exec.specs.declared.cpu.Slot.{Slot}
use Rattle.o32_model.specs.GuestBytes.{is_storable}
use Rattle.o32_model.specs.WaitEnds.{WaitEnd}
use Rattle.o32_model.specs.declared.wait.Cause.TheVariants.{Due, Accepted, Handler}
use Rattle.o32_model.specs.declared.wait.Close.{Close}
use Rattle.o32_model.specs.declared.wait.Close.TheVariants as closes
use Rattle.o32_model.specs.declared.wait.Wait.{Wait}
use Rattle.o32_turns.specs.Closing.{closed, unwaited, wait_over, whole_end}
use Rattle.o32_turns.specs.Delivering.{by_default, deliver, delivered, fault_delivered, has_handler, is_delivered, most_rounds, next_signal, next_taken, round_by, rounds, signal_taken, stops, used_up}
use Rattle.o32_turns.specs.Handling.{Framed, begun, entering, faults, frame_fault, frame_for, handled, is_segv, killed, saved_or, wait_left_by}
use Rattle.o32_turns.specs.Machine.{Machine, Rules, Within, begin, happens, with_change, with_machine}
use Rattle.o32_turns.specs.Posting.{event_info, events_posted, expiry_events, is_kill, let_go, post_event, sent_to, timer_posted, waits_for}
use Rattle.o32_turns.specs.Turn.{accepts, continued, ended_by, ended_if_over, first_step, fourth_step, is_over_at, second_step, third_step, whole}
use Rattle.replay_core.specs.Replay.{is_killing}
use Rattle.schedule.specs.declared.events.Due.{Due as Coming}
use Rattle.turn_records.specs.Turn.{begins_handler, is_touched, touches}

-- From one state within a turn to a later one

-- a delivery kills at most
abbrev pub KillsAtMost : Option Finish → Type 0
KillsAtMost None = ⊤
KillsAtMost (Some finish) = is_killing (Some finish) ≡ true

abbrev pub handler_began : Within → Bool
handler_began within = list_any begins_handler within.events

pub record Goes (old new : Within) : Type 0 where
  -- events only come
  pub grows : (test : Event → Bool) → list_any test old.events ≡ true → list_any test new.events ≡ true
  pub slot : new.machine.processor.slot ≡ old.machine.processor.slot
  -- a handler alone takes away what LL linked
  pub link : handler_began new ≡ false → new.machine.processor.link ≡ old.machine.processor.link
  -- no wait begins
  pub waits : old.machine.wait ≡ None → new.machine.wait ≡ None
  -- where no call waits nothing is done to the machine but by a handler
  pub quiet : old.machine.wait ≡ None → handler_began new ≡ false → is_touched old ≡ false → is_touched new ≡ false
  pub kills : KillsAtMost old.over → KillsAtMost new.over

-- Boolean facts

pub not_both : {A : Type 0} (b : Bool) → b ≡ true → b ≡ false → A
not_both true is isnt = absurd cc
not_both false is isnt = absurd cc

pub before_false : (a b : Bool) → (a ≡ true → b ≡ true) → b ≡ false → a ≡ false
before_false true b more is = not_both b (more refl) is
before_false false b more is = refl

pub or_grows : (a b : Bool) → a ≡ true → (a || b) ≡ true
or_grows true b is = refl
or_grows false b is = absurd cc

pub or_none : (a b : Bool) → a ≡ false → b ≡ false → (a || b) ≡ false
or_none true b first second = absurd cc
or_none false b first second = second

pub or_left : (a b : Bool) → (a || b) ≡ false → a ≡ false
or_left true b is = absurd cc
or_left false b is = refl

pub or_right : (a b : Bool) → (a || b) ≡ false → b ≡ false
or_right true b is = absurd cc
or_right false b is = is

pub any_grows : (test : Event → Bool) (events more : List Event) → list_any test events ≡ true → list_any test (events ++ more) ≡ true
any_grows test events more is = list_any-append test events more ∙ or_grows (list_any test events) (list_any test more) is

pub any_none : (test : Event → Bool) (events more : List Event) → list_any test events ≡ false → list_any test more ≡ false → list_any test (events ++ more) ≡ false
any_none test events more first second = list_any-append test events more ∙ or_none (list_any test events) (list_any test more) first second

-- Going on

pub stays : (within : Within) → Goes within within
stays within = record { grows = λ test is. is; slot = refl; link = λ none. refl; waits = λ none. none; quiet = λ none no calm. calm; kills = λ kill. kill }

pub goes_then : (a b c : Within) → Goes a b → Goes b c → Goes a c
goes_then a b c first second = record {
  grows = λ test is. second.grows test (first.grows test is);
  slot = second.slot ∙ first.slot;
  link = λ no. second.link no ∙ first.link (before_false (handler_began b) (handler_began c) (second.grows begins_handler) no);
  waits = λ none. second.waits (first.waits none);
  quiet = λ none no calm.
      second.quiet (first.waits none) no (first.quiet none (before_false (handler_began b) (handler_began c) (second.grows begins_handler) no) calm);
  kills = λ kill. second.kills (first.kills kill);
}

pub goes_either : (test : Bool) (old one other : Within) → Goes old one → Goes old other → Goes old (if test then one else other)
goes_either true old one other first second = first
goes_either false old one other first second = second

-- more events, none of which tells of a change, with what stands beside the processor and the wait
abbrev pub with_events : Within → List Event → Within
with_events within more = record within { events = within.events ++ more }

pub goes_quietly : (within : Within) (more : List Event) → list_any touches more ≡ false → Goes within (with_events within more)
goes_quietly within more none = record {
  grows = λ test is. any_grows test within.events more is;
  slot = refl;
  link = λ no. refl;
  waits = λ none. none;
  quiet = λ wait no calm. any_none touches within.events more calm none;
  kills = λ kill. kill;
}

-- The first step

post_quiet : (signal : Sig) (post : Post) → touches (post_event signal post) ≡ false
post_quiet signal posts.Queued = refl
post_quiet signal posts.Dropped = refl
post_quiet signal posts.Full = refl

module _ (rules : Rules) where
  let_go_goes : (signal : Sig) (within : Within) → Goes within (let_go signal within)
  let_go_goes signal within =
      let go = happens (with_machine within (record within.machine { stopped = false })) events.Cont in
      goes_either ((is_kill signal || is_continue signal) && within.machine.stopped) within go within
      (let quiet = goes_quietly within (events.Cont ∷ []) refl in record { grows = quiet.grows; slot = refl; link = λ no. refl; waits = λ none. none; quiet = quiet.quiet; kills = λ kill. kill })
      (stays within)

  sent_goes : (within : Within) (info : Info) → Goes within (sent_to rules within info)
  sent_goes within info =
      let machine = within.machine in
      let became = post machine.kernel.signals info (waits_for rules machine info.sig) in
      let event = post_event info.sig became.post in
      let calm : list_any touches (event ∷ []) ≡ false = or_none (touches event) false (post_quiet info.sig became.post) refl in
      let quiet = goes_quietly within (event ∷ []) calm in
      goes_then within _ (sent_to rules within info)
      (record { grows = quiet.grows; slot = refl; link = λ no. refl; waits = λ none. none; quiet = quiet.quiet; kills = λ kill. kill })
      (let_go_goes info.sig _)

  same_but_coming : (within : Within) (coming : List Coming) → Goes within (with_machine within (record within.machine { coming = coming }))
  same_but_coming within coming = record { grows = λ test is. is; slot = refl; link = λ none. refl; waits = λ none. none; quiet = λ none no calm. calm; kills = λ kill. kill }

  events_go : (coming : List Coming) (within : Within) → Goes within (events_posted rules coming within)
  events_go [] within = same_but_coming within []
  events_go (due ∷ more) within =
      goes_either (nat_le due.time within.machine.kernel.clock) within (events_posted rules more (sent_to rules within (event_info due))) _
      (goes_then within (sent_to rules within (event_info due)) (events_posted rules more (sent_to rules within (event_info due)))
      (sent_goes within (event_info due)) (events_go more (sent_to rules within (event_info due))))
      (same_but_coming within (due ∷ more))

  expiry_quiet : (went : _) → list_any touches (expiry_events went) ≡ false
  expiry_quiet None = refl
  expiry_quiet (Some timer) = refl

  timer_goes : (within : Within) → Goes within (timer_posted rules within)
  timer_goes within =
      let kernel = within.machine.kernel in
      let quiet = goes_quietly within (expiry_events (gone_off kernel.clock kernel.timer)) (expiry_quiet (gone_off kernel.clock kernel.timer)) in
      record { grows = quiet.grows; slot = refl; link = λ no. refl; waits = λ none. none; quiet = quiet.quiet; kills = λ kill. kill }

  pub first_goes : (machine : Machine) → Goes (begin machine) (first_step rules machine)
  first_goes machine =
      goes_then (begin machine) (events_posted rules machine.coming (begin machine)) (first_step rules machine)
      (events_go machine.coming (begin machine)) (timer_goes (events_posted rules machine.coming (begin machine)))

-- A wait ends

pub no_wait : {A : Type 0} (wait : Option Wait) (some : Wait) → wait ≡ None → wait ≡ Some some → A
no_wait wait some none is = absurd (let wrong : None ≡ Some some = sym none ∙ is in cc)

module _ (within : Within) (wait : Wait) (is : within.machine.wait ≡ Some wait) where
  pub change_goes : (end : WaitEnd) (close : Close) → Goes within (with_change within (closed wait close (unwaited within.machine end)))
  change_goes end (closes.Value value) = record {
    grows = λ test some. any_grows test within.events _ some;
    slot = refl;
    link = λ no. refl;
    waits = λ none. refl;
    quiet = λ none no calm. no_wait within.machine.wait wait none is;
    kills = λ kill. kill;
  }
  change_goes end (closes.Error error) = record {
    grows = λ test some. any_grows test within.events _ some;
    slot = refl;
    link = λ no. refl;
    waits = λ none. refl;
    quiet = λ none no calm. no_wait within.machine.wait wait none is;
    kills = λ kill. kill;
  }
  change_goes end closes.Again = record {
    grows = λ test some. any_grows test within.events _ some;
    slot = refl;
    link = λ no. refl;
    waits = λ none. refl;
    quiet = λ none no calm. no_wait within.machine.wait wait none is;
    kills = λ kill. kill;
  }
  change_goes end closes.Restart = record {
    grows = λ test some. any_grows test within.events _ some;
    slot = refl;
    link = λ no. refl;
    waits = λ none. refl;
    quiet = λ none no calm. no_wait within.machine.wait wait none is;
    kills = λ kill. kill;
  }

  pub over_goes : (end : WaitEnd) → Goes within (with_change within (wait_over wait end within.machine))
  over_goes end = change_goes end end.close

unchanged_goes : (within : Within) → Goes within (with_change within (record { machine = within.machine; events = [] }))
unchanged_goes within = goes_quietly within [] refl

ended_goes : (within : Within) (wait : Option Wait) → within.machine.wait ≡ wait → Goes within (with_change within (ended_if_over whole within.machine wait))
ended_goes within None is = unchanged_goes within
ended_goes within (Some wait) is = by (accepts whole within.machine) (is_over_at within.machine.kernel.clock wait.deadline) where
  by : (accepted due : Bool) → Goes within (with_change within (if accepted then ended_by whole Accepted wait within.machine else (if due then ended_by whole Due wait within.machine else record { machine = within.machine; events = [] })))
  by true due = over_goes within wait is _
  by false true = over_goes within wait is _
  by false false = unchanged_goes within

pub second_goes : (within : Within) → Goes within (second_step whole within)
second_goes within =
    goes_either (within.machine.stopped || within.machine.interrupted) within within _ (stays within) (ended_goes within within.machine.wait refl)

continued_goes : (within : Within) (wait : Option Wait) → within.machine.wait ≡ wait → Goes within (with_change within (continued whole within.machine wait))
continued_goes within None is = unchanged_goes within
continued_goes within (Some wait) is = over_goes within wait is _

pub fourth_goes : (within : Within) → Goes within (fourth_step whole within)
fourth_goes within =
    goes_either (within.machine.interrupted && not within.machine.stopped) within _ within (continued_goes within within.machine.wait refl) (stays within)

-- Signals are delivered, outside a slot

one_quietly : (within : Within) (event : Event) → touches event ≡ false → Goes within (happens within event)
one_quietly within event calm = goes_quietly within (event ∷ []) (or_none (touches event) false calm refl)

killed_goes : (signal : Sig) (within : Within) → Goes within (killed signal within)
killed_goes signal within =
    let quiet = one_quietly within (events.Killed signal) refl in
    record { grows = quiet.grows; slot = refl; link = λ no. refl; waits = λ none. none; quiet = quiet.quiet; kills = λ kill. refl }

faults_goes : (info : Info) (within : Within) → Goes within (faults info within)
faults_goes info within =
    let quiet = goes_quietly within (events.Fault info.sig _ info.addr ∷ []) refl in
    record { grows = quiet.grows; slot = refl; link = λ no. refl; waits = λ none. none; quiet = quiet.quiet; kills = λ kill. kill }

-- where a handler began
module _ (within : Within) (free : within.machine.processor.slot ≡ None) (began : handler_began within ≡ true) where
  enters_goes : (info : Info) (action : Action) (framed : Framed) → Goes within (entering within info action framed)
  enters_goes info action framed = record {
    grows = λ test some. some;
    slot = sym free;
    link = λ no. not_both (handler_began within) began no;
    waits = λ none. none;
    quiet = λ none no calm. calm;
    kills = λ kill. kill;
  }

  pub begun_goes : (info : Info) (action : Action) → Goes within (begun within info action)
  begun_goes info action =
      let framed = frame_for within.machine.kernel within.machine.processor info action (saved_or within.saved within.machine.kernel.signals.mask) in
      goes_either (is_storable within.machine.memory framed.entry.frame (length framed.bytes)) within (entering within info action framed) _
      (enters_goes info action framed)
      (goes_either (is_segv info.sig) within (killed info.sig within) (faults frame_fault within) (killed_goes info.sig within) (faults_goes frame_fault within))

pub left_goes : (within : Within) (action : Action) (wait : Option Wait) → within.machine.wait ≡ wait → Goes within (wait_left_by whole_end action wait within)
left_goes within action None is = stays within
left_goes within action (Some wait) is =
    let over = over_goes within wait is (whole_end action.flags.restart wait Handler within.machine.kernel within.machine.memory) in
    record { grows = over.grows; slot = over.slot; link = over.link; waits = over.waits; quiet = over.quiet; kills = λ kill. kill }

pub began_now : (within : Within) (signal : Sig) → handler_began (happens within (events.Signal signal deliveries.Handler)) ≡ true
began_now within signal = list_any-append begins_handler within.events (events.Signal signal deliveries.Handler ∷ []) ∙ or_true (handler_began within) where
  or_true : (b : Bool) → (b || true) ≡ true
  or_true true = refl
  or_true false = refl

pub handler_goes : (within : Within) (signal : Sig) → Goes within (happens within (events.Signal signal deliveries.Handler))
handler_goes within signal = record {
  grows = λ test is. any_grows test within.events (events.Signal signal deliveries.Handler ∷ []) is;
  slot = refl;
  link = λ no. refl;
  waits = λ none. none;
  quiet = λ none no calm. not_both (handler_began (happens within (events.Signal signal deliveries.Handler))) (began_now within signal) no;
  kills = λ kill. kill;
}

module _ (within : Within) (free : within.machine.processor.slot ≡ None) where
  pub handled_goes : (info : Info) (action : Action) → Goes within (handled whole_end within info action)
  handled_goes info action =
      let left = wait_left_by whole_end action within.machine.wait within in
      let went = happens left (events.Signal info.sig deliveries.Handler) in
      let leaves = left_goes within action within.machine.wait refl in
      goes_then within left (handled whole_end within info action) leaves
      (goes_then left went (handled whole_end within info action) (handler_goes left info.sig)
      (begun_goes went (leaves.slot ∙ free) (began_now left info.sig) info action))

  pub handled_begins : (info : Info) (action : Action) → handler_began (handled whole_end within info action) ≡ true
  handled_begins info action =
      let left = wait_left_by whole_end action within.machine.wait within in
      let went = happens left (events.Signal info.sig deliveries.Handler) in
      let leaves = left_goes within action within.machine.wait refl in
      (begun_goes went (leaves.slot ∙ free) (began_now left info.sig) info action).grows begins_handler (began_now left info.sig)

  default_goes : (signal : Sig) → Goes within (by_default signal within)
  default_goes signal =
      let quiet = one_quietly within (events.Signal signal deliveries.Stop) refl in
      goes_either (is_stop signal) within (stops signal within) (killed signal within)
      (record { grows = quiet.grows; slot = refl; link = λ no. refl; waits = λ none. none; quiet = quiet.quiet; kills = λ kill. kill })
      (killed_goes signal within)

  delivered_goes : (info : Info) (action : Action) → Goes within (delivered whole_end within info action)
  delivered_goes info action =
      goes_either (ignores info.sig action) within (happens within (events.Signal info.sig deliveries.Ignored)) _
      (one_quietly within (events.Signal info.sig deliveries.Ignored) refl)
      (goes_either (action.handler == default_handler) within (by_default info.sig within) (handled whole_end within info action)
      (default_goes info.sig) (handled_goes info action))

  fault_goes : (info : Info) (action : Action) → Goes within (fault_delivered whole_end within info action)
  fault_goes info action =
      goes_either (not (has within.machine.kernel.signals.mask info.sig) && has_handler action) within (handled whole_end within info action) (killed info.sig within)
      (handled_goes info action) (killed_goes info.sig within)

changed_goes : (old new : Within) (machine : Machine) → machine.processor ≡ old.machine.processor → machine.wait ≡ old.machine.wait → Goes (with_machine old machine) new → Goes old new
changed_goes old new machine processor wait goes = record {
  grows = goes.grows;
  slot = goes.slot ∙ ap (λ (p : _). p.slot) processor;
  link = λ no. goes.link no ∙ ap (λ (p : _). p.link) processor;
  waits = λ none. goes.waits (wait ∙ none);
  quiet = λ none no calm. goes.quiet (wait ∙ none) no calm;
  kills = goes.kills;
}

module _ (within : Within) (free : within.machine.processor.slot ≡ None) where
  taken_goes : (signal : Sig) (infos : List Info) → Goes within (signal_taken whole_end within signal infos)
  taken_goes signal [] = stays within
  taken_goes signal (info ∷ rest) =
      changed_goes within (signal_taken whole_end within signal (info ∷ rest)) (used_up within.machine signal rest) refl refl
      (delivered_goes (with_machine within (used_up within.machine signal rest)) free info (action_at within.machine.kernel.signals signal))

  next_goes : (signal : Option Sig) → Goes within (next_taken whole_end within signal)
  next_goes None = stays within
  next_goes (Some signal) = taken_goes signal (pending_at within.machine.kernel.signals signal)

  pub round_goes : (fault : Option Info) → Goes within (round_by whole_end within fault)
  round_goes None = next_goes (next_signal within.machine.kernel.signals)
  round_goes (Some info) =
      let machine = record within.machine { fault = None } in
      changed_goes within (round_by whole_end within (Some info)) machine refl refl
      (fault_goes (with_machine within machine) free info (action_at within.machine.kernel.signals info.sig))

pub rounds_go : (count : ℕ) (within : Within) → within.machine.processor.slot ≡ None → Goes within (rounds whole_end count within)
unfolding rounds
rounds_go zero within free = stays within
rounds_go (suc more) within free =
    let next = round_by whole_end within within.machine.fault in
    let goes = round_goes within free within.machine.fault in
    goes_either (is_delivered within) within within (rounds whole_end more next) (stays within)
    (goes_then within next (rounds whole_end more next) goes (rounds_go more next (goes.slot ∙ free)))

pub deliver_goes : (within : Within) → Goes within (deliver whole_end within)
deliver_goes within = by within.machine.processor.slot refl where
  by : (slot : Option Slot) → within.machine.processor.slot ≡ slot → Goes within (if is_some slot then within else rounds whole_end most_rounds within)
  by None is = rounds_go most_rounds within is
  by (Some slot) is = stays within

pub third_goes : (within : Within) → Goes within (third_step whole within)
third_goes within = goes_either within.machine.stopped within within (deliver whole_end within) (stays within) (deliver_goes within)

pub two_go : (machine : Machine) → Goes (begin machine) (second_step whole (first_step whole machine))
two_go machine =
    goes_then (begin machine) (first_step whole machine) (second_step whole (first_step whole machine))
    (first_goes whole machine) (second_goes (first_step whole machine))

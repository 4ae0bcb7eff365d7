-- The first four steps of a turn leave registers and memory as they were, where none of their events says that they changed them.
use Rattle.std.proofs.Common.{◌≡◌, ℕ, zero, suc, Bool, true, false, List, [], ◌∷◌, refl, sym, ◌∙◌, Option, Some, None}
use Rattle.std.specs.Prelude.{◌==◌, nat_le, ◌++◌, ◌&&◌, ◌||◌, not, is_some, length, if◌then◌else◌}
use Rattle.std.specs.List.{list_any}
use Rattle.std.proofs.lemmas.List.Folds.{list_any-append}
use Rattle.kernel_core.specs.declared.event.Delivery.TheVariants as deliveries
use Rattle.kernel_core.specs.declared.event.Event.{Event}
use Rattle.kernel_core.specs.declared.event.Event.TheVariants as events
use Rattle.kernel_core.specs.declared.signal.Sig.{Sig}
use Rattle.kernel_model.specs.Shared.{Info}
use Rattle.kernel_model.specs.SignalRows.{Posted, action_at, default_handler, ignores, is_continue, is_stop, pending_at, post}
use Rattle.kernel_model.specs.SignalSets.{has}
use Rattle.kernel_model.specs.declared.signal.Action.{Action}
use Rattle.o32_model.specs.GuestBytes.{is_storable}
use Rattle.o32_model.specs.declared.wait.Cause.{Cause}
use Rattle.o32_model.specs.declared.wait.Cause.TheVariants.{Accepted, Due as Late, Stopped}
use Rattle.o32_model.specs.declared.wait.Close.{Close}
use Rattle.o32_model.specs.declared.wait.Close.TheVariants as closes
use Rattle.o32_model.specs.declared.wait.Wait.{Wait}
use Rattle.o32_turns.specs.Closing.{closed, unwaited, whole_end}
use Rattle.o32_turns.specs.Delivering.{by_default, deliver, delivered, fault_delivered, fault_taken, has_handler, is_delivered, most_rounds, next_signal, next_taken, round_by, rounds, signal_taken, stops, used_up}
use Rattle.o32_turns.specs.Handling.{Framed, begun, entered_by, entering, faults, frame_fault, handled, is_segv, killed, not_entered, wait_left_by}
use Rattle.o32_turns.specs.Machine.{Change, Ends, Machine, Rules, Within, begin, happens, no_change, with_change, with_machine}
use Rattle.o32_turns.specs.Posting.{after_post, event_info, events_posted, is_kill, let_go, sent_to, timer_posted, waits_for}
use Rattle.o32_turns.specs.Turn.{accepts, continued, ended_by, ended_if_over, first_step, fourth_step, is_over_at, second_step, third_step, whole}
use Rattle.schedule.specs.declared.events.Due.{Due}
use Rattle.turn_records.specs.Turn.{before_instruction, is_touched, touches, unless_over}

-- Registers and memory are the same, and no event before says otherwise.
record IsSame (from to : Within) : Type 0 where
  quiet : is_touched from ≡ false
  processor : from.machine.processor ≡ to.machine.processor
  memory : from.machine.memory ≡ to.machine.memory

abbrev Keeps : Within → Within → Type 0
Keeps from to = is_touched to ≡ false → IsSame from to

stays : (within : Within) → Keeps within within
stays within quiet = record { quiet = quiet; processor = refl; memory = refl }

follows : (a b c : Within) → Keeps a b → Keeps b c → Keeps a c
follows a b c first second quiet =
    let later = second quiet in
    let sooner = first later.quiet in
    record {
      quiet = sooner.quiet;
      processor = sooner.processor ∙ later.processor;
      memory = sooner.memory ∙ later.memory;
    }

either : (test : Bool) (from one other : Within) → Keeps from one → Keeps from other → Keeps from (if test then one else other)
either true from one other first second = first
either false from one other first second = second

-- Events

or_left : (a b : Bool) → (a || b) ≡ false → a ≡ false
or_left false b is = refl
or_left true b is = is

or_right : (a b : Bool) → b ≡ true → (a || b) ≡ true
or_right false b is = is
or_right true b is = refl

or_first : (a b : Bool) → a ≡ true → (a || b) ≡ true
or_first true b is = refl
or_first false b is = absurd cc

quiet_before : (before more : List Event) → list_any touches (before ++ more) ≡ false → list_any touches before ≡ false
quiet_before before more is = or_left (list_any touches before) (list_any touches more) (sym (list_any-append touches before more) ∙ is)

loud_behind : (before more : List Event) → list_any touches more ≡ true → list_any touches (before ++ more) ≡ true
loud_behind before more is = list_any-append touches before more ∙ or_right (list_any touches before) (list_any touches more) is

loud_before : (before more : List Event) → list_any touches before ≡ true → list_any touches (before ++ more) ≡ true
loud_before before more is = list_any-append touches before more ∙ or_first (list_any touches before) (list_any touches more) is

loud : (from to : Within) → is_touched to ≡ true → Keeps from to
loud from to is quiet = absurd (let wrong : true ≡ false = sym is ∙ quiet in cc)

happened : (within : Within) (event : Event) → Keeps within (happens within event)
happened within event quiet =
    record { quiet = quiet_before within.events (event ∷ []) quiet; processor = refl; memory = refl }

-- What is posted

let_go_keeps : (signal : Sig) (within : Within) → Keeps within (let_go signal within)
let_go_keeps signal within =
    either ((is_kill signal || is_continue signal) && within.machine.stopped) within _ within
    (λ quiet. record { quiet = quiet_before within.events (events.Cont ∷ []) quiet; processor = refl; memory = refl })
    (stays within)

after_post_keeps : (within : Within) (signal : Sig) (posted : Posted) → Keeps within (after_post within signal posted)
after_post_keeps within signal posted quiet =
    record { quiet = quiet_before within.events _ quiet; processor = refl; memory = refl }

module _ (rules : Rules) where
  sent_keeps : (within : Within) (info : Info) → Keeps within (sent_to rules within info)
  sent_keeps within info =
      let came = post within.machine.kernel.signals info (waits_for rules within.machine info.sig) in
      let behind = after_post within info.sig came in
      follows within behind (let_go info.sig behind) (after_post_keeps within info.sig came) (let_go_keeps info.sig behind)

  events_keep : (coming : List Due) (within : Within) → Keeps within (events_posted rules coming within)
  events_keep [] within = λ quiet. record { quiet = quiet; processor = refl; memory = refl }
  events_keep (due ∷ more) within =
      let sent = sent_to rules within (event_info due) in
      either (nat_le due.time within.machine.kernel.clock) within (events_posted rules more sent) _
      (follows within sent (events_posted rules more sent) (sent_keeps within (event_info due)) (events_keep more sent))
      (λ quiet. record { quiet = quiet; processor = refl; memory = refl })

  timer_keeps : (within : Within) → Keeps within (timer_posted rules within)
  timer_keeps within quiet =
      record { quiet = quiet_before within.events _ quiet; processor = refl; memory = refl }

  first_keeps : (machine : Machine) → Keeps (begin machine) (first_step rules machine)
  first_keeps machine =
      let came = events_posted rules machine.coming (begin machine) in
      follows (begin machine) came (timer_posted rules came) (events_keep machine.coming (begin machine)) (timer_keeps came)

-- The end of a wait is an event

closed_loud : (wait : Wait) (close : Close) (machine : Machine) → list_any touches (closed wait close machine).events ≡ true
closed_loud wait (closes.Value value) machine = refl
closed_loud wait (closes.Error error) machine = refl
closed_loud wait closes.Again machine = refl
closed_loud wait closes.Restart machine = refl

either_change : (test : Bool) (within : Within) (one other : Change) → Keeps within (with_change within one) → Keeps within (with_change within other)
    → Keeps within (with_change within (if test then one else other))
either_change true within one other first second = first
either_change false within one other first second = second

unchanged : (within : Within) → Keeps within (with_change within (no_change within.machine))
unchanged within quiet = record { quiet = quiet_before within.events [] quiet; processor = refl; memory = refl }

module _ (rules : Rules) where
  ended_loud : (cause : Cause) (wait : Wait) (within : Within) → Keeps within (with_change within (ended_by rules cause wait within.machine))
  ended_loud cause wait within =
      let end = rules.ended false wait cause within.machine.kernel within.machine.memory in
      loud within (with_change within (ended_by rules cause wait within.machine))
      (loud_behind within.events _ (closed_loud wait end.close (unwaited within.machine end)))

  ended_keeps : (within : Within) (wait : Option Wait) → Keeps within (with_change within (ended_if_over rules within.machine wait))
  ended_keeps within None = unchanged within
  ended_keeps within (Some wait) =
      either_change (accepts rules within.machine) within _ _ (ended_loud Accepted wait within)
      (either_change (is_over_at within.machine.kernel.clock wait.deadline) within _ _ (ended_loud Late wait within) (unchanged within))

  second_keeps : (within : Within) → Keeps within (second_step rules within)
  second_keeps within =
      either (within.machine.stopped || within.machine.interrupted) within within _ (stays within) (ended_keeps within within.machine.wait)

  continued_keeps : (within : Within) (wait : Option Wait) → Keeps within (with_change within (continued rules within.machine wait))
  continued_keeps within None = unchanged within
  continued_keeps within (Some wait) = ended_loud Stopped wait within

  fourth_keeps : (within : Within) → Keeps within (fourth_step rules within)
  fourth_keeps within =
      either (within.machine.interrupted && not within.machine.stopped) within _ within (continued_keeps within within.machine.wait) (stays within)

-- The beginning of a handler is an event

module _ (within : Within) (is : is_touched within ≡ true) where
  no_frame : (info : Info) (segv : Bool) → is_touched (if segv then killed info.sig within else faults frame_fault within) ≡ true
  no_frame info true = loud_before within.events _ is
  no_frame info false = loud_before within.events _ is

  frame_by : (info : Info) (action : Action) (framed : Framed) (stored : Bool)
      → is_touched (if stored then entering within info action framed else not_entered info within) ≡ true
  frame_by info action framed true = is
  frame_by info action framed false = no_frame info (is_segv info.sig)

  entered_loud : (info : Info) (action : Action) (framed : Framed) → is_touched (entered_by within info action framed) ≡ true
  entered_loud info action framed =
      frame_by info action framed (is_storable within.machine.memory framed.entry.frame (length framed.bytes))

  begun_loud : (info : Info) (action : Action) → is_touched (begun within info action) ≡ true
  begun_loud info action = entered_loud info action _

killed_keeps : (signal : Sig) (within : Within) → Keeps within (killed signal within)
killed_keeps signal within quiet =
    record { quiet = quiet_before within.events (events.Killed signal ∷ []) quiet; processor = refl; memory = refl }

stops_keeps : (signal : Sig) (within : Within) → Keeps within (stops signal within)
stops_keeps signal within quiet =
    record { quiet = quiet_before within.events (events.Signal signal deliveries.Stop ∷ []) quiet; processor = refl; memory = refl }

module _ (ended : Ends) where
  handled_keeps : (within : Within) (info : Info) (action : Action) → Keeps within (handled ended within info action)
  handled_keeps within info action =
      let left = wait_left_by ended action within.machine.wait within in
      let went = happens left (events.Signal info.sig deliveries.Handler) in
      loud within (handled ended within info action)
      (begun_loud went (loud_behind left.events (events.Signal info.sig deliveries.Handler ∷ []) refl) info action)

  delivered_keeps : (within : Within) (info : Info) (action : Action) → Keeps within (delivered ended within info action)
  delivered_keeps within info action =
      either (ignores info.sig action) within _ _ (happened within (events.Signal info.sig deliveries.Ignored))
      (either (action.handler == default_handler) within (by_default info.sig within) _
      (either (is_stop info.sig) within _ _ (stops_keeps info.sig within) (killed_keeps info.sig within))
      (handled_keeps within info action))

  fault_keeps : (within : Within) (info : Info) (action : Action) → Keeps within (fault_delivered ended within info action)
  fault_keeps within info action =
      either (not (has within.machine.kernel.signals.mask info.sig) && has_handler action) within _ _
      (handled_keeps within info action) (killed_keeps info.sig within)

  -- Rounds

  taken_keeps : (within : Within) (signal : Sig) (pending : List Info) → Keeps within (signal_taken ended within signal pending)
  taken_keeps within signal [] = stays within
  taken_keeps within signal (info ∷ rest) =
      let used = with_machine within (used_up within.machine signal rest) in
      follows within used (signal_taken ended within signal (info ∷ rest))
      (λ quiet. record { quiet = quiet; processor = refl; memory = refl })
      (delivered_keeps used info (action_at within.machine.kernel.signals signal))

  next_keeps : (within : Within) (next : Option Sig) → Keeps within (next_taken ended within next)
  next_keeps within None = stays within
  next_keeps within (Some signal) = taken_keeps within signal (pending_at within.machine.kernel.signals signal)

  round_keeps : (within : Within) (fault : Option Info) → Keeps within (round_by ended within fault)
  round_keeps within None = next_keeps within (next_signal within.machine.kernel.signals)
  round_keeps within (Some info) =
      let cleared = with_machine within (record within.machine { fault = None }) in
      follows within cleared (fault_taken ended within info)
      (λ quiet. record { quiet = quiet; processor = refl; memory = refl })
      (fault_keeps cleared info (action_at within.machine.kernel.signals info.sig))

  rounds_keep : (count : ℕ) (within : Within) → Keeps within (rounds ended count within)
  unfolding rounds
  rounds_keep zero within = stays within
  rounds_keep (suc more) within =
      let came = round_by ended within within.machine.fault in
      either (is_delivered within) within within (rounds ended more came) (stays within)
      (follows within came (rounds ended more came) (round_keeps within within.machine.fault) (rounds_keep more came))

  delivery_keeps : (within : Within) → Keeps within (deliver ended within)
  delivery_keeps within =
      either (is_some within.machine.processor.slot) within within (rounds ended most_rounds within) (stays within) (rounds_keep most_rounds within)

third_keeps : (within : Within) → Keeps within (third_step whole within)
third_keeps within =
    either within.machine.stopped within within (whole.deliver within) (stays within) (delivery_keeps whole_end within)

-- The four steps, of which a process that was killed doesn't take the fourth

unless_over_keeps : (within : Within) → Keeps within (unless_over within)
unless_over_keeps within =
    either (is_some within.over) within within (fourth_step whole within) (stays within) (fourth_keeps whole within)

steps_keep : (machine : Machine) → Keeps (begin machine) (before_instruction machine)
steps_keep machine =
    let first = first_step whole machine in
    let second = second_step whole first in
    let third = third_step whole second in
    follows (begin machine) first (unless_over third) (first_keeps whole machine)
    (follows first second (unless_over third) (second_keeps whole first)
    (follows second third (unless_over third) (third_keeps second) (unless_over_keeps third)))

pub untouched : (machine : Machine) → is_touched (before_instruction machine) ≡ false
    → (machine.processor ≡ (before_instruction machine).machine.processor) × (machine.memory ≡ (before_instruction machine).machine.memory)
untouched machine quiet =
    let same = steps_keep machine quiet in
    (same.processor, same.memory)

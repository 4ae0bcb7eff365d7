-- What the steps of a turn keep in the native log.
use Rattle.std.proofs.Common.{◌≡◌, ◌+◌, ◌≤◌, ◌∙◌, ℕ, Bool, true, false, List, [], Option, Some, None, Result, Ok, Err, OnOk, refl, sym, ap, subst, inr, arith}
use Rattle.std.specs.Prelude.{◌&&◌, ◌||◌, if◌then◌else◌}
use Rattle.bridge_delivery.specs.Ended.{KeepsEnd}
use Rattle.bridge_log.proofs.Histories.{logged_none, logged_then}
use Rattle.bridge_log.specs.Keeping.{Logged}
use Rattle.bridge_log.specs.Looks.{LooksFor}
use Rattle.guest_space.specs.Memory.{Memory, Pages}
use Rattle.kernel_core.specs.declared.core_error.Stop.{Stop}
use Rattle.kernel_core.specs.declared.event.Event.TheVariants as events
use Rattle.kernel_core.specs.declared.log_entry.LogEntry.{LogEntry}
use Rattle.kernel_core.specs.declared.signal.Sig.{Sig}
use Rattle.kernel_core.specs.declared.signal.Sig.TheVariants as sigs
use Rattle.kernel_model.specs.Clock.{gone_off, next_time}
use Rattle.kernel_model.specs.Pipes.{Sent, nothing}
use Rattle.kernel_model.specs.Shared.{Info}
use Rattle.kernel_model.specs.SignalRows.{advance, is_continue, post, scheduled_info, with_signals}
use Rattle.kernel_model.specs.State.{Kernel}
use Rattle.mips_exec.specs.Processor.{Processor}
use Rattle.native_calls.specs.History.{FollowsPost, moment, opening}
use Rattle.native_log.specs.NativeLog.{IsReady, NativeLog, as_told, at_time, emptied}
use Rattle.o32_machine.specs.Emulator.{Emulated, ProcessState, at_clock, machine_at, machine_of}
use Rattle.o32_machine.specs.Answered.{turns_done}
use Rattle.o32_machine.specs.Native.{LogsTurn, LogsTurns, TurnLogged}
use Rattle.o32_machine.specs.declared.turn.Turn as code
use Rattle.o32_machine.specs.inside.Logging.{KeepsNative, LastLogged, LogsLast, PostsLogged, SettledLogged}
use Rattle.o32_model.specs.Logs.{Kept}
use Rattle.o32_model.specs.Step.{O32Step}
use Rattle.o32_turns.specs.Going.{Standing, within_of}
use Rattle.o32_turns.specs.Machine.{Machine, Turn, Within, happens, with_machine}
use Rattle.o32_turns.specs.Posting.{after_post, event_info, is_kill, sent_to, timer_posted, waits_for}
use Rattle.o32_turns.specs.Runs.{reached}
use Rattle.o32_turns.specs.Turn.{turn_of, whole}
use Rattle.turn_records.specs.Keeping.{Records}
use Rattle.outside.specs.Streams.{Contents}
use Rattle.schedule.specs.declared.events.Due.{Due}

pub on_ok : {A : Type 0} (result : Result A Stop) (P Q : Type 0) → (P → Q) → OnOk result P → OnOk result Q
on_ok (Ok value) P Q so p = so p
on_ok (Err stop) P Q so p = p

-- A post of an event

go_kernel : (goes : Bool) (within : Within)
    → (if goes then happens (with_machine within (record within.machine { stopped = false })) events.Cont else within).machine.kernel ≡ within.machine.kernel
go_kernel true within = refl
go_kernel false within = refl

named : (signal : Sig) (value : Option ℕ) → (scheduled_info signal value).sig ≡ signal
named signal None = refl
named signal (Some value) = refl

module _ (told : ℕ) (old new : Standing) (processor : Processor) (memory : Memory) (kernel became : Kernel) (due : Due) (left : List ℕ) (sent : Sent)
    (posts : (coming : List Due) (idle : ℕ) → within_of new processor memory became coming idle ≡ sent_to whole (within_of old processor memory kernel coming idle) (event_info due)) where
  abbrev within : Within
  within = within_of old processor memory kernel [] 0

  abbrev kept : Bool
  kept = waits_for whole within.machine (event_info due).sig

  posted_kernel : became ≡ with_signals kernel (post kernel.signals (event_info due) kept).signals
  posted_kernel =
      ap (λ (w : Within). w.machine.kernel) (posts [] 0)
      ∙ go_kernel ((is_kill (event_info due).sig || is_continue (event_info due).sig) && within.machine.stopped)
      (after_post within (event_info due).sig (post kernel.signals (event_info due) kept))

  event_is : event_info due ≡ scheduled_info (event_info due).sig due.value
  event_is = ap (λ (s : Sig). scheduled_info s due.value) (sym (named _ due.value))

  pub event_follows : (info : Info) → info ≡ event_info due
      → FollowsPost (moment (at_time told kernel) left sent) info.sig info.code info.value (moment (at_time told became) left sent)
  event_follows info is =
      subst (λ (i : Info). FollowsPost (moment (at_time told kernel) left sent) i.sig i.code i.value (moment (at_time told became) left sent)) (sym is)
      (record {
        kept = kept;
        given = due.value;
        coded = ap (λ (i : Info). i.code) event_is;
        valued = ap (λ (i : Info). i.value) event_is;
        became = ap (at_time told) posted_kernel ∙ ap (λ (i : Info). with_signals (at_time told kernel) (post kernel.signals i kept).signals) event_is;
        rest = refl;
        silent = refl;
      })

-- Parts of a turn

-- the end of a wait
pub keeps_native : {A : Type 0} (result : Result A Stop) (told : Option (List ℕ)) (kernel became : Kernel) (before after : Pages) (old new : Kept)
    → KeepsEnd result told kernel became before after old new → KeepsNative result told kernel became old.native new.native
keeps_native (Ok done) told kernel became before after old new keeps = λ left is. (keeps left is).native
keeps_native (Err stop) told kernel became before after old new keeps = λ left is. tt

-- a look
pub looks_native : {A : Type 0} (IsThere : A → Type 0) (result : Result A Stop) (kernel became : Kernel) (before after : Contents) (old new : Kept)
    → LooksFor IsThere result kernel became before after old new → KeepsNative result before.left kernel became old.native new.native
looks_native IsThere (Ok found) kernel became before after old new looks = λ left is sent.
    subst (λ (k : Kernel). Logged old.native new.native (moment kernel left sent) (moment k left sent)) (sym (looks left is).1.same) ((looks left is).1.logged sent)
looks_native IsThere (Err stop) kernel became before after old new looks = λ left is. tt

-- nothing was done
pub none_native : (told : Option (List ℕ)) (kernel became : Kernel) (log : Option (List LogEntry)) → became ≡ kernel → (left : List ℕ) → told ≡ Some left
    → (sent : Sent) → Logged log log (moment kernel left sent) (moment became left sent)
none_native told kernel became log same left is sent =
    subst (λ (k : Kernel). Logged log log (moment kernel left sent) (moment k left sent)) (sym same) (logged_none log (moment kernel left sent))

-- a part, and the rest behind it
pub native_then : {A B : Type 0} (first : Result B Stop) (result : Result A Stop) (kernel between became : Kernel) (told : Option (List ℕ)) (old middle new : Option (List LogEntry)) (left : List ℕ)
    → ((sent : Sent) → Logged old middle (moment kernel left sent) (moment between left sent)) → told ≡ Some left
    → KeepsNative result told between became middle new
    → OnOk result ((sent : Sent) → Logged old new (moment kernel left sent) (moment became left sent))
native_then first result kernel between became told old middle new left done is rest =
    on_ok result ((sent : Sent) → Logged middle new (moment between left sent) (moment became left sent)) ((sent : Sent) → Logged old new (moment kernel left sent) (moment became left sent))
    (λ later sent. logged_then (done sent) (later sent)) (rest left is)

-- The timer

timer_row : (old new : Standing) (processor : Processor) (memory : Memory) (kernel became : Kernel) (clock : ℕ)
    → ((coming : List Due) (idle : ℕ) → within_of new processor memory became coming idle ≡ timer_posted whole (within_of old processor memory (at_time clock kernel) coming idle))
    → became ≡ advance kernel clock (waits_for whole (within_of old processor memory (at_time clock kernel) [] 0).machine sigs.Alrm)
unfolding advance
timer_row old new processor memory kernel became clock posts = ap (λ (w : Within). w.machine.kernel) (posts [] 0)

pub any_ok : {A E : Type 0} (result : Result A E) (P : Type 0) → P → OnOk result P
any_ok (Ok value) P p = p
any_ok (Err error) P p = tt

pub on_stored : {A E : Type 0} (result : Result A E) (P Q : Type 0) → (P → Q) → OnOk result P → OnOk result Q
on_stored (Ok value) P Q so p = so p
on_stored (Err error) P Q so p = p

-- the events are posted, and then the timer's signal
module _ (old between new : Standing) (processor : Processor) (memory : Memory) (kernel first middle became : Kernel) (clock : ℕ) (next : Option ℕ) (log told final : NativeLog)
    (is : first ≡ kernel) (events : PostsLogged first middle log told) (next_is : next ≡ next_time middle.timer)
    (timer : (coming : List Due) (idle : ℕ) → within_of new processor memory became coming idle ≡ timer_posted whole (within_of between processor memory (at_time clock middle) coming idle)) where
  pub posts_logged : {E : Type 0} (result : Result (Unit {0}) E)
      → OnOk result
      ((from to : Kernel) (kept : Bool) (left : List ℕ) (sent : Sent) → next ≡ next_time from.timer → to ≡ advance from clock kept
      → Logged told.entries final.entries (as_told told from left sent) (as_told final to left sent))
      → OnOk result (PostsLogged kernel became log final)
  posts_logged result leads =
      on_stored result _ _ (λ (so : (from to : Kernel) (kept : Bool) (left : List ℕ) (sent : Sent) → next ≡ next_time from.timer → to ≡ advance from clock kept
      → Logged told.entries final.entries (as_told told from left sent) (as_told final to left sent)). λ (left : List ℕ) (sent : Sent).
      subst (λ (k : Kernel). Logged log.entries final.entries (as_told log k left sent) (as_told final became left sent)) is
      (logged_then (events left sent)
      (so middle became (waits_for whole (within_of between processor memory (at_time clock middle) [] 0).machine sigs.Alrm) left sent next_is
      (timer_row between new processor memory middle became clock timer)))) leads

-- The first four steps

module _ (clock : ℕ) (kernel first posted became : Kernel) (left : List ℕ) (log told final : NativeLog) (part kept : Option (List LogEntry))
    (is : first ≡ kernel) (posts : PostsLogged first posted log told) (empty : part ≡ emptied told.entries)
    (calls : (sent : Sent) → Logged part kept (moment posted left sent) (moment became left sent)) where
  from_none : (sent : Sent) → Logged (emptied told.entries) kept (moment posted left sent) (moment became left sent)
  from_none sent = subst (λ (e : Option (List LogEntry)). Logged e kept (moment posted left sent) (moment became left sent)) empty (calls sent)

  pub settled_logged : ((before after : Sent) → Logged (emptied told.entries) kept (moment posted left before) (moment became left after)
      → Logged told.entries final.entries (as_told told posted left before) (as_told final became left after))
      → (Logged (emptied told.entries) kept (moment posted left nothing) (moment became left nothing) → IsReady clock final became)
      → SettledLogged clock kernel became left log final
  settled_logged leads ready = record {
    leads = λ (sent : Sent).
        subst (λ (k : Kernel). Logged log.entries final.entries (as_told log k left sent) (as_told final became left sent)) is
        (logged_then (posts left sent) (leads sent sent (from_none sent)));
    ready = ready (from_none nothing);
  }

-- The last steps

-- where nothing is taken and nothing is sent
pub nothing_logged : (kernel became : Kernel) (left : List ℕ) (log : NativeLog) → became ≡ kernel
    → Logged log.entries log.entries (as_told log kernel left nothing) (as_told log became left nothing)
nothing_logged kernel became left log same =
    subst (λ (k : Kernel). Logged log.entries log.entries (as_told log kernel left nothing) (as_told log k left nothing)) (sym same)
    (logged_none log.entries (as_told log kernel left nothing))

-- by a turn that is the same
pub last_so : {A : Type 0} (result : Result A Stop) (clock : ℕ) (defined other : List ℕ → Turn) (kernel became : Kernel) (old new : NativeLog) (before : Contents)
    → ((left : List ℕ) → defined left ≡ other left) → LogsLast defined clock result kernel became old new before → LogsLast other clock result kernel became old new before
last_so result clock defined other kernel became old new before same logs = λ left told ready.
    subst (λ (t : Turn). OnOk result (LastLogged kernel became left t old new)) (same left) (logs left told ready)

-- A call

module _ (clock : ℕ) (kernel first became final : Kernel) (left : List ℕ) (log new : NativeLog) (step : O32Step) (part kept : Option (List LogEntry))
    (is : first ≡ kernel) (stays : final ≡ became) (made : became ≡ step.kernel) (empty : part ≡ emptied log.entries)
    (calls : Logged part kept (opening first left) (moment step.kernel step.left step.sent)) where
  calls_from_none : Logged (emptied log.entries) kept (moment first left nothing) (moment became step.left step.sent)
  calls_from_none =
      subst (λ (k : Kernel). Logged (emptied log.entries) kept (moment first left nothing) (moment k step.left step.sent)) (sym made)
      (subst (λ (e : Option (List LogEntry)). Logged e kept (moment first left nothing) (moment step.kernel step.left step.sent)) empty calls)

  pub call_logged : IsReady clock log kernel
      → (IsReady clock log first → Logged (emptied log.entries) kept (moment first left nothing) (moment became step.left step.sent)
      → Logged log.entries new.entries (as_told log first left nothing) (as_told new became step.left step.sent))
      → Logged log.entries new.entries (as_told log kernel left nothing) (as_told new final step.left step.sent)
  call_logged ready leads =
      subst (λ (k : Kernel). Logged log.entries new.entries (as_told log k left nothing) (as_told new final step.left step.sent)) is
      (subst (λ (k : Kernel). Logged log.entries new.entries (as_told log first left nothing) (as_told new k step.left step.sent)) (sym stays)
      (leads (subst (λ (k : Kernel). IsReady clock log k) (sym is) ready) calls_from_none))

-- A whole turn

module _ (emulated : Emulated) (clock quantum turns : ℕ) (over : Bool) (native : NativeLog) (records : Records) (process : ProcessState)
    (is : record { machine = machine_at clock (machine_of process); quantum = quantum; turns = turns; over = over; events = process.going.events; native = native; records = records } ≡ emulated) where
  -- a log that was cleared, and its turn
  pub turn_logged : (cleared middle new : NativeLog) (first became : Kernel) (last : ℕ) (left : List ℕ) (defined : Turn) → cleared.entries ≡ emptied native.entries → cleared.told ≡ native.told
      → Logged cleared.entries middle.entries (as_told cleared process.kernel left nothing) (as_told middle first left nothing)
      → LastLogged first became left defined middle new → new.told ≤ last
      → TurnLogged emulated.machine.kernel (at_clock last became) left defined emulated.native new
  turn_logged cleared middle new first became last left defined empty same settled logged behind =
      subst (λ (e : Emulated). TurnLogged e.machine.kernel (at_clock last became) left defined e.native new) is (record {
        leads =
            subst (λ (e : Option (List LogEntry)). Logged e new.entries (moment (at_time native.told process.kernel) left nothing) (as_told new became defined.left defined.sent)) empty
            (subst (λ (t : ℕ). Logged cleared.entries new.entries (moment (at_time t process.kernel) left nothing) (as_told new became defined.left defined.sent)) same
            (logged_then settled logged));
        behind = behind;
      })

-- the clock was moved alone, by which no timer is due

pub clocked_logged : (log : NativeLog) (kernel first : Kernel) (clock : ℕ) (left : List ℕ) → first ≡ at_clock clock kernel
    → Logged log.entries log.entries (as_told log kernel left nothing) (as_told log first left nothing)
clocked_logged log kernel first clock left is =
    subst (λ (k : Kernel). Logged log.entries log.entries (as_told log kernel left nothing) (as_told log k left nothing)) (sym is) (logged_none log.entries (as_told log kernel left nothing))

pub clocked_ready : (log : NativeLog) (kernel first : Kernel) (clock : ℕ) → first ≡ at_clock clock kernel → gone_off clock kernel.timer ≡ None → IsReady clock log first
clocked_ready log kernel first clock is none = inr (ap (λ (k : Kernel). gone_off clock k.timer) is ∙ none)

-- One turn alone, of those that are taken at once

pub one_logged : (result : Result code.Turn Stop) (quantum : ℕ) (machine : Machine) (turns turns_then : ℕ) (became : Kernel) (old new : NativeLog) (before : Contents) → turns_then ≡ turns + turns_done result
    → LogsTurn (turn_of quantum machine) result machine.kernel became old new before → LogsTurns result quantum machine turns turns_then became old new before
unfolding reached
one_logged (Ok turn) quantum machine turns turns_then became old new before counted one = λ left told. record {
  quiet = 0;
  counted = omega (arith, counted);
  last = one left told;
}
one_logged (Err stop) quantum machine turns turns_then became old new before counted one = λ left told. tt

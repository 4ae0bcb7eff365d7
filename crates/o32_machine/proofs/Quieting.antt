-- Quiet turns, as turns of the machine that is defined.
use Rattle.std.proofs.Common.{◌≡◌, ℕ, zero, suc, ◌+◌, ◌-◌, ◌*◌, ◌%◌, ◌^◌, ◌<◌, ◌≤◌, inl, inr, Bool, true, false, List, [], ◌∷◌, ◌++◌, Option, Some, None, Result, Ok, Err, IsErr, arith, refl, sym, ap, subst, ◌∙◌}
use Rattle.std.proofs.lemmas.Bool.{cases_eq}
use Rattle.std.proofs.lemmas.Bool.Decides.{nat_tests}
use Rattle.std.specs.Prelude.{◌&&◌, ◌||◌, if◌then◌else◌, is_none, is_some, nat_le}
use Rattle.bridge_log.specs.Keeping.{Logged}
use Rattle.guest_space.specs.Memory.{Memory}
use Rattle.kernel_core.specs.declared.core_error.NoMemory.{NoMemory}
use Rattle.kernel_core.specs.declared.core_error.Stop.{Stop}
use Rattle.kernel_core.specs.declared.event.Event.{Event}
use Rattle.kernel_core.specs.declared.finish.Finish.TheVariants.{Exited, Killed, Budget, Blocked}
use Rattle.kernel_core.specs.declared.record.Record.{Record}
use Rattle.kernel_model.specs.Clock.{comes, gone_off, if_comes, next_due as timer_after, next_time}
use Rattle.kernel_model.specs.Pipes.{nothing}
use Rattle.kernel_model.specs.SignalRows.{advance, after_expiry}
use Rattle.kernel_model.specs.State.{Kernel, Timer}
use Rattle.mips_exec.specs.Processor.{Processor}
use Rattle.mips_exec.specs.Going.{Goes, GoesThen, Steps}
use Rattle.mips_exec.specs.Step.{Step}
use Rattle.mips_exec.specs.declared.execution.Stepped.{Stepped}
use Rattle.mips_exec.specs.declared.execution.Stepped.TheVariants.{Next}
use Rattle.o32_machine.proofs.Turning.{at_time_answers, at_time_stopped, fails_before, stops}
use Rattle.o32_machine.proofs.Logging.{turn_logged}
use Rattle.o32_machine.proofs.Recording.{gains_so, step_at}
use Rattle.o32_machine.specs.Answered.{IsTurn, Stopped, Turned, over_of, turns_done, turns_of}
use Rattle.native_log.specs.NativeLog.{NativeLog, as_told}
use Rattle.native_log.specs.NativeLog as logs
use Rattle.o32_machine.specs.Emulator.{Emulated, ProcessState, at_clock, machine_at, machine_of}
use Rattle.o32_machine.specs.Native.{LogsTurn, LogsTurns, TurnLogged, TurnsLogged}
use Rattle.o32_machine.specs.Quiet.{IsQuiet, IsStill, IsTurnAfter}
use Rattle.o32_machine.specs.Records.{LastRecorded, RecordsTurn, RecordsTurns}
use Rattle.o32_machine.specs.declared.turn.Turn as code
use Rattle.o32_machine.specs.declared.turn.Turn.TheVariants.{Went, Ended}
use Rattle.o32_machine.specs.inside.Logging.{LastLogged}
use Rattle.o32_machine.specs.inside.Quieting.{IsBefore, OnlyExecutes, goes, next_due}
use Rattle.o32_machine.specs.inside.Steps.{begun}
use Rattle.o32_model.specs.declared.wait.Wait.{Wait}
use Rattle.kernel_core.specs.declared.info.Info.{Info}
use Rattle.kernel_core.specs.declared.signal.Sig.{Sig}
use Rattle.o32_turns.proofs.Still.{delivery_stays}
use Rattle.o32_turns.specs.Closing.{whole_end}
use Rattle.o32_turns.specs.Delivering.{next_signal}
use Rattle.o32_turns.specs.Instruction.{after_step, at_time, executed, stepped}
use Rattle.o32_turns.specs.Machine.{Machine, Turn, Within, begin, with_machine}
use Rattle.o32_turns.specs.Posting.{event_info, events_posted, expiry_events, sent_to, timer_posted}
use Rattle.o32_turns.specs.Runs.{IsRunningAt, Reached, after_attempt, attempt, is_block, is_blocked, reached}
use Rattle.o32_turns.specs.Runs as runs
use Rattle.o32_turns.specs.Turn.{after_events, fifth_or_sixth, first_step, fourth_step, next_event, second_step, sooner, third_step, turn_of, unless_killed, whole}
use Rattle.turn_records.specs.Keeping.{Gains, Records, emptied}
use Rattle.turn_records.specs.Turn.{AreRecordsOf, IsBehind, IsInstructionRecorded, IsLast, IsStepRecorded, IsTurnRecorded, before_instruction, unless_none, unless_over}
use Rattle.turn_records.specs.Turn as spec
use Rattle.outside.specs.Streams.{Contents}
use Rattle.schedule.specs.declared.events.Due.{Due}

-- What is due at no time before another

pub earlier : (time later : ℕ) (due : Option ℕ) → time ≤ later → IsBefore later due → IsBefore time due
earlier time later None less before = tt
earlier time later (Some at) less before = omega arith

pub before_first : (time : ℕ) (one other : Option ℕ) → IsBefore time (sooner one other) → IsBefore time one
before_first time None other before = tt
before_first time (Some one) None before = before
before_first time (Some one) (Some other) before = omega arith

pub before_second : (time : ℕ) (one other : Option ℕ) → IsBefore time (sooner one other) → IsBefore time other
before_second time None other before = before
before_second time (Some one) None before = tt
before_second time (Some one) (Some other) before = omega arith

later_false : (time clock : ℕ) → clock < time → nat_le time clock ≡ false
later_false time clock less = grind (arith, nat_tests)

-- the timer

goes_off : (time : ℕ) (at period : ℕ) (comes_so : Bool) → comes at ≡ comes_so → IsBefore time (if comes_so then Some at else None)
    → (if nat_le at time && comes_so then Some (timer_after time at period) else None) ≡ None
goes_off time at period true is before =
    ap (λ (b : Bool). if b && true then Some (timer_after time at period) else None) (later_false at time before)
goes_off time at period false is before = by_false (nat_le at time)
  where
    by_false : (b : Bool) → (if b && false then Some (timer_after time at period) else None) ≡ None
    by_false true = refl
    by_false false = refl

gone_at : (time : ℕ) (due : Option ℕ) (period : ℕ) → IsBefore time (if_comes due) → gone_off time (record { due = due; period = period }) ≡ None
gone_at time None period before = refl
gone_at time (Some at) period before = goes_off time at period (comes at) refl before

pub timer_quiet : (time : ℕ) (timer : Timer) → IsBefore time (next_time timer) → gone_off time timer ≡ None
timer_quiet time timer before = gone_at time timer.due timer.period before

-- One turn in which only an instruction is carried out

module _ (machine : Machine) where
  -- what is said of it, in its fields
  abbrev plain : Machine
  plain = record machine { wait = None; fault = None; stopped = false }

  plain_is : machine.wait ≡ None → machine.fault ≡ None → machine.stopped ≡ false → machine ≡ plain
  plain_is waits faults stops =
      ap (λ (w : Option Wait). record machine { wait = w }) waits
      ∙ ap (λ (f : Option Info). record machine { wait = None; fault = f }) faults
      ∙ ap (λ (s : Bool). record machine { wait = None; fault = None; stopped = s }) stops

  none_posted : (coming : List Due) → machine.coming ≡ coming → IsBefore machine.kernel.clock (next_event coming) → events_posted whole coming (begin plain) ≡ begin plain
  none_posted [] is before = ap (λ (list : List Due). begin (record plain { coming = list })) (sym is)
  none_posted (due ∷ more) is before =
      ap
      (λ (b : Bool). if b then events_posted whole more (sent_to whole (begin plain) (event_info due))
      else with_machine (begin plain) (record plain { coming = due ∷ more }))
      (later_false due.time machine.kernel.clock before)
      ∙ ap (λ (list : List Due). begin (record plain { coming = list })) (sym is)

  no_timer : gone_off machine.kernel.clock machine.kernel.timer ≡ None → timer_posted whole (begin plain) ≡ begin plain
  unfolding advance
  no_timer none =
      ap
      (λ (gone : Option Timer). record (begin plain) {
        machine = record plain { kernel = after_expiry (record machine.kernel { clock = machine.kernel.clock }) false gone };
        events = [] ++ expiry_events gone;
      })
      none

  posts_nothing : IsBefore machine.kernel.clock (next_event machine.coming) → gone_off machine.kernel.clock machine.kernel.timer ≡ None → first_step whole plain ≡ begin plain
  posts_nothing before none = ap (timer_posted whole) (none_posted machine.coming refl before) ∙ no_timer none

  second_nothing : (interrupted : Bool) → second_step whole (begin (record plain { interrupted = interrupted })) ≡ begin (record plain { interrupted = interrupted })
  second_nothing true = refl
  second_nothing false = refl

  fourth_nothing : (interrupted : Bool) → fourth_step whole (begin (record plain { interrupted = interrupted })) ≡ begin (record plain { interrupted = interrupted })
  fourth_nothing true = refl
  fourth_nothing false = refl

  third_nothing : next_signal machine.kernel.signals ≡ None → third_step whole (begin plain) ≡ begin plain
  third_nothing none = delivery_stays whole_end (begin plain) (ap (λ (signal : Option Sig). is_none signal) none)

  -- nothing stands before the instruction but the machine
  plain_settles : IsBefore machine.kernel.clock (next_event machine.coming) → gone_off machine.kernel.clock machine.kernel.timer ≡ None → next_signal machine.kernel.signals ≡ None
      → before_instruction plain ≡ begin plain
  plain_settles before timer signals =
      ap (λ (w : Within). unless_over (third_step whole (second_step whole w))) (posts_nothing before timer)
      ∙ ap (λ (w : Within). unless_over (third_step whole w)) (second_nothing machine.interrupted)
      ∙ ap unless_over (third_nothing signals)
      ∙ fourth_nothing machine.interrupted

  pub settles_nothing : (quantum most : ℕ) → OnlyExecutes quantum machine most → before_instruction machine ≡ begin machine
  settles_nothing quantum most only =
      let now = earlier machine.kernel.clock (machine.kernel.clock + most * quantum) (next_due machine) (omega arith) only.early in
      let events = before_first machine.kernel.clock (next_event machine.coming) (next_time machine.kernel.timer) now in
      let timer = before_second machine.kernel.clock (next_event machine.coming) (next_time machine.kernel.timer) now in
      let same = plain_is only.waits only.faults only.stops in
      ap before_instruction same
      ∙ plain_settles events (timer_quiet machine.kernel.clock machine.kernel.timer timer) only.delivers
      ∙ ap begin (sym same)

  module _ (quantum : ℕ) (left : List ℕ) where
    plain_turn : IsBefore machine.kernel.clock (next_event machine.coming) → gone_off machine.kernel.clock machine.kernel.timer ≡ None → next_signal machine.kernel.signals ≡ None
        → turn_of quantum plain left ≡ executed whole quantum plain left
    unfolding turn_of
    plain_turn before timer signals =
        ap (λ (w : Within). unless_killed whole quantum (third_step whole (second_step whole w)) left) (posts_nothing before timer)
        ∙ ap (λ (w : Within). unless_killed whole quantum (third_step whole w) left) (second_nothing machine.interrupted)
        ∙ ap (λ (w : Within). unless_killed whole quantum w left) (third_nothing signals)
        ∙ ap (λ (w : Within). fifth_or_sixth whole quantum w left) (fourth_nothing machine.interrupted)

    pub one_instruction : (most : ℕ) → OnlyExecutes quantum machine most → turn_of quantum machine left ≡ executed whole quantum machine left
    one_instruction most only =
        let now = earlier machine.kernel.clock (machine.kernel.clock + most * quantum) (next_due machine) (omega arith) only.early in
        let events = before_first machine.kernel.clock (next_event machine.coming) (next_time machine.kernel.timer) now in
        let timer = before_second machine.kernel.clock (next_event machine.coming) (next_time machine.kernel.timer) now in
        let same = plain_is only.waits only.faults only.stops in
        ap (λ (m : Machine). turn_of quantum m left) same
        ∙ plain_turn events (timer_quiet machine.kernel.clock machine.kernel.timer timer) only.delivers
        ∙ ap (λ (m : Machine). executed whole quantum m left) (sym same)

-- Turns of that kind, one after the other

module _ (quantum : ℕ) (machine : Machine) where
  pub time_after : ℕ → ℕ
  time_after zero = machine.kernel.clock
  time_after (suc k) = time_after k + quantum

  pub time_is : (k : ℕ) → time_after k ≡ machine.kernel.clock + k * quantum
  unfolding time_after
  time_is zero = omega arith
  time_is (suc k) = omega (arith, time_is k)

  -- the machine after k of them
  abbrev pub here : ℕ → Processor → Memory → Machine
  here k now kept = record machine { processor = now; memory = kept; kernel = at_clock (time_after k) machine.kernel }

  more_turns : (k most : ℕ) → k ≤ most → k * quantum ≤ most * quantum
  more_turns k most few = grind arith

  -- what they keep for the journal
  module _ (k : ℕ) (now : Processor) (kept : Memory) (only : OnlyExecutes quantum (here k now kept) 0) (came : Stepped) (next : Processor) (stored : Memory)
      (step : Steps now kept came next stored) (left : List ℕ) (turn : ℕ) (records : List Record) where
    abbrev its_middle : Machine
    its_middle = here k now kept

    rests_not : (its_middle.stopped || is_some its_middle.wait) ≡ false
    rests_not = ap (λ (b : Bool). b || is_some its_middle.wait) only.stops ∙ ap (λ (w : Option Wait). is_some w) only.waits

    pub quick_turn_recorded : IsStepRecorded turn ((next.pc + (2 ^ 32 - 4)) % 2 ^ 32) (here k next stored) came left records → IsTurnRecorded turn its_middle left records
    quick_turn_recorded so =
        let settles = settles_nothing its_middle quantum 0 only in
        let at_step : IsStepRecorded turn now.pc (here k next stored) came left records = step_at turn now next kept stored came step (here k next stored) left records so in
        let instruction : IsInstructionRecorded turn its_middle left records =
        subst (λ (s : Step). IsStepRecorded turn now.pc (record its_middle { processor = s.processor; memory = s.memory }) s.came left records) (sym step) at_step in
        record {
          first = [];
          last = records;
          whole = refl;
          before = subst (λ (w : Within). spec.IsBefore turn its_middle w []) (sym settles) (record { none = refl; same = refl });
          behind =
              subst (λ (w : Within). IsBehind turn w left records) (sym settles)
              (subst (λ (b : Bool). IsLast b turn its_middle left records) (sym rests_not) instruction);
        }

  module _ (most : ℕ) (only : OnlyExecutes quantum machine most) where
    pub only_here : (k : ℕ) (now : Processor) (kept : Memory) → k ≤ most → OnlyExecutes quantum (here k now kept) 0
    only_here k now kept few =
        let less = more_turns k most few in
        record {
          waits = only.waits;
          faults = only.faults;
          stops = only.stops;
          delivers = only.delivers;
          early = earlier (time_after k + 0 * quantum) (machine.kernel.clock + most * quantum) (next_due machine) (omega (arith, time_is k, less)) only.early;
        }

    -- its turn
    pub turn_is : (k : ℕ) (left : List ℕ) (now : Processor) (kept : Memory) (next : Processor) (stored : Memory) (came : Stepped) → k ≤ most → Steps now kept came next stored
        → turn_of quantum (here k now kept) left ≡ at_time (time_after k + quantum) (after_step whole (here k next stored) came left)
    turn_is k left now kept next stored came few step =
        one_instruction (here k now kept) quantum left 0 (only_here k now kept few)
        ∙ ap (λ (s : Step). at_time (time_after k + quantum) (after_step whole (stepped (here k now kept) s.processor s.memory) s.came left)) step

    abbrev so_far : ℕ → List ℕ → Processor → Memory → Reached
    so_far k left now kept = record { machine = here k now kept; left = left; sent = nothing; over = None }

    pub reach : (k : ℕ) (left : List ℕ) (now : Processor) (kept : Memory) → k ≤ most → Goes k machine.processor machine.memory now kept → reached quantum machine left k ≡ so_far k left now kept
    unfolding reached Goes time_after
    reach zero left now kept few goes =
        ap (λ (p : Processor). so_far 0 left p machine.memory) goes.0
        ∙ ap (λ (m : Memory). so_far 0 left now m) goes.1
    reach (suc k) left now kept few (middle, there, goes, step) =
        let fewer : k ≤ most = omega arith in
        ap (λ (r : Reached). runs.unless_over quantum r r.over) (reach k left middle there fewer goes)
        ∙ ap (after_attempt (so_far k left middle there)) (turn_is k left middle there now kept Next fewer step)

    pub running : (k : ℕ) (left : List ℕ) (now : Processor) (kept : Memory) → k ≤ most → Goes k machine.processor machine.memory now kept → (j : ℕ) → j < k → IsRunningAt quantum machine left j
    unfolding Goes
    running zero left now kept few goes j below = absurd (omega arith)
    running (suc k) left now kept few (middle, there, goes, step) j below =
        elim (cases_eq j k) as (λ _. IsRunningAt quantum machine left j) [
          | inl same ↦ subst (λ (n : ℕ). IsRunningAt quantum machine left n) (sym same) at_last
          | inr other ↦ let less : j < k = omega arith in running k left middle there fewer goes j less
        ]
      where
        fewer : k ≤ most
        fewer = omega arith

        at_last : IsRunningAt quantum machine left k
        at_last = record {
          alive = ap (λ (r : Reached). r.over) (reach k left middle there fewer goes);
          awake =
              ap (λ (r : Reached). is_blocked (turn_of quantum r.machine r.left)) (reach k left middle there fewer goes)
              ∙ ap is_blocked (turn_is k left middle there now kept Next fewer step);
        }

    pub silent : (k : ℕ) (left : List ℕ) (now : Processor) (kept : Memory) → k ≤ most → Goes k machine.processor machine.memory now kept → (j : ℕ) → j < k → (attempt quantum machine left j).events ≡ []
    unfolding Goes
    silent zero left now kept few goes j below = absurd (omega arith)
    silent (suc k) left now kept few (middle, there, goes, step) j below =
        elim (cases_eq j k) as (λ _. (attempt quantum machine left j).events ≡ []) [
          | inl same ↦ subst (λ (n : ℕ). (attempt quantum machine left n).events ≡ []) (sym same) at_last
          | inr other ↦ let less : j < k = omega arith in silent k left middle there fewer goes j less
        ]
      where
        fewer : k ≤ most
        fewer = omega arith

        at_last : (attempt quantum machine left k).events ≡ []
        at_last =
            ap (λ (r : Reached). (turn_of quantum r.machine r.left).events) (reach k left middle there fewer goes)
            ∙ ap (λ (t : Turn). t.events) (turn_is k left middle there now kept Next fewer step)

    -- a journal keeps nothing of them
    unrecorded : (k : ℕ) (left : List ℕ) (now : Processor) (kept : Memory) → k ≤ most → Goes k machine.processor machine.memory now kept → (j turn : ℕ) → j < k
        → AreRecordsOf quantum turn (reached quantum machine left j).machine (reached quantum machine left j).left []
    unfolding Goes
    unrecorded zero left now kept few goes j turn below = absurd (omega arith)
    unrecorded (suc k) left now kept few (middle, there, goes, step) j turn below =
        elim (cases_eq j k) as (λ _. AreRecordsOf quantum turn (reached quantum machine left j).machine (reached quantum machine left j).left []) [
          | inl same ↦ subst (λ (n : ℕ). AreRecordsOf quantum turn (reached quantum machine left n).machine (reached quantum machine left n).left []) (sym same) at_last
          | inr other ↦ let less : j < k = omega arith in unrecorded k left middle there fewer goes j turn less
        ]
      where
        fewer : k ≤ most
        fewer = omega arith

        awake : is_blocked (turn_of quantum (here k middle there) left) ≡ false
        awake = ap is_blocked (turn_is k left middle there now kept Next fewer step)

        at_last : AreRecordsOf quantum turn (reached quantum machine left k).machine (reached quantum machine left k).left []
        at_last =
            subst (λ (r : Reached). AreRecordsOf quantum turn r.machine r.left []) (sym (reach k left middle there fewer goes))
            (subst (λ (b : Bool). unless_none b [] (IsTurnRecorded turn (here k middle there) left [])) (sym awake)
            (quick_turn_recorded k middle there (only_here k middle there fewer) Next now kept step left turn [] refl))

    still_here : (k : ℕ) (left : List ℕ) (now : Processor) (kept : Memory) → k ≤ most → Goes k machine.processor machine.memory now kept → IsStill machine.kernel left (reached quantum machine left k)
    still_here k left now kept few goes =
        subst (λ (r : Reached). IsStill machine.kernel left r) (sym (reach k left now kept few goes))
        (record { same = refl; later = omega (arith, time_is k); rest = refl; unsent = refl })

    still : (k : ℕ) (left : List ℕ) (now : Processor) (kept : Memory) → k ≤ most → Goes k machine.processor machine.memory now kept → (j : ℕ) → j ≤ k → IsStill machine.kernel left (reached quantum machine left j)
    unfolding Goes
    still zero left now kept few goes j within =
        let none : j ≡ 0 = omega arith in
        subst (λ (n : ℕ). IsStill machine.kernel left (reached quantum machine left n)) (sym none) (still_here zero left now kept few goes)
    still (suc k) left now kept few (middle, there, goes, step) j within =
        elim (cases_eq j (suc k)) as (λ _. IsStill machine.kernel left (reached quantum machine left j)) [
          | inl same ↦
              subst (λ (n : ℕ). IsStill machine.kernel left (reached quantum machine left n)) (sym same)
              (still_here (suc k) left now kept few (middle, there, goes, step))
          | inr other ↦
              let fewer : k ≤ most = omega arith in
              let less : j ≤ k = omega (arith, within, other) in
              still k left middle there fewer goes j less
        ]

    pub quiet : (k : ℕ) (now : Processor) (kept : Memory) → k ≤ most → Goes k machine.processor machine.memory now kept → IsQuiet quantum machine k (here k now kept)
    quiet k now kept few goes = record {
      running = λ left j below. running k left now kept few goes j below;
      reaches = λ left. reach k left now kept few goes;
      silent = λ left j below. silent k left now kept few goes j below;
      unrecorded = λ left j turn below. unrecorded k left now kept few goes j turn below;
      still = λ left j within. still k left now kept few goes j within;
    }

-- What they keep for the journal

pub counts_none : (turn : code.Turn) → turns_of turn ≡ 1 → is_block (over_of turn) ≡ false
counts_none Went one = refl
counts_none (Ended (Exited status)) one = refl
counts_none (Ended (Killed signal)) one = refl
counts_none (Ended Budget) one = refl
counts_none (Ended Blocked) one = absurd cc

-- An emulator's turns

-- none that is quiet before the one that is answered
pub at_once : (quantum limit : ℕ) (machine : Machine) (turns : ℕ) (result : Result code.Turn Stop) (became : Machine) (turns_then : ℕ) (events : List Event) (before after : Contents)
    → IsTurn (turn_of quantum machine) result became events before after → turns_then ≡ turns + turns_done result → 0 < limit
    → IsTurnAfter quantum limit machine turns result became turns_then events before after
unfolding reached
at_once quantum limit machine turns result became turns_then events before after last counted some = record {
  quiet = 0;
  middle = machine;
  first = record {
    running = λ left j below. absurd (omega arith);
    reaches = λ left. refl;
    silent = λ left j below. absurd (omega arith);
    unrecorded = λ left j turn below. absurd (omega arith);
    still = λ left j few.
        let none : j ≡ 0 = omega arith in
        let here : IsStill machine.kernel left (reached quantum machine left 0) = record { same = refl; later = omega arith; rest = refl; unsent = refl } in
        subst (λ (n : ℕ). IsStill machine.kernel left (reached quantum machine left n)) (sym none) here;
  };
  last = last;
  counted = omega (arith, counted);
  within = some;
}

none_done : (result : Result code.Turn Stop) → IsErr result → turns_done result ≡ 0
none_done (Ok turn) failed = absurd cc
none_done (Err stop) failed = refl

module _ (quantum limit : ℕ) (machine : Machine) (turns most k : ℕ) (only : OnlyExecutes quantum machine most) (few : k ≤ most) (within : most < limit) (next : Processor) (stored : Memory) where
  abbrev After : Result code.Turn Stop → Machine → ℕ → List Event → Contents → Contents → Type 0
  After result became turns_then events before after = IsTurnAfter quantum limit machine turns result became turns_then events before after

  after_quiet : (now : Processor) (kept : Memory) → Goes k machine.processor machine.memory now kept → (result : Result code.Turn Stop) (became : Machine) (turns_then : ℕ) (events : List Event) (before after : Contents)
      → IsTurn (turn_of quantum (here quantum machine k now kept)) result became events before after → turns_then ≡ turns + k + turns_done result → After result became turns_then events before after
  after_quiet now kept goes result became turns_then events before after last counted = record {
    quiet = k;
    middle = here quantum machine k now kept;
    first = quiet quantum machine most only k now kept few goes;
    last = last;
    counted = counted;
    within = omega arith;
  }

  -- memory was wanting for the next instruction
  pub lacks : (error : NoMemory) (given : Result Stepped NoMemory) (result : Result code.Turn Stop) (became : Machine) (turns_then : ℕ) (events : List Event) (at : Contents) → given ≡ Err error
      → GoesThen k machine.processor machine.memory given next stored → IsErr result → turns_then ≡ turns + k → After result became turns_then events at at
  lacks error given result became turns_then events at was last failed counted =
      after_quiet next stored (subst (λ (r : Result Stepped NoMemory). GoesThen k machine.processor machine.memory r next stored) was last) result became turns_then events at at
      (λ left told. fails_before (turn_of quantum (here quantum machine k next stored) left) result became events at failed)
      (omega (arith, counted, none_done result failed))

  module _ (came : Stepped) (given : Result Stepped NoMemory) (was : given ≡ Ok came) (last : GoesThen k machine.processor machine.memory given next stored) where
    stepped_there : GoesThen k machine.processor machine.memory (Ok came) next stored
    stepped_there = subst (λ (r : Result Stepped NoMemory). GoesThen k machine.processor machine.memory r next stored) was last

    abbrev middle : Machine
    middle = here quantum machine k stepped_there.0 stepped_there.1

    -- or for moving the clock
    pub lacks_clock : (result : Result code.Turn Stop) (became : Machine) (turns_then : ℕ) (events : List Event) (at : Contents) → IsErr result → turns_then ≡ turns + k → After result became turns_then events at at
    lacks_clock result became turns_then events at failed counted =
        after_quiet stepped_there.0 stepped_there.1 stepped_there.2 result became turns_then events at at
        (λ left told. fails_before (turn_of quantum middle left) result became events at failed)
        (omega (arith, counted, none_done result failed))

    -- The process before the end of the last turn
    module _ (time : ℕ) (time_so : time ≡ machine.kernel.clock + k * quantum) (moved : ProcessState) (moved_is : machine_of moved ≡ record machine { processor = next; memory = stored; kernel = at_clock time machine.kernel })
        (none_yet : moved.going.events ≡ []) where
      abbrev defined : List ℕ → Turn
      defined left = after_events moved.going.events (after_step whole (machine_of moved) came left)

      time_there : time ≡ time_after quantum machine k
      time_there = time_so ∙ sym (time_is quantum machine k)

      defined_here : (left : List ℕ) → at_time (time + quantum) (defined left) ≡ turn_of quantum middle left
      defined_here left =
          ap (λ (list : List Event). at_time (time + quantum) (after_events list (after_step whole (machine_of moved) came left))) none_yet
          ∙ ap (λ (m : Machine). at_time (time + quantum) (after_step whole m came left)) moved_is
          ∙ ap (λ (n : ℕ). at_time (n + quantum) (after_step whole (record machine { processor = next; memory = stored; kernel = at_clock n machine.kernel }) came left)) time_there
          ∙ sym (turn_is quantum machine most only k left stepped_there.0 stepped_there.1 next stored came few stepped_there.3)

      pub went_after : (turn : code.Turn) (became : Machine) (turns_then : ℕ) (events : List Event) (before after : Contents)
          → ((left : List ℕ) → before.left ≡ Some left → Turned (defined left) turn became events before after)
          → turns_of turn ≡ 1 → turns_then ≡ turns + k + 1 → After (Ok turn) (machine_at (time + quantum) became) turns_then events before after
      went_after turn became turns_then events before after answered one counted =
          after_quiet stepped_there.0 stepped_there.1 stepped_there.2 (Ok turn) (machine_at (time + quantum) became) turns_then events before after
          (λ left told.
          subst (λ (t : Turn). Turned t turn (machine_at (time + quantum) became) events before after) (defined_here left)
          (at_time_answers (time + quantum) (defined left) turn became events before after (answered left told)))
          (counted ∙ sym (ap (λ (n : ℕ). turns + k + n) one))

      pub stopped_after : (result : Result code.Turn Stop) (became : Machine) (turns_then : ℕ) (events : List Event) (before after : Contents)
          → ((left : List ℕ) → before.left ≡ Some left → Stopped (defined left) before after)
          → IsErr result → turns_then ≡ turns + k → After result became turns_then events before after
      stopped_after result became turns_then events before after answered failed counted =
          after_quiet stepped_there.0 stepped_there.1 stepped_there.2 result became turns_then events before after
          (λ left told.
          stops (turn_of quantum middle left) result became events before after failed
          (subst (λ (t : Turn). Stopped t before after) (defined_here left)
          (at_time_stopped (time + quantum) (defined left) before after (answered left told))))
          (omega (arith, counted, none_done result failed))

-- The same of an emulator, whose process begins a turn, runs and has its clock moved

module _ (emulated : Emulated) (clock quantum turns : ℕ) (over : Bool) (native : NativeLog) (records : Records) (process : ProcessState)
    (is : record { machine = machine_at clock (machine_of process); quantum = quantum; turns = turns; over = over; events = process.going.events; native = native; records = records } ≡ emulated)
    (limit most k : ℕ) (only : OnlyExecutes emulated.quantum emulated.machine most) (few : k ≤ most) (within : most < limit) (begun_by ran : ProcessState)
    (begun_is : begun_by ≡ record process { going = begun process.going }) (others : ran ≡ record begun_by { processor = ran.processor; memory = ran.memory }) where
  abbrev inside : Machine
  inside = machine_at clock (machine_of process)

  only_inside : OnlyExecutes quantum inside most
  only_inside = subst (λ (e : Emulated). OnlyExecutes e.quantum e.machine most) (sym is) only

  abbrev AfterQuick : Result code.Turn Stop → Machine → ℕ → List Event → Contents → Contents → Type 0
  AfterQuick result became turns_then events before after = IsTurnAfter emulated.quantum limit emulated.machine emulated.turns result became turns_then events before after

  of_emulated : (result : Result code.Turn Stop) (became : Machine) (turns_then : ℕ) (events : List Event) (before after : Contents) → IsTurnAfter quantum limit inside turns result became turns_then events before after
      → AfterQuick result became turns_then events before after
  of_emulated result became turns_then events before after so = subst (λ (e : Emulated). IsTurnAfter e.quantum limit e.machine e.turns result became turns_then events before after) is so

  ran_is : ran ≡ record process { going = begun process.going; processor = ran.processor; memory = ran.memory }
  ran_is = others ∙ ap (λ (p : ProcessState). record p { processor = ran.processor; memory = ran.memory }) begun_is

  from_begun : (given : Result Stepped NoMemory) → GoesThen k begun_by.processor begun_by.memory given ran.processor ran.memory → GoesThen k process.processor process.memory given ran.processor ran.memory
  from_begun given last = subst (λ (p : ProcessState). GoesThen k p.processor p.memory given ran.processor ran.memory) begun_is last

  pub quick_lacks : (error : NoMemory) (given : Result Stepped NoMemory) (result : Result code.Turn Stop) (became : Machine) (turns_then : ℕ) (events : List Event) (at : Contents) → given ≡ Err error
      → GoesThen k begun_by.processor begun_by.memory given ran.processor ran.memory → IsErr result → turns_then ≡ turns + k → AfterQuick result became turns_then events at at
  quick_lacks error given result became turns_then events at was last failed counted =
      of_emulated result became turns_then events at at
      (lacks quantum limit inside turns most k only_inside few within ran.processor ran.memory error given result became turns_then events at was (from_begun given last) failed counted)

  module _ (time : ℕ) (time_so : time ≡ clock + k * quantum) where
    -- the timer isn't due
    pub quick_timer : gone_off time ran.kernel.timer ≡ None
    quick_timer =
        let less = more_turns quantum inside k most few in
        let early = earlier time (clock + most * quantum) (next_due inside) (omega (arith, time_so, less)) only_inside.early in
        ap (λ (p : ProcessState). gone_off time p.kernel.timer) ran_is
        ∙ timer_quiet time process.kernel.timer (before_second time (next_event process.coming) (next_time process.kernel.timer) early)

    -- and the clock is not moved back
    pub quick_later : process.kernel.clock ≤ clock → ran.kernel.clock ≤ time
    quick_later behind =
        let same : ran.kernel.clock ≡ process.kernel.clock = ap (λ (p : ProcessState). p.kernel.clock) ran_is in
        omega (arith, same, time_so)

    module _ (came : Stepped) (given : Result Stepped NoMemory) (was : given ≡ Ok came) (last : GoesThen k begun_by.processor begun_by.memory given ran.processor ran.memory) where
      pub quick_lacks_clock : (result : Result code.Turn Stop) (became : Machine) (turns_then : ℕ) (events : List Event) (at : Contents) → IsErr result → turns_then ≡ turns + k
          → AfterQuick result became turns_then events at at
      quick_lacks_clock result became turns_then events at failed counted =
          of_emulated result became turns_then events at at
          (lacks_clock quantum limit inside turns most k only_inside few within ran.processor ran.memory came given was (from_begun given last) result became turns_then events at failed counted)

      module _ (moved : ProcessState) (moved_is : moved ≡ record ran { kernel = at_clock time ran.kernel }) where
        all_is : moved ≡ record process { going = begun process.going; processor = ran.processor; memory = ran.memory; kernel = at_clock time process.kernel }
        all_is = moved_is ∙ ap (λ (p : ProcessState). record p { kernel = at_clock time p.kernel }) ran_is

        pub quick_went : (turn : code.Turn) (became : Machine) (turns_then : ℕ) (events : List Event) (before after : Contents)
            → ((left : List ℕ) → before.left ≡ Some left → Turned (after_events moved.going.events (after_step whole (machine_of moved) came left)) turn became events before after)
            → turns_of turn ≡ 1 → turns_then ≡ turns + k + 1 → AfterQuick (Ok turn) (machine_at (time + quantum) became) turns_then events before after
        quick_went turn became turns_then events before after answered one counted =
            of_emulated (Ok turn) (machine_at (time + quantum) became) turns_then events before after
            (went_after quantum limit inside turns most k only_inside few within ran.processor ran.memory came given was (from_begun given last) time time_so moved
            (ap machine_of all_is) (ap (λ (p : ProcessState). p.going.events) all_is) turn became turns_then events before after answered one counted)

        pub quick_stopped : (result : Result code.Turn Stop) (became : Machine) (turns_then : ℕ) (events : List Event) (before after : Contents)
            → ((left : List ℕ) → before.left ≡ Some left → Stopped (after_events moved.going.events (after_step whole (machine_of moved) came left)) before after)
            → IsErr result → turns_then ≡ turns + k → AfterQuick result became turns_then events before after
        quick_stopped result became turns_then events before after answered failed counted =
            of_emulated result became turns_then events before after
            (stopped_after quantum limit inside turns most k only_inside few within ran.processor ran.memory came given was (from_begun given last) time time_so moved
            (ap machine_of all_is) (ap (λ (p : ProcessState). p.going.events) all_is) result became turns_then events before after answered failed counted)

        -- what it keeps in the native log
        pub quick_logged : (turn : code.Turn) (turns_then : ℕ) (cleared new : NativeLog) (became : Kernel) (left : List ℕ) → turns_then ≡ turns + k + 1 → turns_of turn ≡ 1
            → cleared.entries ≡ logs.emptied native.entries → cleared.told ≡ native.told
            → Logged cleared.entries cleared.entries (as_told cleared process.kernel left nothing) (as_told cleared moved.kernel left nothing)
            → LastLogged moved.kernel became left (after_events moved.going.events (after_step whole (machine_of moved) came left)) cleared new → new.told ≤ time + quantum
            → TurnsLogged emulated.quantum emulated.machine emulated.turns left (Ok turn) turns_then (at_clock (time + quantum) became) emulated.native new
        quick_logged turn turns_then cleared new became left counted one empty same stands logged behind =
            let there = stepped_there quantum limit inside turns most k only_inside few within ran.processor ran.memory came given was (from_begun given last) in
            let tried_is : at_time (time + quantum) (after_events moved.going.events (after_step whole (machine_of moved) came left)) ≡ attempt quantum inside left k =
            defined_here quantum limit inside turns most k only_inside few within ran.processor ran.memory came given was (from_begun given last) time time_so moved
            (ap machine_of all_is) (ap (λ (p : ProcessState). p.going.events) all_is) left
            ∙ ap (λ (r : Reached). turn_of quantum r.machine r.left) (sym (reach quantum inside most only_inside k left there.0 there.1 few there.2)) in
            let here_is : Emulated = record { machine = inside; quantum = quantum; turns = turns; over = over; events = process.going.events; native = native; records = records } in
            subst (λ (e : Emulated). TurnsLogged e.quantum e.machine e.turns left (Ok turn) turns_then (at_clock (time + quantum) became) e.native new) is (record {
              quiet = k;
              counted = counted ∙ ap (λ (n : ℕ). turns + k + n) (sym one);
              last =
                  turn_logged here_is clock quantum turns over native records process refl cleared cleared new moved.kernel became (time + quantum) left (attempt quantum inside left k) empty same stands
                  (subst (λ (t : Turn). LastLogged moved.kernel became left t cleared new) tried_is logged) behind;
            })

        -- what it keeps for the journal
        pub quick_recorded : (turn : code.Turn) (turns_then : ℕ) (cleared new : Records) (left : List ℕ) → cleared ≡ emptied records → turns_then ≡ turns + k + 1 → turns_of turn ≡ 1
            → over_of turn ≡ (after_step whole (machine_of moved) came left).over
            → Gains cleared new (IsStepRecorded (turns + k + 1) ((moved.processor.pc + (2 ^ 32 - 4)) % 2 ^ 32) (machine_of moved) came left)
            → LastRecorded emulated.quantum emulated.machine emulated.turns left (Ok turn) turns_then emulated.records new
        quick_recorded turn turns_then cleared new left empty counted one over gains =
            let there = stepped_there quantum limit inside turns most k only_inside few within ran.processor ran.memory came given was (from_begun given last) in
            let moved_machine : machine_of moved ≡ here quantum inside k ran.processor ran.memory =
            ap machine_of all_is
            ∙ ap (λ (n : ℕ). record inside { processor = ran.processor; memory = ran.memory; kernel = at_clock n inside.kernel }) (time_so ∙ sym (time_is quantum inside k)) in
            let moved_pc = ap (λ (p : ProcessState). (p.processor.pc + (2 ^ 32 - 4)) % 2 ^ 32) all_is in
            let same_over : is_blocked (turn_of quantum (here quantum inside k there.0 there.1) left) ≡ is_block (over_of turn) =
            ap is_blocked (turn_is quantum inside most only_inside k left there.0 there.1 ran.processor ran.memory came few there.3)
            ∙ ap (λ (m : Machine). is_block (after_step whole m came left).over) (sym moved_machine)
            ∙ ap is_block (sym over) in
            subst (λ (e : Emulated). LastRecorded e.quantum e.machine e.turns left (Ok turn) turns_then e.records new) is (record {
              quiet = k;
              counted = counted ∙ ap (λ (n : ℕ). turns + k + n) (sym one);
              gains =
                  subst (λ (r : Records). Gains r new (AreRecordsOf quantum (turns + k + 1) (reached quantum inside left k).machine left)) empty
                  (gains_so cleared new _ _
                  (λ (more : List Record) (so : IsStepRecorded (turns + k + 1) ((moved.processor.pc + (2 ^ 32 - 4)) % 2 ^ 32) (machine_of moved) came left more).
                  subst (λ (m : Machine). AreRecordsOf quantum (turns + k + 1) m left more)
                  (sym (ap (λ (r : Reached). r.machine) (reach quantum inside most only_inside k left there.0 there.1 few there.2)))
                  (subst (λ (b : Bool). unless_none b more (IsTurnRecorded (turns + k + 1) (here quantum inside k there.0 there.1) left more)) (sym (same_over ∙ counts_none turn one))
                  (quick_turn_recorded quantum inside k there.0 there.1 (only_here quantum inside most only_inside k there.0 there.1 few) came ran.processor ran.memory there.3 left (turns + k + 1) more
                  (subst (λ (n : ℕ). IsStepRecorded (turns + k + 1) n (here quantum inside k ran.processor ran.memory) came left more) moved_pc
                  (subst (λ (m : Machine). IsStepRecorded (turns + k + 1) ((moved.processor.pc + (2 ^ 32 - 4)) % 2 ^ 32) m came left more) moved_machine so)))))
                  gains);
            })

-- One turn

module _ (quantum : ℕ) (machine : Machine) (turns : ℕ) (result : Result code.Turn Stop) (became : Machine) (turns_then : ℕ) (events : List Event) (before after : Contents)
    (so : IsTurnAfter quantum 1 machine turns result became turns_then events before after) where
  none_quiet : so.quiet ≡ 0
  none_quiet = let below : so.quiet < 1 = so.within in omega arith

  middle_is : so.middle ≡ machine
  unfolding reached
  middle_is =
      let first = subst (λ (n : ℕ). IsQuiet quantum machine n so.middle) none_quiet so.first in
      sym (ap (λ (r : Reached). r.machine) (first.reaches []))

  pub one_turn : IsTurn (turn_of quantum machine) result became events before after
  one_turn = subst (λ (m : Machine). IsTurn (turn_of quantum m) result became events before after) middle_is so.last

  pub one_counts : turns_then ≡ turns + turns_done result
  one_counts = omega (arith, so.counted, none_quiet)

-- and what it keeps in the native log
pub one_log : (result : Result code.Turn Stop) (quantum : ℕ) (machine : Machine) (turns : ℕ) (became : Machine) (turns_then : ℕ) (events : List Event) (before after : Contents)
    → IsTurnAfter quantum 1 machine turns result became turns_then events before after → (old new : NativeLog)
    → LogsTurns result quantum machine turns turns_then became.kernel old new before → LogsTurn (turn_of quantum machine) result machine.kernel became.kernel old new before
unfolding reached
one_log (Ok turn) quantum machine turns became turns_then events before after so old new kept = λ left told.
    let log = kept left told in
    let none : log.quiet ≡ 0 = omega (arith, so.counted, so.within, log.counted) in
    subst (λ (n : ℕ). TurnLogged machine.kernel became.kernel left (attempt quantum machine left n) old new) none log.last
one_log (Err stop) quantum machine turns became turns_then events before after so old new kept = λ left told. tt

-- and what it keeps for the journal
pub one_record : (result : Result code.Turn Stop) (quantum : ℕ) (machine : Machine) (turns : ℕ) (became : Machine) (turns_then : ℕ) (events : List Event) (before after : Contents)
    → IsTurnAfter quantum 1 machine turns result became turns_then events before after → (old new : Records)
    → RecordsTurns result quantum machine turns turns_then old new before → RecordsTurn result quantum machine turns old new before
unfolding reached
one_record (Ok turn) quantum machine turns became turns_then events before after so old new records = λ left told.
    let last = records left told in
    let none : last.quiet ≡ 0 = omega (arith, so.counted, so.within, last.counted) in
    let at_once : Gains (emptied old) new (AreRecordsOf quantum (turns + 0 + 1) machine left) =
    subst (λ (n : ℕ). Gains (emptied old) new (AreRecordsOf quantum (turns + n + 1) (reached quantum machine left n).machine left)) none last.gains in
    subst (λ (n : ℕ). Gains (emptied old) new (AreRecordsOf quantum (n + 1) machine left)) (none_more turns) at_once
  where
    none_more : (n : ℕ) → n + 0 ≡ n
    none_more n = omega arith
one_record (Err stop) quantum machine turns became turns_then events before after so old new records = λ left told. tt

-- A turn in all its steps: the last ones, and the whole.
use Rattle.std.proofs.Common.{◌≡◌, ℕ, ◌+◌, ◌*◌, ◌≤◌, Bool, true, false, List, Option, Some, None, Result, Ok, Err, IsErr, refl, sym, ap, subst, ◌∙◌, arith}
use Rattle.std.specs.Prelude.{IfSome, ◌&&◌, ◌||◌, if◌then◌else◌, is_none, is_some, not}
use Rattle.guest_space.specs.Memory.{Memory}
use Rattle.kernel_core.specs.declared.core_error.NoMemory.{NoMemory}
use Rattle.kernel_core.specs.declared.core_error.Stop.{Stop}
use Rattle.kernel_core.specs.declared.event.Event.{Event}
use Rattle.kernel_core.specs.declared.finish.Finish.{Finish}
use Rattle.kernel_core.specs.declared.info.Info.{Info}
use Rattle.kernel_core.specs.declared.signal.Sig.{Sig}
use Rattle.kernel_model.specs.Pipes.{nothing}
use Rattle.mips_exec.specs.Processor.{Processor}
use Rattle.mips_exec.specs.Going.{Goes, GoesThen, Steps}
use Rattle.mips_exec.specs.Step.{Step}
use Rattle.mips_exec.specs.declared.execution.Stepped.{Stepped}
use Rattle.o32_machine.proofs.Steps.{turn_settled}
use Rattle.o32_machine.proofs.Turning.{at_time_answers, at_time_stopped, fails_before, quiet_turn, stopped_before, stops}
use Rattle.o32_machine.specs.Answered.{Answers, Stopped, Turned, over_of}
use Rattle.native_log.specs.NativeLog.{NativeLog}
use Rattle.o32_machine.specs.Emulator.{Emulated, ProcessState, machine_at, machine_of, within_now}
use Rattle.o32_machine.specs.declared.process.Last.{Last}
use Rattle.o32_machine.specs.declared.turn.Turn as code
use Rattle.o32_machine.specs.declared.turn.Turn.TheVariants.{Ended}
use Rattle.o32_machine.specs.inside.Quieting.{IsBefore, OnlyExecutes, goes, next_due}
use Rattle.o32_machine.specs.inside.Steps.{LastAnswers, jumped_within, last_steps, settled}
use Rattle.o32_model.specs.declared.wait.Wait.{Wait}
use Rattle.o32_turns.specs.Delivering.{next_signal}
use Rattle.o32_turns.specs.Instruction.{after_step, at_time, stepped}
use Rattle.o32_turns.specs.Machine.{Machine, Turn, Within, turn}
use Rattle.o32_turns.specs.Turn.{after_events, fifth_or_sixth, fifth_step, jumped, next_for, sixth_step, turn_of, whole}
use Rattle.turn_records.specs.Keeping.{Records}
use Rattle.outside.specs.Streams.{Contents}

-- one instruction alone
pub steps_once : (k : ℕ) (processor : Processor) (memory : Memory) (result : Result Stepped NoMemory) (came : Stepped) (next : Processor) (stored : Memory) → k ≤ 0 → result ≡ Ok came
    → GoesThen k processor memory result next stored → Steps processor memory came next stored
unfolding Goes
steps_once k processor memory result came next stored few is goes =
    let none : k ≡ 0 = omega arith in
    let at_once = subst (λ (n : ℕ). GoesThen n processor memory (Ok came) next stored) none (subst (λ (r : Result Stepped NoMemory). GoesThen k processor memory r next stored) is goes) in
    subst (λ (p : Processor). Steps p memory came next stored) (sym at_once.2.0)
    (subst (λ (m : Memory). Steps at_once.0 m came next stored) (sym at_once.2.1) at_once.3)

-- at the kernel's time a process is as it stands
pub stands : (clock : ℕ) (process : ProcessState) → process.kernel.clock ≡ clock → machine_at clock (machine_of process) ≡ machine_of process
stands clock process at = ap (λ (n : ℕ). machine_at n (machine_of process)) (sym at)

-- The last steps

module _ (quantum clock : ℕ) (process : ProcessState) (at : process.kernel.clock ≡ clock) (left : List ℕ) where
  abbrev defined : Turn
  defined = last_steps quantum (within_now process) left

  pub over_is : (finish : Finish) → process.going.over ≡ Some finish → defined ≡ turn (within_now process) left nothing
  over_is finish over =
      ap (λ (o : Option Finish). if is_some o then turn (within_now process) left nothing else fifth_or_sixth whole quantum (within_now process) left) over

  -- a process that was killed has ended
  pub over_last : (finish : Finish) (contents : Contents) → process.going.over ≡ Some finish → contents.left ≡ Some left
      → Turned defined (Ended finish) (machine_at clock (machine_of process)) process.going.events contents contents
  over_last finish contents over told =
      let is = over_is finish over in
      quiet_turn defined (Ended finish) (machine_at clock (machine_of process)) process.going.events contents left told
      (sym (ap (λ (t : Turn). t.over) is ∙ over))
      (stands clock process at ∙ sym (ap (λ (t : Turn). t.machine) is))
      (sym (ap (λ (t : Turn). t.events) is))
      (ap (λ (t : Turn). t.left) is)
      (ap (λ (t : Turn). t.sent) is)

  module _ (alive : process.going.over ≡ None) where
    alive_is : defined ≡ fifth_or_sixth whole quantum (within_now process) left
    alive_is = ap (λ (o : Option Finish). if is_some o then turn (within_now process) left nothing else fifth_or_sixth whole quantum (within_now process) left) alive

    pub rests_is : (rests : Bool) → (process.going.stopped || is_some process.going.wait) ≡ rests
        → defined ≡ (if rests then fifth_step (within_now process) left else sixth_step whole quantum (within_now process) left)
    rests_is rests so =
        alive_is ∙ ap (λ (b : Bool). if b then fifth_step (within_now process) left else sixth_step whole quantum (within_now process) left) so

    jump_events : (next : Option ℕ) → (jumped next (within_now process)).events ≡ process.going.events
    jump_events None = refl
    jump_events (Some time) = refl

    -- the clock jumps, or the process is blocked
    pub jump_last : (last : Last) (new : ProcessState) (contents : Contents) → (process.going.stopped || is_some process.going.wait) ≡ true → contents.left ≡ Some left
        → over_of last.turn ≡ (jumped_within (within_now process)).over → machine_at last.clock (machine_of new) ≡ (jumped_within (within_now process)).machine
        → new.going.events ≡ process.going.events → Turned defined last.turn (machine_at last.clock (machine_of new)) new.going.events contents contents
    jump_last last new contents rests told over became happened =
        let is = rests_is true rests in
        quiet_turn defined last.turn (machine_at last.clock (machine_of new)) new.going.events contents left told
        (over ∙ sym (ap (λ (t : Turn). t.over) is))
        (became ∙ sym (ap (λ (t : Turn). t.machine) is))
        (happened ∙ sym (ap (λ (t : Turn). t.events) is ∙ jump_events (next_for (machine_of process))))
        (ap (λ (t : Turn). t.left) is)
        (ap (λ (t : Turn). t.sent) is)

    -- an instruction is carried out
    pub execute_last : (result : Result Last Stop) (new : ProcessState) (before after : Contents) → (process.going.stopped || is_some process.going.wait) ≡ false
        → LastAnswers (sixth_step whole quantum (within_now process) left) result new before after → LastAnswers defined result new before after
    execute_last result new before after rests answers = subst (λ (t : Turn). LastAnswers t result new before after) (sym (rests_is false rests)) answers

-- One instruction

module _ (quantum clock : ℕ) (process ran : ProcessState) (came : Stepped) (at : process.kernel.clock ≡ clock) (others : ran ≡ record process { processor = ran.processor; memory = ran.memory })
    (step : Steps process.processor process.memory came ran.processor ran.memory) (left : List ℕ) where
  pub ran_clock : ran.kernel.clock ≡ clock
  ran_clock = ap (λ (p : ProcessState). p.kernel.clock) others ∙ at

  abbrev ended : ProcessState → Turn
  ended state = after_events state.going.events (after_step whole (machine_of state) came left)

  pub executes : sixth_step whole quantum (within_now process) left ≡ at_time (clock + quantum) (ended ran)
  executes =
      ap (λ (s : Step). at_time (process.kernel.clock + quantum) (after_events process.going.events (after_step whole (stepped (machine_of process) s.processor s.memory) s.came left))) step
      ∙ ap (λ (n : ℕ). at_time (n + quantum) (ended (record process { processor = ran.processor; memory = ran.memory }))) at
      ∙ ap (λ (p : ProcessState). at_time (clock + quantum) (ended p)) (sym others)

  pub executed_last : (last : Last) (new : ProcessState) (before after : Contents) → last.clock ≡ clock + quantum
      → Turned (ended ran) last.turn (machine_of new) new.going.events before after
      → Turned (sixth_step whole quantum (within_now process) left) last.turn (machine_at last.clock (machine_of new)) new.going.events before after
  executed_last last new before after time turned =
      subst (λ (n : ℕ). Turned (sixth_step whole quantum (within_now process) left) last.turn (machine_at n (machine_of new)) new.going.events before after) (sym time)
      (subst (λ (t : Turn). Turned t last.turn (machine_at (clock + quantum) (machine_of new)) new.going.events before after) (sym executes)
      (at_time_answers (clock + quantum) (ended ran) last.turn (machine_of new) new.going.events before after turned))

  pub executed_stops : (result : Result Last Stop) (new : ProcessState) (before after : Contents) → IsErr result → Stopped (ended ran) before after
      → LastAnswers (sixth_step whole quantum (within_now process) left) result new before after
  executed_stops (Ok last) new before after failed stopped = absurd cc
  executed_stops (Err stop) new before after failed stopped =
      subst (λ (t : Turn). Stopped t before after) (sym executes)
      (at_time_stopped (clock + quantum) (ended ran) before after stopped)

pub lacks_first : (defined : Turn) (result : Result Last Stop) (new : ProcessState) (at : Contents) → IsErr result → LastAnswers defined result new at at
lacks_first defined (Ok last) new at failed = absurd cc
lacks_first defined (Err stop) new at failed = stopped_before defined at

-- The whole

module _ (emulated : Emulated) (clock quantum turns : ℕ) (over : Bool) (native : NativeLog) (records : Records) (process : ProcessState)
    (is : record { machine = machine_at clock (machine_of process); quantum = quantum; turns = turns; over = over; events = process.going.events; native = native; records = records } ≡ emulated) where
  abbrev its_turn : List ℕ → Turn
  its_turn left = turn_of emulated.quantum emulated.machine left

  -- the first steps stopped early
  pub settle_fails : (result : Result code.Turn Stop) (became : Machine) (events : List Event) (before after : Contents) (left : List ℕ) → after ≡ before → IsErr result
      → Answers (its_turn left) result became events before after
  settle_fails result became events before after left same failed =
      subst (λ (contents : Contents). Answers (its_turn left) result became events before contents) (sym same)
      (fails_before (its_turn left) result became events before failed)

  module _ (middle : ProcessState) (before between : Contents)
      (settles : (left : List ℕ) → before.left ≡ Some left → (between ≡ before) × (within_now middle ≡ settled (machine_at clock (machine_of process)))) (left : List ℕ)
      (told : before.left ≡ Some left) where
    pub told_between : between.left ≡ Some left
    told_between = ap (λ (contents : Contents). contents.left) (settles left told).0 ∙ told

    pub last_is : last_steps quantum (within_now middle) left ≡ its_turn left
    last_is =
        ap (λ (within : Within). last_steps quantum within left) (settles left told).1
        ∙ sym (turn_settled quantum left (machine_at clock (machine_of process)))
        ∙ ap (λ (e : Emulated). turn_of e.quantum e.machine left) is

    pub last_fails : (result : Result code.Turn Stop) (became : Machine) (events : List Event) (after : Contents) → IsErr result
        → Stopped (last_steps quantum (within_now middle) left) between after → Answers (its_turn left) result became events before after
    last_fails result became events after failed stopped =
        stops (its_turn left) result became events before after failed
        (subst (λ (contents : Contents). Stopped (its_turn left) contents after) (settles left told).0
        (subst (λ (t : Turn). Stopped t between after) last_is stopped))

    pub last_turns : (turn : code.Turn) (machine : Machine) (events : List Event) (after : Contents) → Turned (last_steps quantum (within_now middle) left) turn machine events between after
        → Turned (its_turn left) turn machine events before after
    last_turns turn machine events after turned =
        subst (λ (contents : Contents). Turned (its_turn left) turn machine events contents after) (settles left told).0
        (subst (λ (t : Turn). Turned t turn machine events between after) last_is turned)

-- Where nothing is to be done but instructions

goes_so : (wait : Option Wait) (fault : Option Info) (stopped : Bool) (signal : Option Sig) → (is_none wait && is_none fault && not stopped && is_none signal) ≡ true
    → (wait ≡ None) × (fault ≡ None) × (stopped ≡ false) × (signal ≡ None)
goes_so None None false None up = (refl, refl, refl, refl)
goes_so None None false (Some signal) up = absurd cc
goes_so None None true signal up = absurd cc
goes_so None (Some fault) stopped signal up = absurd cc
goes_so (Some wait) fault stopped signal up = absurd cc

pub only_so : (quantum : ℕ) (machine : Machine) (most : ℕ) → goes machine ≡ true → IsBefore (machine.kernel.clock + most * quantum) (next_due machine) → OnlyExecutes quantum machine most
only_so quantum machine most up early =
    let so = goes_so machine.wait machine.fault machine.stopped (next_signal machine.kernel.signals) up in
    record { waits = so.0; faults = so.1; stops = so.2; delivers = so.3; early = early }

module _ (emulated : Emulated) (clock quantum turns : ℕ) (over : Bool) (native : NativeLog) (records : Records) (process : ProcessState)
    (is : record { machine = machine_at clock (machine_of process); quantum = quantum; turns = turns; over = over; events = process.going.events; native = native; records = records } ≡ emulated)
    (due : Option ℕ) (due_is : due ≡ next_due (machine_of process)) (up : goes (machine_of process) ≡ true) where
  only_here : (most : ℕ) → IsBefore (clock + most * quantum) due → OnlyExecutes emulated.quantum emulated.machine most
  only_here most early =
      subst (λ (e : Emulated). OnlyExecutes e.quantum e.machine most) is
      (only_so quantum (machine_at clock (machine_of process)) most up (subst (IsBefore (clock + most * quantum)) due_is early))

  pub only_if : (found : Option ℕ) → IfSome found (λ (most : ℕ). IsBefore (clock + most * quantum) due) → IfSome found (λ (most : ℕ). OnlyExecutes emulated.quantum emulated.machine most)
  only_if None early = early
  only_if (Some most) early = only_here most early

-- Turns: what a call and an instruction leave, as the turn that is defined.
use Rattle.std.proofs.Common.{◌≡◌, ℕ, inl, inr, Bool, false, List, ◌++◌, Option, Some, None, Result, Ok, Err, IsErr, refl, sym, ap, subst, ◌∙◌}
use Rattle.bridge_system.specs.Found.{found}
use Rattle.kernel_core.specs.declared.core_error.Stop.{Stop}
use Rattle.kernel_core.specs.declared.event.Event.{Event}
use Rattle.kernel_model.specs.Clock.{gone_off}
use Rattle.kernel_model.specs.Pipes.{Sent, nothing}
use Rattle.kernel_model.specs.SignalRows.{advance, after_expiry}
use Rattle.kernel_model.specs.State.{Kernel, Timer}
use Rattle.o32_machine.specs.Answered.{Answers, Stopped, Turned, over_of}
use Rattle.native_log.specs.NativeLog.{NativeLog}
use Rattle.o32_machine.specs.Emulator.{Emulated, ProcessState, at_clock, machine_at, machine_of}
use Rattle.o32_machine.specs.declared.turn.Turn as code
use Rattle.o32_machine.specs.inside.Finishing.{finished}
use Rattle.o32_machine.specs.inside.Steps.{begun}
use Rattle.o32_model.specs.Answered as o32
use Rattle.o32_model.specs.Step.{O32Step}
use Rattle.o32_model.specs.Words.{call_words}
use Rattle.o32_model.specs.declared.call_words.CallWords.{CallWords}
use Rattle.o32_model.specs.declared.outcome.Outcome.{Outcome}
use Rattle.o32_model.specs.declared.wait.Seen.{Seen}
use Rattle.o32_model.specs.Table.{machine_call}
use Rattle.o32_turns.specs.Instruction.{after_call, after_outcome, at_time, behind, called, seen_of}
use Rattle.o32_turns.specs.Machine.{Machine, Turn, Within}
use Rattle.o32_turns.specs.Turn.{after_events, whole}
use Rattle.outside.proofs.OutputLemmas.{GainsBetween-exact, GainsBetween-lower, GainsBetween-nothing, GainsText-nothing, IsPrefix-empty}
use Rattle.outside.specs.Output.{GainsText}
use Rattle.turn_records.specs.Keeping.{Records}
use Rattle.outside.specs.Streams.{Contents}

-- nothing is taken and nothing is sent
pub quiet_turn : (defined : Turn) (turn : code.Turn) (machine : Machine) (events : List Event) (at : Contents) (left : List ℕ) → at.left ≡ Some left
    → over_of turn ≡ defined.over → machine ≡ defined.machine → events ≡ defined.events → defined.left ≡ left → defined.sent ≡ nothing → Turned defined turn machine events at at
quiet_turn defined turn machine events at left told over same happened rest silent = record {
  came = over;
  became = same;
  happened = happened;
  rest = told ∙ ap Some (sym rest);
  to_out = subst (λ (s : Sent). GainsText at.out at.out s.out) (sym silent) (GainsText-nothing at.out);
  to_err = subst (λ (s : Sent). GainsText at.err at.err s.err) (sym silent) (GainsText-nothing at.err);
}

-- a stop before anything was done

pub stopped_before : (defined : Turn) (at : Contents) → Stopped defined at at
stopped_before defined at = record {
  rest = inl refl;
  to_out = GainsBetween-nothing at.out defined.sent.out;
  to_err = GainsBetween-nothing at.err defined.sent.err;
}

pub fails_before : (defined : Turn) (result : Result code.Turn Stop) (machine : Machine) (events : List Event) (at : Contents) → IsErr result → Answers defined result machine events at at
fails_before defined (Ok turn) machine events at failed = absurd cc
fails_before defined (Err stop) machine events at failed = stopped_before defined at

pub stops : (defined : Turn) (result : Result code.Turn Stop) (machine : Machine) (events : List Event) (before after : Contents) → IsErr result → Stopped defined before after
    → Answers defined result machine events before after
stops defined (Ok turn) machine events before after failed stopped = absurd cc
stops defined (Err stop) machine events before after failed stopped = stopped

-- Calls

-- the words of the call are those that were read
pub called_is : (machine : Machine) (seen : Seen) (words : CallWords) (left : List ℕ) → seen ≡ seen_of machine → words ≡ call_words machine.processor machine.memory
    → called whole machine left ≡ after_call machine words (machine_call seen machine.kernel (found words machine.processor machine.memory) left)
called_is machine seen words left sees same =
    ap (λ (w : CallWords). after_call machine w (machine_call (seen_of machine) machine.kernel (found w machine.processor machine.memory) left)) (sym same)
    ∙ ap (λ (s : Seen). after_call machine words (machine_call s machine.kernel (found words machine.processor machine.memory) left)) (sym sees)

-- A call was carried out, which left the process so.
module _ (words : CallWords) (process : ProcessState) (step : O32Step) (processor_left : ProcessState) (outcome : Outcome) (before after : Contents)
    (others : processor_left ≡ record process { processor = processor_left.processor; memory = processor_left.memory; kernel = processor_left.kernel })
    (called : o32.Called step outcome processor_left.kernel processor_left.memory processor_left.processor before after) where
  left_is : machine_of processor_left ≡ record (machine_of process) { processor = step.processor; memory = step.memory; kernel = step.kernel }
  left_is =
      ap machine_of others
      ∙ rw (called.set, called.stored, called.became) refl

  within_is : after_outcome words (behind (machine_of process) words step) step.outcome ≡ finished words (machine_of processor_left) outcome
  within_is =
      ap (after_outcome words (behind (machine_of process) words step)) (sym called.came)
      ∙ ap (λ (m : Machine). finished words m outcome) (sym left_is)

  -- its outcome was put into the registers, and what happened was kept
  pub call_turned : (front : List Event) (turn : code.Turn) (machine : Machine) (events : List Event) → over_of turn ≡ (finished words (machine_of processor_left) outcome).over
      → machine ≡ (finished words (machine_of processor_left) outcome).machine → events ≡ front ++ (finished words (machine_of processor_left) outcome).events
      → Turned (after_events front (after_call (machine_of process) words step)) turn machine events before after
  call_turned front turn machine events over same happened = record {
    came = over ∙ sym (ap (λ (w : Within). w.over) within_is);
    became = same ∙ sym (ap (λ (w : Within). w.machine) within_is);
    happened = happened ∙ sym (ap (λ (w : Within). front ++ w.events) within_is);
    rest = called.rest;
    to_out = called.to_out;
    to_err = called.to_err;
  }

  -- memory was wanting for what happened
  pub call_untold : (front : List Event) → Stopped (after_events front (after_call (machine_of process) words step)) before after
  call_untold front = record {
    rest = inr called.rest;
    to_out = GainsBetween-lower (IsPrefix-empty step.sent.out) (GainsBetween-exact called.to_out);
    to_err = GainsBetween-lower (IsPrefix-empty step.sent.err) (GainsBetween-exact called.to_err);
  }

-- A call stopped early.
pub call_stopped : (front : List Event) (machine : Machine) (words : CallWords) (step : O32Step) (before after : Contents) → o32.Stopped step before after
    → Stopped (after_events front (after_call machine words step)) before after
call_stopped front machine words step before after stopped = record { rest = stopped.rest; to_out = stopped.to_out; to_err = stopped.to_err }

module _ (now : ProcessState) (process : ProcessState) (seen : Seen) (words : CallWords) (left : List ℕ) (is : process ≡ now) (sees : seen ≡ seen_of (machine_of process))
    (read : words ≡ call_words process.processor process.memory) where
  abbrev its_step : O32Step
  its_step = machine_call seen process.kernel (found words process.processor process.memory) left

  abbrev defined : ProcessState → Turn
  defined state = after_events state.going.events (called whole (machine_of state) left)

  defined_is : after_events process.going.events (after_call (machine_of process) words its_step) ≡ defined process
  defined_is = ap (after_events process.going.events) (sym (called_is (machine_of process) seen words left sees read))

  pub its_turn : after_events process.going.events (after_call (machine_of process) words its_step) ≡ defined now
  its_turn = defined_is ∙ ap defined is

  pub call_stops : (result : Result code.Turn Stop) (became : Machine) (events : List Event) (before after : Contents) → IsErr result → o32.Stopped its_step before after
      → Answers (defined now) result became events before after
  call_stops result became events before after failed stopped =
      subst (λ (p : ProcessState). Answers (defined p) result became events before after) is
      (stops (defined process) result became events before after failed
      (subst (λ (t : Turn). Stopped t before after) defined_is (call_stopped process.going.events (machine_of process) words its_step before after stopped)))

  module _ (left_by : ProcessState) (outcome : Outcome) (before after : Contents)
      (others : left_by ≡ record process { processor = left_by.processor; memory = left_by.memory; kernel = left_by.kernel })
      (carried : o32.Called its_step outcome left_by.kernel left_by.memory left_by.processor before after) where
    pub call_lacks : (result : Result code.Turn Stop) (became : Machine) (events : List Event) → IsErr result → Answers (defined now) result became events before after
    call_lacks result became events failed =
        subst (λ (p : ProcessState). Answers (defined p) result became events before after) is
        (stops (defined process) result became events before after failed
        (subst (λ (t : Turn). Stopped t before after) defined_is (call_untold words process its_step left_by outcome before after others carried process.going.events)))

    pub call_goes : (turn : code.Turn) (became : Machine) (events : List Event) → over_of turn ≡ (finished words (machine_of left_by) outcome).over
        → became ≡ (finished words (machine_of left_by) outcome).machine → events ≡ process.going.events ++ (finished words (machine_of left_by) outcome).events
        → Turned (defined now) turn became events before after
    call_goes turn became events over same happened =
        subst (λ (p : ProcessState). Turned (defined p) turn became events before after) is
        (subst (λ (t : Turn). Turned t turn became events before after) defined_is
        (call_turned words process its_step left_by outcome before after others carried process.going.events turn became events over same happened))

-- Time, and what happened before

pub at_time_answers : (time : ℕ) (defined : Turn) (turn : code.Turn) (machine : Machine) (events : List Event) (before after : Contents) → Turned defined turn machine events before after
    → Turned (at_time time defined) turn (machine_at time machine) events before after
at_time_answers time defined turn machine events before after turned = record {
  came = turned.came;
  became = ap (λ (m : Machine). machine_at time m) turned.became;
  happened = turned.happened;
  rest = turned.rest;
  to_out = turned.to_out;
  to_err = turned.to_err;
}

pub at_time_stopped : (time : ℕ) (defined : Turn) (before after : Contents) → Stopped defined before after → Stopped (at_time time defined) before after
at_time_stopped time defined before after stopped = record { rest = stopped.rest; to_out = stopped.to_out; to_err = stopped.to_err }

-- no timer is due
pub not_due : (kernel : Kernel) (clock : ℕ) → gone_off clock kernel.timer ≡ None → advance kernel clock false ≡ at_clock clock kernel
unfolding advance
not_due kernel clock none = ap (λ (gone : Option Timer). after_expiry (record kernel { clock = clock }) false gone) none

-- A call alone, where no timer is due

module _ (emulated : Emulated) (clock quantum turns : ℕ) (over : Bool) (native : NativeLog) (records : Records) (process before_call : ProcessState)
    (is : record { machine = machine_at clock (machine_of process); quantum = quantum; turns = turns; over = over; events = process.going.events; native = native; records = records } ≡ emulated)
    (before_is : before_call ≡ record process { kernel = at_clock clock process.kernel; going = begun process.going }) (left : List ℕ) where
  pub call_is : at_time clock (after_events before_call.going.events (called whole (machine_of before_call) left)) ≡ at_time emulated.machine.kernel.clock (called whole emulated.machine left)
  call_is =
      ap (λ (p : ProcessState). at_time clock (after_events p.going.events (called whole (machine_of p) left))) before_is
      ∙ ap (λ (e : Emulated). at_time e.machine.kernel.clock (called whole e.machine left)) is

  pub call_went : (turn : code.Turn) (became : Machine) (events : List Event) (before after : Contents) → Turned (after_events before_call.going.events (called whole (machine_of before_call) left)) turn became events before after
      → Turned (at_time emulated.machine.kernel.clock (called whole emulated.machine left)) turn (machine_at clock became) events before after
  call_went turn became events before after turned =
      subst (λ (t : Turn). Turned t turn (machine_at clock became) events before after) call_is
      (at_time_answers clock (after_events before_call.going.events (called whole (machine_of before_call) left)) turn became events before after turned)

  pub call_stopped_here : (result : Result code.Turn Stop) (became : Machine) (events : List Event) (before after : Contents) → IsErr result
      → Stopped (after_events before_call.going.events (called whole (machine_of before_call) left)) before after
      → Answers (at_time emulated.machine.kernel.clock (called whole emulated.machine left)) result became events before after
  call_stopped_here result became events before after failed stopped =
      subst (λ (t : Turn). Answers t result became events before after) call_is
      (stops (at_time clock (after_events before_call.going.events (called whole (machine_of before_call) left))) result became events before after failed
      (at_time_stopped clock (after_events before_call.going.events (called whole (machine_of before_call) left)) before after stopped))

-- One instruction, with its call.
use Rattle.std.proofs.Common.{◌≡◌, ◌∙◌, ◌+◌, ◌%◌, ◌^◌, List, arith, ap, subst, sym}
use Rattle.std.specs.Prelude.{◌-◌}
use Rattle.kernel_core.specs.declared.record.Record.{Record}
use Rattle.o32_machine.proofs.Recording.{behind_step, gains_so, instruction_recorded}
use Rattle.turn_records.specs.Turn.{IsBehind, IsStepRecorded}
use Rattle.o32_machine.proofs.WholeTurns.{executed_last, executed_stops, executes, lacks_first, steps_once}
use Rattle.o32_machine.specs.Emulator.{machine_of, within_now, ProcessState}
use Rattle.o32_turns.specs.Turn.{whole}
use Rattle.o32_turns.specs.Instruction.{after_step}
use Rattle.o32_turns.specs.Machine.{Turn}
use Rattle.o32_turns.specs.Turn.{after_events, sixth_step}
use Rattle.kernel_model.specs.State.{Kernel}
use Rattle.o32_machine.specs.inside.Logging.{LastLogged}
use Rattle.native_log.specs.NativeLog.{IsReady}
use Rattle.o32_machine.proofs.process.Process.execute.Goals as goal

pub returns-in_err-came-clause-last : goal.returns-in_err-came-clause-last
returns-in_err-came-clause-last g c = λ left told.
    lacks_first (sixth_step whole c.args.quantum (within_now c.args.self.now) left) c.from_residual.result _ _ c.from_residual.ensures.0

pub returns-in_err-ended-clause-last : goal.returns-in_err-ended-clause-last
returns-in_err-ended-clause-last g c = λ left told.
    let step = steps_once c.run.result.quiet c.args.self.now.processor c.args.self.now.memory c.run.result.came c.in_ok-came.came c.run.new.self.processor c.run.new.self.memory c.run.ensures.few c.in_ok-came.was c.run.ensures.last in
    executed_stops c.args.quantum c.args.clock c.args.self.now c.run.new.self c.in_ok-came.came c.requires.clock c.run.ensures.others step left c.from_residual-in_err-ended.result _ _ _ c.from_residual-in_err-ended.ensures.0 (c.in_err-ended.ensures.turn left told)

pub returns-clause-last : goal.returns-clause-last
returns-clause-last g c = λ left told.
    let step = steps_once c.run.result.quiet c.args.self.now.processor c.args.self.now.memory c.run.result.came c.in_ok-came.came c.run.new.self.processor c.run.new.self.memory c.run.ensures.few c.in_ok-came.was c.run.ensures.last in
    let time : c.later.result ≡ c.args.clock + c.args.quantum = c.later.ensures.time ∙ omega arith in
    executed_last c.args.quantum c.args.clock c.args.self.now c.run.new.self c.in_ok-came.came c.requires.clock c.run.ensures.others step left (record { turn = c.in_ok-ended.ended; clock = c.later.result }) c.end_turn.new.self _ _ time (c.in_ok-ended.ensures.turn left told)

pub returns-clause-native : goal.returns-clause-native
returns-clause-native g c = λ left told ready.
    let step = steps_once c.run.result.quiet c.args.self.now.processor c.args.self.now.memory c.run.result.came c.in_ok-came.came c.run.new.self.processor c.run.new.self.memory c.run.ensures.few c.in_ok-came.was c.run.ensures.last in
    let same = ap (λ (p : ProcessState). p.kernel) c.run.ensures.others in
    subst (λ (t : Turn). LastLogged c.args.self.now.kernel c.end_turn.new.self.kernel left t c.args.kept.now.native c.end_turn.new.kept.native)
    (sym (executes c.args.quantum c.args.clock c.args.self.now c.run.new.self c.in_ok-came.came c.requires.clock c.run.ensures.others step left))
    (subst (λ (k : Kernel). LastLogged k c.end_turn.new.self.kernel left (after_events c.run.new.self.going.events (after_step whole (machine_of c.run.new.self) c.in_ok-came.came left)) c.args.kept.now.native c.end_turn.new.kept.native) same
    (c.in_ok-ended.ensures.native left told (subst (λ (k : Kernel). IsReady c.args.clock c.args.kept.now.native k) (sym same) ready)))

pub returns-clause-records : goal.returns-clause-records
returns-clause-records g c = λ rests over left told.
    let step = steps_once c.run.result.quiet c.args.self.now.processor c.args.self.now.memory c.run.result.came c.in_ok-came.came c.run.new.self.processor c.run.new.self.memory c.run.ensures.few c.in_ok-came.was c.run.ensures.last in
    gains_so c.args.kept.now.records c.end_turn.new.kept.records _ (IsBehind c.args.turn (within_now c.args.self.now) left)
    (λ (more : List Record) (so : IsStepRecorded c.args.turn ((c.run.new.self.processor.pc + (2 ^ 32 - 4)) % 2 ^ 32) (machine_of c.run.new.self) c.in_ok-came.came left more).
    behind_step c.args.turn (within_now c.args.self.now) left more over rests
    (instruction_recorded c.args.turn c.args.self.now c.run.new.self c.in_ok-came.came left more c.run.ensures.others step so))
    (c.in_ok-ended.ensures.records left told)

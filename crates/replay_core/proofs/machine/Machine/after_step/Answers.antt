use Rattle.std.proofs.Common.{true, false, subst, sym}
use Rattle.mips_exec.specs.declared.execution.Stepped.{Stepped}
use Rattle.replay_core.specs.Answered.{written}
use Rattle.replay_core.specs.Replay.{after_step}
use Rattle.replay_core.specs.inside.Parts.{Does, without_call}
use Rattle.replay_core.proofs.Outputs.{meets_counts}
use Rattle.replay_core.proofs.Parts.{fault_does, next_does}
use Rattle.replay_core.proofs.machine.Machine.after_step.Goals as goal

pub returns-in-Next-clause-came : goal.returns-in-Next-clause-came
returns-in-Next-clause-came g c =
    let held = written g.O.Sink.written g.E.Sink.written c.args.out.now c.args.err.now in
    subst (λ (s : Stepped). Does (after_step c.args.turn c.args.words.now s) c.args.self.now c.args.self.now held held c.check_without_call.result) (sym c.in-Next.is)
    (next_does c.args.self.now held c.args.turn c.args.words.now c.check_without_call.result c.check_without_call.ensures)

pub returns-in-Next-clause-cause : goal.returns-in-Next-clause-cause
returns-in-Next-clause-cause g c =
    meets_counts (without_call c.args.turn false c.args.self.now.coming) c.check_without_call.result (g.O.Sink.faults c.args.out.now) (g.E.Sink.faults c.args.err.now) c.check_without_call.ensures

pub returns-in-Syscall-clause-came : goal.returns-in-Syscall-clause-came
returns-in-Syscall-clause-came g c =
    subst (λ (s : Stepped). Does (after_step c.args.turn c.args.words.now s) c.args.self.now c.system_call.new.self (written g.O.Sink.written g.E.Sink.written c.args.out.now c.args.err.now)
    (written g.O.Sink.written g.E.Sink.written c.system_call.new.out c.system_call.new.err) c.system_call.result) (sym c.in-Syscall.is) c.system_call.ensures.came

pub returns-in-Fault-clause-came : goal.returns-in-Fault-clause-came
returns-in-Fault-clause-came g c =
    let held = written g.O.Sink.written g.E.Sink.written c.args.out.now c.args.err.now in
    subst (λ (s : Stepped). Does (after_step c.args.turn c.args.words.now s) c.args.self.now c.args.self.now held held c.check_without_call-in-Fault.result) (sym c.in-Fault.is)
    (fault_does c.args.self.now held c.args.turn c.args.words.now c.in-Fault.sig c.in-Fault.code c.in-Fault.addr c.check_without_call-in-Fault.result c.check_without_call-in-Fault.ensures)

pub returns-in-Fault-clause-cause : goal.returns-in-Fault-clause-cause
returns-in-Fault-clause-cause g c =
    meets_counts (without_call c.args.turn true c.args.self.now.coming) c.check_without_call-in-Fault.result (g.O.Sink.faults c.args.out.now) (g.E.Sink.faults c.args.err.now) c.check_without_call-in-Fault.ensures

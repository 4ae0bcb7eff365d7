use Rattle.std.proofs.Common.{Err, subst}
use Rattle.kernel_model.specs.Pipes.{Sent}
use Rattle.mips_exec.specs.Processor.{Processor}
use Rattle.replay_core.specs.Answered.{Gains, Written, written}
use Rattle.replay_core.specs.Replay.{carried_all, first_difference}
use Rattle.replay_core.specs.inside.Parts.{Carries, target_at}
use Rattle.journal.specs.Seen.{record_seen}
use Rattle.replay_core.proofs.Ends.{effects_formed}
use Rattle.replay_core.proofs.Parts.{carry_differs, carry_goes}
use Rattle.replay_core.proofs.Outputs.{meets_counts}
use Rattle.replay_core.proofs.machine.Machine.carry_record.Goals as goal

pub carry_out_all-requires : goal.carry_out_all-requires
carry_out_all-requires g c = effects_formed (record_seen c.args.entry) c.requires

pub returns-in-Ok-clause-came : goal.returns-in-Ok-clause-came
returns-in-Ok-clause-came g c =
    carry_goes c.args.self.now (written g.O.Sink.written g.E.Sink.written c.args.out.now c.args.err.now) (written g.O.Sink.written g.E.Sink.written c.carry_out_all.new.out c.carry_out_all.new.err)
    c.carry_out_all.new.cpu c.carry_out_all.new.space (first_difference c.args.entry.words c.args.words.now) c.args.entry.effects c.carry_out_all.result c.in-Ok.ensures
    (subst (λ (p : Processor). (first : Written) (sent : Sent) → Gains first (written g.O.Sink.written g.E.Sink.written c.args.out.now c.args.err.now) sent
    → Carries (carried_all (target_at p c.args.self.now.space sent) c.args.entry.effects) c.carry_out_all.new.cpu c.carry_out_all.new.space first sent (written g.O.Sink.written g.E.Sink.written c.carry_out_all.new.out c.carry_out_all.new.err) c.carry_out_all.result)
    c.clear_link.ensures c.carry_out_all.ensures.carried)
    c.carry_out_all.ensures.others

pub returns-in-Err-clause-came : goal.returns-in-Err-clause-came
returns-in-Err-clause-came g c =
    carry_differs c.args.self.now c.args.self.now (written g.O.Sink.written g.E.Sink.written c.args.out.now c.args.err.now) (first_difference c.args.entry.words c.args.words.now) c.args.entry.effects c.in-Err.halt c.in-Err.ensures

pub returns-in-Err-clause-cause : goal.returns-in-Err-clause-cause
returns-in-Err-clause-cause g c =
    meets_counts (first_difference c.args.entry.words c.args.words.now) (Err c.in-Err.halt) (g.O.Sink.faults c.args.out.now) (g.E.Sink.faults c.args.err.now) c.in-Err.ensures

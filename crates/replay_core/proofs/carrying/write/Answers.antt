use Rattle.replay_core.proofs.PageEffects.{written_so}
use Rattle.replay_core.proofs.carrying.write.Goals as goal

pub returns-in-Ok : goal.returns-in-Ok
returns-in-Ok c = written_so c.args.space.now c.copy_out.new.self c.args.address c.args.bytes.now c.in-Ok.ensures.ok c.in-Ok.ensures.answer

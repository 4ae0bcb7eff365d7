use Rattle.std.proofs.Common.{◌-◌, arith}
use Rattle.mips_exec.proofs.Going.{goes_as, goes_nowhere}
use Rattle.mips_exec.proofs.running.run_here.Goals as goal

pub returns-in-None-clause-went : goal.returns-in-None-clause-went
returns-in-None-clause-went c =
    goes_as 0 (c.args.most - c.args.most) c.args.cpu.now c.args.space.now c.args.cpu.now c.args.space.now (omega arith) (goes_nowhere c.args.cpu.now c.args.space.now)

use Rattle.schedule.proofs.InTurn.{with_lines-taken, with_lines-broken}
use Rattle.std.proofs.Common.{arith}
use Rattle.schedule.proofs.draft.read_lines.Goals as goal

pub returns-in-Err : goal.returns-in-Err
returns-in-Err c =
    rw c.at.ensures (with_lines-broken c.loop-front.rest.now c.in-Some.front.now c.in-Some.after.now c.loop-front.draft c.take_line.new.self c.loop-front.line _ c.in-Err.fault c.in-Some.ensures.0 c.in-Err.ensures c.loop-front.invariant.0)

pub loop-front-preserved : goal.loop-front-preserved
loop-front-preserved c = (
  with_lines-taken c.loop-front.rest.now c.in-Some.front.now c.in-Some.after.now c.loop-front.draft c.take_line.new.self c.loop-front.line _ c.in-Some.ensures.0 c.in_default-take_line.ensures c.loop-front.invariant.0,
  omega (arith, c.in-Some.ensures.1, c.loop-front.invariant.1),
)

-- A reply that gives no byte.
use Rattle.std.proofs.Common.{pos, ◌≤ℤ◌, ap, sym, ◌∙◌, arith}
use Rattle.std.proofs.lemmas.Int.{ints}
use Rattle.bridge_log.specs.Fills.{bytes_back}
use Rattle.bridge_log.proofs.Filling.{back_none}
use Rattle.bridge_log.proofs.storing.bytes_back.Goals as goal

pub returns-else-count-gt0 : goal.returns-else-count-gt0
returns-else-count-gt0 c =
    let none : c.in-Done.count ≤ℤ pos 0 = omega (arith, ints) in
    sym (ap (bytes_back c.args.mem.now) c.in-Done.is ∙ back_none c.args.mem.now c.in-Done.count none)

use Rattle.std.proofs.Common.{arith, ◌≤◌, ◌^◌}
use Rattle.std.proofs.lemmas.Int.{ints}
use Rattle.layouts.proofs.Ranges.{range-bounds, limit-le}
use Rattle.layouts.proofs.field.number_for.Goals as goal

pub overflow_cast-result : goal.overflow_cast-result
overflow_cast-result c =
    let bounds = range-bounds c.args.field.signed c.args.field.width c.args.value c.requires.in_range in
    let few : 256 ^ c.args.field.width ≤ 18446744073709551616 = limit-le c.args.field.width c.requires.few in
    (omega (arith, ints, bounds.low, bounds.high), omega (arith, ints, bounds.low, bounds.high))

pub overflow_cast-result-else-value-lt0 : goal.overflow_cast-result-else-value-lt0
overflow_cast-result-else-value-lt0 c =
    let bounds = range-bounds c.args.field.signed c.args.field.width c.args.value c.requires.in_range in
    let few : 256 ^ c.args.field.width ≤ 18446744073709551616 = limit-le c.args.field.width c.requires.few in
    (omega (arith, ints, bounds.low, bounds.high), omega (arith, ints, bounds.low, bounds.high))

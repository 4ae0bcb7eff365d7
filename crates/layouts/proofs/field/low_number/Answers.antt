use Rattle.std.proofs.Common.{◌≡◌, ℕ, ◌+◌, ◌-◌, ◌*◌, ◌^◌, ◌<◌, ◌≤◌, true, false, List, [], ◌∷◌, ◌++◌, length, map, take, drop, get_or, set, ℤ, pos, to_z, of_z, refl, sym, ap, subst, ◌∙◌, arith, IsTrue}
use Rattle.std.specs.Prelude.{unsigned_abs}
use Rattle.std.proofs.lemmas.Int.{ints}
use mir.Syntax.{w128}
use Rattle.layouts.proofs.Ranges.{limit-le, one-le}
use Rattle.layouts.proofs.field.low_number.Goals as goal

pub rem_euclid-requires-clause-nonzero : goal.rem_euclid-requires-clause-nonzero
rem_euclid-requires-clause-nonzero c =
    let some : 1 ≤ 256 ^ c.args.field.width = one-le c.args.field.width in
    let same : to_z w128 (of_z w128 c.limit.result) ≡ c.limit.result = omega (arith, ints) in
    rw (same, c.limit.ensures) (grind (arith, ints))

pub overflow_cast-result : goal.overflow_cast-result
overflow_cast-result c =
    let few : 256 ^ c.args.field.width ≤ 18446744073709551616 = limit-le c.args.field.width c.requires in
    let same : to_z w128 (of_z w128 c.limit.result) ≡ c.limit.result = omega (arith, ints) in
    let divisor : to_z w128 (of_z w128 c.limit.result) ≡ pos (256 ^ c.args.field.width) = same ∙ c.limit.ensures in
    let below : unsigned_abs c.rem_euclid.result < 256 ^ c.args.field.width = rw divisor at c.rem_euclid.ensures.upper_bound in
    grind (arith, ints)

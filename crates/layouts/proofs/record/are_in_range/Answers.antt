use Rattle.std.proofs.Common.{◌≡◌, ℕ, ◌+◌, ◌-◌, ◌*◌, ◌^◌, ◌<◌, ◌≤◌, true, false, List, [], ◌∷◌, ◌++◌, length, map, take, drop, get_or, set, ℤ, pos, to_z, of_z, refl, sym, ap, subst, ◌∙◌, arith, IsTrue}
use Rattle.std.proofs.lemmas.Int.{ints}
use mir.Syntax.{w128}
use Rattle.layouts.specs.Number.{is_in_range, field_at}
use Rattle.layouts.specs.declared.field.Field.{Field}
use Rattle.layouts.proofs.RecordLaws.{are_in_range-passed, are_in_range-failed}
use Rattle.layouts.proofs.record.are_in_range.Goals as goal

pub returns-then-not-is_in_range : goal.returns-then-not-is_in_range
returns-then-not-is_in_range c =
    let place = c.loop-place.place in
    let field : Field = field_at c.args.fields.now place in
    let value : ℤ = get_or c.args.values.now place (pos 0) in
    let same : to_z w128 (of_z w128 value) ≡ value = omega (arith, ints) in
    are_in_range-failed c.args.fields.now c.args.values.now place _ (omega arith) (omega arith)
    (ap (is_in_range field.signed field.width) (sym same) ∙ sym c.is_in_range.ensures ∙ c.if-not-is_in_range.true) c.loop-place.invariant

pub loop-place-preserved : goal.loop-place-preserved
loop-place-preserved c =
    let place = c.loop-place.place in
    let field : Field = field_at c.args.fields.now place in
    let value : ℤ = get_or c.args.values.now place (pos 0) in
    let same : to_z w128 (of_z w128 value) ≡ value = omega (arith, ints) in
    are_in_range-passed c.args.fields.now c.args.values.now place _ (omega arith) (omega arith)
    (ap (is_in_range field.signed field.width) (sym same) ∙ sym c.is_in_range.ensures ∙ c.if-not-is_in_range.false) c.loop-place.invariant

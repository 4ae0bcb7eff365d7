use Rattle.std.proofs.Common.{◌≡◌, ℕ, ◌+◌, ◌-◌, ◌*◌, ◌^◌, ◌<◌, ◌≤◌, true, false, List, [], ◌∷◌, ◌++◌, length, map, take, drop, get_or, set, ℤ, pos, to_z, of_z, refl, sym, ap, subst, ◌∙◌, arith, IsTrue}
use Rattle.std.proofs.lemmas.Int.{ints}
use mir.Syntax.{w128}
use Rattle.layouts.specs.declared.field.Field.{Field}
use Rattle.layouts.specs.Number.{IsPlaced, field_at, value_of, low_number, low_value, is_in_range}
use Rattle.layouts.proofs.Ranges.{is_in_range-value_of, written-value, written-others}
use Rattle.layouts.proofs.field.put_low.Goals as goal

pub write_value-requires-clause-in_range : goal.write_value-requires-clause-in_range
write_value-requires-clause-in_range c =
    let field : Field = field_at c.args.layout.now.fields.now c.args.field in
    let same : to_z w128 (of_z w128 c.value_of.result) ≡ c.value_of.result = omega (arith, ints) in
    rw (same, c.value_of.ensures) (is_in_range-value_of field.signed field.width c.low_number-number.result c.requires.placed.some c.low_number-number.ensures.fits)

pub returns-clause-value : goal.returns-clause-value
returns-clause-value c =
    let field : Field = field_at c.args.layout.now.fields.now c.args.field in
    let placed : IsPlaced (length c.args.bytes.now) field = rw c.requires.whole c.requires.placed in
    let same : to_z w128 (of_z w128 c.value_of.result) ≡ c.value_of.result = omega (arith, ints) in
    let asked : to_z w128 (of_z w128 c.args.value) ≡ c.args.value = omega (arith, ints) in
    let number : c.low_number-number.result ≡ low_number field.width c.args.value = c.low_number-number.ensures.value ∙ ap (low_number field.width) asked in
    let given : c.value_of.result ≡ low_value field c.args.value = c.value_of.ensures ∙ ap (value_of field.signed field.width) number in
    let within : is_in_range field.signed field.width (to_z w128 (of_z w128 c.value_of.result)) ≡ true =
    rw (same, c.value_of.ensures) (is_in_range-value_of field.signed field.width c.low_number-number.result c.requires.placed.some c.low_number-number.ensures.fits) in
    written-value c.args.layout.now.big field (low_value field c.args.value) (to_z w128 (of_z w128 c.value_of.result)) c.args.bytes.now c.write_value.new.bytes (same ∙ given) placed c.write_value.ensures within

pub returns-clause-others : goal.returns-clause-others
returns-clause-others c = λ place outside.
    let placed : IsPlaced (length c.args.bytes.now) (field_at c.args.layout.now.fields.now c.args.field) = rw c.requires.whole c.requires.placed in
    written-others c.args.layout.now.big (field_at c.args.layout.now.fields.now c.args.field) (to_z w128 (of_z w128 c.value_of.result)) c.args.bytes.now c.write_value.new.bytes placed c.write_value.ensures place outside

use Rattle.std.proofs.Common.{◌≡◌, ℕ, ◌+◌, ◌-◌, ◌*◌, ◌^◌, ◌<◌, ◌≤◌, true, false, List, [], ◌∷◌, ◌++◌, length, map, take, drop, get_or, set, ℤ, pos, to_z, of_z, refl, sym, ap, subst, ◌∙◌, arith, IsTrue}
use Rattle.std.specs.Prelude.{replicate}
use Rattle.std.proofs.lemmas.Int.{ints}
use mir.Syntax.{w128}
use Rattle.layouts.specs.Number.{IsPlaced, is_in_range, field_at, with_value}
use Rattle.layouts.specs.Shape.{with_values}
use Rattle.layouts.specs.declared.field.Field.{Field}
use Rattle.layouts.proofs.RecordLaws.{are_in_range-parts, with_values-step, with_values-end}
use Rattle.layouts.proofs.record.write_values.Goals as goal

pub write_value-requires-clause-in_range : goal.write_value-requires-clause-in_range
write_value-requires-clause-in_range c =
    let place = c.loop-place.place in
    let value : ℤ = get_or c.args.values.now place (pos 0) in
    let same : to_z w128 (of_z w128 value) ≡ value = omega (arith, ints) in
    rw same (are_in_range-parts c.args.layout.now.fields.now c.args.values.now place (omega arith) (omega arith) c.loop-place.invariant.1).0

pub loop-place-init : goal.loop-place-init
loop-place-init c =
    let zeros : c.clear.new.bytes ≡ replicate c.args.layout.now.size 0 = c.clear.ensures ∙ ap (λ (n : ℕ). replicate n 0) c.requires.whole in
    (ap (with_values c.args.layout.now.big c.args.layout.now.fields.now c.args.values.now) zeros, c.requires.in_range, omega arith)

pub loop-place-preserved : goal.loop-place-preserved
loop-place-preserved c =
    let place = c.loop-place.place in
    let big = c.args.layout.now.big in
    let fields : List Field = c.args.layout.now.fields.now in
    let value : ℤ = get_or c.args.values.now place (pos 0) in
    let same : to_z w128 (of_z w128 value) ≡ value = omega (arith, ints) in
    let left : c.write_value.new.bytes ≡ with_value big (field_at fields place) value c.loop-place.bytes =
    c.write_value.ensures ∙ ap (λ (v : ℤ). with_value big (field_at fields place) v c.loop-place.bytes) same in (
      ap (with_values big (drop (place + 1) fields) (drop (place + 1) c.args.values.now)) left
          ∙ with_values-step big fields c.args.values.now place c.loop-place.bytes (omega arith) (omega arith)
          ∙ c.loop-place.invariant.0,
      (are_in_range-parts fields c.args.values.now place (omega arith) (omega arith) c.loop-place.invariant.1).1,
      omega arith,
    )

pub returns : goal.returns
returns c =
    sym (with_values-end c.args.layout.now.big c.args.layout.now.fields.now (drop c.loop-place.place c.args.values.now) c.loop-place.place c.loop-place.bytes (omega arith))
    ∙ c.loop-place.invariant.0

use Rattle.std.proofs.Common.{◌≡◌, ℕ, ◌+◌, ◌-◌, ◌*◌, ◌^◌, ◌<◌, ◌≤◌, ◌≢◌, get_or-set_other, get_or-set_same, below_more, true, false, List, [], ◌∷◌, ◌++◌, length, map, take, drop, get_or, set, ℤ, pos, to_z, of_z, refl, sym, ap, subst, ◌∙◌, arith, IsTrue}
use Rattle.std.proofs.lemmas.Int.{ints}
use mir.Syntax.{w128}
use Rattle.layouts.specs.Shape.{shape}
use Rattle.layouts.proofs.RecordLaws.{record_values-each}
use Rattle.layouts.proofs.record.get_record.Goals as goal

pub returns : goal.returns
returns c =
    record_values-each (shape c.args.layout.now) c.args.bytes.now c.loop-place.values (omega arith) (λ k below. c.loop-place.invariant k (omega arith))

pub loop-place-preserved : goal.loop-place-preserved
loop-place-preserved c =
    let same : to_z w128 (of_z w128 c.get.result) ≡ c.get.result = omega (arith, ints) in
    below_more _ _
    (λ k h. let ne : k ≢ c.loop-place.place = omega arith in rw get_or-set_other (c.loop-place.invariant k h))
    (let lt : c.loop-place.place < length c.loop-place.values = omega arith in rw get_or-set_same (same ∙ c.get.ensures))

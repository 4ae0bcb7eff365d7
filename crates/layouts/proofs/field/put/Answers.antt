use Rattle.std.proofs.Common.{◌≡◌, length, to_z, of_z, arith}
use Rattle.std.proofs.lemmas.Int.{ints}
use mir.Syntax.{w128}
use Rattle.layouts.specs.Number.{IsPlaced, field_at}
use Rattle.layouts.proofs.Ranges.{left-value, left-others}
use Rattle.layouts.proofs.field.put.Goals as goal

pub returns-clause-value : goal.returns-clause-value
returns-clause-value c = λ fits.
    let placed : IsPlaced (length c.args.bytes.now) (field_at c.args.layout.now.fields.now c.args.field) = rw c.requires.whole c.requires.placed in
    let same : to_z w128 (of_z w128 c.args.value) ≡ c.args.value = omega (arith, ints) in
    left-value c.args.layout.now.big (field_at c.args.layout.now.fields.now c.args.field) c.args.value (to_z w128 (of_z w128 c.args.value)) c.args.bytes.now c.put_into.new.bytes c.put_into.result same placed c.put_into.ensures.bytes c.put_into.ensures.fit fits

pub returns-clause-others : goal.returns-clause-others
returns-clause-others c = λ place outside.
    let placed : IsPlaced (length c.args.bytes.now) (field_at c.args.layout.now.fields.now c.args.field) = rw c.requires.whole c.requires.placed in
    left-others c.args.layout.now.big (field_at c.args.layout.now.fields.now c.args.field) (to_z w128 (of_z w128 c.args.value)) c.args.bytes.now c.put_into.new.bytes placed c.put_into.ensures.bytes place outside

-- A field more.
use Rattle.std.proofs.Common.{◌≡◌, ◌+◌, ◌++◌, List, ℕ, drop, take, ap, ◌∙◌, arith}
use Rattle.layouts.specs.Number.{field_at}
use Rattle.layouts.specs.declared.field.Field.{Field}
use Rattle.bridge_status.specs.inside.Statuses.{low_bytes, with_low_bytes}
use Rattle.bridge_status.proofs.Shown.{low_step, whole_rest, with_low_bytes_at}
use Rattle.bridge_status.proofs.structures.show_field.Goals as goal

pub returns-clause-step : goal.returns-clause-step
returns-clause-step c =
    let place = c.args.place in
    let fields : List Field = c.args.layout.now.fields.now in
    let natives : List Field = c.args.native.now.fields.now in
    let field : Field = field_at fields place in
    let left : c.put_low_bytes.new.bytes ≡ with_low_bytes_at field (field_at natives place).offset c.args.status.now c.args.bytes.now =
    c.put_low_bytes.ensures
    ∙ ap (λ (number : List ℕ). take field.offset c.args.bytes.now ++ low_bytes field number ++ drop (field.offset + field.width) c.args.bytes.now) (whole_rest c.from-from.result c.args.status.now)
    ∙ ap (λ (from : ℕ). with_low_bytes_at field from c.args.status.now c.args.bytes.now) c.from-from.ensures in
    ap (with_low_bytes (drop (place + 1) fields) (drop (place + 1) natives) c.args.status.now) left
    ∙ low_step fields natives place c.args.status.now c.args.bytes.now (omega arith) (omega arith)

-- Sixteen fields are the whole table.
use Rattle.std.proofs.Common.{◌≡◌, List, ℕ, drop, ap, ◌∙◌, sym, arith}
use Rattle.std.specs.Prelude.{replicate}
use Rattle.layouts.specs.declared.field.Field.{Field}
use Rattle.bridge_status.specs.inside.Statuses.{with_low_bytes}
use Rattle.bridge_status.proofs.Shown.{low_end}
use Rattle.bridge_status.proofs.structures.show.Goals as goal

pub returns : goal.returns
returns c =
    let fields : List Field = c.args.layout.now.fields.now in
    let natives : List Field = c.args.native.now.fields.now in
    let zeros : c.clear.new.bytes ≡ replicate c.args.layout.now.size 0 = c.clear.ensures ∙ ap (λ (n : ℕ). replicate n 0) c.requires.whole in
    sym (low_end fields (drop 16 natives) 16 c.args.status.now c.show_field-16.new.bytes (omega arith))
    ∙ c.show_field-16.ensures.step
    ∙ c.show_field-15.ensures.step
    ∙ c.show_field-14.ensures.step
    ∙ c.show_field-13.ensures.step
    ∙ c.show_field-12.ensures.step
    ∙ c.show_field-11.ensures.step
    ∙ c.show_field-10.ensures.step
    ∙ c.show_field-9.ensures.step
    ∙ c.show_field-8.ensures.step
    ∙ c.show_field-7.ensures.step
    ∙ c.show_field-6.ensures.step
    ∙ c.show_field-5.ensures.step
    ∙ c.show_field-4.ensures.step
    ∙ c.show_field-3.ensures.step
    ∙ c.show_field-2.ensures.step
    ∙ c.show_field.ensures.step
    ∙ ap (with_low_bytes fields natives c.args.status.now) zeros

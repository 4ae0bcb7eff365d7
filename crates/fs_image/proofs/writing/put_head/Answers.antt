use Rattle.std.proofs.Common.{◌≡◌, ℕ, List, [], ◌∷◌, ap, subst, ◌∙◌}
use Rattle.std.specs.Int.{w64, cast_unsigned}
use Rattle.std.proofs.lemmas.Int.{to_z-of_z}
use Rattle.byteorder.specs.Endian.{big_bytes}
use Rattle.fs_image.specs.Text.{kind_number}
use Rattle.fs_image.specs.inside.Writing.{Adds}
use Rattle.fs_image.proofs.Gains.{four_pieces, one_byte}
use Rattle.fs_image.proofs.NodeLaws.{kind_small}
use Rattle.fs_image.proofs.writing.put_head.Goals as goal

pub returns : goal.returns
returns c =
    let node = c.args.node.now in
    let P : List ℕ → Type 0 = λ t. Adds t c.put.result c.args.out.now.items c.put.new.out.items in
    let kind : c.as_slice-2.result.now ≡ big_bytes 1 (kind_number node.kind) = c.as_slice-2.ensures ∙ (ap (λ k. k ∷ []) c.kind_number.ensures ∙ one_byte (kind_number node.kind) (kind_small node.kind)) in
    subst P (four_pieces c.as_slice.result.now c.as_slice-2.result.now c.as_slice-3.result.now c.as_slice-4.result.now
    (big_bytes 8 node.number) (big_bytes 1 (kind_number node.kind)) (big_bytes 2 node.mode) (big_bytes 8 (cast_unsigned w64 node.mtime))
    (c.as_slice.ensures ∙ c.to_be_bytes-number.ensures) kind (c.as_slice-3.ensures ∙ c.to_be_bytes-mode.ensures) (c.as_slice-4.ensures ∙ (c.time_bytes-mtime.ensures ∙ ap (λ z. big_bytes 8 (cast_unsigned w64 z)) (to_z-of_z w64 node.mtime c.requires)))) c.put.ensures

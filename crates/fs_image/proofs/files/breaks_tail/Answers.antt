use Rattle.std.proofs.Common.{◌≡◌, ◌-◌, ◌*◌, length, take, drop, min, not, ap, ◌∙◌, arith}
use Rattle.std.specs.Prelude.{◌==◌}
use Rattle.std.specs.List.{list_any}
use Rattle.std.proofs.lemmas.List.{take_rest, drop_min}
use Rattle.fs_image.proofs.files.breaks_tail.Goals as goal

pub returns : goal.returns
returns c =
    let bytes = c.args.bytes.now in
    let kept = c.min-kept.result in
    let size = c.args.size - c.args.index * 4096 in
    let kept-is : kept ≡ min size (length bytes) = omega arith in
    let rest : drop kept bytes ≡ drop size bytes = ap (λ k. drop k bytes) kept-is ∙ drop_min size bytes in
    let part : take (length bytes - kept) (drop kept bytes) ≡ drop kept bytes = take_rest bytes kept in
    c.has_set_byte.ensures ∙ ap (list_any (λ byte. not (byte == 0))) (part ∙ rest)

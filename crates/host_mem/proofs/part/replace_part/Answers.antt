use Rattle.std.proofs.Common.{◌++◌, take, drop, length, ap, ◌∙◌, refl, arith, ◌+◌}
use Rattle.std.proofs.Math.Seq.{take-length}
use Rattle.std.proofs.lemmas.Slice.{put_mid-paste}
use Rattle.host_mem.proofs.part.replace_part.Goals as goal

pub returns : goal.returns
returns c =
    let bytes = c.args.bytes.now in
    let all = c.args.all.now in
    let place = c.args.place in
    put_mid-paste place _ all _ bytes (length bytes) c.copy_from_slice.ensures.after (omega arith) refl
    ∙ ap (λ s. (take place all ++ s) ++ drop (place + length bytes) all) (take-length bytes)

use Rattle.std.proofs.Common.{◌≡◌, ap, length, ◌∙◌, arith}
use Rattle.native_kernel.proofs.VectorLemmas.{length-ranges_in}
use Rattle.native_kernel.proofs.vectors.vector.Goals as goal

pub wide_total-requires : goal.wide_total-requires
wide_total-requires c =
    let counted : length c.as_slice.result.now ≡ c.args.count = ap length (c.as_slice.ensures.value ∙ c.in_ok-ranges.ensures) ∙ length-ranges_in c.args.count c.in-Some.bytes.now in
    omega arith

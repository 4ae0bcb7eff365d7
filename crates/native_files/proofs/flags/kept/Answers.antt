use Rattle.std.proofs.Common.{◌∙◌}
use Rattle.kernel_core.specs.OpenSet.{open_set}
use Rattle.kernel_core.specs.inside.OpenBits.{open_set_again}
use Rattle.kernel_model.specs.Descriptions.{kept_flags}
use Rattle.native_files.proofs.flags.kept.Goals as goal

pub returns : goal.returns
returns c =
    let access = c.access.ensures in
    let bits = c.from_bits_retain.ensures tt ∙ c.kept_bits.ensures in
    c.new.ensures ∙ (λ i. open_set (access i) (bits i)) ∙ open_set_again (kept_flags c.args.flags)

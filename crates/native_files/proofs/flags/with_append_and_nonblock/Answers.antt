use Rattle.std.proofs.Common.{◌∙◌}
use Rattle.kernel_core.specs.OpenSet.{open_set}
use Rattle.kernel_core.specs.inside.OpenBits.{open_set_again}
use Rattle.native_files.proofs.flags.with_append_and_nonblock.Goals as goal

pub returns : goal.returns
returns c =
    let access = c.access.ensures in
    let bits = c.from_bits_retain.ensures tt ∙ c.bits_with.ensures in
    c.new.ensures ∙ (λ i. open_set (access i) (bits i)) ∙ open_set_again (record c.args.flags { append = c.args.append; nonblock = c.args.nonblock })

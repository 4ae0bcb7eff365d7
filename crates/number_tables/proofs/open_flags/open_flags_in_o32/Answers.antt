use Rattle.std.proofs.Common.{◌∙◌}
use Rattle.kernel_core.specs.OpenSet.{open_set}
use Rattle.kernel_core.specs.inside.OpenBits.{open_set_again}
use Rattle.number_tables.specs.OpenNumbers.{o32_open_read}
use Rattle.number_tables.proofs.open_flags.open_flags_in_o32.Goals as goal

pub returns : goal.returns
returns c =
    let access = c.access_of.ensures in
    let bits = c.from_bits_retain.ensures tt ∙ c.o32_bits.ensures in
    c.new.ensures ∙ (λ i. open_set (access i) (bits i)) ∙ open_set_again (o32_open_read c.args.number)

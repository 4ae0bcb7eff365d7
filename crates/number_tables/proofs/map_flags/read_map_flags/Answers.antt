use Rattle.std.proofs.Common.{◌∙◌, ap}
use Rattle.kernel_core.specs.MapSet.{map_set}
use Rattle.kernel_core.specs.inside.MapBits.{map_bits, map_set_again}
use Rattle.number_tables.specs.MapNumbers.{o32_map_read, kind_of}
use Rattle.number_tables.proofs.map_flags.read_map_flags.Goals as goal

pub returns : goal.returns
returns c =
    let kind = c.kind_of.ensures ∙ ap kind_of c.from-number.ensures in
    let bits = c.from_bits_retain.ensures tt ∙ c.o32_bits.ensures ∙ ap (λ number. map_bits (o32_map_read number)) c.from-number.ensures in
    c.new.ensures ∙ (λ i. map_set (kind i) (bits i)) ∙ map_set_again (o32_map_read c.args.number)

use Rattle.std.proofs.Common.{◌∙◌, ap}
use Rattle.kernel_core.specs.SaSet.{sa_set}
use Rattle.kernel_core.specs.inside.SaBits.{sa_bits, sa_set_again}
use Rattle.number_tables.specs.SaNumbers.{o32_sa_read}
use Rattle.number_tables.proofs.sa_flags.sa_flags_in_o32.Goals as goal

pub returns : goal.returns
returns c =
    c.new.ensures
    ∙ ap sa_set (c.from_bits_retain.ensures tt ∙ c.o32_bits.ensures ∙ ap (λ number. sa_bits (o32_sa_read number)) c.from-number.ensures)
    ∙ sa_set_again (o32_sa_read c.args.number)

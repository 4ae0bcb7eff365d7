use Rattle.std.proofs.Common.{◌∙◌, ap}
use Rattle.kernel_core.specs.SaSet.{sa_set}
use Rattle.kernel_core.specs.inside.SaBits.{sa_set_again}
use Rattle.number_tables.specs.SaNumbers.{native_sa_read}
use Rattle.number_tables.proofs.sa_flags.sa_flags_in_native.Goals as goal

pub returns : goal.returns
returns c =
    c.new.ensures
    ∙ ap sa_set (c.from_bits_retain.ensures tt ∙ c.native_bits.ensures)
    ∙ sa_set_again (native_sa_read c.args.number)

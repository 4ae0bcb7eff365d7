use Rattle.std.proofs.Common.{◌∙◌, ap}
use Rattle.kernel_core.specs.PollSet.{poll_set}
use Rattle.kernel_core.specs.inside.EventBits.{poll_bits, poll_set_again}
use Rattle.number_tables.specs.PollNumbers.{o32_poll_read}
use Rattle.number_tables.proofs.poll_bits.poll_bits_in_o32.Goals as goal

pub returns : goal.returns
returns c =
    c.new.ensures
    ∙ ap poll_set (c.from_bits_retain.ensures tt ∙ c.o32_bits.ensures ∙ ap (λ number. poll_bits (o32_poll_read number)) c.from-number.ensures)
    ∙ poll_set_again (o32_poll_read c.args.number)

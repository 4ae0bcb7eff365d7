use Rattle.std.proofs.Common.{◌∙◌, ap}
use Rattle.kernel_core.specs.PollSet.{poll_set}
use Rattle.kernel_core.specs.inside.EventBits.{poll_set_again}
use Rattle.number_tables.specs.PollNumbers.{native_poll_read}
use Rattle.number_tables.proofs.poll_bits.poll_bits_in_native.Goals as goal

pub returns : goal.returns
returns c =
    c.new.ensures
    ∙ ap poll_set (c.from_bits_retain.ensures tt ∙ c.native_bits.ensures)
    ∙ poll_set_again (native_poll_read c.args.number)

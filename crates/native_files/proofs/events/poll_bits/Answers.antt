use Rattle.std.proofs.Common.{ap, ◌∙◌}
use Rattle.kernel_core.specs.PollSet.{poll_set}
use Rattle.kernel_core.specs.inside.EventBits.{poll_set_again}
use Rattle.native_files.specs.inside.Events.{set_of}
use Rattle.native_files.proofs.events.poll_bits.Goals as goal

pub returns : goal.returns
returns c = c.new.ensures ∙ ap poll_set (c.from_bits_retain.ensures tt ∙ c.bits.ensures) ∙ poll_set_again (set_of c.args.events)

-- The events of the number that stands there
use Rattle.std.proofs.Common.{◌∙◌, ap}
use Rattle.number_tables.specs.PollNumbers.{native_poll, o32_poll_read}
use Rattle.bridge_poll.proofs.entries.native_events.Goals as goal

pub returns : goal.returns
returns c = c.to_native.ensures ∙ ap native_poll (c.poll_bits_in_o32-events.ensures ∙ ap o32_poll_read (c.from.ensures ∙ c.short_at.ensures))

use Rattle.std.proofs.Common.{◌∙◌, ap}
use Rattle.kernel_core.specs.PollSet.{poll_set}
use Rattle.kernel_core.specs.inside.EventBits.{poll_set_again}
use Rattle.kernel_model.specs.Readiness.{told}
use Rattle.native_polls.proofs.entries.told.Goals as goal

pub returns : goal.returns
returns c = c.set_of.ensures ∙ ap poll_set c.told_bits.ensures ∙ poll_set_again (told c.args.asked c.args.there)

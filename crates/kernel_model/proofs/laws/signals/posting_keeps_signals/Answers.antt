use Rattle.kernel_model.proofs.Posting.{post_kept}
use Rattle.kernel_model.proofs.laws.signals.posting_keeps_signals.Goals as goal

pub returns : goal.returns
returns c = post_kept

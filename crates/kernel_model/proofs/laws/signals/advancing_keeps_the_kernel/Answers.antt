use Rattle.kernel_model.proofs.Advancing.{advance_kept}
use Rattle.kernel_model.proofs.laws.signals.advancing_keeps_the_kernel.Goals as goal

pub returns : goal.returns
returns c = advance_kept

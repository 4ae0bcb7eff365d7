use Rattle.kernel_laws.proofs.SetMembers.{pending_has}
use Rattle.kernel_laws.proofs.sets.the_pending_set_has_what_pends.Goals as goal

pub returns : goal.returns
returns c = pending_has

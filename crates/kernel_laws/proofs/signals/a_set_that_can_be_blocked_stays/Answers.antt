use Rattle.kernel_laws.proofs.SignalWords.{blockable_twice}
use Rattle.kernel_laws.proofs.signals.a_set_that_can_be_blocked_stays.Goals as goal

pub returns : goal.returns
returns c = blockable_twice

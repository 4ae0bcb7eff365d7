use Rattle.kernel_laws.proofs.SetMembers.{none_has, only_has}
use Rattle.kernel_laws.proofs.sets.the_set_of_one_signal_has_no_other.Goals as goal

pub returns : goal.returns
returns c = record { only = only_has; none = none_has }

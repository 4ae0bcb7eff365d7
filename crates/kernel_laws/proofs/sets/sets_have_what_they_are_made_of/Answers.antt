use Rattle.kernel_laws.proofs.SetMembers.{blockable_has, union_has, without_has}
use Rattle.kernel_laws.proofs.sets.sets_have_what_they_are_made_of.Goals as goal

pub returns : goal.returns
returns c = record { union = union_has; without = without_has; blockable = blockable_has }

use Rattle.o32_model.proofs.Protections.{mprotect_protects}
use Rattle.o32_model.proofs.laws.mprotect_changes_protections.Goals as goal

pub returns : goal.returns
returns c = mprotect_protects

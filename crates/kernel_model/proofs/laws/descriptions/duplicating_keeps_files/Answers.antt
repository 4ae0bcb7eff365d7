use Rattle.kernel_model.proofs.DuplicateKept.{duplicate_kept}
use Rattle.kernel_model.proofs.laws.descriptions.duplicating_keeps_files.Goals as goal

pub returns : goal.returns
returns c = duplicate_kept

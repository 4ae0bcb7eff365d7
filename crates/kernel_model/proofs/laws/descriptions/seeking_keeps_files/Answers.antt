use Rattle.kernel_model.proofs.DescribedRows.{seek_kept}
use Rattle.kernel_model.proofs.laws.descriptions.seeking_keeps_files.Goals as goal

pub returns : goal.returns
returns c = seek_kept

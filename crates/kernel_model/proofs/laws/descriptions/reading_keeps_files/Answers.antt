use Rattle.kernel_model.proofs.ReadKept.{read_kept}
use Rattle.kernel_model.proofs.laws.descriptions.reading_keeps_files.Goals as goal

pub returns : goal.returns
returns c = read_kept

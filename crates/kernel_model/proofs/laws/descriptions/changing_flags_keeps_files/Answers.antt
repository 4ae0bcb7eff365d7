use Rattle.kernel_model.proofs.DescribedRows.{set_status_flags_kept, set_nonblock_kept}
use Rattle.kernel_model.proofs.laws.descriptions.changing_flags_keeps_files.Goals as goal

pub returns : goal.returns
returns c = record { status_flags = set_status_flags_kept; nonblock = set_nonblock_kept }

use Rattle.kernel_model.proofs.refusals.TransferRefusals.{read_stays, read_at_stays, write_stays, write_at_stays}
use Rattle.kernel_model.proofs.laws.refusals.a_refused_transfer_changes_nothing.Goals as goal

pub returns : goal.returns
returns c = record {
  read = read_stays;
  read_at = read_at_stays;
  write = write_stays;
  write_at = write_at_stays;
}

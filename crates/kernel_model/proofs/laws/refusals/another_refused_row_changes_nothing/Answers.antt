use Rattle.kernel_model.proofs.refusals.OtherRefusals.{poll_stays, select_stays, set_limit_stays, random_bytes_stays}
use Rattle.kernel_model.proofs.laws.refusals.another_refused_row_changes_nothing.Goals as goal

pub returns : goal.returns
returns c = record {
  poll = poll_stays;
  select = select_stays;
  set_limit = set_limit_stays;
  random_bytes = random_bytes_stays;
}

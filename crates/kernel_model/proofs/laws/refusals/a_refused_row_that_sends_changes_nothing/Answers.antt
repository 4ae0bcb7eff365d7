use Rattle.kernel_model.proofs.refusals.SendRefusals.{kill_stays, kill_thread_stays, kill_thread_of_stays, queue_stays}
use Rattle.kernel_model.proofs.laws.refusals.a_refused_row_that_sends_changes_nothing.Goals as goal

pub returns : goal.returns
returns c = record {
  kill = kill_stays;
  kill_thread = kill_thread_stays;
  kill_thread_of = kill_thread_of_stays;
  queue = queue_stays;
}

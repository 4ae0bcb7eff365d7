use Rattle.kernel_model.proofs.refusals.SignalRefusals.{set_action_stays, change_mask_stays, pending_stays, accept_stays, suspend_stays, pause_stays, set_stack_stays}
use Rattle.kernel_model.proofs.laws.refusals.a_refused_row_on_signals_changes_nothing.Goals as goal

pub returns : goal.returns
returns c = record {
  set_action = set_action_stays;
  change_mask = change_mask_stays;
  pending = pending_stays;
  accept = accept_stays;
  suspend = suspend_stays;
  pause = pause_stays;
  set_stack = set_stack_stays;
}

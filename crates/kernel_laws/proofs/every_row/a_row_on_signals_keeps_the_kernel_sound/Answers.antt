use Rattle.kernel_laws.proofs.SignalsKept.{accept_keeps, change_mask_keeps, pause_keeps, pending_keeps, set_action_keeps, set_stack_keeps, suspend_keeps}
use Rattle.kernel_laws.proofs.WholeKept.{accept_ends, change_mask_ends, pause_ends, pending_ends, set_action_ends, set_stack_ends, suspend_ends}
use Rattle.kernel_laws.proofs.every_row.a_row_on_signals_keeps_the_kernel_sound.Goals as goal

pub returns : goal.returns
returns c = record {
  set_action = λ kernel size signal action is masked. record { always = (set_action_keeps kernel is.always size signal action masked).kept; ends = (set_action_ends kernel is.ends size signal action).kept };
  change_mask = λ kernel size how set is words. record { always = (change_mask_keeps kernel is.always size how set words).kept; ends = (change_mask_ends kernel is.ends size how set).kept };
  pending = λ kernel size is. record { always = (pending_keeps kernel is.always size).kept; ends = (pending_ends kernel is.ends size).kept };
  accept = λ kernel order waitable set time size is. record { always = (accept_keeps kernel is.always order waitable set time size).kept; ends = (accept_ends kernel is.ends order waitable set time size).kept };
  suspend = λ kernel size set is. record { always = (suspend_keeps kernel is.always size set).kept; ends = (suspend_ends kernel is.ends size set).kept };
  pause = λ kernel is. record { always = (pause_keeps kernel is.always).kept; ends = (pause_ends kernel is.ends).kept };
  set_stack = λ kernel sp stack is. record { always = (set_stack_keeps kernel is.always sp stack).kept; ends = (set_stack_ends kernel is.ends sp stack).kept };
}

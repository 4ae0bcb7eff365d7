use Rattle.kernel_laws.proofs.SignalsKept.{accept_keeps, pending_keeps, suspend_keeps, pause_keeps}
use Rattle.kernel_laws.proofs.signals.accepting_keeps_the_kernel.Goals as goal

pub returns : goal.returns
returns c = record {
  accept = λ kernel order waitable set time size is. (accept_keeps kernel is order waitable set time size).kept;
  pending = λ kernel size is. (pending_keeps kernel is size).kept;
  suspend = λ kernel size set is. (suspend_keeps kernel is size set).kept;
  pause = λ kernel is. (pause_keeps kernel is).kept;
}

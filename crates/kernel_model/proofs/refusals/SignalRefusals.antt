-- Refused rows on signals.
use Rattle.kernel_core.specs.declared.mask.MaskChange.{MaskChange}
use Rattle.kernel_core.specs.declared.signal.Sig.{Sig}
use Rattle.kernel_model.proofs.refusals.Checks.{stays}
use Rattle.kernel_model.proofs.refusals.ClockRefusals.{until_stays}
use Rattle.kernel_model.specs.Came.{Did, Given}
use Rattle.kernel_model.specs.Laws.{StaysUnlessDone}
use Rattle.kernel_model.specs.Shared.{Info}
use Rattle.kernel_model.specs.SignalRows.{accept, accept_first, accept_signal, change_mask, pause, pending, pending_at, set_action, set_action_to, set_stack, set_stack_to, suspend}
use Rattle.kernel_model.specs.SignalSets.{SignalSet}
use Rattle.kernel_model.specs.State.{Kernel}
use Rattle.kernel_model.specs.declared.signal.Action.{Action}
use Rattle.kernel_model.specs.declared.signal.SigStack.{SigStack}
use Rattle.kernel_model.specs.declared.time.TimeSpec.{TimeSpec}
use Rattle.std.specs.Prelude.{List, None, Option, Some, [], ℕ, ◌∷◌}

first_stays : (kernel : Kernel) (signal : Sig) (infos : List Info) (none : Did Kernel Info) → StaysUnlessDone kernel none
    → StaysUnlessDone kernel (accept_first kernel signal infos none)
first_stays kernel signal [] none h = h
first_stays kernel signal (info ∷ rest) none h = search stays

signal_stays : (kernel : Kernel) (signal : Option Sig) (none : Did Kernel Info) → StaysUnlessDone kernel none
    → StaysUnlessDone kernel (accept_signal kernel signal none)
signal_stays kernel None none h = h
signal_stays kernel (Some signal) none h = first_stays kernel signal (pending_at kernel.signals signal) none h

action_to_stays : (kernel : Kernel) (signal : Sig) (action : Option Action) → StaysUnlessDone kernel (set_action_to kernel signal action)
action_to_stays kernel signal None = search stays
action_to_stays kernel signal (Some action) = search stays

stack_to_stays : (kernel : Kernel) (sp : Option ℕ) (stack : Option SigStack) → StaysUnlessDone kernel (set_stack_to kernel sp stack)
stack_to_stays kernel sp None = search stays
stack_to_stays kernel sp (Some stack) = search stays

pub set_action_stays : (kernel : Kernel) (size : ℕ) (signal : Option Sig) (action : Option (Given Action)) → StaysUnlessDone kernel (set_action kernel size signal action)
unfolding set_action
set_action_stays kernel size signal action = search (stays, action_to_stays) depth 14

pub change_mask_stays : (kernel : Kernel) (size : ℕ) (how : Option MaskChange) (set : Option (Given SignalSet)) → StaysUnlessDone kernel (change_mask kernel size how set)
unfolding change_mask
change_mask_stays kernel size how None = search stays
change_mask_stays kernel size how (Some set) = search stays

pub pending_stays : (kernel : Kernel) (size : ℕ) → StaysUnlessDone kernel (pending kernel size)
unfolding pending
pending_stays kernel size = search stays depth 14

pub accept_stays : (kernel : Kernel) (order : List Sig) (waitable : SignalSet → SignalSet) (set : Given SignalSet) (time : Option (Given TimeSpec)) (size : ℕ) → StaysUnlessDone kernel (accept kernel order waitable set time size)
unfolding accept
accept_stays kernel order waitable set time size = search (stays, signal_stays, until_stays) depth 14

pub suspend_stays : (kernel : Kernel) (size : ℕ) (set : Given SignalSet) → StaysUnlessDone kernel (suspend kernel size set)
unfolding suspend
suspend_stays kernel size set = search stays depth 14

pub pause_stays : (kernel : Kernel) → StaysUnlessDone kernel (pause kernel)
unfolding pause
pause_stays kernel = search stays depth 14

pub set_stack_stays : (kernel : Kernel) (sp : Option ℕ) (stack : Option (Given SigStack)) → StaysUnlessDone kernel (set_stack kernel sp stack)
unfolding set_stack
set_stack_stays kernel sp stack = search (stays, stack_to_stays) depth 14

-- What is set of the signals of the native kernel (sigaltstack(2), rt_sigtimedwait(2)).
use Rattle.std.specs.Prelude.{◌≡◌, Bool, true, false, drop, slice_get, Option, Some, None, Ok}
use Rattle.kernel_core.specs.declared.signal.Sig.{Sig}
use Rattle.kernel_model.specs.Came.{Came, Done, Refused, Waits, Did}
use Rattle.kernel_model.specs.Shared.{Info}
use Rattle.kernel_model.specs.SignalRows.{pending_at, set_stack, with_pending, with_signals}
use Rattle.kernel_model.specs.State.{Kernel}
use Rattle.kernel_model.specs.declared.signal.SigStack.{SigStack}

-- whether a row is done
abbrev pub is_done : {V : Type 0} → Came V → Bool
is_done (Done found) = true
is_done (Refused error) = false
is_done (Waits wake) = false

-- The row of an alternate stack that is set, where no stack pointer is looked at
abbrev pub stack_set : Kernel → SigStack → Did Kernel SigStack
stack_set kernel stack = set_stack kernel None (Some (Ok stack))

-- whether it was taken, and the kernel then
pub record SetsStack (kernel : Kernel) (stack : SigStack) (taken : Bool) (became : Kernel) : Type 0 where
  pub told : taken ≡ is_done (stack_set kernel stack).came
  pub state : became ≡ (stack_set kernel stack).state

-- the first of a signal that pends is told and pends no more; nothing where it doesn't pend
abbrev pub Takes : Kernel → Sig → Option Info → Kernel → Type 0
Takes kernel signal taken became =
    (taken ≡ slice_get (pending_at kernel.signals signal) 0)
    × (became ≡ with_signals kernel (with_pending kernel.signals signal (drop 1 (pending_at kernel.signals signal))))

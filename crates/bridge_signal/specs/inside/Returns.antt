-- What a return from a handler sets in the kernel. (The form is this project's own.)
use Rattle.std.specs.Prelude.{ℕ, Some}
use Rattle.kernel_model.specs.SignalRows.{set_stack_to, with_mask}
use Rattle.kernel_model.specs.State.{Kernel}
use Rattle.kernel_model.specs.declared.signal.SigStack.{SigStack}
use Rattle.signal_frames.specs.declared.AltStack.{AltStack}
use Rattle.signal_frames.specs.declared.Return.{Return}

abbrev pub sig_stack : AltStack → SigStack
sig_stack stack = record { sp = stack.sp; size = stack.size; flags = stack.flags }

abbrev pub restored : Kernel → Return → ℕ → Kernel
restored kernel back sp = (set_stack_to (with_mask kernel back.mask) (Some sp) (Some (sig_stack back.stack))).state

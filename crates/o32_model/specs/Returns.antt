-- Returning from a handler: sigreturn(2), and rt_sigreturn. The frame at the stack pointer says what the registers, the mask and the alternate
-- stack are. (The layouts of frames are this project's own profile.)
use Rattle.std.specs.Prelude.{ℕ, List, [], ◌∷◌, Some, Ok, Err}
use Rattle.kernel_model.specs.Came.{Given}
use Rattle.kernel_model.specs.Pipes.{nothing}
use Rattle.kernel_model.specs.SignalRows.{with_mask, set_stack}
use Rattle.kernel_model.specs.State.{Kernel}
use Rattle.kernel_model.specs.declared.signal.SigStack.{SigStack}
use Rattle.layouts.specs.Frames.{AlternateStack, frame_context, frame_mask, rt_frame_context, rt_frame_mask, rt_frame_stack}
use Rattle.layouts.specs.O32.{frame, rt_frame_of, siginfo}
use Rattle.mips_exec.specs.Processor.{Processor, register}
use Rattle.o32_calls.specs.Numbers.{signal_number}
use Rattle.o32_calls.specs.declared.signals.SignalCall.TheVariants.{Sigreturn, RtSigreturn}
use Rattle.o32_model.specs.GuestBytes.{structure}
use Rattle.o32_model.specs.Step.{Guest, O32Step, O32Row}
use Rattle.o32_model.specs.Words.{sp}
use Rattle.o32_model.specs.declared.outcome.Outcome.{Outcome}
use Rattle.o32_model.specs.declared.outcome.Outcome.TheVariants as outcomes
use Rattle.signal_frames.specs.Returning.{returned}

-- the processor and the kernel after a return, which gives no result
abbrev pub comes_back : Outcome → Guest → Kernel → Processor → List ℕ → O32Step
comes_back outcome guest kernel processor left = record {
  kernel = kernel;
  left = left;
  memory = guest.memory;
  processor = processor;
  sent = nothing;
  outcome = outcome;
}

abbrev pub returns_to : Guest → Kernel → Processor → List ℕ → O32Step
returns_to guest kernel processor left = comes_back outcomes.Frame guest kernel processor left

-- A frame that can't be read whole changes nothing: the turn of the call makes a fault of it.

abbrev pub fails_to_return : Kernel → Guest → List ℕ → O32Step
fails_to_return kernel guest left = comes_back outcomes.BadFrame guest kernel guest.processor left

abbrev pub after_frame : Kernel → Guest → Given (List ℕ) → List ℕ → O32Step
after_frame kernel guest (Err error) left = fails_to_return kernel guest left
after_frame kernel guest (Ok bytes) left =
    returns_to guest (with_mask kernel (frame_mask bytes)) (returned guest.processor (frame_context bytes)) left

unfoldable pub sigreturn_row : Kernel → Guest → List ℕ → O32Step
sigreturn_row kernel guest left = after_frame kernel guest (structure guest.memory (register guest.processor sp) frame.size) left

-- With siginfo the frame has the alternate stack as well, which is set by the rules of sigaltstack(2), with the new stack pointer; what is
-- wrong with it is ignored.

abbrev pub kept_stack : AlternateStack → SigStack
kept_stack stack = record { sp = stack.sp; size = stack.size; flags = stack.flags }

abbrev pub with_frame_stack : Kernel → Processor → AlternateStack → Kernel
with_frame_stack kernel processor stack = (set_stack kernel (Some (register processor sp)) (Some (Ok (kept_stack stack)))).state

abbrev pub after_rt_frame : Kernel → Guest → Given (List ℕ) → List ℕ → O32Step
after_rt_frame kernel guest (Err error) left = fails_to_return kernel guest left
after_rt_frame kernel guest (Ok bytes) left =
    let processor = returned guest.processor (rt_frame_context bytes) in
    returns_to guest (with_frame_stack (with_mask kernel (rt_frame_mask bytes)) processor (rt_frame_stack bytes)) processor left

unfoldable pub rt_sigreturn_row : Kernel → Guest → List ℕ → O32Step
rt_sigreturn_row kernel guest left =
    after_rt_frame kernel guest (structure guest.memory (register guest.processor sp) (rt_frame_of siginfo).size) left

-- The numbers (Linux arch/mips/include/uapi/asm/unistd.h, the o32 table)
abbrev pub return_calls : List O32Row
return_calls =
    record { number = signal_number Sigreturn; step = sigreturn_row }
    ∷ record { number = signal_number RtSigreturn; step = rt_sigreturn_row }
    ∷ []

-- What a handler's return reads in its frame, and what the processor then is.
use Rattle.std.specs.Prelude.{ℕ, List, ◌∷◌, drop}
use Rattle.guest_space.specs.Bytes.{bytes_at}
use Rattle.guest_space.specs.Memory.{Memory}
use Rattle.layouts.specs.Frames.{Context, AlternateStack, rt_frame_mask, rt_frame_stack}
use Rattle.layouts.specs.O32.{siginfo, frame, rt_frame_of}
use Rattle.mips_exec.specs.Processor.{Processor, register}
use Rattle.signal_frames.specs.declared.AltStack.{AltStack}
use Rattle.signal_frames.specs.declared.Return.{Return}

-- the bytes of a frame at the stack pointer, which is register 29
abbrev pub frame_at : Memory → Processor → List ℕ
frame_at memory p = bytes_at memory.pages (register p 29) frame.size

abbrev pub rt_frame_at : Memory → Processor → List ℕ
rt_frame_at memory p = bytes_at memory.pages (register p 29) (rt_frame_of siginfo).size

-- the processor with what a frame kept; register 0 stays 0
abbrev pub returned : Processor → Context → Processor
returned p context =
    record p { registers = 0 ∷ drop 1 context.registers; hi = context.hi; lo = context.lo; pc = context.pc }

abbrev pub shown_stack : AlternateStack → AltStack
shown_stack stack = record { sp = stack.sp; size = stack.size; flags = stack.flags }

-- what rt_sigreturn reads beside the processor
abbrev pub return_of : List ℕ → Return
return_of bytes = record { mask = rt_frame_mask bytes; stack = shown_stack (rt_frame_stack bytes) }

-- The frame of a handler by the alternate stack alone, and what there is once it was asked for. (The forms are this project's own.)
use Rattle.std.specs.Prelude.{◌≡◌, ℕ, ◌+◌, ◌-◌, ◌%◌, ◌^◌, ◌==◌, Bool, true, false, ◌&&◌, not, length, nat_lt, nat_le, Some, Result, Ok, Err, IsErr, if◌then◌else◌}
use Rattle.guest_space.specs.Bytes.{copied_out}
use Rattle.guest_space.specs.Memory.{Memory}
use Rattle.guest_space.specs.declared.access.StoreError.{StoreError}
use Rattle.guest_space.specs.declared.access.StoreError.TheVariants as errors
use Rattle.kernel_core.specs.declared.core_error.NoMemory.{NoMemory}
use Rattle.kernel_model.specs.Shared.{Info}
use Rattle.kernel_model.specs.SignalRows.{is_on, shown_stack, ss_disable}
use Rattle.kernel_model.specs.SignalSets.{SignalSet}
use Rattle.kernel_model.specs.declared.signal.Action.{Action}
use Rattle.kernel_model.specs.declared.signal.SigStack.{SigStack}
use Rattle.layouts.specs.Frames.{frame_bytes, rt_frame_bytes}
use Rattle.layouts.specs.O32.{frame, rt_frame_of, siginfo}
use Rattle.mips_exec.specs.Processor.{Processor, register}
use Rattle.number_tables.specs.Signals.{o32_signal}
use Rattle.o32_model.specs.GuestBytes.{is_storable}
use Rattle.o32_model.specs.Words.{sp}
use Rattle.o32_turns.specs.Handling.{Framed, handler_address, stack_kept}
use Rattle.signal_frames.specs.Entering as entering
use Rattle.signal_frames.specs.declared.AltStack.{AltStack}
use Rattle.signal_frames.specs.Entering.{context_of_processor, frame_address, information, plain_entry, rt_entry}

-- whether a stack pointer lies on a stack that is enabled
abbrev pub is_within : SigStack → ℕ → Bool
is_within stack pointer = nat_lt stack.sp pointer && nat_le pointer (stack.sp + stack.size)

-- whether the frame goes to the alternate stack
abbrev pub switches : SigStack → ℕ → Bool → Bool
switches stack pointer onstack = onstack && not (stack.flags == ss_disable) && not (is_on stack (Some pointer))

abbrev pub top_of : SigStack → ℕ → Bool → ℕ
top_of stack pointer onstack =
    if switches stack pointer onstack then (stack.sp + stack.size) % 2 ^ 32 else (pointer + (2 ^ 32 - 32)) % 2 ^ 32

unfoldable pub plain : Processor → Info → Action → SignalSet → ℕ → Framed
plain processor info action mask top = record {
  entry = plain_entry (o32_signal info.sig) (handler_address action) (frame_address top frame.size);
  bytes = frame_bytes (context_of_processor processor) mask;
}

unfoldable pub with_info : Processor → Info → Action → SignalSet → SigStack → ℕ → Framed
with_info processor info action mask shown top = record {
  entry = rt_entry (o32_signal info.sig) (handler_address action) (frame_address top (rt_frame_of siginfo).size);
  bytes = rt_frame_bytes (information info) (stack_kept shown) (context_of_processor processor) mask;
}

-- below an address, with the alternate stack as it is shown
abbrev pub framed_below : ℕ → SigStack → Processor → Info → Action → SignalSet → Framed
framed_below top shown processor info action mask =
    if action.flags.siginfo then with_info processor info action mask shown top else plain processor info action mask top

abbrev pub framed : SigStack → Processor → Info → Action → SignalSet → Framed
framed stack processor info action mask =
    let pointer = register processor sp in
    framed_below (top_of stack pointer action.flags.onstack) (shown_stack stack (Some pointer)) processor info action mask

-- how many bytes it has
abbrev pub frame_size : Action → ℕ
frame_size action = if action.flags.siginfo then (rt_frame_of siginfo).size else frame.size

-- whether a frame can be written
abbrev pub has_room : Framed → Memory → Bool
has_room framed memory = is_storable memory framed.entry.frame (length framed.bytes)

-- It is written whole and its handler entered, where it can be, and else nothing changes. Of a call that found no memory nothing is said.
abbrev pub Enters : Framed → Result Bool NoMemory → Processor → Processor → Memory → Memory → Type 0
Enters framed (Ok written) processor became memory stored =
    (written ≡ has_room framed memory)
    × (became ≡ (if written then entering.entered processor framed.entry else processor))
    × (stored ≡ (if written then copied_out memory framed.entry.frame framed.bytes else memory))
Enters framed (Err error) processor became memory stored = Unit {0}

-- what the answer of a write of a frame comes to
abbrev pub IsWritten : Result Unit StoreError → Result Bool NoMemory → Type 0
IsWritten (Ok done) result = result ≡ Ok true
IsWritten (Err (errors.Denied denied)) result = result ≡ Ok false
IsWritten (Err errors.NoMemory) result = IsErr result

-- the low words of an alternate stack
abbrev pub words_of : SigStack → AltStack
words_of stack = record { sp = stack.sp % 2 ^ 32; size = stack.size % 2 ^ 32; flags = stack.flags }

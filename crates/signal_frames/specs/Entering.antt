-- How a handler is entered: where its frame lies, what stands there, and what the processor then is.
-- The places of frames and trampolines are this project's own.
use Rattle.std.specs.Prelude.{◌≡◌, ℕ, ◌+◌, ◌-◌, ◌*◌, ◌/◌, ◌%◌, ◌^◌, List, None, Result, Ok, Err}
use Rattle.guest_space.specs.declared.access.StoreError.{StoreError}
use Rattle.guest_space.specs.Answers.{LeavesPrefix}
use Rattle.guest_space.specs.Bytes.{copied_out}
use Rattle.guest_space.specs.Memory.{Memory}
use Rattle.kernel_core.specs.declared.info.Info.{Info}
use Rattle.layouts.specs.Frames.{Context, AlternateStack, Information}
use Rattle.layouts.specs.O32.{sigcontext_in_frame, siginfo_in_rt_frame, ucontext_in_rt_frame}
use Rattle.mips_exec.specs.Processor.{Processor, with_register}
use Rattle.number_tables.specs.Signals.{o32_signal}
use Rattle.signal_frames.specs.declared.AltStack.{AltStack}
use Rattle.signal_frames.specs.declared.writing.Entry.{Entry}

-- a frame of a size below an address, at a multiple of 8 (in 32 bits, as addresses are)
abbrev pub frame_address : ℕ → ℕ → ℕ
frame_address top size = (top + (2 ^ 32 - size)) % 2 ^ 32 / 8 * 8

-- where a handler returns to: a call of sigreturn(2), and one of rt_sigreturn
abbrev pub sigreturn_address : ℕ
sigreturn_address = 0x7FFF_4000

abbrev pub rt_sigreturn_address : ℕ
rt_sigreturn_address = 0x7FFF_4010

-- what a frame keeps of the processor
abbrev pub context : ℕ → List ℕ → ℕ → ℕ → Context
context pc registers hi lo = record { pc = pc; registers = registers; hi = hi; lo = lo }

abbrev pub context_of_processor : Processor → Context
context_of_processor p = context p.pc p.registers p.hi p.lo

-- what a frame tells of the signal, by its number for an o32 program
abbrev pub information : Info → Information
information info =
    record {
      signo = o32_signal info.sig;
      code = info.code;
      errno = info.errno;
      pid = info.pid;
      uid = info.uid;
      value = info.value;
      address = info.addr;
    }

abbrev pub alternate_stack : AltStack → AlternateStack
alternate_stack stack = record { sp = stack.sp; size = stack.size; flags = stack.flags }

-- what a handler is entered with (`Entry` of the code, a record of these numbers): its signal, the
-- addresses of the siginfo (or 0) and of the context, its frame, where it returns to, where it begins
abbrev pub plain_entry : ℕ → ℕ → ℕ → Entry
plain_entry signal handler frame =
    record {
      signal = signal;
      info = 0;
      context = frame + sigcontext_in_frame;
      frame = frame;
      return_to = sigreturn_address;
      handler = handler;
    }

abbrev pub rt_entry : ℕ → ℕ → ℕ → Entry
rt_entry signal handler frame =
    record {
      signal = signal;
      info = frame + siginfo_in_rt_frame;
      context = frame + ucontext_in_rt_frame;
      frame = frame;
      return_to = rt_sigreturn_address;
      handler = handler;
    }

-- the processor at a handler's first instruction: $a0 to $a2 are 4 to 6, $t9 is 25, $sp 29, $ra 31
-- (System V ABI, MIPS supplement)
abbrev pub entered : Processor → Entry → Processor
entered p entry =
    let a0 = with_register p 4 entry.signal in
    let a1 = with_register a0 5 entry.info in
    let a2 = with_register a1 6 entry.context in
    let t9 = with_register a2 25 entry.handler in
    let sp = with_register t9 29 entry.frame in
    let ra = with_register sp 31 entry.return_to in
    record ra { pc = entry.handler; slot = None; link = None }

-- what a writer of a frame leaves
abbrev pub Enters : Result Unit StoreError → Memory → Memory → Processor → Processor → List ℕ → Entry → Type 0
Enters (Ok _) memory memory' p p' bytes entry =
    (memory' ≡ copied_out memory entry.frame bytes) × (p' ≡ entered p entry)
Enters (Err error) memory memory' p p' bytes entry =
    LeavesPrefix error memory memory' entry.frame bytes × (p' ≡ p)

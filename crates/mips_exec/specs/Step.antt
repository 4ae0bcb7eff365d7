-- One step of the processor: the instruction at the program counter is fetched, and its effect is carried
-- out on registers and memory. What a delay slot changes stands here alone.
-- Sources: MIPS32 Architecture for Programmers, Volume II, for the effects; Linux's asm-generic/siginfo.h for
-- SIGSEGV's codes 1 (absent) and 2 (forbidden) and SIGFPE's codes 1 (division by zero) and 2 (overflow).
-- This project's own are: SIGILL's code 1, and the pc that is left as its address; SIGBUS with code 1 for a byte
-- beyond user space, and for an LL, an SC and a fetch at an unaligned address, which is the fault's address; the
-- address of the first denied byte as that of SIGSEGV and SIGBUS, also at unaligned places and for LWL, LWR, SWL
-- and SWR; and that a branch, a jump or SYSCALL in a slot is SIGILL.
use Rattle.std.specs.Prelude.{ℕ, Bool, false, not, ◌+◌, ◌-◌, ◌*◌, ◌/◌, ◌%◌, ◌^◌, ◌==◌, Option, Some, None, Result, Ok, Err, if◌then◌else◌, is_none, ◌&&◌}
use Rattle.kernel_core.specs.declared.signal.Sig.{Sig}
use Rattle.kernel_core.specs.declared.signal.Sig.TheVariants.{Ill, Trap, Fpe, Bus, Segv}
use Rattle.mips_code.specs.declared.insn.Insn.{Insn}
use Rattle.mips_code.specs.Instructions.{instruction_of}
use Rattle.guest_space.specs.Access.{first_denied}
use Rattle.guest_space.specs.declared.access.Denied.{Denied}
use Rattle.guest_space.specs.declared.access.Why.{Why}
use Rattle.guest_space.specs.declared.access.Access.TheVariants as access
use Rattle.guest_space.specs.declared.access.Why.TheVariants.{Absent, Forbidden, Beyond}
use Rattle.guest_space.specs.Bytes.{read, written, are_ready}
use Rattle.guest_space.specs.Memory.{Memory}
use Rattle.mips_exec.specs.declared.codes.TheConstants.{ILLEGAL, ABSENT, FORBIDDEN, BAD_ADDRESS}
use Rattle.mips_exec.specs.declared.cpu.Slot.{Slot}
use Rattle.mips_exec.specs.declared.effect.Span.{Span}
use Rattle.mips_exec.specs.declared.effect.Span.TheVariants.{Byte, Half, Word, Left, Right}
use Rattle.mips_exec.specs.declared.effect.Effect.{Effect}
use Rattle.mips_exec.specs.declared.effect.Effect.TheVariants.{Proceed, Register, HighLow, Load, LoadLinked, Store, StoreConditional, Branch, ArithmeticError, Breakpoint, SystemCall, Reserved, FetchFault}
use Rattle.mips_exec.specs.declared.execution.Stepped.{Stepped}
use Rattle.mips_exec.specs.declared.execution.Stepped.TheVariants.{Next, Syscall, Fault}
use Rattle.mips_exec.specs.Arithmetic.{sum, sign_extended_byte, sign_extended_half}
use Rattle.mips_exec.specs.Effect.{effect_of}
use Rattle.mips_exec.specs.Jumps.{past_slot}
use Rattle.mips_exec.specs.Processor.{Processor, register, with_register}

-- what a step leaves, and what came of it
pub record Step : Type 0 where
  pub processor : Processor
  pub memory : Memory
  pub came : Stepped

-- ---- the program counter and the delay slot

-- the address that follows: the next word, or after a slot where its branch goes
abbrev pub following : Option Slot → ℕ → ℕ
following None pc = sum pc 4
following (Some slot) pc = slot.target

-- the address to come back to after a fault: the instruction's, or its branch's where it stands in a slot
abbrev pub restart : Option Slot → ℕ → ℕ
restart None pc = pc
restart (Some slot) pc = slot.branch

-- the processor past the instruction, and the processor that a fault leaves
abbrev pub advanced : Processor → Processor
advanced p = record p { pc = following p.slot p.pc; slot = None }

abbrev pub stopped : Processor → Processor
stopped p = record p { pc = restart p.slot p.pc; slot = None }

abbrev pub goes_to_next : Processor → Memory → Step
goes_to_next p m = record { processor = advanced p; memory = m; came = Next }

abbrev pub faults : Processor → Memory → Sig → ℕ → ℕ → Step
faults p m signal code address = record { processor = stopped p; memory = m; came = Fault signal code address }

-- SIGILL and SIGFPE have the address that is left in pc (for SIGILL this project's own)
abbrev pub faults_here : Processor → Memory → Sig → ℕ → Step
faults_here p m signal code = faults p m signal code (restart p.slot p.pc)

-- a branch, a jump or SYSCALL in a slot is no instruction (this project's own: the manual leaves it open)
abbrev pub outside_slot : Option Slot → Processor → Memory → Step → Step
outside_slot None p m step = step
outside_slot (Some slot) p m step = faults_here p m Ill ILLEGAL

-- a link register gets the address past the slot
abbrev pub with_link : Option ℕ → Processor → Processor
with_link None p = p
with_link (Some n) p = with_register p (n % 32) (past_slot p)

-- the slot comes next and then the target, or the slot is left out where there is no target
abbrev pub jumps : Option ℕ → Processor → Processor
jumps (Some target) p = record p { pc = sum p.pc 4; slot = Some (record { branch = p.pc; target = target }) }
jumps None p = record p { pc = past_slot p }

-- ---- memory

-- the signal and its code for a byte that may not be used (beyond user space this project's own)
abbrev pub access_signal : Why → Sig
access_signal Absent = Segv
access_signal Forbidden = Segv
access_signal Beyond = Bus

abbrev pub access_code : Why → ℕ
access_code Absent = ABSENT
access_code Forbidden = FORBIDDEN
access_code Beyond = BAD_ADDRESS

abbrev pub denies : Processor → Memory → Denied → Step
denies p m denied = faults p m (access_signal denied.why) (access_code denied.why) denied.addr

-- The bytes that a load takes: those of the span, and for LWL and LWR the whole aligned word.
abbrev pub load_address : Span → ℕ → ℕ
load_address Left a = a - a % 4
load_address Right a = a - a % 4
load_address _ a = a

abbrev pub load_width : Span → ℕ
load_width Byte = 1
load_width Half = 2
load_width _ = 4

-- With b the address modulo 4, LWL puts the word's bytes from b on into the register's upper bytes, and LWR
-- its bytes up to b into the lower ones; the others keep what they held.
abbrev pub merged_left : ℕ → ℕ → ℕ → ℕ
merged_left b old word = word * 2 ^ (8 * b) % 2 ^ 32 + old % 2 ^ (8 * b)

abbrev pub merged_right : ℕ → ℕ → ℕ → ℕ
merged_right b old word = old / 2 ^ (8 * b + 8) * 2 ^ (8 * b + 8) + word / 2 ^ (24 - 8 * b)

-- what a register gets, from the address, what it held and the number read
abbrev pub loaded_value : Span → Bool → ℕ → ℕ → ℕ → ℕ
loaded_value Byte signed a old n = if signed then sign_extended_byte n else n
loaded_value Half signed a old n = if signed then sign_extended_half n else n
loaded_value Word signed a old n = n
loaded_value Left signed a old n = merged_left (a % 4) old n
loaded_value Right signed a old n = merged_right (a % 4) old n

abbrev pub loads : Processor → Memory → Span → Bool → ℕ → ℕ → Result ℕ Denied → Step
loads p m span signed a n (Ok number) =
    goes_to_next (with_register p n (loaded_value span signed a (register p n) number)) m
loads p m span signed a n (Err denied) = denies p m denied

-- The bytes that a store writes: with b the address modulo 4, SWL stores the upper 4 - b bytes of a word at
-- the address, and SWR the lower b + 1 at the start of the aligned word.
abbrev pub store_address : Span → ℕ → ℕ
store_address Right a = a - a % 4
store_address _ a = a

abbrev pub store_width : Span → ℕ → ℕ
store_width Byte a = 1
store_width Half a = 2
store_width Word a = 4
store_width Left a = 4 - a % 4
store_width Right a = a % 4 + 1

abbrev pub stored_value : Span → ℕ → ℕ → ℕ
stored_value Left a value = value / 2 ^ (8 * (a % 4))
stored_value _ a value = value

-- LL links its address
abbrev pub loads_linked : Processor → Memory → ℕ → ℕ → Result ℕ Denied → Step
loads_linked p m a n (Ok number) = goes_to_next (with_register (record p { link = Some a }) n number) m
loads_linked p m a n (Err denied) = denies p m denied

-- a store, unless a byte is denied
abbrev pub unless_denied : Processor → Memory → Option Denied → Step → Step
unless_denied p m None step = step
unless_denied p m (Some denied) step = denies p m denied

abbrev pub stores : Processor → Memory → ℕ → ℕ → ℕ → Step
stores p m at width value =
    unless_denied p m (first_denied access.Store m.pages at width) (goes_to_next p (written m at width value))

abbrev pub is_linked : Option ℕ → ℕ → Bool
is_linked None a = false
is_linked (Some linked) a = linked == a

-- SC stores and gives 1 where its address is linked, and else gives 0. Every SC clears the link.
abbrev pub stores_conditionally : Processor → Memory → ℕ → ℕ → Step
stores_conditionally p m a n =
    let q = record p { link = None } in
    if is_linked p.link a then goes_to_next (with_register q n 1) (written m a 4 (register p n))
    else goes_to_next (with_register q n 0) m

-- LL and SC take an aligned address; the signal of another is this project's own
abbrev pub aligned : Processor → Memory → ℕ → Step → Step
aligned p m a step = if a % 4 == 0 then step else faults p m Bus BAD_ADDRESS a

-- ---- one step

-- what an effect comes to
abbrev pub carried_out : Processor → Memory → Effect → Step
carried_out p m Proceed = goes_to_next p m
carried_out p m (Register n value) = goes_to_next (with_register p (n % 32) value) m
carried_out p m (HighLow high low) = goes_to_next (record p { hi = high; lo = low }) m
carried_out p m (Load span signed a n) =
    loads p m span signed a (n % 32) (read m (load_address span a) (load_width span))
carried_out p m (LoadLinked a n) = aligned p m a (loads_linked p m a (n % 32) (read m a 4))
carried_out p m (Store span a value) =
    stores p m (store_address span a) (store_width span a) (stored_value span a value)
carried_out p m (StoreConditional a n) =
    let q = record p { link = None } in
    aligned q m a (unless_denied q m (first_denied access.Store m.pages a 4) (stores_conditionally p m a (n % 32)))
carried_out p m (Branch link target) =
    outside_slot p.slot p m (record { processor = jumps target (with_link link p); memory = m; came = Next })
carried_out p m (ArithmeticError code) = faults_here p m Fpe code
carried_out p m (Breakpoint code) = faults p m Trap code 0
carried_out p m SystemCall =
    let q = record p { pc = sum p.pc 4; link = None } in
    outside_slot p.slot p m (record { processor = q; memory = m; came = Syscall })
carried_out p m Reserved = faults_here p m Ill ILLEGAL
carried_out p m (FetchFault signal code address) = faults p m signal code address

-- the effect of a word that was fetched
abbrev pub effect_of_instruction : Option Insn → Processor → Effect
effect_of_instruction None p = Reserved
effect_of_instruction (Some insn) p = effect_of insn p

abbrev pub effect_of_fetch : Processor → Result ℕ Denied → Effect
effect_of_fetch p (Ok word) = effect_of_instruction (instruction_of word) p
effect_of_fetch p (Err denied) = FetchFault (access_signal denied.why) (access_code denied.why) denied.addr

-- the effect of the instruction at the program counter, whose address is aligned; the signal of another is this
-- project's own
unfoldable pub effect_at : Processor → Memory → Effect
effect_at p m = if p.pc % 4 == 0 then effect_of_fetch p (read m p.pc 4) else FetchFault Bus BAD_ADDRESS p.pc

-- One step from a processor and a memory.
unfoldable pub step_of : Processor → Memory → Step
step_of p m = carried_out p m (effect_at p m)

-- whether bytes that may be stored to stand in a page that was not written since it was mapped
abbrev pub lacks_page : Memory → ℕ → ℕ → Bool
lacks_page m at width = is_none (first_denied access.Store m.pages at width) && not (are_ready m.pages at width)

-- whether an effect stores to such a page
abbrev pub needs_page : Processor → Memory → Effect → Bool
needs_page p m (Store span a value) = lacks_page m (store_address span a) (store_width span a)
needs_page p m (StoreConditional a n) = a % 4 == 0 && is_linked p.link a && lacks_page m a 4
needs_page p m _ = false

-- whether the store of this step is to a page that is not ready, that is, was not written since it was mapped
abbrev pub asks_for_page : Processor → Memory → Bool
asks_for_page p m = needs_page p m (effect_at p m)

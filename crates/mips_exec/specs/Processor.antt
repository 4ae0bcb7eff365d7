-- The state of a MIPS32 processor, as contracts see it (MIPS32 Architecture for Programmers, Volume I).
use Rattle.std.specs.Prelude.{ℕ, ◌≡◌, length, List, Option, None, ◌==◌, slice_index, slice_set, replicate, if◌then◌else◌}
use Rattle.mips_exec.specs.declared.cpu.Slot.{Slot}

-- The 32 general registers, HI and LO, the program counter, the delay slot that stands at the program
-- counter (the address of its branch, and where that goes), the address that LL linked, and the thread pointer.
pub record Processor : Type 0 where
  pub registers : List ℕ
  pub hi : ℕ
  pub lo : ℕ
  pub pc : ℕ
  pub slot : Option Slot
  pub link : Option ℕ
  pub thread_pointer : ℕ

-- a processor that begins at an address
abbrev pub fresh : ℕ → Processor
fresh at =
    record { registers = replicate 32 0; hi = 0; lo = 0; pc = at; slot = None; link = None; thread_pointer = 0 }

-- register n
abbrev pub register : Processor → ℕ → ℕ
register p n = slice_index p.registers n

-- the processor with register n set to a value; register 0 stays 0
abbrev pub with_register : Processor → ℕ → ℕ → Processor
with_register p n value = if n == 0 then p else record p { registers = slice_set p.registers n value }

-- What holds of every processor: register 0 is 0, and there are 32 registers.
pub record IsValidProcessor (p : Processor) : Type 0 where
  pub zero : register p 0 ≡ 0
  pub count : length p.registers ≡ 32

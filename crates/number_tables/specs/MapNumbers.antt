-- The numbers of the flags of mmap(2) for an o32 program.
use Rattle.std.specs.Prelude.{ℕ, ◌+◌, ◌*◌, ◌%◌, true, ◌==◌, ◌||◌, Option, Some, None, if◌then◌else◌}
use Rattle.kernel_core.specs.declared.map_flags.MapKind.{MapKind}
use Rattle.kernel_core.specs.declared.map_flags.MapKind.TheVariants.{Shared, Private}
use Rattle.kernel_core.specs.declared.map_flags.MapFlags.{MapFlags}
use Rattle.kernel_core.specs.Bits.{one_if, has}
use Rattle.number_tables.specs.Flags.{stands_for}

-- the type, in the four low bits
abbrev pub kind_number : MapKind → ℕ
kind_number Shared = 1
kind_number Private = 2

abbrev pub kind_of : ℕ → MapKind
kind_of number = if number % 16 == 1 then Shared else Private

-- the number of a set of flags
-- for an o32 program (Linux arch/mips/include/uapi/asm/mman.h)
abbrev pub o32_map : MapFlags → ℕ
o32_map flags =
    kind_number flags.kind
    + 0x10 * one_if flags.fixed
    + 0x400 * one_if flags.noreserve
    + 0x800 * one_if flags.anonymous

-- the flags whose bits a number has there, whatever its other bits
abbrev pub o32_map_read : ℕ → MapFlags
o32_map_read number = record {
  kind = kind_of number;
  fixed = has number 0x10;
  noreserve = has number 0x400;
  anonymous = has number 0x800;
}

-- the flags that a number stands for there
abbrev pub map_of_o32 : ℕ → Option MapFlags
map_of_o32 number = stands_for o32_map (λ _. true) o32_map_read number

-- the flags of a number of which only the listed bits count, where its type is one of the two
abbrev pub map_flags_in : ℕ → Option MapFlags
map_flags_in number = if number % 16 == 1 || number % 16 == 2 then Some (o32_map_read number) else None

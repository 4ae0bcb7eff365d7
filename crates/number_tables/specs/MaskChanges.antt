-- The numbers of the changes of a signal mask in both worlds.
use Rattle.std.specs.Prelude.{ℕ, Option, List, [], ◌∷◌}
use Rattle.kernel_core.specs.declared.mask.MaskChange.{MaskChange}
use Rattle.kernel_core.specs.declared.mask.MaskChange.TheVariants.{Block, Unblock, Set}
use Rattle.number_tables.specs.Numbered.{numbered}

-- the number of a change for an o32 program (Linux arch/mips/include/uapi/asm/signal.h)
abbrev pub o32_mask_change : MaskChange → ℕ
o32_mask_change Block = 1
o32_mask_change Unblock = 2
o32_mask_change Set = 3

-- the number of a change for the native kernel (Linux include/uapi/asm-generic/signal-defs.h)
abbrev pub native_mask_change : MaskChange → ℕ
native_mask_change Block = 0
native_mask_change Unblock = 1
native_mask_change Set = 2

-- the changes of a mask
abbrev pub mask_changes : List MaskChange
mask_changes = Block ∷ Unblock ∷ Set ∷ []

-- the one of this number, for an o32 program and for the native kernel
abbrev pub mask_change_of_o32 : ℕ → Option MaskChange
mask_change_of_o32 number = numbered o32_mask_change mask_changes number

abbrev pub mask_change_of_native : ℕ → Option MaskChange
mask_change_of_native number = numbered native_mask_change mask_changes number

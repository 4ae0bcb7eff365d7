-- Numbers and names are inverse, in each world.
use Rattle.std.specs.Prelude.{◌≡◌, ℕ, Some, refl}
use Rattle.kernel_core.specs.declared.mask.MaskChange.{MaskChange}
use Rattle.kernel_core.specs.declared.mask.MaskChange.TheVariants.{Block}
use Rattle.number_tables.specs.inside.NumberedLaws.{numbered_number}
use Rattle.number_tables.specs.MaskChanges.{o32_mask_change, native_mask_change, mask_changes, mask_change_of_o32, mask_change_of_native}

-- numbers and names are inverse, in each world
pub o32_mask_change_number : (number : ℕ) (value : MaskChange) → mask_change_of_o32 number ≡ Some value → o32_mask_change value ≡ number
o32_mask_change_number = numbered_number o32_mask_change mask_changes

pub native_mask_change_number : (number : ℕ) (value : MaskChange) → mask_change_of_native number ≡ Some value → native_mask_change value ≡ number
native_mask_change_number = numbered_number native_mask_change mask_changes

pub o32_mask_change_found : (value : MaskChange) → mask_change_of_o32 (o32_mask_change value) ≡ Some value
o32_mask_change_found Block = refl
o32_mask_change_found _ = refl

pub native_mask_change_found : (value : MaskChange) → mask_change_of_native (native_mask_change value) ≡ Some value
native_mask_change_found Block = refl
native_mask_change_found _ = refl

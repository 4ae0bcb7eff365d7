-- Numbers and names are inverse, in each world.
use Rattle.std.specs.Prelude.{◌≡◌, ℕ, Some, refl}
use Rattle.kernel_core.specs.declared.error.Errno.{Errno}
use Rattle.kernel_core.specs.declared.error.Errno.TheVariants.{EPERM}
use Rattle.number_tables.specs.inside.NumberedLaws.{numbered_number}
use Rattle.number_tables.specs.Errors.{o32_errno, native_errno, errors, errno_of_o32, errno_of_native}

-- numbers and names are inverse, in each world
pub o32_errno_number : (number : ℕ) (value : Errno) → errno_of_o32 number ≡ Some value → o32_errno value ≡ number
o32_errno_number = numbered_number o32_errno errors

pub native_errno_number : (number : ℕ) (value : Errno) → errno_of_native number ≡ Some value → native_errno value ≡ number
native_errno_number = numbered_number native_errno errors

pub o32_errno_found : (value : Errno) → errno_of_o32 (o32_errno value) ≡ Some value
o32_errno_found EPERM = refl
o32_errno_found _ = refl

pub native_errno_found : (value : Errno) → errno_of_native (native_errno value) ≡ Some value
native_errno_found EPERM = refl
native_errno_found _ = refl

-- The arguments of calls that take a path: where it begins, and flags (openat(2), path_resolution(7)).
use Rattle.std.specs.Prelude.{ℕ, ◌-◌, ◌^◌, ◌==◌, Bool, true, false, Option, Some, None, bit_and, if◌then◌else◌}
use Rattle.kernel_model.specs.Paths.{Base, Working, Descriptor}

-- Where a path begins that does not begin with a slash: AT_FDCWD of Linux include/uapi/linux/fcntl.h is the working directory, and any other
-- number a descriptor.

abbrev pub working : ℕ
working = 2 ^ 32 - 100

abbrev pub base : ℕ → Base
base fd = if fd == working then Working else Descriptor fd

-- Flags: AT_SYMLINK_NOFOLLOW, AT_NO_AUTOMOUNT and AT_EMPTY_PATH of Linux include/uapi/linux/fcntl.h

abbrev pub nofollow_flag : ℕ
nofollow_flag = 0x100

abbrev pub no_automount_flag : ℕ
no_automount_flag = 0x800

abbrev pub empty_path_flag : ℕ
empty_path_flag = 0x1000

-- whether the one flag that a call takes is there; none where there are others
abbrev pub one_flag : ℕ → ℕ → Option Bool
one_flag flag number = if number == 0 then Some false else (if number == flag then Some true else None)

-- whether a number has no flag but those of another
abbrev pub has_only : ℕ → ℕ → Bool
has_only number flags = bit_and number flags == number

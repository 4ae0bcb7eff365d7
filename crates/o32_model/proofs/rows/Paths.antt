-- Worked rows on paths in memory, and on the arguments of calls that take one.
use Rattle.std.specs.Prelude.{◌≡◌, ℕ, true, false, List, [], ◌∷◌, length, position, take, Some, None, Ok, Err, refl}
use Rattle.std.specs.List.{position_or_len}
use Rattle.guest_space.specs.Access.{readable_prefix}
use Rattle.guest_space.specs.Bytes.{bytes_at}
use Rattle.guest_space.specs.Memory.{Memory}
use Rattle.kernel_core.specs.declared.error.Errno.TheVariants.{EFAULT, ENAMETOOLONG}
use Rattle.kernel_model.specs.Paths.{Working, Descriptor}
use Rattle.o32_model.specs.PathArguments.{base, one_flag, has_only}
use Rattle.o32_model.specs.Paths.{is_nul, path_at}

module _ (memory : Memory) where
  -- the last four bytes of a page, behind which none can be loaded: "ab"; what stands behind the NUL plays no part
  up_to_nul : readable_prefix memory.pages 69628 4096 ≡ 4 → bytes_at memory.pages 69628 4 ≡ 97 ∷ 98 ∷ 0 ∷ 99 ∷ []
      → path_at memory 69628 ≡ Ok (97 ∷ 98 ∷ [])
  unfolding path_at
  up_to_nul four bytes = simp (four, bytes) refl

  no_byte : readable_prefix memory.pages 69630 4096 ≡ 2 → bytes_at memory.pages 69630 2 ≡ 0 ∷ 97 ∷ [] → path_at memory 69630 ≡ Ok []
  unfolding path_at
  no_byte two bytes = simp (two, bytes) refl

  -- a page that is absent ends the bytes: a NUL before it ends the path, and without one that is EFAULT and not ENAMETOOLONG
  before_absent : readable_prefix memory.pages 69630 4096 ≡ 2 → bytes_at memory.pages 69630 2 ≡ 97 ∷ 0 ∷ [] → path_at memory 69630 ≡ Ok (97 ∷ [])
  unfolding path_at
  before_absent two bytes = simp (two, bytes) refl

  into_absent : readable_prefix memory.pages 69630 4096 ≡ 2 → bytes_at memory.pages 69630 2 ≡ 97 ∷ 98 ∷ [] → path_at memory 69630 ≡ Err EFAULT
  unfolding path_at
  into_absent two bytes = simp (two, bytes) refl

  all_absent : readable_prefix memory.pages 69632 4096 ≡ 0 → path_at memory 69632 ≡ Err EFAULT
  unfolding path_at bytes_at
  all_absent none = simp none refl

  -- one byte is missing of 4096, and none is
  nearly_too_long : (bytes : List ℕ) → readable_prefix memory.pages 65537 4096 ≡ 4095 → bytes_at memory.pages 65537 4095 ≡ bytes
      → length bytes ≡ 4095 → position_or_len is_nul bytes ≡ 4095 → path_at memory 65537 ≡ Err EFAULT
  unfolding path_at
  nearly_too_long bytes readable held long plain = simp (readable, held, plain, long) refl

  too_long : (bytes : List ℕ) → readable_prefix memory.pages 65536 4096 ≡ 4096 → bytes_at memory.pages 65536 4096 ≡ bytes
      → length bytes ≡ 4096 → position_or_len is_nul bytes ≡ 4096 → path_at memory 65536 ≡ Err ENAMETOOLONG
  unfolding path_at
  too_long bytes readable held long plain = simp (readable, held, plain, long) refl

  -- the NUL is the last of 4096
  longest : (bytes : List ℕ) → readable_prefix memory.pages 65536 4096 ≡ 4096 → bytes_at memory.pages 65536 4096 ≡ bytes
      → position is_nul bytes ≡ Some 4095 → path_at memory 65536 ≡ Ok (take 4095 bytes)
  unfolding path_at
  longest bytes readable held last = simp (readable, held, last) refl

-- -100, a descriptor, and another number below 0

from_working : base 0xFFFF_FF9C ≡ Working
from_working = refl

from_descriptor : base 3 ≡ Descriptor 3
from_descriptor = refl

from_below_zero : base 0xFFFF_FFFF ≡ Descriptor 0xFFFF_FFFF
from_below_zero = refl

-- flags

without_flag : one_flag 0x200 0 ≡ Some false
without_flag = refl

with_flag : one_flag 0x200 0x200 ≡ Some true
with_flag = refl

with_another : one_flag 0x200 0x300 ≡ None
with_another = refl

only_listed : has_only 0x1100 0x1900 ≡ true
only_listed = refl

not_only_listed : has_only 0x1200 0x1900 ≡ false
not_only_listed = refl

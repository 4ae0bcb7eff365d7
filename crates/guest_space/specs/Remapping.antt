-- Pages that are taken away, that move, and a range of pages that gets another size (munmap(2), mremap(2)).
use Rattle.std.specs.Prelude.{◌≡◌, ℕ, ◌+◌, ◌-◌, ◌<◌, ◌≤◌, Bool, true, false, not, ◌&&◌, nat_le, nat_lt, Option, Some, None, Result, Ok, Err, if◌then◌else◌, ◌⊎◌}
use Rattle.std.specs.FinMap.{get, len, retain_keys}
use Rattle.guest_space.specs.declared.access.MapError.{MapError}
use Rattle.guest_space.specs.declared.access.MapError.TheVariants.{Full, NoPlace, NoMemory}
use Rattle.guest_space.specs.Memory.{MappedPage, Pages}
use Rattle.guest_space.specs.Mapping.{with_zeros, page_limit}
use Rattle.guest_space.specs.Places.{IsFree, IsGreatestPlace}

-- whether the number lies in the range
abbrev pub is_in : ℕ → ℕ → ℕ → Bool
is_in first count number = nat_le first number && nat_lt number (first + count)

-- the pages without those of the range
unfoldable pub without : Pages → ℕ → ℕ → Pages
without pages first count = retain_keys pages (λ number. not (is_in first count number))

-- After a move each page of the range stands so many numbers after `to` as it stood after `first`, with its protection, its
-- bytes and whether it is ready; at its old number no page is left, and all others are as before.
abbrev pub AreMoved : Pages → Pages → ℕ → ℕ → ℕ → Type 0
AreMoved before after first to count =
    (number : ℕ) → get after number ≡
    (if is_in to count number then get before (first + (number - to))
    else (if is_in first count number then None else get before number))

-- the protection of a page that is mapped
abbrev pub protection_of : Option MappedPage → ℕ
protection_of None = 0
protection_of (Some page) = page.protection

-- the page past which no range may grow in place, at 0x7F7F0000 (this project's own)
abbrev pub growth_end : ℕ
growth_end = 0x7F7F0

-- the range may grow in place: the pages that follow it are free, and none of them lies past the end
pub record MayGrow (pages : Pages) (first old new : ℕ) : Type 0 where
  pub inside : first + new ≤ growth_end
  pub free : IsFree pages (first + old) (new - old)

-- What a range of `old` pages becomes at the size `new`, where it is found at page `at` afterwards:
-- cut off, or grown by pages of zeros where it stood or, first moved, where a greatest free place of `new` pages was.
-- The added pages have the protection of the last old one.
pub data IsRemapped (before after : Pages) (first old new : ℕ) (may_move : Bool) (at : ℕ) : Type 0 where
  Cut : new ≤ old → at ≡ first → after ≡ without before (first + new) (old - new) → IsRemapped before after first old new may_move at
  Grown : old < new → MayGrow before first old new → at ≡ first
      → after ≡ with_zeros before (first + old) (new - old) (protection_of (get before (first + old - 1)))
      → IsRemapped before after first old new may_move at
  Moved : old < new → (MayGrow before first old new → ⊥) → may_move ≡ true → IsGreatestPlace before new (Some at)
      → (moved : Pages) → AreMoved before moved first at old
      → after ≡ with_zeros moved (at + old) (new - old) (protection_of (get before (first + old - 1)))
      → IsRemapped before after first old new may_move at

-- the pages mapped afterwards would pass the limit
abbrev pub PassesLimit : Pages → ℕ → ℕ → Type 0
PassesLimit pages old new = (old < new) × (page_limit < len pages + (new - old))

-- the range can't grow where it stands, and it may not move or there is no place for it
pub record HasNoPlace (pages : Pages) (first old new : ℕ) (may_move : Bool) : Type 0 where
  pub grows : old < new
  pub stuck : MayGrow pages first old new → ⊥
  pub nowhere : (may_move ≡ false) ⊎ IsGreatestPlace pages new None

-- The answer of a change of size: Full where the limit would be passed, NoPlace where there is no place, which changes nothing,
-- else the range's first page. Want of memory comes only where it would be given, and of the pages nothing is promised then.
abbrev pub IsRemapAnswer : Result ℕ MapError → Pages → Pages → ℕ → ℕ → ℕ → Bool → Type 0
IsRemapAnswer (Ok at) before after first old new may_move =
    (PassesLimit before old new → ⊥) × IsRemapped before after first old new may_move at
IsRemapAnswer (Err Full) before after first old new may_move = PassesLimit before old new × (after ≡ before)
IsRemapAnswer (Err NoPlace) before after first old new may_move =
    (PassesLimit before old new → ⊥) × HasNoPlace before first old new may_move × (after ≡ before)
IsRemapAnswer (Err NoMemory) before after first old new may_move =
    (PassesLimit before old new → ⊥) × (HasNoPlace before first old new may_move → ⊥)

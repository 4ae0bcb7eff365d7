-- Which descriptors lead to which description: the descriptors, how many of them lead to each number, and the pools of the
-- descriptors and of the numbers that are taken.
use Rattle.std.specs.Prelude.{◌≡◌, ℕ, ◌+◌, ◌<◌, Bool, List, [], ◌∷◌, length, slice_index, Option, Some, None, is_some, nat_lt, if◌then◌else◌}
use Rattle.std.specs.List.{list_any}
use Rattle.kernel_model.specs.Table.{slot, with_slot, leads_to}
use Rattle.kernel_model.specs.declared.descriptor.Descriptor.{Descriptor}
use Rattle.number_pool.specs.Places.{is_taken_at}

-- how many descriptors lead to the description of a number
abbrev pub leading : List (Option Descriptor) → ℕ → ℕ
leading [] number = 0
leading (descriptor ∷ fds) number = (if leads_to number descriptor then 1 else 0) + leading fds number

pub record AreLinks (fds : List (Option Descriptor)) (counts : List ℕ) (fds_taken numbers_taken : List Bool) : Type 0 where
  pub fds_sized : length fds ≡ 1024
  pub counts_sized : length counts ≡ 1024
  pub numbers : (fd : ℕ) (descriptor : Descriptor) → slot fds fd ≡ Some descriptor → descriptor.number < 1024
  pub counted : (number : ℕ) → number < 1024 → slice_index counts number ≡ leading fds number
  pub fds_pool : (fd : ℕ) → is_taken_at fds_taken fd ≡ is_some (slot fds fd)
  pub numbers_pool : (number : ℕ) → is_taken_at numbers_taken number ≡ nat_lt 0 (leading fds number)

-- the least number to which no descriptor leads
pub record IsUnused (fds : List (Option Descriptor)) (number : ℕ) : Type 0 where
  pub small : number < 1024
  pub none : leading fds number ≡ 0
  pub below : (lower : ℕ) → lower < number → 0 < leading fds lower

-- the number to which no descriptor leads once one is closed, where there is one
abbrev pub left_alone : List (Option Descriptor) → ℕ → Option Descriptor → Option ℕ
left_alone fds fd None = None
left_alone fds fd (Some descriptor) =
    if list_any (leads_to descriptor.number) (with_slot fds fd None) then None else Some descriptor.number

-- Descriptions that belong to the descriptors: each has a descriptor, and no other place has one.
pub record AreLive {A : Type 0} (fds : List (Option Descriptor)) (live : List (Option A)) : Type 0 where
  pub sized : length live ≡ 1024
  pub lives : (number : ℕ) → is_some (slot live number) ≡ nat_lt 0 (leading fds number)

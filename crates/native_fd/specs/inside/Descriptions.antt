-- The descriptions by their numbers: at the place of each number the key of its description, which a slab picked.
use Rattle.std.specs.Prelude.{◌≡◌, ℕ, ◌-◌, ◌≤◌, ◌++◌, true, List, length, Option, Some, is_some, option_and_then}
use Rattle.kernel_model.specs.Begin.{free_places}
use Rattle.kernel_model.specs.Table.{descriptor_limit, slot}
use Rattle.slab.specs.Slab.{Slab, get}

-- what a key leads to
abbrev pub item_at : {A : Type 0} → Slab A → Option ℕ → Option A
item_at items key = option_and_then (λ k. get items k) key

-- each key leads to a description, no two numbers have the same key, and each description has a number
pub record AreKeyed {A : Type 0} (keys : List (Option ℕ)) (items : Slab A) : Type 0 where
  pub leads : (number key : ℕ) → slot keys number ≡ Some key → is_some (get items key) ≡ true
  pub once : (number other key : ℕ) → slot keys number ≡ Some key → slot keys other ≡ Some key → number ≡ other
  pub used : (key : ℕ) → is_some (get items key) ≡ true → (number : ℕ) × (slot keys number ≡ Some key)

-- the keys of all numbers: those of the first ones, and none for the others
abbrev pub all_keys : List (Option ℕ) → List (Option ℕ)
all_keys keys = keys ++ free_places (descriptor_limit - length keys)

-- what is kept: the keys of the first numbers, and the descriptions
pub record AreKept {A : Type 0} (keys : List (Option ℕ)) (items : Slab A) : Type 0 where
  pub few : length keys ≤ descriptor_limit
  pub keyed : AreKeyed (all_keys keys) items

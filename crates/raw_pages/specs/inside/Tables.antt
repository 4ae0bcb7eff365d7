-- The table of tables that a store keeps, against the finite map that contracts see. The page of a number stands in the
-- table number / 1024 at the place number % 1024, and there are 1024 tables.
use Rattle.std.specs.Prelude.{◌≡◌, ◌<◌, ◌≤◌, ℕ, zero, suc, ◌+◌, ◌/◌, ◌%◌, ◌==◌, Bool, not, List, [], ◌∷◌, length, slice_index_or, Option, Some, None, is_some, if◌then◌else◌}
use Rattle.std.specs.Ordering.{nat_cmp}
use Rattle.std.specs.FinMap.{FinMap, empty, insert, remove, len}

-- the entry at a place of a table that may be absent
abbrev pub entry_in : {X : Type 0} → Option (List (Option X)) → ℕ → Option X
entry_in None place = None
entry_in (Some entries) place = slice_index_or entries place None

-- the entry of a number
unfoldable pub entry_of : {X : Type 0} → List (Option (List (Option X))) → ℕ → Option X
entry_of leaves number = entry_in (slice_index_or leaves (number / 1024) None) (number % 1024)

-- the map with this entry at a number, where one was found
abbrev pub with_found : {X : Type 0} → FinMap nat_cmp X → ℕ → Option X → FinMap nat_cmp X
with_found pages number None = pages
with_found pages number (Some page) = insert pages number page

-- the map with the value at a number changed, where one was found
abbrev pub changed : {X : Type 0} → FinMap nat_cmp X → ℕ → Option X → (X → X) → FinMap nat_cmp X
changed pages number None change = pages
changed pages number (Some page) change = insert pages number (change page)

-- the map with the value at one number, where one was found, at another number
abbrev pub moved : {X : Type 0} → FinMap nat_cmp X → ℕ → ℕ → Option X → FinMap nat_cmp X
moved pages from to None = pages
moved pages from to (Some page) = insert (remove pages from) to page

-- the map of the entries of the first `count` numbers
unfoldable pub map_of_first : {X : Type 0} → List (Option (List (Option X))) → ℕ → FinMap nat_cmp X
map_of_first leaves zero = empty
map_of_first leaves (suc count) = with_found (map_of_first leaves count) count (entry_of leaves count)

-- the map of all entries
unfoldable pub map_of : {X : Type 0} → List (Option (List (Option X))) → FinMap nat_cmp X
map_of leaves = map_of_first leaves 1048576

-- the tables differ at most in the entry of one number
abbrev pub SetsEntry : {X : Type 0} → List (Option (List (Option X))) → List (Option (List (Option X))) → ℕ → Option X → Type 0
SetsEntry before after number entry = (other : ℕ) → entry_of after other ≡ (if other == number then entry else entry_of before other)

-- of entries by their numbers: those from `first` up to the end are the same one, and the others as they were
pub record Fills {X : Type 0} (before after : ℕ → Option X) (first end : ℕ) (entry : X) : Type 0 where
  pub inside : (number : ℕ) → first ≤ number → number < end → after number ≡ Some entry
  pub below : (number : ℕ) → number < first → after number ≡ before number
  pub past : (number : ℕ) → end ≤ number → after number ≡ before number

-- how many of `count` numbers from `first` on have no entry
unfoldable pub absent_among : {X : Type 0} → (ℕ → Option X) → ℕ → ℕ → ℕ
absent_among entry first zero = 0
absent_among entry first (suc count) = absent_among entry first count + (if is_some (entry (first + count)) then 0 else 1)

-- the tables of a store: there are 1024 places for tables, and the number of mapped pages is known
pub record IsStore {X : Type 0} (leaves : List (Option (List (Option X)))) (mapped : ℕ) : Type 0 where
  pub whole : length leaves ≡ 1024
  pub counted : mapped ≡ len (map_of leaves)

-- how many entries there are in a table
unfoldable pub entry_count : {X : Type 0} → List (Option X) → ℕ
entry_count [] = 0
entry_count (entry ∷ entries) = entry_count entries + (if is_some entry then 1 else 0)

-- a table has 1024 places, and the number of its entries is known
pub record IsLeaf {X : Type 0} (entries : List (Option X)) (mapped : ℕ) : Type 0 where
  pub whole : length entries ≡ 1024
  pub counted : mapped ≡ entry_count entries

-- the greatest place from `first` up to the end that has an entry (or that has none), or None where there is none
abbrev pub IsLastEntry : {X : Type 0} → List (Option X) → Bool → ℕ → ℕ → Option ℕ → Type 0
IsLastEntry entries mapped first end None =
    (place : ℕ) → first ≤ place → place < end → is_some (slice_index_or entries place None) ≡ not mapped
IsLastEntry entries mapped first end (Some last) =
    (first ≤ last) × (last < end) × (is_some (slice_index_or entries last None) ≡ mapped)
    × ((place : ℕ) → last < place → place < end → is_some (slice_index_or entries place None) ≡ not mapped)

-- the greatest number from `first` up to the end that has an entry (or that has none), or None where there is none
abbrev pub IsLastNumber : {X : Type 0} → List (Option (List (Option X))) → Bool → ℕ → ℕ → Option ℕ → Type 0
IsLastNumber leaves mapped first end None =
    (number : ℕ) → first ≤ number → number < end → is_some (entry_of leaves number) ≡ not mapped
IsLastNumber leaves mapped first end (Some last) =
    (first ≤ last) × (last < end) × (is_some (entry_of leaves last) ≡ mapped)
    × ((number : ℕ) → last < number → number < end → is_some (entry_of leaves number) ≡ not mapped)

-- the entry of one number, where it has one, stands at another number in place of what stood there
abbrev pub MovesEntry : {X : Type 0} → List (Option (List (Option X))) → List (Option (List (Option X))) → ℕ → ℕ → Type 0
MovesEntry before after from to =
    (other : ℕ) → entry_of after other ≡
    (if is_some (entry_of before from) then (if other == to then entry_of before from else (if other == from then None else entry_of before other)) else entry_of before other)

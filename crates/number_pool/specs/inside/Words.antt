-- Places as the bits of words of 64, for the crate's own functions (this project's own rule): place p is bit p % 64 of word
-- p / 64, which is 1 where the place is taken. Which words have no free place stands in the leaves of a tree.
use Rattle.std.specs.Prelude.{◌≡◌, ℕ, ◌-◌, ◌*◌, ◌/◌, ◌%◌, ◌^◌, ◌<◌, ◌≤◌, ◌==◌, Bool, List, length, map, slice_index_or}
use Rattle.std.specs.Int.{bit_at}
use Rattle.std.specs.List.{range_with_len}
use Rattle.number_pool.specs.inside.Tree.{IsTree, leaves}

-- how many words a pool with so many levels has: one, or a word for each 64 places
abbrev pub word_count : ℕ → ℕ
word_count levels = 2 ^ (levels - 6)

-- a word without a free place
abbrev pub is_full : ℕ → Bool
is_full word = word == 2 ^ 64 - 1

-- the bit of a place; past the last word it is 0
abbrev pub bit_of : List ℕ → ℕ → ℕ
bit_of words place = bit_at (slice_index_or words (place / 64) 0) (place % 64)

-- whether each of so many places is taken
unfoldable pub places_in : ℕ → List ℕ → List Bool
places_in size words = map (λ place. bit_of words place == 1) (range_with_len 0 size)

-- the words of a pool with so many levels, and the tree over them
pub record IsPool (levels : ℕ) (words : List ℕ) (full : List Bool) : Type 0 where
  pub small : levels < 31
  pub sized : length words ≡ word_count levels
  pub tree : IsTree (word_count levels) full
  pub told : leaves (word_count levels) full ≡ map is_full words

-- no bit of the word is 0 from one on
abbrev pub AreOnes : ℕ → ℕ → Type 0
AreOnes word from = (place : ℕ) → from ≤ place → place < 64 → bit_at word place ≡ 1

-- the least bit of the word from one on that is 0
pub record IsLeastZero (word from place : ℕ) : Type 0 where
  pub from_there : from ≤ place
  pub inside : place < 64
  pub zero_there : bit_at word place ≡ 0
  pub between : (lower : ℕ) → from ≤ lower → lower < place → bit_at word lower ≡ 1

-- no place of the words is free from one on
abbrev pub AreOnesFrom : List ℕ → ℕ → Type 0
AreOnesFrom words from = (place : ℕ) → from ≤ place → place < 64 * length words → bit_of words place ≡ 1

-- the least place of the words from one on that is free
pub record IsLeastZeroFrom (words : List ℕ) (from place : ℕ) : Type 0 where
  pub from_there : from ≤ place
  pub inside : place < 64 * length words
  pub zero_there : bit_of words place ≡ 0
  pub between : (lower : ℕ) → from ≤ lower → lower < place → bit_of words lower ≡ 1

-- Places as bits of words.
use Rattle.std.proofs.Common.{◌≡◌, ◌≢◌, ℕ, zero, suc, ◌+◌, ◌-◌, ◌*◌, ◌/◌, ◌%◌, ◌^◌, ◌<◌, ◌≤◌, ◌==◌, Bool, true, false, List, ◌∷◌, length, map, set, get_or, replicate, bit_or, refl, sym, ap, ◌∙◌, subst, inl, inr, arith}
use Rattle.std.specs.Int.{bit_at}
use Rattle.std.proofs.lemmas.Bool.{cases_eq, cases_lt}
use Rattle.std.proofs.lemmas.Bool.Decides.{nat_tests}
use Rattle.std.proofs.lemmas.List.{length-set, length-replicate, get_or-replicate, get_or_past, get_or-set_same, get_or-set_other, get_or-map}
use Rattle.std.proofs.lemmas.List.FromFn.{length-map-range_with_len, get_or-map-range_with_len, fill_by_all}
use Rattle.std.proofs.lemmas.Nat.{pow-add, one_shl}
use Rattle.std.proofs.lemmas.Nat.Bits.{bit_at-zero, bit_at-lt, bit_at_ones, bit_at_ones_above, bit_at_or}
use Rattle.std.proofs.Math.Pow.{pow_mono}
use Rattle.number_pool.specs.Places.{AreTakenFrom, IsLeastFreeFrom, is_taken_at, none_taken}
use Rattle.number_pool.specs.inside.Tree.{leaves}
use Rattle.number_pool.specs.inside.Words.{AreOnes, AreOnesFrom, IsLeastZero, IsLeastZeroFrom, bit_of, is_full, places_in, word_count}

-- How many places the words have.

count_by : (levels : ℕ) → (word_count levels ≡ 1) → levels ≤ 6 → 2 ^ levels ≤ 64 * word_count levels
count_by levels one few = let small : 2 ^ levels ≤ 64 = pow_mono {i = levels} {j = 6} few in omega (arith, small, one)

pub places_fit : (levels : ℕ) → 2 ^ levels ≤ 64 * word_count levels
places_fit levels =
    elim (cases_lt levels 6) [
      | inl few ↦ count_by levels (ap (λ k. 2 ^ k) (let e : levels - 6 ≡ 0 = omega arith in e)) (omega arith)
      | inr more ↦
          let whole : 2 ^ (6 + (levels - 6)) ≡ 64 * 2 ^ (levels - 6) = pow-add 2 6 (levels - 6) in
          let same : 2 ^ levels ≡ 2 ^ (6 + (levels - 6)) = ap (λ k. 2 ^ k) (let e : levels ≡ 6 + (levels - 6) = omega arith in e) in
          omega (arith, whole, same)
    ]

pub count_small : (levels : ℕ) → levels < 31 → word_count levels ≤ 16777216
count_small levels small = pow_mono {i = levels - 6} {j = 24} (omega arith)

-- Whether a bit is 1.

pub one_is : (b : ℕ) → b ≡ 1 → (b == 1) ≡ true
one_is b same = ap (λ k. k == 1) same

pub zero_is : (b : ℕ) → b ≡ 0 → (b == 1) ≡ false
zero_is b same = ap (λ k. k == 1) same

-- The list of places.

pub length-places_in : (size : ℕ) (words : List ℕ) → length (places_in size words) ≡ size
unfolding places_in
length-places_in size words = length-map-range_with_len (λ place. bit_of words place == 1) 0 size

pub place_at : (size : ℕ) (words : List ℕ) (place : ℕ) → place < size → is_taken_at (places_in size words) place ≡ (bit_of words place == 1)
unfolding places_in
place_at size words place inside = get_or-map-range_with_len (λ p. bit_of words p == 1) 0 size place place false inside (omega arith)

-- a list of as many places is that of the words where each place has the same
pub places_are : (size : ℕ) (words : List ℕ) (taken : List Bool) → length taken ≡ size → ((place : ℕ) → place < size → is_taken_at taken place ≡ (bit_of words place == 1)) → taken ≡ places_in size words
unfolding places_in
places_are size words taken long each = fill_by_all (λ place. bit_of words place == 1) taken size false long each

zeros_long : (count : ℕ) → length (replicate {A = ℕ} count 0) ≡ count
zeros_long count = length-replicate {A = ℕ} count 0

pub none_at : (count place : ℕ) → bit_of (replicate count 0) place ≡ 0
none_at count place =
    elim (cases_lt (place / 64) count) [
      | inl inside ↦ ap (λ w. bit_at w (place % 64)) (get_or-replicate count (place / 64) 0 0 inside) ∙ bit_at-zero (place % 64)
      | inr past ↦ ap (λ w. bit_at w (place % 64)) (get_or_past (replicate count 0) (place / 64) 0 (subst (λ n. n ≤ place / 64) (sym (zeros_long count)) past)) ∙ bit_at-zero (place % 64)
    ]

-- words of which no place is taken
pub places_none : (size count : ℕ) → places_in size (replicate count 0) ≡ none_taken size
unfolding none_taken
places_none size count =
    sym (places_are size (replicate count 0) (replicate size false) (length-replicate size false) (λ place inside.
    get_or-replicate size place false false inside ∙ sym (zero_is (bit_of (replicate count 0) place) (none_at count place))))

pub none_full : (count : ℕ) → map is_full (replicate count 0) ≡ replicate count false
none_full zero = refl
none_full (suc count) = ap (λ l. false ∷ l) (none_full count)

-- A word of the list is written: the word of a place, which is marked in it.
module _ (words : List ℕ) (place word : ℕ) (within : place / 64 < length words)
    (others : (other : ℕ) → other < 64 → other ≢ place % 64 → bit_at word other ≡ bit_at (get_or words (place / 64) 0) other) where
  bit_here : (p : ℕ) → p / 64 ≡ place / 64 → bit_of (set words (place / 64) word) p ≡ bit_at word (p % 64)
  bit_here p same =
      ap (λ n. bit_at (get_or (set words (place / 64) word) n 0) (p % 64)) same
      ∙ ap (λ w. bit_at w (p % 64)) (get_or-set_same words (place / 64) word 0 within)

  bit_there : (p : ℕ) → p / 64 ≢ place / 64 → bit_of (set words (place / 64) word) p ≡ bit_of words p
  bit_there p apart = ap (λ w. bit_at w (p % 64)) (get_or-set_other words (place / 64) (p / 64) word 0 apart)

  bit_other : (p : ℕ) → p ≢ place → bit_of (set words (place / 64) word) p ≡ bit_of words p
  bit_other p apart =
      elim (cases_eq (p / 64) (place / 64)) [
        | inl same ↦
            bit_here p same ∙ others (p % 64) (omega arith) (let other : p % 64 ≢ place % 64 = omega arith in other)
            ∙ ap (λ n. bit_at (get_or words n 0) (p % 64)) (sym same)
        | inr far ↦ bit_there p far
      ]

  pub places_marked : (size : ℕ) (taken : Bool) → place < size → (bit_at word (place % 64) == 1) ≡ taken
      → places_in size (set words (place / 64) word) ≡ set (places_in size words) place taken
  places_marked size taken inside here =
      sym (places_are size (set words (place / 64) word) (set (places_in size words) place taken) (length-set (places_in size words) place taken ∙ length-places_in size words) (λ p below.
      elim (cases_eq p place) [
        | inl same ↦
            ap (is_taken_at (set (places_in size words) place taken)) same
            ∙ get_or-set_same (places_in size words) place taken false (omega (arith, length-places_in size words))
            ∙ sym here
            ∙ ap (λ b. b == 1) (sym (bit_here place refl))
            ∙ ap (λ q. bit_of (set words (place / 64) word) q == 1) (sym same)
        | inr apart ↦
            get_or-set_other (places_in size words) place p taken false apart
            ∙ place_at size words p below
            ∙ ap (λ b. b == 1) (sym (bit_other p apart))
      ]))

-- One word.

full_is : (word : ℕ) → is_full word ≡ true → word ≡ 2 ^ 64 - 1
full_is word full = grind (arith, nat_tests)

pub full_ones : (word : ℕ) → is_full word ≡ true → (place : ℕ) → place < 64 → bit_at word place ≡ 1
full_ones word full place inside = ap (λ w. bit_at w place) (full_is word full) ∙ bit_at_ones 64 place inside

pub not_full : (word : ℕ) → word < 2 ^ 64 → is_full word ≡ false → word + 1 < 2 ^ 64
not_full word fits free = grind (arith, nat_tests)

-- A word in which the places below one count as taken.
module _ (word from : ℕ) (within : from < 64) where
  mask : 1 * 2 ^ from % 2 ^ 64 - 1 ≡ 2 ^ from - 1
  mask = ap (λ n. n - 1) (one_shl from 64 within)

  masked_below : (place : ℕ) → place < from → bit_at (bit_or word (1 * 2 ^ from % 2 ^ 64 - 1)) place ≡ 1
  masked_below place low =
      ap (λ m. bit_at (bit_or word m) place) mask
      ∙ omega (arith, bit_at_or word (2 ^ from - 1) place, bit_at_ones from place low, bit_at-lt word place)

  masked_from : (place : ℕ) → from ≤ place → bit_at (bit_or word (1 * 2 ^ from % 2 ^ 64 - 1)) place ≡ bit_at word place
  masked_from place high =
      ap (λ m. bit_at (bit_or word m) place) mask
      ∙ omega (arith, bit_at_or word (2 ^ from - 1) place, bit_at_ones_above from place high)

  pub masked_ones : is_full (bit_or word (1 * 2 ^ from % 2 ^ 64 - 1)) ≡ true → AreOnes word from
  masked_ones full = λ place low high. sym (masked_from place low) ∙ full_ones (bit_or word (1 * 2 ^ from % 2 ^ 64 - 1)) full place high

  pub masked_least : (place : ℕ) → IsLeastZero (bit_or word (1 * 2 ^ from % 2 ^ 64 - 1)) 0 place → IsLeastZero word from place
  masked_least place least =
      elim (cases_lt place from) [
        | inl low ↦ absurd (let both : 1 ≡ 0 = sym (masked_below place low) ∙ least.zero_there in omega (arith, both))
        | inr high ↦ record {
          from_there = high;
          inside = least.inside;
          zero_there = sym (masked_from place high) ∙ least.zero_there;
          between = λ lower above below. sym (masked_from lower above) ∙ least.between lower (omega arith) below;
        }
      ]

-- The least free place among the words.

module _ (words : List ℕ) (full : List Bool) (count : ℕ) (long : length words ≡ count) (told : leaves count full ≡ map is_full words) where
  pub told_at : (number : ℕ) → number < count → is_taken_at (leaves count full) number ≡ is_full (get_or words number 0)
  told_at number inside = ap (λ l. is_taken_at l number) told ∙ get_or-map is_full words number 0 false (omega arith)

  pub found_first : (from place : ℕ) → from / 64 < count → IsLeastZero (get_or words (from / 64) 0) (from % 64) place → IsLeastZeroFrom words from (64 * (from / 64) + place)
  found_first from place within least = record {
    from_there = (let low = least.from_there in omega arith);
    inside = (let high = least.inside in omega arith);
    zero_there = bit_in (from / 64) place (least.inside) ∙ least.zero_there;
    between = λ lower low below.
        let high = least.inside in
        let same : lower / 64 ≡ from / 64 = omega arith in
        ap (λ n. bit_at (get_or words n 0) (lower % 64)) same ∙ least.between (lower % 64) (omega arith) (omega arith);
  }
    where
      bit_in : (number place : ℕ) → place < 64 → bit_of words (64 * number + place) ≡ bit_at (get_or words number 0) place
      bit_in number place inside =
          let n : (64 * number + place) / 64 ≡ number = omega arith in
          let p : (64 * number + place) % 64 ≡ place = omega arith in
          ap (λ k. bit_at (get_or words k 0) ((64 * number + place) % 64)) n ∙ ap (bit_at (get_or words number 0)) p

  -- the places of the first word, and those of the words after it
  rest_ones : (from end : ℕ) → AreOnes (get_or words (from / 64) 0) (from % 64) → ((number : ℕ) → from / 64 + 1 ≤ number → number < end → is_taken_at (leaves count full) number ≡ true) → end ≤ count
      → (place : ℕ) → from ≤ place → place < 64 * end → bit_of words place ≡ 1
  rest_ones from end first rest few place low high =
      elim (cases_eq (place / 64) (from / 64)) [
        | inl same ↦ ap (λ n. bit_at (get_or words n 0) (place % 64)) same ∙ first (place % 64) (omega arith) (omega arith)
        | inr apart ↦
            full_ones (get_or words (place / 64) 0) (sym (told_at (place / 64) (omega arith)) ∙ rest (place / 64) (omega arith) (omega arith)) (place % 64) (omega arith)
      ]

  pub none_found : (from : ℕ) → length (leaves count full) ≡ count → AreOnes (get_or words (from / 64) 0) (from % 64) → AreTakenFrom (leaves count full) (from / 64 + 1) → AreOnesFrom words from
  none_found from size first rest = λ place low high.
      rest_ones from count first (λ number above below. rest number above (omega arith)) (omega arith) place low (omega arith)

  pub found_later : (from number place : ℕ) → length (leaves count full) ≡ count → AreOnes (get_or words (from / 64) 0) (from % 64)
      → IsLeastFreeFrom (leaves count full) (from / 64 + 1) number → IsLeastZero (get_or words number 0) 0 place → IsLeastZeroFrom words from (64 * number + place)
  found_later from number place size first later least = record {
    from_there = (let low = later.from_there in omega arith);
    inside = (let high = least.inside in let below = later.inside in omega arith);
    zero_there =
        let high = least.inside in
        let n : (64 * number + place) / 64 ≡ number = omega arith in
        let p : (64 * number + place) % 64 ≡ place = omega arith in
        ap (λ k. bit_at (get_or words k 0) ((64 * number + place) % 64)) n ∙ ap (bit_at (get_or words number 0)) p ∙ least.zero_there;
    between = λ lower low below.
        elim (cases_lt (lower / 64) number) [
          | inl before ↦
              rest_ones from number first (λ other above under. later.between other above under) (let few = later.inside in omega arith) lower low (omega arith)
          | inr same ↦
              let high = least.inside in
              let at : lower / 64 ≡ number = omega arith in
              ap (λ n. bit_at (get_or words n 0) (lower % 64)) at ∙ least.between (lower % 64) (omega arith) (omega arith)
        ];
  }

-- The places of a pool, of which there are at most as many as the words have.

module _ (size : ℕ) (words : List ℕ) (from : ℕ) where
  pub taken_from_ones : size ≤ 64 * length words → AreOnesFrom words from → AreTakenFrom (places_in size words) from
  taken_from_ones few ones = λ place low inside.
      let below : place < size = omega (arith, length-places_in size words) in
      place_at size words place below ∙ one_is (bit_of words place) (ones place low (omega arith))

  pub least_from_zero : (place : ℕ) → place < size → IsLeastZeroFrom words from place → IsLeastFreeFrom (places_in size words) from place
  least_from_zero place inside least = record {
    from_there = least.from_there;
    inside = omega (arith, length-places_in size words);
    free = place_at size words place inside ∙ zero_is (bit_of words place) least.zero_there;
    between = λ lower low below. place_at size words lower (omega arith) ∙ one_is (bit_of words lower) (least.between lower low below);
  }

  -- the least free place is none of the pool's
  pub taken_below : (place : ℕ) → size ≤ place → IsLeastZeroFrom words from place → AreTakenFrom (places_in size words) from
  taken_below place past least = λ lower low inside.
      let below : lower < size = omega (arith, length-places_in size words) in
      place_at size words lower below ∙ one_is (bit_of words lower) (least.between lower low (omega arith))

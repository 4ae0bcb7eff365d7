-- The last number of a range with an entry, or with none.
use Rattle.std.proofs.Common.{◌≡◌, ◌≤◌, ◌<◌, ◌+◌, ◌-◌, ◌*◌, ◌/◌, ◌%◌, ℕ, Bool, true, false, not, List, length, Option, Some, None, is_some, get_or, option_map, ap, ◌∙◌, arith, inl, inr}
use Rattle.std.proofs.lemmas.Bool.{cases_lt}
use Rattle.std.specs.FinMap.{get}
use Rattle.raw_pages.specs.Pages.{MappedPage, Pages, IsLastBelow, IsLastMapped, IsLastFree}
use Rattle.raw_pages.specs.inside.Tables.{entry_of, map_of, IsLastEntry, IsLastNumber}
use Rattle.raw_pages.proofs.Tables.{none_of, found-old}

-- the map's answer is that of the tables
module _ (before old : List (Option (List (Option MappedPage)))) (view : Pages) (whole : length before ≡ 1024) (is : map_of before ≡ view) (same : old ≡ before) where
  found : (n : ℕ) → get view n ≡ entry_of old n
  found n = found-old before old view whole is same n

  pub last-mapped : (first end : ℕ) (o : Option ℕ) → IsLastNumber old true first end o → IsLastMapped view first end o
  last-mapped first end None none = λ number from below. found number ∙ none_of (entry_of old number) (none number from below)
  last-mapped first end (Some last) it = (
    it.0,
    it.1,
    ap is_some (found last) ∙ it.2,
    λ number above below. found number ∙ none_of (entry_of old number) (it.3 number above below),
  )

  pub last-free : (first end : ℕ) (o : Option ℕ) → IsLastNumber old false first end o → IsLastFree view first end o
  last-free first end None all = λ number from below. ap is_some (found number) ∙ all number from below
  last-free first end (Some last) it = (
    it.0,
    it.1,
    found last ∙ none_of (entry_of old last) it.2,
    λ number above below. ap is_some (found number) ∙ it.3 number above below,
  )

-- from 0 on is all that is below
pub last-below : (view : Pages) (end : ℕ) (o : Option ℕ) → IsLastMapped view 0 end o → IsLastBelow view end o
last-below view end None none = λ number below. none number (omega arith) below
last-below view end (Some last) it = (it.1, it.2, it.3)

module _ {X : Type 0} (leaves : List (Option (List (Option X)))) (mapped : Bool) (first begin past end : ℕ) where
  -- what is found in a part is the last of all, where there is none behind that part
  pub last-joined : (o : Option ℕ) → first ≤ begin → past ≤ end → ((number : ℕ) → past ≤ number → number < end → is_some (entry_of leaves number) ≡ not mapped)
      → is_some o ≡ true → IsLastNumber leaves mapped begin past o → IsLastNumber leaves mapped first end o
  last-joined None from to rest there it = absurd (cc)
  last-joined (Some last) from to rest there it = (
    omega (arith, it.0),
    omega (arith, it.1),
    it.2,
    λ number above below. elim (cases_lt number past) [
      | inl earlier ↦ it.3 number above earlier
      | inr later ↦ rest number later below
    ],
  )

  -- where none is found in that part either there is none from its begin on
  pub none-joined : (o : Option ℕ) → ((number : ℕ) → past ≤ number → number < end → is_some (entry_of leaves number) ≡ not mapped)
      → is_some o ≡ false → IsLastNumber leaves mapped begin past o → (number : ℕ) → begin ≤ number → number < end → is_some (entry_of leaves number) ≡ not mapped
  none-joined (Some last) rest missing it number from below = absurd (cc)
  none-joined None rest missing it number from below =
      elim (cases_lt number past) [
        | inl earlier ↦ it number from earlier
        | inr later ↦ rest number later below
      ]

-- what is found in a table is the last of its numbers
pub in-leaf : {X : Type 0} (leaves : List (Option (List (Option X)))) (mapped : Bool) (at first end from upto : ℕ) (es : List (Option X)) (o : Option ℕ)
    → ((number : ℕ) → number / 1024 ≡ at → entry_of leaves number ≡ get_or es (number % 1024) None)
    → at ≡ first / 1024 → first / 1024 ≡ (end - 1) / 1024 → first < end → from ≡ first % 1024 → upto ≡ (end - 1) % 1024
    → IsLastEntry es mapped from (upto + 1) o → IsLastNumber leaves mapped first end (option_map (λ place. at * 1024 + place) o)
in-leaf leaves mapped at first end from upto es None entry table one some low high none = λ number above below.
    let here : number / 1024 ≡ at = omega arith in
    ap is_some (entry number here) ∙ none (number % 1024) (omega arith) (omega arith)
in-leaf leaves mapped at first end from upto es (Some place) entry table one some low high it =
    let inside : place < 1024 = omega (arith, it.1) in
    let here : (at * 1024 + place) / 1024 ≡ at = omega arith in
    let spot : (at * 1024 + place) % 1024 ≡ place = omega arith in (
      omega (arith, it.0),
      omega (arith, it.1),
      ap is_some (entry (at * 1024 + place) here ∙ ap (λ k. get_or es k None) spot) ∙ it.2,
      λ number above below.
          let same : number / 1024 ≡ at = omega arith in
          ap is_some (entry number same) ∙ it.3 (number % 1024) (omega arith) (omega arith),
    )

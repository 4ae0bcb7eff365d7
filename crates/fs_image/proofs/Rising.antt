-- Numbers that rise, and names that differ, with one more at the end; and each of them beside those before it.
use Rattle.std.proofs.Common.{◌≡◌, ℕ, zero, suc, ◌+◌, ◌-◌, ◌<◌, ◌≤◌, Bool, true, false, not, ◌||◌, List, [], ◌∷◌, ◌++◌, length, map, get_or, All, Option, refl, sym, ap, subst, ◌∙◌, arith, inl, inr}
use Rattle.std.specs.Prelude.{slice_get, option_map, ◌==◌}
use Rattle.std.specs.List.{list_any, IsDistinct, AllByRecursion}
use Rattle.std.specs.List.Sorted.{IsStrictlySortedBy}
use Rattle.std.specs.Ordering.{nat_cmp}
use Rattle.std.specs.Str.{bytes_eq}
use Rattle.std.specs.Cmp.Lexicographic.{nat_list_eq_equiv}
use Rattle.std.proofs.lemmas.Bool.{cases_lt, ltb-true, lt-ltb}
use Rattle.std.proofs.lemmas.List.{get_or_append_left, get_or_at, length-append, length-map}
use Rattle.std.proofs.lemmas.Bool.Decides.{nat_tests}
use Rattle.std.proofs.lemmas.List.Elements.{All-get_or}
use Rattle.std.proofs.lemmas.Option.{slice_get-map, slice_get-get_or}
use Rattle.std.proofs.lemmas.Map.Keys.{sorted_from_strictly_increasing, IsStrictlyIncreasing-from_sorted, below_from_sorted}
use Rattle.fs_image.specs.Reading.{rises}

pub or_false : (a b : Bool) → (a || b) ≡ false → (a ≡ false) × (b ≡ false)
or_false true b e = absurd cc
or_false false b e = (refl, e)

pub both_false : (a b : Bool) → a ≡ false → b ≡ false → (a || b) ≡ false
both_false a b ea eb = rw ea eb

pub not_false : (a : Bool) → not a ≡ false → a ≡ true
not_false true e = refl
not_false false e = absurd cc

pub not_of_true : (a : Bool) → a ≡ true → not a ≡ false
not_of_true a e = rw e refl

-- the last of some numbers
abbrev pub last : List ℕ → Option ℕ
last ks = slice_get ks (length ks - 1)

pub last_is : {A : Type 0} (f : A → ℕ) (xs : List A) → option_map f (slice_get xs (length xs - 1)) ≡ last (map f xs)
last_is f xs = sym (ap (λ n. slice_get (map f xs) (n - 1)) (length-map xs f) ∙ slice_get-map f xs (length xs - 1))

last_below : (ks : List ℕ) (y : ℕ) → rises (last ks) y ≡ true → 0 < length ks → get_or ks (length ks - 1) 0 < y
last_below ks y up some =
    let e = slice_get-get_or ks (length ks - 1) 0 (omega arith) in
    ltb-true _ _ (rw e at up)

pub sorted_push : (ks : List ℕ) (y : ℕ) → IsStrictlySortedBy nat_cmp ks → rises (last ks) y ≡ true → IsStrictlySortedBy nat_cmp (ks ++ y ∷ [])
sorted_push ks y sorted up =
    let increasing = IsStrictlyIncreasing-from_sorted ks sorted in
    sorted_from_strictly_increasing (ks ++ y ∷ []) (λ k below.
    elim (cases_lt (k + 1) (length ks)) as (λ _. get_or (ks ++ y ∷ []) k 0 < get_or (ks ++ y ∷ []) (k + 1) 0) [
      | inl lt ↦
          let a = get_or_append_left ks (y ∷ []) 0 k (omega arith) in
          let b = get_or_append_left ks (y ∷ []) 0 (k + 1) lt in
          omega (arith, a, b, increasing k lt)
      | inr ge ↦
          let last-place : length ks ≡ k + 1 = omega (arith, length-append ks (y ∷ [])) in
          let a = get_or_append_left ks (y ∷ []) 0 k (omega arith) in
          let b = get_or_at ks y [] 0 (k + 1) last-place in
          let place : length ks - 1 ≡ k = omega arith in
          let below_y : get_or ks k 0 < y = rw place at (last_below ks y up (omega arith)) in
          omega (arith, a, b, below_y)
    ])

pub sorted_rises : (ks : List ℕ) (y : ℕ) (ms : List ℕ) → IsStrictlySortedBy nat_cmp (ks ++ y ∷ ms) → rises (last ks) y ≡ true
sorted_rises [] y ms sorted = refl
sorted_rises (k ∷ ks) y ms sorted =
    let all = k ∷ ks in
    let n = length ks in
    let e = slice_get-get_or (k ∷ ks) (length (k ∷ ks) - 1) 0 (omega arith) in
    let below = below_from_sorted ((k ∷ ks) ++ y ∷ ms) (length (k ∷ ks) - 1) (length (k ∷ ks)) 0 sorted (omega arith) (omega (arith, length-append (k ∷ ks) (y ∷ ms))) in
    let a = get_or_append_left (k ∷ ks) (y ∷ ms) 0 (length (k ∷ ks) - 1) (omega arith) in
    let b = get_or_at (k ∷ ks) y ms 0 (length (k ∷ ks)) refl in
    rw e (lt-ltb _ _ (omega (arith, a, b, below)))

-- what holds of each of a list holds of one in it
at_seam : (P : List ℕ → Type 0) (names : List (List ℕ)) (name : List ℕ) (after : List (List ℕ)) → AllByRecursion P (names ++ name ∷ after) → P name
at_seam P [] name after all = all.0
at_seam P (first ∷ names) name after all = at_seam P names name after all.1

-- each name differs from those before it
pub distinct_new : (names : List (List ℕ)) (name : List ℕ) (after : List (List ℕ)) → IsDistinct bytes_eq (names ++ name ∷ after) → list_any (bytes_eq name) names ≡ false
unfolding IsDistinct
distinct_new [] name after h = refl
distinct_new (first ∷ names) name after h =
    let apart : bytes_eq first name ≡ false = at_seam (λ y. bytes_eq first y ≡ false) names name after h.0 in
    both_false (bytes_eq name first) (list_any (bytes_eq name) names) (nat_list_eq_equiv.symm name first ∙ apart) (distinct_new names name after h.1)

-- what holds of each of a list holds of one of them
pub at_middle : {A : Type 0} (P : A → Type 0) (whole before : List A) (x : A) (after : List A) → All P whole → whole ≡ before ++ x ∷ after → P x
at_middle P whole before x after all e =
    let len : length whole ≡ length (before ++ x ∷ after) = ap length e in
    let here : length before < length whole = omega (arith, len, length-append before (x ∷ after)) in
    subst P (ap (λ w. get_or w (length before) x) e ∙ get_or_at before x after x (length before) refl) (All-get_or P whole (length before) x here all)

pub positive : (n : ℕ) → (n == 0) ≡ false → 1 ≤ n
positive zero e = absurd cc
positive (suc n) e = omega arith

pub not_zero : (n : ℕ) → 1 ≤ n → (n == 0) ≡ false
not_zero n h = grind (arith, nat_tests)

-- Keys of a list that rise or differ, after an element more and after a filter.
use Rattle.std.proofs.Common.{◌≡◌, ℕ, ◌<◌, Bool, true, false, cond, List, [], ◌∷◌, ◌++◌, map, filter, All, nat_lt, ◌==◌, sym, refl}
use Rattle.std.specs.declared.cmp.Ordering.{Ordering}
use Rattle.std.specs.declared.cmp.Ordering.TheVariants.{Less}
use Rattle.std.specs.List.{AllByRecursion, IsDistinct}
use Rattle.std.specs.List.Sorted.{IsStrictlySortedBy}
use Rattle.std.specs.Ordering.{nat_cmp}
use Rattle.std.specs.Cmp.{nat_cmp_is}
use Rattle.std.proofs.lemmas.Bool.{ltb-true}
use Rattle.std.proofs.lemmas.List.Elements.{All-head, All-tail}

less-push : (x : ℕ) (ks : List ℕ) (k : ℕ) → AllByRecursion (λ y. nat_cmp x y ≡ Less) ks → x < k
    → AllByRecursion (λ y. nat_cmp x y ≡ Less) (ks ++ k ∷ [])
less-push x [] k all below = (sym (nat_cmp_is x k Less below), tt)
less-push x (y ∷ ks) k all below = (all.0, less-push x ks k all.1 below)

-- the numbers of a comparison
pub lt_from_less : (a b : ℕ) → nat_cmp a b ≡ Less → a < b
lt_from_less a b less = by (nat_lt a b) refl (a == b) refl
  where
    by : (c : Bool) → nat_lt a b ≡ c → (d : Bool) → (a == b) ≡ d → a < b
    by true is d same = ltb-true a b is
    by false is true same = cc
    by false is false same = cc

-- numbers that rise, and a greater one behind them
pub rising-push : (ks : List ℕ) (k : ℕ) → IsStrictlySortedBy nat_cmp ks → All (λ y. y < k) ks → IsStrictlySortedBy nat_cmp (ks ++ k ∷ [])
unfolding IsStrictlySortedBy
rising-push [] k rising below = (tt, tt)
rising-push (x ∷ ks) k rising below =
    (less-push x ks k rising.0 (All-head (λ y. y < k) x ks below), rising-push ks k rising.1 (All-tail (λ y. y < k) x ks below))

module _ {X K : Type 0} (f : X → K) (test : X → Bool) where
  all-filter : (P : K → Type 0) (xs : List X) → AllByRecursion P (map f xs) → AllByRecursion P (map f (filter test xs))
  all-filter P [] all = tt
  all-filter P (x ∷ xs) all =
      elim (test x) as (λ b. AllByRecursion P (map f (cond b (x ∷ filter test xs) (filter test xs)))) [
        | true ↦ (all.0, all-filter P xs all.1)
        | false ↦ all-filter P xs all.1
      ]

  -- what is left by a filter rises as before
  pub rising-filter : (order : K → K → Ordering) (xs : List X) → IsStrictlySortedBy order (map f xs) → IsStrictlySortedBy order (map f (filter test xs))
  unfolding IsStrictlySortedBy
  rising-filter order [] rising = tt
  rising-filter order (x ∷ xs) rising =
      elim (test x) as (λ b. IsStrictlySortedBy order (map f (cond b (x ∷ filter test xs) (filter test xs)))) [
        | true ↦ (all-filter (λ y. order (f x) y ≡ Less) xs rising.0, rising-filter order xs rising.1)
        | false ↦ rising-filter order xs rising.1
      ]

  -- and differs as before
  pub distinct-filter : (same : K → K → Bool) (xs : List X) → IsDistinct same (map f xs) → IsDistinct same (map f (filter test xs))
  unfolding IsDistinct
  distinct-filter same [] distinct = tt
  distinct-filter same (x ∷ xs) distinct =
      elim (test x) as (λ b. IsDistinct same (map f (cond b (x ∷ filter test xs) (filter test xs)))) [
        | true ↦ (all-filter (λ y. same (f x) y ≡ false) xs distinct.0, distinct-filter same xs distinct.1)
        | false ↦ distinct-filter same xs distinct.1
      ]

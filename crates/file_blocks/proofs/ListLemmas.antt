-- Items of lists, as `slice_get` has them.
use Rattle.std.proofs.Common.{◌≡◌, ◌≤◌, ◌<◌, ◌+◌, ◌-◌, zero, suc, ℕ, List, [], ◌∷◌, ◌++◌, Some, None, length, take, set, refl, ap, arith}
use Rattle.std.specs.List.{slice_get}

module _ {X : Type 0} where
  pub get-append_left : (xs ys : List X) (k : ℕ) → k < length xs → slice_get (xs ++ ys) k ≡ slice_get xs k
  get-append_left [] ys k h = absurd (omega arith)
  get-append_left (x ∷ xs) ys zero h = refl
  get-append_left (x ∷ xs) ys (suc k) h = get-append_left xs ys k (omega arith)

  pub get-append_right : (xs ys : List X) (k j : ℕ) → k ≡ length xs + j → slice_get (xs ++ ys) k ≡ slice_get ys j
  get-append_right [] ys k j h = let e : k ≡ j = omega arith in ap (slice_get ys) e
  get-append_right (x ∷ xs) ys zero j h = absurd (omega arith)
  get-append_right (x ∷ xs) ys (suc k) j h = get-append_right xs ys k j (omega arith)

  pub get-cons : (x : X) (xs : List X) (k : ℕ) → 0 < k → slice_get (x ∷ xs) k ≡ slice_get xs (k - 1)
  get-cons x xs zero h = absurd (omega arith)
  get-cons x xs (suc k) h = let e : k ≡ suc k - 1 = omega arith in ap (slice_get xs) e

  pub get-set_same : (xs : List X) (i k : ℕ) (v : X) → k ≡ i → i < length xs → slice_get (set xs i v) k ≡ Some v
  get-set_same [] i k v same h = absurd (omega arith)
  get-set_same (x ∷ xs) zero zero v same h = refl
  get-set_same (x ∷ xs) zero (suc k) v same h = absurd (omega arith)
  get-set_same (x ∷ xs) (suc i) zero v same h = absurd (omega arith)
  get-set_same (x ∷ xs) (suc i) (suc k) v same h = get-set_same xs i k v (omega arith) (omega arith)

  pub get-set_other : (xs : List X) (i k : ℕ) (v : X) → (k ≡ i → ⊥) → slice_get (set xs i v) k ≡ slice_get xs k
  get-set_other [] i k v apart = refl
  get-set_other (x ∷ xs) zero zero v apart = absurd (apart refl)
  get-set_other (x ∷ xs) zero (suc k) v apart = refl
  get-set_other (x ∷ xs) (suc i) zero v apart = refl
  get-set_other (x ∷ xs) (suc i) (suc k) v apart = get-set_other xs i k v (λ same. apart (omega arith))

  pub get-take_below : (n : ℕ) (xs : List X) (k : ℕ) → k < n → slice_get (take n xs) k ≡ slice_get xs k
  get-take_below zero xs k h = absurd (omega arith)
  get-take_below (suc n) [] k h = refl
  get-take_below (suc n) (x ∷ xs) zero h = refl
  get-take_below (suc n) (x ∷ xs) (suc k) h = get-take_below n xs k (omega arith)

  pub get-take_past : (n : ℕ) (xs : List X) (k : ℕ) → n ≤ k → slice_get (take n xs) k ≡ None
  get-take_past zero xs k h = refl
  get-take_past (suc n) [] k h = refl
  get-take_past (suc n) (x ∷ xs) zero h = absurd (omega arith)
  get-take_past (suc n) (x ∷ xs) (suc k) h = get-take_past n xs k (omega arith)

  pub get-some : (xs : List X) (k : ℕ) → k < length xs → (x : X) × (slice_get xs k ≡ Some x)
  get-some [] k h = absurd (omega arith)
  get-some (x ∷ xs) zero h = (x, refl)
  get-some (x ∷ xs) (suc k) h = get-some xs k (omega arith)

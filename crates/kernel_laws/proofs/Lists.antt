-- Lists of places, and how many of them pass a test.
use Rattle.std.proofs.Common.{◌≡◌, ◌≢◌, ℕ, zero, suc, ◌+◌, ◌<◌, ◌≤◌, List, [], ◌∷◌, length, get_or, set, Bool, true, false, ◌||◌, refl, sym, ◌∙◌, ap, arith, inl, inr}
use Rattle.std.specs.Prelude.{count_by, ◌==◌, if◌then◌else◌}
use Rattle.std.specs.List.{list_any}
use Rattle.std.proofs.lemmas.Bool.{cases_eq, eq-eqb, ne_eqb}
use Rattle.std.proofs.lemmas.List.Sums.{sum_by-cons, sum_by-set}

abbrev pub one_if : Bool → ℕ
one_if b = if b then 1 else 0

pub or_false : (b : Bool) → (b || false) ≡ b
or_false true = refl
or_false false = refl

pub either_way : (a b : ℕ) → one_if (a == b) ≡ one_if (b == a)
either_way a b = elim (cases_eq a b) [
  | inl same ↦ ap one_if (eq-eqb a b same) ∙ sym (ap one_if (eq-eqb b a (sym same)))
  | inr apart ↦ ap one_if (ne_eqb a b apart) ∙ sym (ap one_if (ne_eqb b a (λ e. apart (sym e))))
]

pub same : (n : ℕ) → (n == n) ≡ true
same n = eq-eqb n n refl

pub apart : (a b : ℕ) → a ≢ b → (b == a) ≡ false
apart a b e = ne_eqb b a (λ h. e (sym h))

pub one_or_none : (b : Bool) → one_if b ≤ 1
one_or_none true = omega arith
one_or_none false = omega arith

-- one that passes is counted
pub one_counts : {A : Type 0} (test : A → Bool) (xs : List A) (k : ℕ) (d : A) → k < length xs → test (get_or xs k d) ≡ true → 1 ≤ count_by test xs
one_counts test [] k d low e = absurd (omega (arith, low))
one_counts test (x ∷ xs) zero d low e =
    let one : one_if (test x) ≡ 1 = ap one_if e in
    omega (arith, one, sum_by-cons (λ y. one_if (test y)) x xs)
one_counts test (x ∷ xs) (suc k) d low e =
    omega (arith, one_counts test xs k d (omega (arith, low)) e, sum_by-cons (λ y. one_if (test y)) x xs)

-- any passes where some are counted
pub any_counts : {A : Type 0} (test : A → Bool) (xs : List A) → list_any test xs ≡ true → 1 ≤ count_by test xs
any_counts test [] e = absurd cc
any_counts test (x ∷ xs) e = by (test x) refl (any_counts test xs) e where
  by : (b : Bool) → test x ≡ b → (list_any test xs ≡ true → 1 ≤ count_by test xs) → (test x || list_any test xs) ≡ true → 1 ≤ count_by test (x ∷ xs)
  by true f more h = let one : one_if (test x) ≡ 1 = ap one_if f in omega (arith, one, sum_by-cons (λ y. one_if (test y)) x xs)
  by false f more h =
      let some : 1 ≤ count_by test xs = more (sym (ap (λ b. b || list_any test xs) f) ∙ h) in
      omega (arith, some, sum_by-cons (λ y. one_if (test y)) x xs)

-- none passes where none is counted
pub none_counted : {A : Type 0} (test : A → Bool) (xs : List A) → count_by test xs ≡ 0 → list_any test xs ≡ false
none_counted test xs e = by (list_any test xs) refl where
  by : (b : Bool) → list_any test xs ≡ b → list_any test xs ≡ false
  by true f = absurd (omega (arith, any_counts test xs f, e))
  by false f = f

-- where one changes
pub count_changed : {A : Type 0} (test : A → Bool) (xs : List A) (i : ℕ) (y d : A) → i < length xs
    → count_by test (set xs i y) + one_if (test (get_or xs i d)) ≡ count_by test xs + one_if (test y)
count_changed test xs i y d low = sum_by-set (λ x. one_if (test x)) xs i y d low

-- where one that may pass is taken for one that doesn't
pub any_taken : {A : Type 0} (test : A → Bool) (xs : List A) (i : ℕ) (y d : A) → i < length xs → test y ≡ false
    → list_any test xs ≡ (list_any test (set xs i y) || test (get_or xs i d))
any_taken test [] i y d low e = absurd (omega (arith, low))
any_taken test (x ∷ xs) zero y d low e = swap (test x) (list_any test xs) ∙ sym (ap (λ b. (b || list_any test xs) || test x) e) where
  swap : (a b : Bool) → (a || b) ≡ (b || a)
  swap true true = refl
  swap true false = refl
  swap false true = refl
  swap false false = refl
any_taken test (x ∷ xs) (suc i) y d low e = ap (λ b. test x || b) (any_taken test xs i y d (omega (arith, low)) e) ∙ grouped (test x) _ _ where
  grouped : (a b c : Bool) → (a || (b || c)) ≡ ((a || b) || c)
  grouped true b c = refl
  grouped false b c = refl

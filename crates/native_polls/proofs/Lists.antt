-- Lists of numbers that rise by one, those of them that pass a test, and the bits that say so.
use Rattle.std.proofs.Common.{◌≡◌, ℕ, zero, suc, ◌+◌, ◌*◌, ◌/◌, ◌%◌, ◌^◌, ◌<◌, ◌≤◌, ◌⊎◌, Bool, true, false, ◌&&◌, List, [], ◌∷◌, ◌++◌, length, take, drop, get_or, refl, sym, ap, ◌∙◌, inl, inr, arith, lit<, drop-cons}
use Rattle.std.specs.Prelude.{◌==◌, count_by, filter, nat_lt, if◌then◌else◌}
use Rattle.std.specs.Int.{bit_at}
use Rattle.std.specs.List.{flat_map}
use Rattle.std.proofs.Math.Nat.{pow-succ'}
use Rattle.std.proofs.lemmas.Bool.{cases_eq, eq-eqb, ne_eqb, lt-ltb, le-ltb, and_right}
use Rattle.std.proofs.Math.ListN.{set}
use Rattle.std.proofs.lemmas.List.{get_or-set_same, get_or-set_other}
use Rattle.std.proofs.lemmas.List.Sums.{sum_by-cons}
use Rattle.std.proofs.lemmas.Nat.Bits.{bit_at_lowest, bit_at-suc}
use Rattle.kernel_core.specs.Bits.{one_if}
use Rattle.layouts.specs.Termios.{count_up}
use Rattle.native_calls.specs.Polls.{is_among}
use Rattle.signal_sets.specs.NativeSets.{bits_where}

-- Filters

pub filter_same : (p q : ℕ → Bool) (first count : ℕ) → ((n : ℕ) → first ≤ n → n < first + count → p n ≡ q n)
    → filter p (count_up first count) ≡ filter q (count_up first count)
filter_same p q first zero same = refl
filter_same p q first (suc count) same =
    ap (λ (b : Bool). if b then first ∷ filter p (count_up (suc first) count) else filter p (count_up (suc first) count)) (same first (omega arith) (omega arith))
    ∙ ap (λ (rest : List ℕ). if q first then first ∷ rest else rest)
    (filter_same p q (suc first) count (λ n low high. same n (omega arith) (omega arith)))

pub filter_none : (p : ℕ → Bool) (xs : List ℕ) → ((n : ℕ) → p n ≡ false) → filter p xs ≡ []
filter_none p [] none = refl
filter_none p (x ∷ xs) none = ap (λ (b : Bool). if b then x ∷ filter p xs else filter p xs) (none x) ∙ filter_none p xs none

pub filter_twice : (p q : ℕ → Bool) (xs : List ℕ) → filter q (filter p xs) ≡ filter (λ n. p n && q n) xs
filter_twice p q [] = refl
filter_twice p q (x ∷ xs) = by (p x) (q x) refl refl (filter_twice p q xs) where
  by : (a b : Bool) → p x ≡ a → q x ≡ b → filter q (filter p xs) ≡ filter (λ n. p n && q n) xs
      → filter q (filter p (x ∷ xs)) ≡ filter (λ n. p n && q n) (x ∷ xs)
  by true true e f rest = rw (e, f) (ap (λ (ns : List ℕ). x ∷ ns) rest)
  by true false e f rest = rw (e, f) rest
  by false b e f rest = rw e rest

-- those below a number that all are below
pub below_all : (p : ℕ → Bool) (limit first count : ℕ) → first + count ≤ limit
    → filter (λ n. nat_lt n limit) (filter p (count_up first count)) ≡ filter p (count_up first count)
below_all p limit first zero inside = refl
below_all p limit first (suc count) inside = by (p first) refl (below_all p limit (suc first) count (omega arith)) where
  by : (b : Bool) → p first ≡ b
      → filter (λ n. nat_lt n limit) (filter p (count_up (suc first) count)) ≡ filter p (count_up (suc first) count)
      → filter (λ n. nat_lt n limit) (filter p (count_up first (suc count))) ≡ filter p (count_up first (suc count))
  by true e rest =
      let small : nat_lt first limit ≡ true = lt-ltb first limit (omega arith) in
      rw (e, small) (ap (λ (xs : List ℕ). first ∷ xs) rest)
  by false e rest = rw e rest

-- Being among them

among_none : (p : ℕ → Bool) (first count fd : ℕ) → fd < first → is_among (filter p (count_up first count)) fd ≡ false
among_none p first zero fd low = refl
among_none p first (suc count) fd low = by (p first) refl (among_none p (suc first) count fd (omega arith)) where
  by : (b : Bool) → p first ≡ b → is_among (filter p (count_up (suc first) count)) fd ≡ false → is_among (filter p (count_up first (suc count))) fd ≡ false
  by true e rest =
      let other : (first == fd) ≡ false = ne_eqb first fd (λ same. omega arith) in
      rw (e, other) rest
  by false e rest = rw e rest

pub among : (p : ℕ → Bool) (first count fd : ℕ) → first ≤ fd → is_among (filter p (count_up first count)) fd ≡ (nat_lt fd (first + count) && p fd)
among p first zero fd low = ap (λ (b : Bool). b && p fd) (sym (le-ltb fd (first + 0) (omega arith)))
among p first (suc count) fd low = at (cases_eq first fd) (λ above. among p (suc first) count fd above) where
  same : first ≡ fd → (b : Bool) → p first ≡ b → is_among (filter p (count_up first (suc count))) fd ≡ (nat_lt fd (first + suc count) && p fd)
  same at true e =
      let here : (first == fd) ≡ true = eq-eqb first fd at in
      let small : nat_lt fd (first + suc count) ≡ true = lt-ltb fd (first + suc count) (omega (arith, at)) in
      let passes : p fd ≡ true = ap p (sym at) ∙ e in
      rw (e, here, small, passes) refl
  same at false e =
      let fails : p fd ≡ false = ap p (sym at) ∙ e in
      rw (e, fails) (among_none p (suc first) count fd (omega (arith, at)) ∙ sym (and_right (nat_lt fd (first + suc count)) false refl))

  other : (first ≡ fd → ⊥) → (b : Bool) → p first ≡ b
      → is_among (filter p (count_up (suc first) count)) fd ≡ (nat_lt fd (suc first + count) && p fd)
      → is_among (filter p (count_up first (suc count))) fd ≡ (nat_lt fd (first + suc count) && p fd)
  other apart true e rest =
      let there : (first == fd) ≡ false = ne_eqb first fd apart in
      let end : suc first + count ≡ first + suc count = omega arith in
      rw (e, there) (rest ∙ ap (λ (n : ℕ). nat_lt fd n && p fd) end)
  other apart false e rest =
      let end : suc first + count ≡ first + suc count = omega arith in
      rw e (rest ∙ ap (λ (n : ℕ). nat_lt fd n && p fd) end)

  at : (first ≡ fd) ⊎ (first ≡ fd → ⊥)
      → (suc first ≤ fd → is_among (filter p (count_up (suc first) count)) fd ≡ (nat_lt fd (suc first + count) && p fd))
      → is_among (filter p (count_up first (suc count))) fd ≡ (nat_lt fd (first + suc count) && p fd)
  at (inl e) rest = same e (p first) refl
  at (inr n) rest = other n (p first) refl (rest (omega (arith, n)))

-- Bits

bit_is : (b : Bool) → (if b then 1 else 0) ≡ one_if b
bit_is true = refl
bit_is false = refl

pub count_next : {X : Type 0} → (test : X → Bool) (x : X) (xs : List X) → count_by test (x ∷ xs) ≡ one_if (test x) + count_by test xs
count_next {X = X} test x xs = sum_by-cons (λ (y : X). if test y then 1 else 0) x xs ∙ ap (λ (n : ℕ). n + count_by test xs) (bit_is (test x))

pub where_next : (test : ℕ → Bool) (from count : ℕ) → one_if (test from) + 2 * bits_where test (from + 1) count ≡ bits_where test from (suc count)
unfolding bits_where
where_next test from count = ap (λ (n : ℕ). n + 2 * bits_where test (from + 1) count) (sym (bit_is (test from)))

bit_small : (b : Bool) → one_if b < 2
bit_small true = lit< tt
bit_small false = lit< tt

bit_tested : (b : Bool) → (one_if b == 1) ≡ b
bit_tested true = refl
bit_tested false = refl

pub where_same : (one other : ℕ → Bool) (from count : ℕ) → ((n : ℕ) → one n ≡ other n) → bits_where one from count ≡ bits_where other from count
unfolding bits_where
where_same one other from zero same = refl
where_same one other from (suc count) same =
    sym (where_next one from count)
    ∙ ap (λ (b : Bool). one_if b + 2 * bits_where one (from + 1) count) (same from)
    ∙ ap (λ (n : ℕ). one_if (other from) + 2 * n) (where_same one other (from + 1) count same)
    ∙ where_next other from count

pub where_none : (test : ℕ → Bool) (from count : ℕ) → ((n : ℕ) → test n ≡ false) → bits_where test from count ≡ 0
unfolding bits_where
where_none test from zero none = refl
where_none test from (suc count) none =
    let bit : one_if (test from) ≡ 0 = ap one_if (none from) in
    omega (arith, where_next test from count, bit, where_none test (from + 1) count none)

pub where_small : (test : ℕ → Bool) (from count : ℕ) → bits_where test from count < 2 ^ count
unfolding bits_where
where_small test from zero = lit< tt
where_small test from (suc count) =
    omega (arith, where_next test from count, bit_small (test from), where_small test (from + 1) count, pow-succ' 2 count)

pub bit_where : (test : ℕ → Bool) (from count i : ℕ) → i < count → (bit_at (bits_where test from count) i == 1) ≡ test (from + i)
bit_where test from zero i inside = absurd (omega arith)
bit_where test from (suc count) zero inside =
    let small : one_if (test from) < 2 = bit_small (test from) in
    let e : (one_if (test from) + 2 * bits_where test (from + 1) count) % 2 ≡ one_if (test from) = omega arith in
    let at : from ≡ from + 0 = omega arith in
    ap (λ (n : ℕ). bit_at n 0 == 1) (sym (where_next test from count))
    ∙ ap (λ (n : ℕ). n == 1) (bit_at_lowest (one_if (test from) + 2 * bits_where test (from + 1) count) ∙ e)
    ∙ bit_tested (test from)
    ∙ ap test at
bit_where test from (suc count) (suc i) inside =
    let small : one_if (test from) < 2 = bit_small (test from) in
    let e : (one_if (test from) + 2 * bits_where test (from + 1) count) / 2 ≡ bits_where test (from + 1) count = omega arith in
    let at : from + 1 + i ≡ from + suc i = omega arith in
    ap (λ (n : ℕ). bit_at n (suc i) == 1) (sym (where_next test from count))
    ∙ ap (λ (n : ℕ). n == 1) (bit_at-suc (one_if (test from) + 2 * bits_where test (from + 1) count) i ∙ ap (λ (n : ℕ). bit_at n i) e)
    ∙ bit_where test (from + 1) count i (omega arith)
    ∙ ap test at

-- one more word
pub words_more : (value : ℕ → ℕ) (words : List ℕ) (k word : ℕ) → k < length words → ((j : ℕ) → j < k → get_or words j 0 ≡ value j)
    → word ≡ value k → (j : ℕ) → j < k + 1 → get_or (set words k word) j 0 ≡ value j
words_more value words k word inside are is j below =
    elim (cases_eq j k) [
      | inl e ↦
          ap (λ (n : ℕ). get_or (set words k word) n 0) e
          ∙ get_or-set_same words k word 0 inside
          ∙ is
          ∙ ap value (sym e)
      | inr other ↦ get_or-set_other words k j word 0 other ∙ are j (omega (arith, other))
    ]

pub where_zero : (test : ℕ → Bool) (from : ℕ) → 0 ≡ bits_where test from 0
unfolding bits_where
where_zero test from = refl

-- Words and their bytes

pub flat_same : (bytes : ℕ → List ℕ) (other : ℕ → List ℕ) (words : List ℕ) (first count : ℕ) → first + count ≤ length words
    → ((k : ℕ) → first ≤ k → k < first + count → bytes (get_or words k 0) ≡ other k)
    → flat_map bytes (take count (drop first words)) ≡ flat_map other (count_up first count)
flat_same bytes other words first zero inside same = refl
flat_same bytes other words first (suc count) inside same =
    let split : drop first words ≡ get_or words first 0 ∷ drop (suc first) words = drop-cons words first 0 (omega arith) in
    ap (λ (ws : List ℕ). flat_map bytes (take (suc count) ws)) split
    ∙ ap (λ (bs : List ℕ). bs ++ flat_map bytes (take count (drop (suc first) words))) (same first (omega arith) (omega arith))
    ∙ ap (λ (bs : List ℕ). other first ++ bs)
    (flat_same bytes other words (suc first) count (omega arith) (λ k low high. same k (omega arith) (omega arith)))

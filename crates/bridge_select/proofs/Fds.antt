-- Sets of descriptors as lists that rise, and as words of 32 bits.
use Rattle.std.proofs.Common.{◌≡◌, ℕ, zero, suc, ◌+◌, ◌*◌, ◌/◌, ◌%◌, ◌^◌, ◌<◌, ◌≤◌, Bool, true, false, ◌&&◌, List, [], ◌∷◌, ◌++◌, refl, sym, ap, ◌∙◌, inl, inr, arith, append-nil}
use Rattle.std.specs.Prelude.{◌==◌, filter, nat_lt, sum_by, if◌then◌else◌}
use Rattle.std.proofs.Math.Nat.{mul_assoc, pow-succ'}
use Rattle.std.proofs.lemmas.List.Sums.{sum_by-append, sum_by-cons}
use Rattle.std.proofs.lemmas.Bool.{cases_lt, cases_eq, eq-eqb, ne_eqb, lt-ltb, le-ltb}
use Rattle.kernel_core.specs.Bits.{one_if}
use Rattle.kernel_model.specs.Readiness.{first_fds}
use Rattle.layouts.specs.Termios.{count_up}
use Rattle.native_calls.specs.Polls.{is_among}
use Rattle.o32_model.specs.Selecting.{fds_below, holds_fd, word_of}
use Rattle.signal_sets.specs.NativeSets.{bits_where}
use Rattle.native_polls.proofs.Lists.{among, below_all, where_next, where_none, where_same}

-- Lists that rise

pub up_more : (first count : ℕ) → count_up first (suc count) ≡ count_up first count ++ (first + count) ∷ []
up_more first zero = let same : first ≡ first + 0 = omega arith in ap (λ (n : ℕ). n ∷ []) same
up_more first (suc count) =
    let same : suc first + count ≡ first + suc count = omega arith in
    ap (λ (ns : List ℕ). first ∷ ns) (up_more (suc first) count ∙ ap (λ (n : ℕ). count_up (suc first) count ++ n ∷ []) same)

filter_append : (p : ℕ → Bool) (xs ys : List ℕ) → filter p (xs ++ ys) ≡ filter p xs ++ filter p ys
filter_append p [] ys = refl
filter_append p (x ∷ xs) ys = by (p x) (filter_append p xs ys) where
  by : (b : Bool) → filter p (xs ++ ys) ≡ filter p xs ++ filter p ys
      → (if b then x ∷ filter p (xs ++ ys) else filter p (xs ++ ys)) ≡ (if b then x ∷ filter p xs else filter p xs) ++ filter p ys
  by true same = ap (λ (ns : List ℕ). x ∷ ns) same
  by false same = same

-- one more number
pub filter_more : (p : ℕ → Bool) (count : ℕ) → filter p (count_up 0 (suc count)) ≡ filter p (count_up 0 count) ++ (if p count then count ∷ [] else [])
filter_more p count =
    let same : 0 + count ≡ count = omega arith in
    ap (filter p) (up_more 0 count) ∙ filter_append p (count_up 0 count) ((0 + count) ∷ [])
    ∙ ap (λ (n : ℕ). filter p (count_up 0 count) ++ (if p n then n ∷ [] else [])) same

-- the descriptors of a set in the program's memory
pub below_is : (bytes : List ℕ) (count : ℕ) → fds_below bytes count ≡ filter (holds_fd bytes) (count_up 0 count)
unfolding fds_below
below_is bytes zero = refl
below_is bytes (suc count) =
    ap (λ (fds : List ℕ). fds ++ (if holds_fd bytes count then count ∷ [] else [])) (below_is bytes count)
    ∙ sym (filter_more (holds_fd bytes) count)

-- those below a number
pub first_of_more : (p : ℕ → Bool) (few many : ℕ) → few ≤ many → first_fds few (filter p (count_up 0 many)) ≡ filter p (count_up 0 few)
first_of_more p few zero inside = let none : few ≡ 0 = omega arith in ap (λ (n : ℕ). filter p (count_up 0 n)) (sym none)
first_of_more p few (suc many) inside = elim (cases_lt many few) [
  | inl all ↦
      let same : few ≡ suc many = omega arith in
      ap (λ (n : ℕ). first_fds n (filter p (count_up 0 (suc many)))) same
      ∙ below_all p (suc many) 0 (suc many) (omega arith)
      ∙ ap (λ (n : ℕ). filter p (count_up 0 n)) (sym same)
  | inr less ↦
      let out : nat_lt many few ≡ false = le-ltb many few less in
      ap (first_fds few) (filter_more p many)
      ∙ filter_append (λ fd. nat_lt fd few) (filter p (count_up 0 many)) (if p many then many ∷ [] else [])
      ∙ ap (λ (fds : List ℕ). first_fds few (filter p (count_up 0 many)) ++ fds) (one_out (p many) out)
      ∙ append-nil (first_fds few (filter p (count_up 0 many)))
      ∙ first_of_more p few many less
] where
  one_out : (b : Bool) → nat_lt many few ≡ false → first_fds few (if b then many ∷ [] else []) ≡ []
  one_out true out = ap (λ (c : Bool). if c then many ∷ [] else []) out
  one_out false out = refl

-- Bits of words

-- the bits of two runs, one behind the other
pub where_both : (test : ℕ → Bool) (from first second : ℕ) → bits_where test from (first + second) ≡ bits_where test from first + 2 ^ first * bits_where test (from + first) second
unfolding bits_where
where_both test from zero second =
    let n : 0 + second ≡ second = omega arith in
    let at : from + 0 ≡ from = omega arith in
    ap (λ (k : ℕ). bits_where test from k) n ∙ ap (λ (k : ℕ). bits_where test k second) (sym at)
    ∙ (let one : bits_where test (from + 0) second ≡ 0 + 1 * bits_where test (from + 0) second = omega arith in one)
where_both test from (suc first) second =
    let n : suc first + second ≡ suc (first + second) = omega arith in
    let at : from + 1 + first ≡ from + suc first = omega arith in
    let rest : ℕ = bits_where test (from + suc first) second in
    let power : 2 ^ suc first * rest ≡ 2 * (2 ^ first * rest) = ap (λ (m : ℕ). m * rest) (pow-succ' 2 first) ∙ mul_assoc 2 (2 ^ first) rest in
    let more : bits_where test (from + 1) (first + second) ≡ bits_where test (from + 1) first + 2 ^ first * rest =
    where_both test (from + 1) first second ∙ ap (λ (k : ℕ). bits_where test (from + 1) first + 2 ^ first * bits_where test k second) at in
    let all : one_if (test from) + 2 * bits_where test (from + 1) (first + second) ≡ bits_where test from (suc (first + second)) = where_next test from (first + second) in
    let head : one_if (test from) + 2 * bits_where test (from + 1) first ≡ bits_where test from (suc first) = where_next test from first in
    ap (λ (k : ℕ). bits_where test from k) n ∙ sym all
    ∙ (let sum : one_if (test from) + 2 * bits_where test (from + 1) (first + second) ≡ (one_if (test from) + 2 * bits_where test (from + 1) first) + 2 ^ suc first * rest = omega (arith, more, power) in sum)
    ∙ ap (λ (k : ℕ). k + 2 ^ suc first * rest) head

-- by two tests that say the same of these numbers
pub where_alike : (one other : ℕ → Bool) (from count : ℕ) → ((n : ℕ) → from ≤ n → n < from + count → one n ≡ other n) → bits_where one from count ≡ bits_where other from count
unfolding bits_where
where_alike one other from zero same = refl
where_alike one other from (suc count) same =
    sym (where_next one from count)
    ∙ ap (λ (b : Bool). one_if b + 2 * bits_where one (from + 1) count) (same from (omega arith) (omega arith))
    ∙ ap (λ (n : ℕ). one_if (other from) + 2 * n) (where_alike one other (from + 1) count (λ n low high. same n (omega arith) (omega arith)))
    ∙ where_next other from count

-- one bit more
where_more : (test more : ℕ → Bool) (from count i : ℕ) → i < count → test (from + i) ≡ false → ((n : ℕ) → (n ≡ from + i → ⊥) → more n ≡ test n)
    → bits_where more from count ≡ bits_where test from count + one_if (more (from + i)) * 2 ^ i
unfolding bits_where
where_more test more from zero i inside none same = absurd (omega arith)
where_more test more from (suc count) zero inside none same =
    let at : from + 0 ≡ from = omega arith in
    let was : one_if (test from) ≡ 0 = ap one_if (ap test (sym at) ∙ none) in
    let bit : one_if (more (from + 0)) * 1 ≡ one_if (more from) = (let e : one_if (more (from + 0)) * 1 ≡ one_if (more (from + 0)) = omega arith in e) ∙ ap (λ (n : ℕ). one_if (more n)) at in
    let rest : bits_where more (from + 1) count ≡ bits_where test (from + 1) count = where_alike more test (from + 1) count (λ n low high. same n (λ e. omega arith)) in
    omega (arith, where_next more from count, where_next test from count, was, bit, rest)
where_more test more from (suc count) (suc i) inside none same =
    let at : from + 1 + i ≡ from + suc i = omega arith in
    let head : one_if (more from) ≡ one_if (test from) = ap one_if (same from (λ e. omega arith)) in
    let rest : bits_where more (from + 1) count ≡ bits_where test (from + 1) count + one_if (more (from + 1 + i)) * 2 ^ i =
    where_more test more (from + 1) count i (omega arith) (ap test at ∙ none) (λ n other. same n (λ e. other (e ∙ sym at))) in
    let bit : 2 * (one_if (more (from + 1 + i)) * 2 ^ i) ≡ one_if (more (from + suc i)) * 2 ^ suc i = by (more (from + 1 + i)) (more (from + suc i)) (ap more at) in
    omega (arith, where_next more from count, where_next test from count, head, rest, bit) where
      by : (b c : Bool) → b ≡ c → 2 * (one_if b * 2 ^ i) ≡ one_if c * 2 ^ suc i
      by true true e = omega (arith, pow-succ' 2 i)
      by true false e = absurd cc
      by false true e = absurd cc
      by false false e = omega arith

-- A word has the bits of the descriptors that it has a place for.

abbrev there : (ℕ → Bool) → ℕ → ℕ → Bool
there p count fd = nat_lt fd count && p fd

abbrev bit_in : ℕ → ℕ → ℕ
bit_in k fd = if fd / 32 == k then 2 ^ (fd % 32) else 0

nothing_there : (p : ℕ → Bool) (fd : ℕ) → there p 0 fd ≡ false
nothing_there p fd = ap (λ (b : Bool). b && p fd) (le-ltb fd 0 (omega arith))

still_there : (p : ℕ → Bool) (count fd : ℕ) → (fd ≡ count → ⊥) → there p (suc count) fd ≡ there p count fd
still_there p count fd other = elim (cases_lt fd count) [
  | inl below ↦ ap (λ (b : Bool). b && p fd) (lt-ltb fd (suc count) (omega arith) ∙ sym (lt-ltb fd count below))
  | inr above ↦ ap (λ (b : Bool). b && p fd) (le-ltb fd (suc count) (omega (arith, other)) ∙ sym (le-ltb fd count above))
]

count_there : (p : ℕ → Bool) (count : ℕ) → (there p count count ≡ false) × (there p (suc count) count ≡ p count)
count_there p count = (ap (λ (b : Bool). b && p count) (le-ltb count count (omega arith)), ap (λ (b : Bool). b && p count) (lt-ltb count (suc count) (omega arith)))

pub word_is : (p : ℕ → Bool) (count k : ℕ) → word_of (filter p (count_up 0 count)) k ≡ bits_where (there p count) (32 * k) 32
word_is p zero k = sym (where_none (there p 0) (32 * k) 32 (nothing_there p))
word_is p (suc count) k =
    ap (λ (fds : List ℕ). word_of fds k) (filter_more p count)
    ∙ sum_by-append (bit_in k) (filter p (count_up 0 count)) (if p count then count ∷ [] else [])
    ∙ ap (λ (n : ℕ). n + sum_by (bit_in k) (if p count then count ∷ [] else [])) (word_is p count k)
    ∙ elim (cases_eq (count / 32) k) [
      | inl e ↦
          let at : 32 * k + count % 32 ≡ count = omega (arith, e) in
          let here : (count / 32 == k) ≡ true = eq-eqb (count / 32) k e in
          let more = where_more (there p count) (there p (suc count)) (32 * k) 32 (count % 32) (omega arith) (ap (there p count) at ∙ (count_there p count).0)
          (λ n other. still_there p count n (λ e. other (e ∙ sym at))) in
          let bit : one_if (there p (suc count) (32 * k + count % 32)) ≡ one_if (p count) = ap (λ (n : ℕ). one_if (there p (suc count) n)) at ∙ ap one_if (count_there p count).1 in
          ap (λ (n : ℕ). bits_where (there p count) (32 * k) 32 + n) (inside (p count) here) ∙ ap (λ (n : ℕ). bits_where (there p count) (32 * k) 32 + n * 2 ^ (count % 32)) (sym bit)
          ∙ sym more
      | inr other ↦
          let out : (count / 32 == k) ≡ false = ne_eqb (count / 32) k other in
          ap (λ (n : ℕ). bits_where (there p count) (32 * k) 32 + n) (outside (p count) out)
          ∙ (let none : bits_where (there p count) (32 * k) 32 + 0 ≡ bits_where (there p count) (32 * k) 32 = omega arith in none)
          ∙ where_alike (there p count) (there p (suc count)) (32 * k) 32 (λ n low high. sym (still_there p count n (λ e. other (omega arith))))
    ] where
      inside : (b : Bool) → (count / 32 == k) ≡ true → sum_by (bit_in k) (if b then count ∷ [] else []) ≡ one_if b * 2 ^ (count % 32)
      inside true here =
          sum_by-cons (bit_in k) count [] ∙ ap (λ (c : Bool). (if c then 2 ^ (count % 32) else 0) + 0) here
          ∙ (let one : 2 ^ (count % 32) + 0 ≡ 1 * 2 ^ (count % 32) = omega arith in one)
      inside false here = omega arith

      outside : (b : Bool) → (count / 32 == k) ≡ false → sum_by (bit_in k) (if b then count ∷ [] else []) ≡ 0
      outside true out = sum_by-cons (bit_in k) count [] ∙ ap (λ (c : Bool). (if c then 2 ^ (count % 32) else 0) + 0) out
      outside false out = refl

-- the same by the list
pub word_among : (p : ℕ → Bool) (count k : ℕ) (fds : List ℕ) → fds ≡ filter p (count_up 0 count) → word_of fds k ≡ bits_where (is_among fds) (32 * k) 32
word_among p count k fds is =
    let all : 0 + count ≡ count = omega arith in
    ap (λ (l : List ℕ). word_of l k) is ∙ word_is p count k
    ∙ where_same (there p count) (is_among (filter p (count_up 0 count))) (32 * k) 32 (λ fd. sym (among p 0 count fd (omega arith) ∙ ap (λ (n : ℕ). there p n fd) all))
    ∙ ap (λ (l : List ℕ). bits_where (is_among l) (32 * k) 32) (sym is)

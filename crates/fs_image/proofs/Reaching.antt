-- A node that is reached at all is reached within as many names as there are nodes.
use Rattle.std.proofs.Common.{◌≡◌, ℕ, zero, suc, ◌+◌, ◌<◌, ◌≤◌, Bool, true, false, cond, List, [], ◌∷◌, length, get_or, refl, sym, ap, subst, ◌∙◌, arith, inl, inr, ◌⊎◌}
use Rattle.std.specs.Prelude.{◌||◌, ◌&&◌, ◌==◌, nat_lt, Contains, count_by, slice_get, Some}
use Rattle.std.specs.List.{list_any}
use Rattle.std.proofs.lemmas.Bool.{cases_lt, ltb-true, lt-ltb, eqb-true, eq-eqb}
use Rattle.std.proofs.lemmas.List.Sums.{count_by-le-length, sum_by-cons}
use Rattle.kernel_core.specs.declared.tree.Node.{Node}
use Rattle.kernel_core.specs.ValidTree.{root, entries_of, names_in, IsReached, IsReachedIn}
use Rattle.fs_image.specs.Naming.{is_reached_in, is_reached}

-- Tests

or_true : (a b : Bool) → (a || b) ≡ true → (a ≡ true) ⊎ (b ≡ true)
or_true true b e = inl refl
or_true false b e = inr e

or_left : (a b : Bool) → a ≡ true → (a || b) ≡ true
or_left a b e = rw e refl

or_right : (a b : Bool) → b ≡ true → (a || b) ≡ true
or_right true b e = refl
or_right false b e = e

pub and_true : (a b : Bool) → (a && b) ≡ true → (a ≡ true) × (b ≡ true)
and_true true b e = (refl, e)
and_true false b e = absurd cc

pub both_true : (a b : Bool) → a ≡ true → b ≡ true → (a && b) ≡ true
both_true a b ea eb = rw ea eb

-- an element that passes a test
pub any_true : {A : Type 0} (p : A → Bool) (xs : List A) → list_any p xs ≡ true → (x : A) × Contains xs x × (p x ≡ true)
any_true p [] e = absurd cc
any_true p (x ∷ xs) e =
    elim (or_true (p x) (list_any p xs) e) [
      | inl here ↦ (x, (0, omega arith, refl), here)
      | inr there ↦ let r = any_true p xs there in (r.0, (suc r.1.0, omega (arith, r.1.1), r.1.2), r.2)
    ]

pub true_any : {A : Type 0} (p : A → Bool) (xs : List A) (x : A) → Contains xs x → p x ≡ true → list_any p xs ≡ true
true_any p [] x c e = absurd (omega (arith, c.1))
true_any {A} p (y ∷ ys) x (zero, below, is) e =
    let P : A → Type 0 = λ z. p z ≡ true in
    or_left (p y) (list_any p ys) (subst P (sym is) e)
true_any p (y ∷ ys) x (suc k, below, is) e = or_right (p y) (list_any p ys) (true_any p ys x (k, omega (arith, below), is) e)

-- Counts

count-cons : {A : Type 0} (p : A → Bool) (x : A) (xs : List A) → count_by p (x ∷ xs) ≡ cond (p x) 1 0 + count_by p xs
count-cons p x xs = sum_by-cons (λ y. cond (p y) 1 0) x xs

one_grows : (a b : Bool) → (a ≡ true → b ≡ true) → cond a 1 0 ≤ cond b 1 0
one_grows true b h = rw (h refl) (omega arith)
one_grows false b h = omega arith

one_same : (a b : Bool) → cond a 1 0 ≤ cond b 1 0 → a ≡ true → b ≡ true
one_same a true h e = refl
one_same true false h e = absurd (omega (arith, h))
one_same false false h e = e

counts_grow : {A : Type 0} (p q : A → Bool) (xs : List A) → ((x : A) → p x ≡ true → q x ≡ true) → count_by p xs ≤ count_by q xs
counts_grow p q [] h = omega arith
counts_grow p q (x ∷ xs) h = omega (arith, counts_grow p q xs h, count-cons p x xs, count-cons q x xs, one_grows (p x) (q x) (h x))

counts_same : {A : Type 0} (p q : A → Bool) (xs : List A) → ((x : A) → p x ≡ true → q x ≡ true) → count_by q xs ≤ count_by p xs → (k : ℕ) (d : A) → k < length xs → q (get_or xs k d) ≡ true → p (get_or xs k d) ≡ true
counts_same p q [] h le k d below e = absurd (omega (arith, below))
counts_same p q (x ∷ xs) h le zero d below e =
    one_same (q x) (p x) (omega (arith, le, counts_grow p q xs h, count-cons p x xs, count-cons q x xs)) e
counts_same p q (x ∷ xs) h le (suc k) d below e =
    counts_same p q xs h (omega (arith, le, count-cons p x xs, count-cons q x xs, one_grows (p x) (q x) (h x))) k d (omega (arith, below)) e

-- Steps

climb_one : (nodes : List Node) (s q : ℕ) → is_reached_in nodes s q ≡ true → is_reached_in nodes (suc s) q ≡ true
unfolding is_reached_in
climb_one nodes s q e = or_left (is_reached_in nodes s q) (list_any (λ parent. nat_lt 0 (names_in (entries_of parent.kind) q) && is_reached_in nodes s parent.number) nodes) e

climb : (nodes : List Node) (s t q : ℕ) → s ≤ t → is_reached_in nodes s q ≡ true → is_reached_in nodes t q ≡ true
climb nodes s zero q le e =
    let P : ℕ → Type 0 = λ n. is_reached_in nodes n q ≡ true in
    let same : s ≡ 0 = omega (arith, le) in
    subst P same e
climb nodes s (suc t) q le e =
    elim (cases_lt t s) as (λ _. is_reached_in nodes (suc t) q ≡ true) [
      | inl lt ↦
          let P : ℕ → Type 0 = λ n. is_reached_in nodes n q ≡ true in
          let same : s ≡ suc t = omega (arith, le, lt) in
          subst P same e
      | inr ge ↦ climb_one nodes t q (climb nodes s t q ge e)
    ]

-- by way of a parent
by_parent : (nodes : List Node) (s q : ℕ) (parent : Node) → Contains nodes parent → 1 ≤ names_in (entries_of parent.kind) q → is_reached_in nodes s parent.number ≡ true → is_reached_in nodes (suc s) q ≡ true
unfolding is_reached_in
by_parent nodes s q parent in_nodes named e =
    or_right (is_reached_in nodes s q) (list_any (λ p. nat_lt 0 (names_in (entries_of p.kind) q) && is_reached_in nodes s p.number) nodes)
    (true_any (λ (p : Node). nat_lt 0 (names_in (entries_of p.kind) q) && is_reached_in nodes s p.number) nodes parent in_nodes (both_true _ _ (lt-ltb _ _ named) e))

-- the last step, where there is one
last_step : (nodes : List Node) (s q : ℕ) → is_reached_in nodes (suc s) q ≡ true → (is_reached_in nodes s q ≡ true) ⊎ ((parent : Node) × Contains nodes parent × (1 ≤ names_in (entries_of parent.kind) q) × (is_reached_in nodes s parent.number ≡ true))
unfolding is_reached_in
last_step nodes s q e =
    elim (or_true (is_reached_in nodes s q) (list_any (λ p. nat_lt 0 (names_in (entries_of p.kind) q) && is_reached_in nodes s p.number) nodes) e) [
      | inl before ↦ inl before
      | inr there ↦
          let r = any_true (λ (p : Node). nat_lt 0 (names_in (entries_of p.kind) q) && is_reached_in nodes s p.number) nodes there in
          let t = and_true (nat_lt 0 (names_in (entries_of r.0.kind) q)) (is_reached_in nodes s r.0.number) r.2 in
          inr (r.0, r.1, ltb-true _ _ t.0, t.1)
    ]

-- what is reached within so many steps is reached
pub is_reached_in-sound : (nodes : List Node) (s q : ℕ) → is_reached_in nodes s q ≡ true → IsReached nodes q
unfolding is_reached_in
is_reached_in-sound nodes zero q e = (0, eqb-true q root e)
is_reached_in-sound nodes (suc s) q e =
    elim (last_step nodes s q e) [
      | inl before ↦ is_reached_in-sound nodes s q before
      | inr step ↦ let r = is_reached_in-sound nodes s step.0.number step.3 in (suc r.0, (step.0, step.1, step.2, r.1))
    ]

is_reached_in-complete : (nodes : List Node) (s q : ℕ) → IsReachedIn nodes s q → is_reached_in nodes s q ≡ true
unfolding is_reached_in
is_reached_in-complete nodes zero q h = eq-eqb q root h
is_reached_in-complete nodes (suc s) q h = by_parent nodes s q h.0 h.1 h.2 (is_reached_in-complete nodes s h.0.number h.3)

-- no node is reached at the next step that was not before
Stable : List Node → ℕ → Type 0
Stable nodes s = (k : ℕ) (d : Node) → k < length nodes → is_reached_in nodes (suc s) (get_or nodes k d).number ≡ true → is_reached_in nodes s (get_or nodes k d).number ≡ true

stays : (nodes : List Node) (s q : ℕ) → Stable nodes s → is_reached_in nodes (suc (suc s)) q ≡ true → is_reached_in nodes (suc s) q ≡ true
unfolding Stable
stays nodes s q stable e =
    elim (last_step nodes (suc s) q e) [
      | inl before ↦ before
      | inr step ↦
          let P : Node → Type 0 = λ n. is_reached_in nodes (suc s) n.number ≡ true in
          let Q : Node → Type 0 = λ n. is_reached_in nodes s n.number ≡ true in
          let there = stable step.1.0 step.0 step.1.1 (subst P (sym step.1.2) step.3) in
          by_parent nodes s q step.0 step.1 step.2 (subst Q step.1.2 there)
    ]

Stable-next : (nodes : List Node) (s : ℕ) → Stable nodes s → Stable nodes (suc s)
unfolding Stable
Stable-next nodes s stable = λ k d below e. stays nodes s (get_or nodes k d).number stable e

Stable-from : (nodes : List Node) (s n : ℕ) → Stable nodes s → s ≤ n → Stable nodes n
Stable-from nodes s zero stable le = let same : s ≡ 0 = omega (arith, le) in subst (Stable nodes) same stable
Stable-from nodes s (suc n) stable le =
    elim (cases_lt n s) as (λ _. Stable nodes (suc n)) [
      | inl lt ↦ let same : s ≡ suc n = omega (arith, le, lt) in subst (Stable nodes) same stable
      | inr ge ↦ Stable-next nodes n (Stable-from nodes s n stable ge)
    ]

descend : (nodes : List Node) (s n q : ℕ) → Stable nodes s → suc s ≤ n → is_reached_in nodes n q ≡ true → is_reached_in nodes (suc s) q ≡ true
descend nodes s zero q stable le e = absurd (omega (arith, le))
descend nodes s (suc zero) q stable le e =
    let P : ℕ → Type 0 = λ k. is_reached_in nodes k q ≡ true in
    let same : 1 ≡ suc s = omega (arith, le) in
    subst P same e
descend nodes s (suc (suc n)) q stable le e =
    elim (cases_lt n s) as (λ _. is_reached_in nodes (suc s) q ≡ true) [
      | inl lt ↦
          let P : ℕ → Type 0 = λ k. is_reached_in nodes k q ≡ true in
          let same : suc (suc n) ≡ suc s = omega (arith, le, lt) in
          subst P same e
      | inr ge ↦ descend nodes s (suc n) q stable (omega (arith, ge)) (stays nodes n q (Stable-from nodes s n stable ge) e)
    ]

reached_count : List Node → ℕ → ℕ
reached_count nodes s = count_by (λ n. is_reached_in nodes s n.number) nodes

-- either a step reaches no node more, or each step reaches one more
stable_before : (nodes : List Node) (s : ℕ) → 1 ≤ reached_count nodes 0 → ((t : ℕ) × (t < s) × Stable nodes t) ⊎ (s + 1 ≤ reached_count nodes s)
unfolding Stable reached_count
stable_before nodes zero some = inr (omega (arith, some))
stable_before nodes (suc s) some =
    elim (stable_before nodes s some) [
      | inl found ↦ inl (found.0, omega (arith, found.1), found.2)
      | inr many ↦
          elim (cases_lt (reached_count nodes s) (reached_count nodes (suc s))) as (λ _. ((t : ℕ) × (t < suc s) × Stable nodes t) ⊎ (suc s + 1 ≤ reached_count nodes (suc s))) [
            | inl more ↦ inr (omega (arith, many, more))
            | inr same ↦ inl (s, omega arith, counts_same (λ (n : Node). is_reached_in nodes s n.number) (λ (n : Node). is_reached_in nodes (suc s) n.number) nodes (λ n e. climb_one nodes s n.number e) same)
          ]
    ]

-- the root is among the nodes
root_counts : (nodes : List Node) (first : Node) → slice_get nodes 0 ≡ Some first → first.number ≡ root → 1 ≤ reached_count nodes 0
unfolding reached_count is_reached_in
root_counts [] first e is = absurd cc
root_counts (n ∷ nodes) first e is =
    let same : n ≡ first = cc in
    let number : n.number ≡ root = ap (λ (m : Node). m.number) same ∙ is in
    let t : (n.number == root) ≡ true = eq-eqb n.number root number in
    let one : 1 ≤ cond (n.number == root) 1 0 = rw t (omega arith) in
    omega (arith, count-cons (λ (m : Node). m.number == root) n nodes, one)

pub is_reached-complete : (nodes : List Node) (first : Node) (q : ℕ) → slice_get nodes 0 ≡ Some first → first.number ≡ root → IsReached nodes q → is_reached nodes q ≡ true
unfolding is_reached reached_count
is_reached-complete nodes first q e is h =
    let steps = h.0 in
    let n = length nodes in
    let reached = is_reached_in-complete nodes steps q h.1 in
    elim (cases_lt n steps) as (λ _. is_reached_in nodes n q ≡ true) [
      | inr few ↦ climb nodes steps n q few reached
      | inl many ↦
          elim (stable_before nodes n (root_counts nodes first e is)) as (λ _. is_reached_in nodes n q ≡ true) [
            | inl found ↦ climb nodes (suc found.0) n q (omega (arith, found.1)) (descend nodes found.0 steps q found.2 (omega (arith, found.1, many)) reached)
            | inr all ↦ absurd (omega (arith, all, count_by-le-length (λ (m : Node). is_reached_in nodes n m.number) nodes))
          ]
    ]

pub is_reached-sound : (nodes : List Node) (q : ℕ) → is_reached nodes q ≡ true → IsReached nodes q
unfolding is_reached
is_reached-sound nodes q e = is_reached_in-sound nodes (length nodes) q e

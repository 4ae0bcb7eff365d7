-- What all nodes use together, after a change.
use Rattle.std.proofs.Common.{◌≡◌, ◌≤◌, ◌+◌, ℕ, Bool, true, false, cond, List, [], ◌∷◌, Option, Some, None, refl, sym, ap, subst, ◌∙◌, arith, inl, inr}
use Rattle.std.specs.Prelude.{T, map, sum_by, ◌&&◌}
use Rattle.std.specs.declared.cmp.Ordering.{Ordering}
use Rattle.std.specs.declared.cmp.Ordering.TheVariants.{Less, Equal, Greater}
use Rattle.std.proofs.lemmas.Bool.{cases_lt}
use Rattle.std.proofs.lemmas.List.{nil_from_length}
use Rattle.std.proofs.lemmas.List.Sums.{sum_by-cons}
use Rattle.std.specs.Ordering.{nat_cmp, is_eq, is_lt, eq_by_cmp}
use Rattle.std.specs.Cmp.{nat_cmp_total}
use Rattle.std.specs.FinMap.{FinMap, find, put, is_sorted, entries, entries_sorted, values, empty, get, insert, remove, from_entries, get-entries, get-from_entries, entries-insert, len-empty, len-entries}
use Rattle.kernel_core.specs.Nodes.{Nodes, Inode, update, settled, is_unused}
use Rattle.kernel_core.specs.Totals.{total}
use Rattle.file_system_laws.proofs.Lookups.{same_nodes, put_back, insert_over, get-remove_same, get-remove_other, remove_missing, update-found, update-missing, get-insert_same, get-insert_other}

-- Every map is made by insertions of new keys

abbrev below : {X : Type 0} → ℕ → List (ℕ × X) → Bool
below k [] = true
below k (e ∷ es) = is_lt (nat_cmp k e.0) && below k es

abbrev by_order : {A : Type 0} → Ordering → A → A → A → A
by_order Less a b c = a
by_order Equal a b c = b
by_order Greater a b c = c

first_part : (a b : Bool) → T (a && b) → T a
first_part true b p = tt
first_part false b p = p

second_part : (a b : Bool) → T (a && b) → T b
second_part true b p = p
second_part false b p = absurd p

apart_below : (a b : ℕ) → T (is_lt (nat_cmp a b)) → eq_by_cmp nat_cmp a b ≡ false
apart_below a b h = go (nat_cmp a b) h
  where
    go : (o : Ordering) → T (is_lt o) → is_eq o ≡ false
    go Less h = refl
    go Equal h = absurd h
    go Greater h = refl

module _ {X : Type 0} where
  none_below : (k : ℕ) (es : List (ℕ × X)) → T (below k es) → find nat_cmp k es ≡ None
  none_below k [] h = refl
  none_below k (e ∷ es) h =
      ap (λ b. cond b (Some e.1) (find nat_cmp k es)) (apart_below k e.0 (first_part _ _ h)) ∙ none_below k es (second_part _ _ h)

  made : (P : FinMap nat_cmp X → Type 0) → P empty → ((m : FinMap nat_cmp X) (k : ℕ) (v : X) → get m k ≡ None → P m → P (insert m k v))
      → (es : List (ℕ × X)) → T (is_sorted nat_cmp es) → P (from_entries es)
  made P base step [] h = base
  made P base step (e ∷ es) h =
      step (from_entries es) e.0 e.1 (get-from_entries nat_cmp_total es e.0 ∙ none_below e.0 es (first_part _ _ h))
      (made P base step es (second_part _ _ h))

  from_own_entries : (m : FinMap nat_cmp X) → from_entries (entries m) ≡ m
  from_own_entries m = same_nodes _ _ (λ q. get-from_entries nat_cmp_total (entries m) q ∙ sym (get-entries m q))

  -- what holds of the empty map, and after each insertion of a new key, holds of every map
  pub by_insertion : (P : FinMap nat_cmp X → Type 0) → P empty → ((m : FinMap nat_cmp X) (k : ℕ) (v : X) → get m k ≡ None → P m → P (insert m k v))
      → (m : FinMap nat_cmp X) → P m
  by_insertion P base step m = subst P (from_own_entries m) (made P base step (entries m) (entries_sorted m))

  -- a sum over the values of entries
  weight : (X → ℕ) → List (ℕ × X) → ℕ
  weight amount es = sum_by amount (map (λ e. e.1) es)

  weight-cons : (amount : X → ℕ) (e : ℕ × X) (es : List (ℕ × X)) → weight amount (e ∷ es) ≡ amount e.1 + weight amount es
  unfolding weight
  weight-cons amount e es = sum_by-cons amount e.1 (map (λ e. e.1) es)

  weight-nil : (amount : X → ℕ) (n : ℕ) → n + weight amount [] ≡ weight amount [] + n
  weight-nil amount n = omega arith

  weight-put : (amount : X → ℕ) (k : ℕ) (v : X) (es : List (ℕ × X)) → find nat_cmp k es ≡ None → weight amount (put nat_cmp k v es) ≡ weight amount es + amount v
  weight-put amount k v [] none = weight-cons amount (k, v) [] ∙ weight-nil amount (amount v)
  weight-put amount k v (e ∷ es) none =
      elim (nat_cmp k e.0) as (λ o. cond (is_eq o) (Some e.1) (find nat_cmp k es) ≡ None
      → weight amount (by_order o ((k, v) ∷ e ∷ es) ((e.0, v) ∷ es) (e ∷ put nat_cmp k v es)) ≡ weight amount (e ∷ es) + amount v) [
        | Less ↦ λ h. let first = weight-cons amount (k, v) (e ∷ es) in omega (arith, first)
        | Equal ↦ λ h. absurd (let f : None ≡ Some e.1 = sym h in cc)
        | Greater ↦ λ h. let rest = weight-put amount k v es h in
            let a = weight-cons amount e (put nat_cmp k v es) in
            let b = weight-cons amount e es in
            omega (arith, a, b, rest)
      ] none

  sum-insert_new : (amount : X → ℕ) (m : FinMap nat_cmp X) (k : ℕ) (v : X) → get m k ≡ None → sum_by amount (values (insert m k v)) ≡ sum_by amount (values m) + amount v
  unfolding weight
  sum-insert_new amount m k v none =
      ap (weight amount) (entries-insert nat_cmp_total m k v) ∙ weight-put amount k v (entries m) (sym (get-entries m k) ∙ none)

  sum-empty : (amount : X → ℕ) → sum_by amount (values (empty {X = X} {R = nat_cmp})) ≡ 0
  sum-empty amount = ap (λ es. sum_by amount (map (λ e. e.1) es)) (nil_from_length (entries (empty {X = X} {R = nat_cmp})) (sym (len-entries (empty {X = X} {R = nat_cmp})) ∙ len-empty nat_cmp X))

-- Totals

module _ (amount : Inode → ℕ) where
  pub total-empty : total amount empty ≡ 0
  unfolding total
  total-empty = sum-empty amount

  pub total-insert_new : (nodes : Nodes) (n : ℕ) (i : Inode) → get nodes n ≡ None → total amount (insert nodes n i) ≡ total amount nodes + amount i
  unfolding total
  total-insert_new nodes n i none = sum-insert_new amount nodes n i none

  pub total-remove : (nodes : Nodes) (n : ℕ) (i : Inode) → get nodes n ≡ Some i → total amount (remove nodes n) + amount i ≡ total amount nodes
  total-remove nodes n i found =
      sym (total-insert_new (remove nodes n) n i (get-remove_same nodes n)) ∙ ap (total amount) (sym (put_back nodes n i found))

  pub total-insert_old : (nodes : Nodes) (n : ℕ) (i j : Inode) → get nodes n ≡ Some i → total amount (insert nodes n j) + amount i ≡ total amount nodes + amount j
  total-insert_old nodes n i j found =
      let a = ap (total amount) (insert_over nodes n j) ∙ total-insert_new (remove nodes n) n j (get-remove_same nodes n) in
      let b = total-remove nodes n i found in
      omega (arith, a, b)

  pub total-update : (nodes : Nodes) (n : ℕ) (f : Inode → Inode) (i : Inode) → get nodes n ≡ Some i → total amount (update nodes n f) + amount i ≡ total amount nodes + amount (f i)
  total-update nodes n f i found = ap (λ m. total amount m + amount i) (update-found nodes n f i found) ∙ total-insert_old nodes n i (f i) found

  pub total-at_least : (nodes : Nodes) (n : ℕ) (i : Inode) → get nodes n ≡ Some i → amount i ≤ total amount nodes
  total-at_least nodes n i found = let a = total-remove nodes n i found in omega (arith, a)

  pub total-zero : (nodes : Nodes) (n : ℕ) (i : Inode) → total amount nodes ≡ 0 → get nodes n ≡ Some i → amount i ≡ 0
  total-zero nodes n i none found = let a = total-at_least nodes n i found in omega (arith, a)

  -- two nodes together
  pub total-two : (nodes : Nodes) (n m : ℕ) (i j : Inode) → (n ≡ m → ⊥) → get nodes n ≡ Some i → get nodes m ≡ Some j → amount i + amount j ≤ total amount nodes
  total-two nodes n m i j apart at_n at_m =
      let a = total-remove nodes n i at_n in
      let b = total-at_least (remove nodes n) m j (get-remove_other nodes n m (λ e. apart (sym e)) ∙ at_m) in
      omega (arith, a, b)

  -- a change that keeps the amount
  pub total-kept : (nodes : Nodes) (n : ℕ) (f : Inode → Inode) → ((i : Inode) → get nodes n ≡ Some i → amount (f i) ≡ amount i) → total amount (update nodes n f) ≡ total amount nodes
  total-kept nodes n f same = go (get nodes n) refl
    where
      go : (o : Option Inode) → get nodes n ≡ o → total amount (update nodes n f) ≡ total amount nodes
      go None e = ap (total amount) (update-missing nodes n f e)
      go (Some i) e = let a = total-update nodes n f i e in let b = same i e in omega (arith, a, b)

  pub total-remove_le : (nodes : Nodes) (n : ℕ) → total amount (remove nodes n) ≤ total amount nodes
  total-remove_le nodes n = go (get nodes n) refl
    where
      go : (o : Option Inode) → get nodes n ≡ o → total amount (remove nodes n) ≤ total amount nodes
      go None e = let a = ap (total amount) (remove_missing nodes n e) in omega (arith, a)
      go (Some i) e = let a = total-remove nodes n i e in omega (arith, a)

  pub total-settled_le : (nodes : Nodes) (n : ℕ) → total amount (settled nodes n) ≤ total amount nodes
  unfolding settled
  total-settled_le nodes n = go (is_unused (get nodes n))
    where
      go : (b : Bool) → total amount (cond b (remove nodes n) nodes) ≤ total amount nodes
      go true = total-remove_le nodes n
      go false = omega arith

  -- what goes had none of the amount
  pub total-settled : (nodes : Nodes) (n : ℕ) → ((i : Inode) → get nodes n ≡ Some i → is_unused (Some i) ≡ true → amount i ≡ 0) → total amount (settled nodes n) ≡ total amount nodes
  unfolding settled
  total-settled nodes n zero = go (get nodes n) refl
    where
      chosen : (i : Inode) (b : Bool) → get nodes n ≡ Some i → is_unused (Some i) ≡ b → total amount (cond b (remove nodes n) nodes) ≡ total amount nodes
      chosen i true e u = let a = total-remove nodes n i e in let z = zero i e u in omega (arith, a, z)
      chosen i false e u = refl

      go : (o : Option Inode) → get nodes n ≡ o → total amount (cond (is_unused o) (remove nodes n) nodes) ≡ total amount nodes
      go None e = refl
      go (Some i) e = chosen i (is_unused (Some i)) e refl

-- amounts that agree at each node have the same total
pub total-same : (a b : Inode → ℕ) (nodes : Nodes) → ((n : ℕ) (i : Inode) → get nodes n ≡ Some i → a i ≡ b i) → total a nodes ≡ total b nodes
total-same a b nodes =
    by_insertion (λ m. ((n : ℕ) (i : Inode) → get m n ≡ Some i → a i ≡ b i) → total a m ≡ total b m)
    (λ h. total-empty a ∙ sym (total-empty b))
    (λ m k v none rest h.
    let one = h k v (get-insert_same m k v) in
    let others = rest (λ n i found. h n i (get-insert_other m k v n (λ e. absurd (let f : None ≡ Some i = sym none ∙ ap (get m) (sym e) ∙ found in cc)) ∙ found)) in
    let p = total-insert_new a m k v none in
    let q = total-insert_new b m k v none in
    omega (arith, one, others, p, q))
    nodes

-- an amount that is 0 at each node has the total 0
pub total-none : (amount : Inode → ℕ) (nodes : Nodes) → ((n : ℕ) (i : Inode) → get nodes n ≡ Some i → amount i ≡ 0) → total amount nodes ≡ 0
total-none amount nodes h = total-same amount (λ _. 0) nodes h ∙ total-zeros nodes
  where
    total-zeros : (nodes : Nodes) → total (λ _. 0) nodes ≡ 0
    total-zeros nodes = by_insertion (λ m. total (λ _. 0) m ≡ 0) (total-empty (λ _. 0)) (λ m k v none rest. let p = total-insert_new (λ _. 0) m k v none in omega (arith, p, rest)) nodes

-- an amount with a positive total is positive at some node
pub total-some : (amount : Inode → ℕ) (nodes : Nodes) → 1 ≤ total amount nodes → (n : ℕ) × (i : Inode) × (get nodes n ≡ Some i) × (1 ≤ amount i)
total-some amount nodes =
    by_insertion (λ m. 1 ≤ total amount m → (n : ℕ) × (i : Inode) × (get m n ≡ Some i) × (1 ≤ amount i))
    (λ h. absurd (let e = total-empty amount in omega (arith, e, h)))
    (λ m k v none rest h. elim (cases_lt 0 (amount v)) [
      | inl here ↦ (k, v, get-insert_same m k v, here)
      | inr zero ↦
          let p = total-insert_new amount m k v none in
          let r = rest (omega (arith, p, h, zero)) in
          (r.0, r.1, get-insert_other m k v r.0 (λ e. absurd (let f : None ≡ Some (r.1) = sym none ∙ ap (get m) (sym e) ∙ r.2 in cc)) ∙ r.2, r.3)
    ])
    nodes

-- an amount that is at each node at most another has at most its total
pub total-le : (a b : Inode → ℕ) (nodes : Nodes) → ((n : ℕ) (i : Inode) → get nodes n ≡ Some i → a i ≤ b i) → total a nodes ≤ total b nodes
total-le a b nodes =
    by_insertion (λ m. ((n : ℕ) (i : Inode) → get m n ≡ Some i → a i ≤ b i) → total a m ≤ total b m)
    (λ h. let p = total-empty a in let q = total-empty b in omega (arith, p, q))
    (λ m k v none rest h.
    let one = h k v (get-insert_same m k v) in
    let others = rest (λ n i found. h n i (get-insert_other m k v n (λ e. absurd (let f : None ≡ Some i = sym none ∙ ap (get m) (sym e) ∙ found in cc)) ∙ found)) in
    let p = total-insert_new a m k v none in
    let q = total-insert_new b m k v none in
    omega (arith, one, others, p, q))
    nodes

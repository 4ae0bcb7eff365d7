-- The least free leaf below a node, from a leaf on.
use Rattle.std.proofs.Common.{◌≡◌, ℕ, zero, suc, ◌+◌, ◌-◌, ◌*◌, ◌^◌, ◌<◌, ◌≤◌, Bool, true, List, Option, None, Some, MatchOption, sym, ap, ◌∙◌, subst, inl, inr, arith}
use Rattle.std.proofs.lemmas.Bool.{cases_lt}
use Rattle.std.proofs.Math.Nat.{mul-le-mul_left}
use Rattle.std.proofs.lemmas.Nat.{pow_pos}
use Rattle.number_pool.specs.Places.{AreTakenFrom, IsLeastFreeFrom}
use Rattle.number_pool.specs.inside.Tree.{AreFullFrom, IsLeastNode, IsTree, is_full_at, leaves}
use Rattle.number_pool.proofs.Descent.{full_left, full_right, power_more}
use Rattle.number_pool.proofs.Mending.{leaf_at, length-leaves}

-- Where the leaves of a node's children begin and end.
module _ (node half whole : ℕ) (is : whole ≡ 2 * half) where
  pub first_left : 2 * node * half ≡ node * whole
  first_left = ap (λ w. 2 * node * half) is ∙ (let e : 2 * node * half ≡ node * (2 * half) = omega arith in e) ∙ ap (λ w. node * w) (sym is)

  pub first_right : (2 * node + 1) * half ≡ node * whole + half
  first_right = (let e : (2 * node + 1) * half ≡ node * (2 * half) + half = omega arith in e) ∙ ap (λ w. node * w + half) (sym is)

  pub end_right : (2 * node + 1 + 1) * half ≡ (node + 1) * whole
  end_right = (let e : (2 * node + 1 + 1) * half ≡ (node + 1) * (2 * half) = omega arith in e) ∙ ap (λ w. (node + 1) * w) (sym is)

  pub end_whole : (node + 1) * whole ≡ node * whole + half + half
  end_whole = ap (λ w. (node + 1) * w) is ∙ (let e : (node + 1) * (2 * half) ≡ node * (2 * half) + half + half = omega arith in e) ∙ ap (λ w. node * w + half + half) (sym is)

-- a node that has children
pub inner_node : (size node whole : ℕ) → 0 < size → 0 < whole → size ≤ node * (2 * whole) → (node + 1) * (2 * whole) ≤ size + size → (0 < node) × (node < size)
inner_node size zero whole some more low high = absurd (omega arith)
inner_node size (suc node) whole some more low high =
    let product : node * 1 ≤ node * whole = mul-le-mul_left node more in
    (omega arith, omega (arith, high, product))

-- below a full node each leaf is full
pub full_below_node : (size : ℕ) (flags : List Bool) → IsTree size flags → 0 < size → (height node : ℕ) → size ≤ node * 2 ^ height → (node + 1) * 2 ^ height ≤ size + size
    → is_full_at flags node ≡ true → (leaf : ℕ) → node * 2 ^ height ≤ leaf → leaf < (node + 1) * 2 ^ height → is_full_at flags leaf ≡ true
full_below_node size flags tree some zero node low high full leaf from to = ap (is_full_at flags) (let same : leaf ≡ node = omega arith in same) ∙ full
full_below_node size flags tree some (suc height) node low high full leaf from to =
    let half = 2 ^ height in
    let is : 2 ^ suc height ≡ 2 * half = ap (λ k. 2 ^ k) (let e : suc height ≡ height + 1 = omega arith in e) ∙ power_more height in
    let inner = inner_node size node half some (pow_pos height) (subst (λ w. size ≤ node * w) is low) (subst (λ w. (node + 1) * w ≤ size + size) is high) in
    let left = first_left node half (2 ^ suc height) is in
    let right = first_right node half (2 ^ suc height) is in
    let end = end_right node half (2 ^ suc height) is in
    let whole = end_whole node half (2 ^ suc height) is in
    elim (cases_lt leaf ((2 * node + 1) * half)) [
      | inl before ↦
          full_below_node size flags tree some height (2 * node) (omega (arith, left, low)) (omega (arith, right, whole, high))
          (full_left size flags node tree inner.0 inner.1 full) leaf (omega (arith, left, from)) before
      | inr past ↦
          full_below_node size flags tree some height (2 * node + 1) (omega (arith, right, low)) (omega (arith, end, high))
          (full_right size flags node tree inner.0 inner.1 full) leaf past (omega (arith, end, to))
    ]

-- the leaves of both children
pub full_both : (flags : List Bool) (first middle end from : ℕ) → AreFullFrom flags first middle from → AreFullFrom flags middle end from → AreFullFrom flags first end from
full_both flags first middle end from left right = λ leaf low there high.
    elim (cases_lt leaf middle) [ inl before ↦ left leaf low there before | inr past ↦ right leaf past there high ]

pub least_left : (flags : List Bool) (first middle end from leaf : ℕ) → middle ≤ end → IsLeastNode flags first middle from leaf → IsLeastNode flags first end from leaf
least_left flags first middle end from leaf more least = record {
  low = least.low;
  from_there = least.from_there;
  high = (let inside = least.high in omega arith);
  free = least.free;
  before = least.before;
}

pub least_right : (flags : List Bool) (first middle end from leaf : ℕ) → first ≤ middle → AreFullFrom flags first middle from → IsLeastNode flags middle end from leaf
    → IsLeastNode flags first end from leaf
least_right flags first middle end from leaf more left least = record {
  low = (let low = least.low in omega arith);
  from_there = least.from_there;
  high = least.high;
  free = least.free;
  before = λ other low there high.
      elim (cases_lt other middle) [ inl before ↦ left other low there before | inr past ↦ least.before other past there high ];
}

-- what both children give
pub joined : (flags : List Bool) (first middle end from : ℕ) (r : Option ℕ) → first ≤ middle → AreFullFrom flags first middle from
    → MatchOption r (AreFullFrom flags middle end from) (IsLeastNode flags middle end from) → MatchOption r (AreFullFrom flags first end from) (IsLeastNode flags first end from)
joined flags first middle end from None order left right = full_both flags first middle end from left right
joined flags first middle end from (Some leaf) order left right = least_right flags first middle end from leaf order left right

-- a power of two and the one before it
pub halved : (height : ℕ) → (height ≡ 0 → ⊥) → 2 ^ height ≡ 2 * 2 ^ (height - 1)
halved height some = ap (λ k. 2 ^ k) (let e : height ≡ height - 1 + 1 = omega arith in e) ∙ power_more (height - 1)

-- The places of the pool, whose leaves begin at node `size`.
module _ (size : ℕ) (flags : List Bool) (tree : IsTree size flags) (from first end start : ℕ) (begins : first ≡ size) (ends : end ≡ size + size) (starts : start ≡ size + from) where
  pub taken_from : AreFullFrom flags first end start → AreTakenFrom (leaves size flags) from
  taken_from full = λ place there inside.
      leaf_at size flags place
      ∙ full (size + place) (omega arith) (omega arith) (let long = length-leaves size flags tree.sized in omega arith)

  pub least_from : (leaf : ℕ) → IsLeastNode flags first end start leaf → IsLeastFreeFrom (leaves size flags) from (leaf - size)
  least_from leaf least =
      let low = least.low in
      let high = least.high in
      let there = least.from_there in
      record {
        from_there = omega arith;
        inside = (let long = length-leaves size flags tree.sized in omega arith);
        free = leaf_at size flags (leaf - size) ∙ ap (is_full_at flags) (let back : size + (leaf - size) ≡ leaf = omega arith in back) ∙ least.free;
        between = λ lower from_it below. leaf_at size flags lower ∙ least.before (size + lower) (omega arith) (omega arith) (omega arith);
      }

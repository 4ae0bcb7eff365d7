-- What a write to one node of a tree leaves, on the way up from a leaf to the root.
use Rattle.std.proofs.Common.{◌≡◌, ◌≢◌, ℕ, ◌+◌, ◌-◌, ◌*◌, ◌/◌, ◌<◌, ◌≤◌, Bool, true, false, List, length, set, replicate, ◌&&◌, refl, sym, ap, ◌∙◌, subst, inl, inr, arith}
use Rattle.std.proofs.Math.Bool.{beq}
use Rattle.std.proofs.lemmas.List.{length-set, length-drop, get_or-drop, get_or-set_same, get_or_past, get_or-set_other, drop-set-add, drop-set-lt, drop-replicate}
use Rattle.std.proofs.lemmas.Bool.{cases_eq}
use Rattle.number_pool.specs.Places.{is_taken_at}
use Rattle.number_pool.specs.inside.Tree.{IsTree, IsMended, is_full_at, leaves}

-- a tree whose nodes are mended but for one number
pub record IsMendedBut (size : ℕ) (flags : List Bool) (but : ℕ) : Type 0 where
  pub sized : length flags ≡ size + size
  pub mended : (node : ℕ) → 0 < node → node < size → node ≢ but → IsMended flags node

pub length-leaves : (size : ℕ) (flags : List Bool) → length flags ≡ size + size → length (leaves size flags) ≡ size
unfolding leaves
length-leaves size flags sized = omega (arith, length-drop size flags)

pub leaf_at : (size : ℕ) (flags : List Bool) (leaf : ℕ) → is_taken_at (leaves size flags) leaf ≡ is_full_at flags (size + leaf)
unfolding leaves
leaf_at size flags leaf = get_or-drop size flags leaf false

pub no_leaf_at : (size : ℕ) (flags : List Bool) (place : ℕ) → length flags ≡ size + size → size ≤ place → is_taken_at (leaves size flags) place ≡ false
no_leaf_at size flags place sized past =
    leaf_at size flags place ∙ get_or_past flags (size + place) false (omega arith)

pub leaves-set_leaf : (size : ℕ) (flags : List Bool) (leaf : ℕ) (taken : Bool) → leaves size (set flags (size + leaf) taken) ≡ set (leaves size flags) leaf taken
unfolding leaves
leaves-set_leaf size flags leaf taken = drop-set-add size flags leaf taken

pub leaves-set_inner : (size : ℕ) (flags : List Bool) (node : ℕ) (full : Bool) → node < size → leaves size (set flags node full) ≡ leaves size flags
unfolding leaves
leaves-set_inner size flags node full inner = drop-set-lt size flags node full inner

pub leaves-replicate : (size : ℕ) → leaves size (replicate (size + size) false) ≡ replicate size false
unfolding leaves
leaves-replicate size =
    let half : (size + size) - size ≡ size = omega arith in
    drop-replicate size (size + size) false ∙ ap (λ n. replicate n false) half

-- what the test of two flags tells
pub same_flag : (a b : Bool) → beq a b ≡ true → a ≡ b
same_flag true true same = refl
same_flag true false same = absurd (cc)
same_flag false true same = absurd (cc)
same_flag false false same = refl

-- a node whose own flag and whose children's flags are not written stays mended
mended_apart : (flags : List Bool) (at : ℕ) (full : Bool) (node : ℕ) → node ≢ at → 2 * node ≢ at → 2 * node + 1 ≢ at → IsMended flags node → IsMended (set flags at full) node
mended_apart flags at full node own left right mended =
    get_or-set_other flags at node full false own
    ∙ mended
    ∙ ap (λ b. b && is_full_at flags (2 * node + 1)) (sym (get_or-set_other flags at (2 * node) full false left))
    ∙ ap (λ b. is_full_at (set flags at full) (2 * node) && b) (sym (get_or-set_other flags at (2 * node + 1) full false right))

-- a node that gets the flag which its children ask for is mended
mended_at : (flags : List Bool) (node : ℕ) (full : Bool) → 0 < node → node < length flags
    → full ≡ (is_full_at flags (2 * node) && is_full_at flags (2 * node + 1)) → IsMended (set flags node full) node
mended_at flags node full positive within asked =
    let left : 2 * node ≢ node = omega arith in
    let right : 2 * node + 1 ≢ node = omega arith in
    get_or-set_same flags node full false within
    ∙ asked
    ∙ ap (λ b. b && is_full_at flags (2 * node + 1)) (sym (get_or-set_other flags node (2 * node) full false left))
    ∙ ap (λ b. is_full_at (set flags node full) (2 * node) && b) (sym (get_or-set_other flags node (2 * node + 1) full false right))

-- after a write to a leaf only its parent may be wrong
pub set_leaf-but_parent : (size : ℕ) (flags : List Bool) (leaf : ℕ) (taken : Bool) → IsTree size flags → IsMendedBut size (set flags (size + leaf) taken) ((size + leaf) / 2)
set_leaf-but_parent size flags leaf taken tree = record {
  sized = length-set flags (size + leaf) taken ∙ tree.sized;
  mended = λ node positive inner other.
      mended_apart flags (size + leaf) taken node (omega arith) (omega arith) (omega arith) (tree.mended node positive inner);
}

-- after that parent is mended only its own parent may be wrong
pub mend-but_parent : (size : ℕ) (flags : List Bool) (node : ℕ) (full : Bool) → 0 < node → node < size → IsMendedBut size flags node
    → full ≡ (is_full_at flags (2 * node) && is_full_at flags (2 * node + 1))
    → IsMendedBut size (set flags node full) (node / 2)
mend-but_parent size flags node full positive inner tree asked = record {
  sized = length-set flags node full ∙ tree.sized;
  mended = λ k low high other.
      elim (cases_eq k node) [
        | inl same ↦ subst (λ (n : ℕ). IsMended (set flags node full) n) (sym same) (mended_at flags node full positive (let within : node < length flags = omega (arith, tree.sized) in within) asked)
        | inr apart ↦ mended_apart flags node full k apart (omega arith) (omega arith) (tree.mended k low high apart)
      ];
}

-- above the root there is nothing to mend
pub tree_at_root : (size : ℕ) (flags : List Bool) (node : ℕ) → node ≤ 1 → IsMendedBut size flags (node / 2) → IsTree size flags
tree_at_root size flags node root tree = record {
  sized = tree.sized;
  mended = λ k low high. tree.mended k low high (omega arith);
}

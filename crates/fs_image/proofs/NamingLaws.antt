-- The rules of a tree that speak of all its nodes are kept exactly where none of them fails.
use Rattle.std.proofs.Common.{◌≡◌, ℕ, zero, suc, ◌+◌, ◌<◌, ◌≤◌, Bool, true, false, cond, List, [], ◌∷◌, length, get_or, All, Option, Some, None, refl, ap, ◌∙◌, arith, inl, inr}
use Rattle.std.specs.Prelude.{◌==◌, ◌&&◌, nat_le, Contains, slice_get}
use Rattle.std.proofs.lemmas.Bool.{cases_Bool, eqb-true, eqb-false, eq-eqb}
use Rattle.std.proofs.lemmas.Bool.Decides.{nat_tests}
use Rattle.std.proofs.lemmas.List.Elements.{All-nil, All-cons, All-head, All-tail, All-get_or, All-weaker}
use Rattle.std.proofs.lemmas.List.{get_or-map, length-map}
use Rattle.kernel_core.specs.declared.tree.Tree.{Tree}
use Rattle.kernel_core.specs.declared.tree.Node.{Node}
use Rattle.kernel_core.specs.declared.tree.DirEntry.{DirEntry}
use Rattle.kernel_core.specs.ValidTree.{IsValidTree, root, is_dir, entries_of, numbers, times_named, IsNamedRightly, IsReached}
use Rattle.fs_image.specs.declared.refusal.ImageRule.TheVariants as rule
use Rattle.fs_image.specs.declared.refusal.ImageRefusal.{ImageRefusal}
use Rattle.fs_image.specs.Refusal.{refused, first_of}
use Rattle.fs_image.specs.Text.{entry_text, head_text, node_text}
use Rattle.fs_image.specs.Naming.{first_node, is_there, lost_entry, lost_target, is_named_rightly, is_reached, stray_node, naming_failure}
use Rattle.fs_image.proofs.Reaching.{any_true, true_any, and_true, both_true, is_reached-sound, is_reached-complete}

-- Rule 11

there-sound : (nodes : List Node) (number : ℕ) → is_there nodes number ≡ true → Contains (numbers nodes) number
there-sound nodes number e =
    let r = any_true (λ (n : Node). n.number == number) nodes e in
    let is : r.0.number ≡ number = eqb-true r.0.number number r.2 in
    let at : get_or (numbers nodes) r.1.0 number ≡ number = get_or-map (λ (n : Node). n.number) nodes r.1.0 r.0 number r.1.1 ∙ (ap (λ (n : Node). n.number) r.1.2 ∙ is) in
    (r.1.0, omega (arith, r.1.1, length-map nodes (λ (n : Node). n.number)), at)

there-complete : (nodes : List Node) (number : ℕ) → Contains (numbers nodes) number → is_there nodes number ≡ true
there-complete nodes number c = by_numbers nodes number c.0 c.1 c.2
  where
    by_numbers : (nodes : List Node) (number k : ℕ) → k < length (numbers nodes) → get_or (numbers nodes) k number ≡ number → is_there nodes number ≡ true
    by_numbers [] number k below is = absurd (omega (arith, below))
    by_numbers (n ∷ nodes) number zero below is = true_any (λ (m : Node). m.number == number) (n ∷ nodes) n (0, omega arith, refl) (eq-eqb n.number number is)
    by_numbers (n ∷ nodes) number (suc k) below is =
        let r = any_true (λ (m : Node). m.number == number) nodes (by_numbers nodes number k (omega (arith, below)) is) in
        true_any (λ (m : Node). m.number == number) (n ∷ nodes) r.0 (suc r.1.0, omega (arith, r.1.1), r.1.2) r.2

none_first : (a b : Option ImageRefusal) → first_of a b ≡ None → (a ≡ None) × (b ≡ None)
none_first None b e = (refl, e)
none_first (Some refusal) b e = absurd cc

both_none : (a b : Option ImageRefusal) → a ≡ None → b ≡ None → first_of a b ≡ None
both_none a b ea eb = rw ea eb

kept : {A : Type 0} (b : Bool) (a : Option A) (x : A) → cond b a (Some x) ≡ None → (b ≡ true) × (a ≡ None)
kept true a x e = (refl, e)
kept false a x e = absurd cc

keeps : {A : Type 0} (b : Bool) (a : Option A) (x : A) → b ≡ true → a ≡ None → cond b a (Some x) ≡ None
keeps b a x eb ea = rw eb ea

abbrev Known : List Node → DirEntry → Type 0
Known nodes e = Contains (numbers nodes) e.node

entries-sound : (nodes : List Node) (place : ℕ) (entries : List DirEntry) → lost_entry nodes place entries ≡ None → All (Known nodes) entries
unfolding lost_entry
entries-sound nodes place [] e = All-nil (Known nodes)
entries-sound nodes place (entry ∷ entries) e =
    let k = kept (is_there nodes entry.node) (lost_entry nodes (place + length (entry_text entry)) entries) (refused rule.Target place) e in
    All-cons (Known nodes) entry entries (there-sound nodes entry.node k.0) (entries-sound nodes (place + length (entry_text entry)) entries k.1)

entries-complete : (nodes : List Node) (place : ℕ) (entries : List DirEntry) → All (Known nodes) entries → lost_entry nodes place entries ≡ None
unfolding lost_entry
entries-complete nodes place [] all = refl
entries-complete nodes place (entry ∷ entries) all =
    keeps (is_there nodes entry.node) (lost_entry nodes (place + length (entry_text entry)) entries) (refused rule.Target place)
    (there-complete nodes entry.node (All-head (Known nodes) entry entries all)) (entries-complete nodes (place + length (entry_text entry)) entries (All-tail (Known nodes) entry entries all))

abbrev AllKnown : List Node → Node → Type 0
AllKnown nodes n = All (Known nodes) (entries_of n.kind)

targets-sound : (nodes : List Node) (place : ℕ) (left : List Node) → lost_target nodes place left ≡ None → All (AllKnown nodes) left
unfolding lost_target
targets-sound nodes place [] e = All-nil (AllKnown nodes)
targets-sound nodes place (node ∷ left) e =
    let k = none_first (lost_entry nodes (place + (length (head_text node) + 4)) (entries_of node.kind)) (lost_target nodes (place + length (node_text node)) left) e in
    All-cons (AllKnown nodes) node left (entries-sound nodes (place + (length (head_text node) + 4)) (entries_of node.kind) k.0) (targets-sound nodes (place + length (node_text node)) left k.1)

targets-complete : (nodes : List Node) (place : ℕ) (left : List Node) → All (AllKnown nodes) left → lost_target nodes place left ≡ None
unfolding lost_target
targets-complete nodes place [] all = refl
targets-complete nodes place (node ∷ left) all =
    both_none (lost_entry nodes (place + (length (head_text node) + 4)) (entries_of node.kind)) (lost_target nodes (place + length (node_text node)) left)
    (entries-complete nodes (place + (length (head_text node) + 4)) (entries_of node.kind) (All-head (AllKnown nodes) node left all))
    (targets-complete nodes (place + length (node_text node)) left (All-tail (AllKnown nodes) node left all))

-- Rule 12

at_least-true : (n : ℕ) → nat_le 1 n ≡ true → 1 ≤ n
at_least-true zero e = absurd cc
at_least-true (suc n) e = omega arith

true-at_least : (n : ℕ) → 1 ≤ n → nat_le 1 n ≡ true
true-at_least n h = grind (arith, nat_tests)

rightly-sound : (nodes : List Node) (node : Node) → (node.number ≡ root → is_dir node.kind ≡ true) → is_named_rightly (times_named nodes node.number) node ≡ true → IsNamedRightly nodes node
rightly-sound nodes node root_dir e =
    elim (cases_Bool (node.number == root)) as (λ _. IsNamedRightly nodes node) [
      | inl t ↦
          let is : node.number ≡ root = eqb-true _ _ t in
          let none : times_named nodes node.number ≡ 0 = eqb-true _ _ (rw t at e) in
          ((λ _. none), (λ other _. absurd (other is)), (λ no_dir. absurd (let d = root_dir is in cc)))
      | inr f ↦ elim (cases_Bool (is_dir node.kind)) as (λ _. IsNamedRightly nodes node) [
        | inl d ↦
            let once : times_named nodes node.number ≡ 1 = eqb-true _ _ (rw (f, d) at e) in
            ((λ is. absurd (eqb-false _ _ f is)), (λ _ _. once), (λ no_dir. absurd cc))
        | inr d ↦
            let some : 1 ≤ times_named nodes node.number = at_least-true _ (rw (f, d) at e) in
            ((λ is. absurd (eqb-false _ _ f is)), (λ _ dir. absurd cc), (λ _. some))
      ]
    ]

rightly-complete : (nodes : List Node) (node : Node) → IsNamedRightly nodes node → is_named_rightly (times_named nodes node.number) node ≡ true
rightly-complete nodes node h =
    elim (cases_Bool (node.number == root)) as (λ _. is_named_rightly (times_named nodes node.number) node ≡ true) [
      | inl t ↦ rw t (eq-eqb _ _ (h.0 (eqb-true _ _ t)))
      | inr f ↦ elim (cases_Bool (is_dir node.kind)) as (λ _. is_named_rightly (times_named nodes node.number) node ≡ true) [
        | inl d ↦ rw (f, d) (eq-eqb _ _ (h.1 (eqb-false _ _ f) d))
        | inr d ↦ rw (f, d) (true-at_least _ (h.2 d))
      ]
    ]

abbrev InTree : List Node → Node → Type 0
InTree nodes n = IsNamedRightly nodes n × IsReached nodes n.number

strays-sound : (nodes : List Node) (place : ℕ) (left : List Node) → All (λ n. n.number ≡ root → is_dir n.kind ≡ true) left → stray_node nodes place left ≡ None → All (InTree nodes) left
unfolding stray_node
strays-sound nodes place [] root_dir e = All-nil (InTree nodes)
strays-sound nodes place (node ∷ left) root_dir e =
    let k = kept (is_named_rightly (times_named nodes node.number) node && is_reached nodes node.number) (stray_node nodes (place + length (node_text node)) left) (refused rule.Tree place) e in
    let t = and_true (is_named_rightly (times_named nodes node.number) node) (is_reached nodes node.number) k.0 in
    All-cons (InTree nodes) node left (rightly-sound nodes node (All-head (λ (n : Node). n.number ≡ root → is_dir n.kind ≡ true) node left root_dir) t.0, is_reached-sound nodes node.number t.1)
    (strays-sound nodes (place + length (node_text node)) left (All-tail (λ (n : Node). n.number ≡ root → is_dir n.kind ≡ true) node left root_dir) k.1)

strays-complete : (nodes : List Node) (first : Node) (place : ℕ) (left : List Node) → slice_get nodes 0 ≡ Some first → first.number ≡ root → All (InTree nodes) left → stray_node nodes place left ≡ None
unfolding stray_node
strays-complete nodes first place [] e is all = refl
strays-complete nodes first place (node ∷ left) e is all =
    let here = All-head (InTree nodes) node left all in
    keeps (is_named_rightly (times_named nodes node.number) node && is_reached nodes node.number) (stray_node nodes (place + length (node_text node)) left) (refused rule.Tree place)
    (both_true _ _ (rightly-complete nodes node here.0) (is_reached-complete nodes first node.number e is here.1))
    (strays-complete nodes first (place + length (node_text node)) left e is (All-tail (InTree nodes) node left all))

-- what no failure says of a tree
pub record IsNamedWell (tree : Tree) : Type 0 where
  pub targets : All (λ n. All (λ e. Contains (numbers tree.nodes) e.node) (entries_of n.kind)) tree.nodes
  pub named : All (IsNamedRightly tree.nodes) tree.nodes
  pub reached : All (λ n. IsReached tree.nodes n.number) tree.nodes

pub naming-sound : (tree : Tree) → All (λ n. n.number ≡ root → is_dir n.kind ≡ true) tree.nodes → naming_failure tree ≡ None → IsNamedWell tree
unfolding naming_failure
naming-sound tree root_dir e =
    let k = none_first (lost_target tree.nodes first_node tree.nodes) (stray_node tree.nodes first_node tree.nodes) e in
    let all = strays-sound tree.nodes first_node tree.nodes root_dir k.1 in
    record {
      targets = targets-sound tree.nodes first_node tree.nodes k.0;
      named = All-weaker (InTree tree.nodes) (IsNamedRightly tree.nodes) (λ n h. h.0) tree.nodes all;
      reached = All-weaker (InTree tree.nodes) (λ (n : Node). IsReached tree.nodes n.number) (λ n h. h.1) tree.nodes all;
    }

pub naming-complete : (tree : Tree) → IsValidTree tree → naming_failure tree ≡ None
unfolding naming_failure
naming-complete tree valid =
    both_none (lost_target tree.nodes first_node tree.nodes) (stray_node tree.nodes first_node tree.nodes)
    (targets-complete tree.nodes first_node tree.nodes valid.targets)
    (strays-complete tree.nodes valid.begins.0 first_node tree.nodes valid.begins.1 valid.begins.2 (λ k d below. (All-get_or (IsNamedRightly tree.nodes) tree.nodes k d below valid.named, All-get_or (λ (n : Node). IsReached tree.nodes n.number) tree.nodes k d below valid.reached)))

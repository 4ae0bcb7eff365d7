-- The tree of one empty root directory is valid.
use Rattle.std.proofs.Common.{[], ◌∷◌, All, Contains, refl, pos, arith, rules, FitsSigned, lit≤}
use Rattle.std.proofs.lemmas.List.Elements.{All-cons}
use Rattle.std.specs.Int.{w64}
use Rattle.std.specs.List.{IsDistinct}
use Rattle.std.specs.List.Sorted.{IsStrictlySortedBy}
use Rattle.std.specs.Ordering.{nat_cmp}
use Rattle.kernel_core.specs.declared.tree.Node.{Node}
use Rattle.kernel_core.specs.declared.tree.DirEntry.{DirEntry}
use Rattle.kernel_core.specs.ValidTree.{IsValidTree, IsNode, IsEntry, AreEntries, IsNamedRightly, IsReached, entries_of, numbers}
use Rattle.session_files.specs.Inputs.{empty_root, empty_tree}

none : {X : Type 0} (P : X → Type 0) → All P []
none P k d below = absurd (omega arith)

single : {X : Type 0} (P : X → Type 0) (x : X) → P x → All P (x ∷ [])
single P x holds = All-cons P x [] holds (none P)

no_entries : AreEntries []
unfolding IsStrictlySortedBy IsDistinct
no_entries = record { each = none IsEntry; rising = tt; distinct = tt }

now : FitsSigned w64 (pos 0)
now = search rules

root_is_node : IsNode empty_root
root_is_node = record { low = lit≤ tt; high = lit≤ tt; mode = lit≤ tt; mtime = now; kind = no_entries }

one_number : IsStrictlySortedBy nat_cmp (1 ∷ [])
unfolding IsStrictlySortedBy
one_number = (tt, tt)

root_is_named : IsNamedRightly (empty_root ∷ []) empty_root
root_is_named = ((λ is. refl), (λ other. absurd (other refl)), (λ is. absurd cc))

-- each entry of a node names the root
abbrev AreThere : Node → Type 0
AreThere node = All (λ e. Contains (numbers (empty_root ∷ [])) e.node) (entries_of node.kind)

pub empty_tree_valid : IsValidTree empty_tree
empty_tree_valid = record {
  begins = (empty_root, refl, refl, refl);
  count = lit≤ tt;
  rising = one_number;
  each = single IsNode empty_root root_is_node;
  blocks = lit≤ tt;
  entries = lit≤ tt;
  targets = single AreThere empty_root (none (λ (e : DirEntry). Contains (numbers (empty_root ∷ [])) e.node));
  named = single (IsNamedRightly (empty_root ∷ [])) empty_root root_is_named;
  reached = single (λ (n : Node). IsReached (empty_root ∷ []) n.number) empty_root (0, refl);
}

-- Trees that the tests begin with are valid: that of an empty root directory, and those of a root with one file.
use Rattle.std.proofs.Common.{◌≡◌, ◌≤◌, ℤ, sym, subst, ℕ, zero, suc, ◌<◌, List, [], ◌∷◌, All, Contains, refl, pos, arith, rules, FitsSigned, slice_index, lit≤}
use Rattle.std.proofs.lemmas.List.Elements.{All-cons}
use Rattle.std.specs.Int.{w64}
use Rattle.std.specs.List.{IsDistinct}
use Rattle.std.specs.List.Sorted.{IsStrictlySortedBy}
use Rattle.std.specs.Ordering.{nat_cmp}
use Rattle.kernel_core.specs.FileContent.{IsBlock}
use Rattle.kernel_core.specs.declared.tree.Node.{Node}
use Rattle.kernel_core.specs.declared.tree.Block.{Block}
use Rattle.kernel_core.specs.declared.tree.DirEntry.{DirEntry}
use Rattle.kernel_core.specs.declared.tree.Kind.TheVariants.{Dir, File}
use Rattle.kernel_core.specs.ValidTree.{IsValidTree, IsNode, IsName, IsEntry, AreEntries, AreBlocks, IsNamedRightly, IsReached, entries_of, numbers, names_in, times_named}

none : {X : Type 0} (P : X → Type 0) → All P []
none P k d below = absurd (omega arith)

single : {X : Type 0} (P : X → Type 0) (x : X) → P x → All P (x ∷ [])
single P x holds = All-cons P x [] holds (none P)

two : {X : Type 0} (P : X → Type 0) (x y : X) → P x → P y → All P (x ∷ y ∷ [])
two P x y first second = All-cons P x (y ∷ []) first (single P y second)

epoch : FitsSigned w64 (pos 0)
epoch = search rules

one_number : (n : ℕ) → IsStrictlySortedBy nat_cmp (n ∷ [])
unfolding IsStrictlySortedBy
one_number n = (tt, tt)

-- An empty root

abbrev pub empty_root : Node
empty_root = record { number = 1; mode = 493; mtime = pos 0; kind = Dir [] }

no_entries : AreEntries []
unfolding IsStrictlySortedBy IsDistinct
no_entries = record { each = none IsEntry; rising = tt; distinct = tt }

empty_root_is_node : IsNode empty_root
empty_root_is_node = record { low = lit≤ tt; high = lit≤ tt; mode = lit≤ tt; mtime = epoch; kind = no_entries }

empty_root_is_named : IsNamedRightly (empty_root ∷ []) empty_root
empty_root_is_named = ((λ is. refl), (λ other. absurd (other refl)), (λ is. absurd cc))

-- each entry of a node names one of the nodes
abbrev AreThere : List Node → Node → Type 0
AreThere nodes node = All (λ e. Contains (numbers nodes) e.node) (entries_of node.kind)

pub empty_tree_valid : IsValidTree (record { nodes = empty_root ∷ [] })
empty_tree_valid = record {
  begins = (empty_root, refl, refl, refl);
  count = lit≤ tt;
  rising = one_number 1;
  each = single IsNode empty_root empty_root_is_node;
  blocks = lit≤ tt;
  entries = lit≤ tt;
  targets = single (AreThere (empty_root ∷ [])) empty_root (none (λ (e : DirEntry). Contains (numbers (empty_root ∷ [])) e.node));
  named = single (IsNamedRightly (empty_root ∷ [])) empty_root empty_root_is_named;
  reached = single (λ (n : Node). IsReached (empty_root ∷ []) n.number) empty_root (0, refl);
}

-- A root with one file `f`, of this cookie, number and time

abbrev pub entry : ℕ → ℕ → DirEntry
entry cookie number = record { cookie = cookie; name = 102 ∷ []; node = number }

abbrev pub full_root : ℕ → ℕ → Node
full_root cookie number = record { number = 1; mode = 493; mtime = pos 0; kind = Dir (entry cookie number ∷ []) }

abbrev pub file : ℕ → ℤ → Node
file number mtime = record { number = number; mode = 420; mtime = mtime; kind = File 0 [] }

abbrev pub two_nodes : ℕ → ℕ → ℤ → List Node
two_nodes cookie number mtime = full_root cookie number ∷ file number mtime ∷ []

letter : (place : ℕ) → slice_index (102 ∷ []) place < 256
letter zero = omega arith
letter (suc place) = search rules

is_name : IsName (102 ∷ [])
is_name = record { are_bytes = letter; some = lit≤ tt; short = lit≤ tt; no_dots = refl; plain = refl }

no_blocks : AreBlocks 0 []
unfolding IsStrictlySortedBy
no_blocks = record { each = none (λ (b : Block). IsBlock 0 b.index b.bytes); rising = tt }

module _ (cookie number : ℕ) (mtime : ℤ) (cookie_low : 3 ≤ cookie) (cookie_high : cookie ≤ 2147483647) (number_low : 2 ≤ number)
    (number_high : number ≤ 9223372036854775807) (fits : FitsSigned w64 mtime) where
  is_entry : IsEntry (entry cookie number)
  is_entry = record { low = cookie_low; high = cookie_high; name = is_name }

  one_entry : AreEntries (entry cookie number ∷ [])
  unfolding IsStrictlySortedBy IsDistinct
  one_entry = record { each = single IsEntry (entry cookie number) is_entry; rising = one_number cookie; distinct = (tt, tt) }

  full_root_is_node : IsNode (full_root cookie number)
  full_root_is_node = record { low = lit≤ tt; high = lit≤ tt; mode = lit≤ tt; mtime = epoch; kind = one_entry }

  positive : 1 ≤ number
  positive = omega arith

  file_is_node : IsNode (file number mtime)
  file_is_node = record { low = positive; high = number_high; mode = lit≤ tt; mtime = fits; kind = (lit≤ tt, no_blocks) }

  rising : IsStrictlySortedBy nat_cmp (1 ∷ number ∷ [])
  unfolding IsStrictlySortedBy
  rising = search rules

  named_once : times_named (two_nodes cookie number mtime) number ≡ 1
  named_once = search rules

  root_not_named : times_named (two_nodes cookie number mtime) 1 ≡ 0
  root_not_named = search rules

  named_in_root : 1 ≤ names_in (entry cookie number ∷ []) number
  named_in_root = search rules

  full_root_is_named : IsNamedRightly (two_nodes cookie number mtime) (full_root cookie number)
  full_root_is_named = ((λ is. root_not_named), (λ other. absurd (other refl)), (λ is. absurd cc))

  file_is_named : IsNamedRightly (two_nodes cookie number mtime) (file number mtime)
  file_is_named = ((λ is. absurd (omega arith)), (λ other is. absurd cc), (λ is. subst (λ n. 1 ≤ n) (sym named_once) (lit≤ tt)))

  pub tree_of_file_valid : IsValidTree (record { nodes = two_nodes cookie number mtime })
  tree_of_file_valid = record {
    begins = (full_root cookie number, refl, refl, refl);
    count = lit≤ tt;
    rising = rising;
    each = two IsNode (full_root cookie number) (file number mtime) full_root_is_node file_is_node;
    blocks = lit≤ tt;
    entries = lit≤ tt;
    targets = two (AreThere (two_nodes cookie number mtime)) (full_root cookie number) (file number mtime)
        (single (λ (e : DirEntry). Contains (numbers (two_nodes cookie number mtime)) e.node) (entry cookie number) (1, lit≤ tt, refl))
        (none (λ (e : DirEntry). Contains (numbers (two_nodes cookie number mtime)) e.node));
    named = two (IsNamedRightly (two_nodes cookie number mtime)) (full_root cookie number) (file number mtime) full_root_is_named file_is_named;
    reached = two (λ (n : Node). IsReached (two_nodes cookie number mtime) n.number) (full_root cookie number) (file number mtime)
        (0, refl) (1, (full_root cookie number, (0, lit≤ tt, refl), named_in_root, refl));
  }

-- The numbers of a tree's nodes are taken from the pool.
use Rattle.std.proofs.Common.{◌≡◌, ◌≤◌, ◌<◌, ◌+◌, ◌⊎◌, ℕ, Bool, true, false, cond, eqb, List, [], ◌∷◌, ◌++◌, map, length, take, get_or, set, Option, Some, None, is_some, refl, sym, ap, ◌∙◌, arith, inl, inr}
use Rattle.std.specs.Prelude.{option_map, find, ◌||◌}
use Rattle.std.specs.List.{list_any}
use Rattle.std.specs.FinMap.{from_entries}
use Rattle.std.proofs.lemmas.Bool.{cases_eq, eq-eqb, ne_eqb}
use Rattle.std.proofs.lemmas.List.{get_or-set_same, get_or-set_other, get_or-replicate}
use Rattle.kernel_core.specs.LoadedTree.{loaded_inode}
use Rattle.kernel_core.specs.declared.tree.Node.{Node}
use Rattle.number_pool.specs.Places.{is_taken_at, none_taken}
use Rattle.file_system_laws.proofs.KeyedLists.{element, get-keyed}
use Rattle.native_vfs.specs.inside.Loading.{loaded_entry}
use Rattle.native_vfs.specs.inside.Stored.{AgreesPool}
use Rattle.native_vfs.proofs.trees.LoadedLists.{take-next}

-- whether one of the nodes has the number
abbrev pub has_number : List Node → ℕ → Bool
has_number nodes q = list_any (λ n. eqb n.number q) nodes

-- the numbers of these nodes are taken, which are greater by 2 than their places
pub record AreTaken (nodes : List Node) (taken : List Bool) : Type 0 where
  pub whole : length taken ≡ 65536
  pub agrees : (place : ℕ) → place < 65536 → is_taken_at taken place ≡ has_number nodes (place + 2)

pub taken-none : (taken : List Bool) → taken ≡ none_taken 65536 → length taken ≡ 65536 → AreTaken [] taken
unfolding none_taken
taken-none taken none whole = record {
  whole = whole;
  agrees = λ place inside. ap (λ t. is_taken_at t place) none ∙ get_or-replicate 65536 place false false inside;
}

any-push : (nodes : List Node) (node : Node) (q : ℕ) → has_number (nodes ++ node ∷ []) q ≡ (has_number nodes q || eqb node.number q)
any-push [] node q = or_nothing (eqb node.number q)
  where
    or_nothing : (b : Bool) → (b || false) ≡ b
    or_nothing true = refl
    or_nothing false = refl
any-push (n ∷ nodes) node q = ap (λ b. eqb n.number q || b) (any-push nodes node q) ∙ assoc (eqb n.number q)
  where
    assoc : (b : Bool) → (b || (has_number nodes q || eqb node.number q)) ≡ ((b || has_number nodes q) || eqb node.number q)
    assoc true = refl
    assoc false = refl

or_false : (b : Bool) → (b || false) ≡ b
or_false true = refl
or_false false = refl

or_true : (b : Bool) → (b || true) ≡ true
or_true true = refl
or_true false = refl

module _ (all : List Node) (i : ℕ) (node : Node) (short : i < length all) (is : node ≡ get_or all i node) (taken : List Bool) (are : AreTaken (take i all) taken) where
  any_next : (q : ℕ) → has_number (take (i + 1) all) q ≡ (has_number (take i all) q || eqb node.number q)
  any_next q = ap (λ ns. has_number ns q) (take-next all i node short is) ∙ any-push (take i all) node q

  -- a number that the pool has is taken
  pub taken-next : (more : List Bool) (place : ℕ) → place < 65536 → node.number ≡ place + 2 → more ≡ set taken place true → length more ≡ 65536 → AreTaken (take (i + 1) all) more
  taken-next more place inside number sets whole = record {
    whole = whole;
    agrees = λ p within. elim (cases_eq p place) [
      | inl here ↦
          ap (λ t. is_taken_at t p) sets ∙ ap (λ q. get_or (set taken place true) q false) here
          ∙ get_or-set_same taken place true false (let w = are.whole in omega (arith, inside, w))
          ∙ sym (any_next (p + 2) ∙ ap (λ b. has_number (take i all) (p + 2) || b) (eq-eqb node.number (p + 2) (omega (arith, number, here))) ∙ or_true (has_number (take i all) (p + 2)))
      | inr apart ↦
          ap (λ t. is_taken_at t p) sets ∙ get_or-set_other taken place p true false apart ∙ are.agrees p within
          ∙ sym (any_next (p + 2) ∙ ap (λ b. has_number (take i all) (p + 2) || b) (ne_eqb node.number (p + 2) (λ same. apart (omega (arith, number, same)))) ∙ or_false (has_number (take i all) (p + 2)))
    ];
  }

  -- another number has no place
  pub taken-other : (node.number < 2) ⊎ (65538 ≤ node.number) → AreTaken (take (i + 1) all) taken
  taken-other off = record {
    whole = are.whole;
    agrees = λ p within.
        are.agrees p within
        ∙ sym (any_next (p + 2) ∙ ap (λ b. has_number (take i all) (p + 2) || b) (ne_eqb node.number (p + 2) (λ same. elim off [ inl low ↦ absurd (omega (arith, low, same)) | inr high ↦ absurd (omega (arith, high, same, within)) ])) ∙ or_false (has_number (take i all) (p + 2)));
  }

-- when the numbers of all nodes are taken, the pool agrees with the nodes
pub taken-all : (all : List Node) (taken : List Bool) → AreTaken all taken → AgreesPool (from_entries (map (loaded_entry all) all)) taken
taken-all all taken are place inside =
    are.agrees place inside ∙ found all (place + 2) ∙ sym (in_option (element (λ n. n.number) (loaded_inode all) all (place + 2)))
    ∙ sym (ap is_some (get-keyed (λ n. n.number) (loaded_inode all) all (place + 2)))
  where
    in_option : (o : Option Node) → is_some (option_map (loaded_inode all) o) ≡ is_some o
    in_option None = refl
    in_option (Some n) = refl

    found : (ns : List Node) (q : ℕ) → has_number ns q ≡ is_some (find (λ n. eqb n.number q) ns)
    found [] q = refl
    found (n ∷ ns) q =
        elim (eqb n.number q) as (λ b. (b || has_number ns q) ≡ is_some (cond b (Some n) (find (λ m. eqb m.number q) ns))) [
          | true ↦ refl
          | false ↦ found ns q
        ]

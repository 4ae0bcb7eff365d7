-- The entries as a tree has them: `plain` of each, before and after each change.
use Rattle.std.proofs.Common.{◌≡◌, ℕ, Bool, true, false, cond, not, List, [], ◌∷◌, ◌++◌, map, filter, nat_lt, Some, refl, sym, ap}
use Rattle.std.specs.List.{find}
use Rattle.std.specs.Option.{option_map}
use Rattle.std.specs.Str.{bytes_eq}
use Rattle.std.proofs.lemmas.List.{map-append}
use Rattle.kernel_core.specs.declared.tree.DirEntry.{DirEntry}
use Rattle.directory_names.specs.declared.entry.NodeRef.{NodeRef}
use Rattle.directory_names.specs.Names.{NamedNode, Names, plain, node_of, find_name, entry_after, with_entry, without}

module _ (test : DirEntry → Bool) where
  -- a look-up by what a tree's entry has
  pub find-plain : (entries : List NamedNode) → find test (map plain entries) ≡ option_map plain (find (λ e. test (plain e)) entries)
  find-plain [] = refl
  find-plain (e ∷ entries) =
      elim (test (plain e)) as (λ b. cond b (Some (plain e)) (find test (map plain entries)) ≡ option_map plain (cond b (Some e) (find (λ f. test (plain f)) entries))) [
        | true ↦ refl
        | false ↦ find-plain entries
      ]

  -- a filter by what a tree's entry has
  pub filter-plain : (entries : List NamedNode) → map plain (filter (λ e. test (plain e)) entries) ≡ filter test (map plain entries)
  filter-plain [] = refl
  filter-plain (e ∷ entries) =
      elim (test (plain e)) as (λ b. map plain (cond b (e ∷ filter (λ f. test (plain f)) entries) (filter (λ f. test (plain f)) entries)) ≡ cond b (plain e ∷ filter test (map plain entries)) (filter test (map plain entries))) [
        | true ↦ ap (λ rest. plain e ∷ rest) (filter-plain entries)
        | false ↦ filter-plain entries
      ]

-- the number that a name stands for is that of the tree's entry with the name
pub number-find_name : (entries : List NamedNode) (name : List ℕ)
    → option_map (λ n. n.number) (find_name entries name) ≡ option_map (λ e. e.node) (find (λ e. bytes_eq name e.name) (map plain entries))
number-find_name [] name = refl
number-find_name (e ∷ entries) name =
    elim (bytes_eq name e.name) as (λ b. option_map (λ n. n.number) (option_map node_of (cond b (Some e) (find (λ f. bytes_eq name f.name) entries))) ≡ option_map (λ f. f.node) (cond b (Some (plain e)) (find (λ f. bytes_eq name f.name) (map plain entries)))) [
      | true ↦ refl
      | false ↦ number-find_name entries name
    ]

-- the entry after a cookie is the tree's first entry above it
pub plain-entry_after : (entries : List NamedNode) (cookie : ℕ)
    → option_map plain (entry_after entries cookie) ≡ find (λ e. nat_lt cookie e.cookie) (map plain entries)
plain-entry_after entries cookie = sym (find-plain (λ e. nat_lt cookie e.cookie) entries)

-- a new entry stands last in the tree's entries too
pub plain-with_entry : (names : Names) (cookie : ℕ) (name : List ℕ) (node : NodeRef)
    → map plain (with_entry names cookie name node).entries
    ≡ map plain names.entries ++ record { cookie = cookie; name = name; node = node.number } ∷ []
plain-with_entry names cookie name node = map-append plain names.entries _

-- a removal takes the name out of the tree's entries too
pub plain-without : (names : Names) (name : List ℕ)
    → map plain (without names name).entries ≡ filter (λ e. not (bytes_eq name e.name)) (map plain names.entries)
plain-without names name = filter-plain (λ e. not (bytes_eq name e.name)) names.entries

-- What a place says of the directory in which its name stands.
use Rattle.std.proofs.Common.{◌≡◌, ◌≢◌, ◌≤◌, ◌⊎◌, ℕ, Bool, true, false, cond, eqb, List, [], ◌∷◌, length, Option, Some, None, is_some, option_map, refl, sym, ap, ◌∙◌, arith, inl, inr, codes, bytes_eq}
use Rattle.std.proofs.lemmas.Bool.{cases_eq, true≢false, or_parts}
use Rattle.std.proofs.lemmas.Option.{same_Some, none-some}
use Rattle.std.specs.FinMap.{get}
use Rattle.kernel_core.specs.Nodes.{Nodes, Listing, listing_at, is_directory, entries_in, entry_named}
use Rattle.kernel_core.specs.PathWalk.{Place, named, Agrees}
use Rattle.kernel_core.specs.ValidTree.{IsName, names_in, root, is_dots}
use Rattle.kernel_core.specs.NameCalls.{is_empty_list, is_no_entry}
use Rattle.kernel_core.specs.FileSystem.{name_count, parent_of, parent_at, IsLiveEntry}
use Rattle.kernel_core.specs.declared.tree.DirEntry.{DirEntry}
use Rattle.file_system_laws.proofs.Entries.{among, sum-others, All-among}
use Rattle.file_system_laws.proofs.Tallies.{names_at, own, IsTree, directory_found, listing_found, is_listed, parent_says, names_le}
use Rattle.file_system_laws.proofs.Loose.{own_parent, one_if-same}

-- a name of a directory names a node by an entry
pub record Stands (nodes : Nodes) (directory : ℕ) (name : List ℕ) (node : ℕ) : Type 0 where
  pub listing : Listing
  pub live : listing_at nodes directory ≡ Some listing
  pub entry : DirEntry
  pub named : entry_named listing.entries name ≡ Some entry
  pub is : entry.node ≡ node

-- By names

module _ (directory : ℕ) (listing : Listing) where
  abbrev Found : List ℕ → ℕ → Type 0
  Found name node = (entry : DirEntry) × (entry_named listing.entries name ≡ Some entry) × (entry.node ≡ node)

  mapped : (name : List ℕ) (node : ℕ) → option_map (λ e. e.node) (entry_named listing.entries name) ≡ Some node → Found name node
  mapped name node = go (entry_named listing.entries name) refl
    where
      go : (o : Option DirEntry) → entry_named listing.entries name ≡ o → option_map (λ e. e.node) o ≡ Some node → Found name node
      go None at e = absurd (none-some node e)
      go (Some entry) at e = (entry, at, same_Some entry.node node e)

  unmapped : (name : List ℕ) → option_map (λ e. e.node) (entry_named listing.entries name) ≡ None → entry_named listing.entries name ≡ None
  unmapped name = go (entry_named listing.entries name) refl
    where
      go : (o : Option DirEntry) → entry_named listing.entries name ≡ o → option_map (λ e. e.node) o ≡ None → entry_named listing.entries name ≡ None
      go None at e = at
      go (Some entry) at e = absurd (none-some entry.node (sym e))

  -- what a name that is no name of the directory itself or its parent names
  plainly : (name : List ℕ) → is_no_entry name ≡ false → named directory listing name ≡ option_map (λ e. e.node) (entry_named listing.entries name)
  plainly [] proper = absurd (true≢false proper)
  plainly (b ∷ bs) proper =
      let dots = or_parts (bytes_eq (b ∷ bs) (codes ".")) (bytes_eq (b ∷ bs) (codes "..")) proper in
      ap (λ x. cond x (Some directory) (cond (bytes_eq (b ∷ bs) (codes "..")) listing.parent (option_map (λ e. e.node) (entry_named listing.entries (b ∷ bs))))) dots.0
      ∙ ap (λ x. cond x listing.parent (option_map (λ e. e.node) (entry_named listing.entries (b ∷ bs)))) dots.1

  -- any name names an entry's node, the directory itself or its parent
  pub by_name : (name : List ℕ) (node : ℕ) → named directory listing name ≡ Some node → Found name node ⊎ ((directory ≡ node) ⊎ (listing.parent ≡ Some node))
  by_name [] node is = inr (inl (same_Some directory node is))
  by_name (b ∷ bs) node is = go (bytes_eq (b ∷ bs) (codes ".")) (bytes_eq (b ∷ bs) (codes "..")) is
    where
      go : (x y : Bool) → cond x (Some directory) (cond y listing.parent (option_map (λ e. e.node) (entry_named listing.entries (b ∷ bs)))) ≡ Some node
          → Found (b ∷ bs) node ⊎ ((directory ≡ node) ⊎ (listing.parent ≡ Some node))
      go true y e = inr (inl (same_Some directory node e))
      go false true e = inr (inr e)
      go false false e = inl (mapped (b ∷ bs) node e)

  pub entry_of_name : (name : List ℕ) (node : ℕ) → is_no_entry name ≡ false → named directory listing name ≡ Some node → Found name node
  entry_of_name name node proper is = mapped name node (sym (plainly name proper) ∙ is)

  pub no_entry_of_name : (name : List ℕ) → is_no_entry name ≡ false → named directory listing name ≡ None → entry_named listing.entries name ≡ None
  no_entry_of_name name proper is = unmapped name (sym (plainly name proper) ∙ is)

-- a place's name may be an entry's where it is not empty and no dots
pub is_name_of : (nodes : Nodes) (place : Place) → Agrees nodes place → is_no_entry place.name ≡ false → IsName place.name
is_name_of nodes place agrees proper =
    let parts = or_parts (is_empty_list place.name) (is_dots place.name) proper in
    record { are_bytes = agrees.are_bytes; some = full place.name parts.0; short = agrees.short; no_dots = parts.1; plain = agrees.plain }
  where
    full : (name : List ℕ) → is_empty_list name ≡ false → 1 ≤ length name
    full [] e = absurd (true≢false e)
    full (b ∷ bs) e = omega arith

pub stands_of : (nodes : Nodes) (place : Place) (node : ℕ) → Agrees nodes place → place.node ≡ Some node → is_no_entry place.name ≡ false → Stands nodes place.directory place.name node
stands_of nodes place node agrees at proper =
    let e = entry_of_name place.directory agrees.listing place.name node proper (sym agrees.names ∙ at) in
    record { listing = agrees.listing; live = agrees.live; entry = e.0; named = e.1; is = e.2 }

-- In a file system

module _ (nodes : Nodes) (tree : IsTree (own nodes) nodes) where
  -- a directory's parent is a directory
  pub parent_is_directory : (m parent : ℕ) → parent_at nodes m ≡ Some parent → is_directory nodes parent ≡ true
  parent_is_directory m parent up =
      let says = parent_says nodes m (own nodes) parent tree up in
      elim (cases_eq m root) [
        | inl here ↦ ap (is_directory nodes) (says.0 here).0 ∙ ap is_some (listing_found nodes root root tree.top).1
        | inr other ↦ listed (listing_at nodes parent) (says.1 other).1
      ]
    where
      listed : (o : Option Listing) → names_in (entries_in o) m ≡ 1 → is_some o ≡ true
      listed None e = absurd (let z : names_in [] m ≡ 0 = refl in omega (arith, e, z))
      listed (Some l) e = refl

  -- the name of a file or a link is an entry's
  pub stands_of_file : (place : Place) (node : ℕ) → Agrees nodes place → place.node ≡ Some node → is_directory nodes node ≡ false → Stands nodes place.directory place.name node
  stands_of_file place node agrees at plain =
      elim (by_name place.directory agrees.listing place.name node (sym agrees.names ∙ at)) [
        | inl e ↦ record { listing = agrees.listing; live = agrees.live; entry = e.0; named = e.1; is = e.2 }
        | inr other ↦ elim other [
          | inl itself ↦ absurd (true≢false (sym (ap is_some agrees.live) ∙ ap (is_directory nodes) itself ∙ plain))
          | inr parent ↦ absurd (true≢false (sym (parent_is_directory place.directory node (ap parent_of agrees.live ∙ parent)) ∙ plain))
        ]
      ]

  module _ (directory : ℕ) (name : List ℕ) (node : ℕ) (s : Stands nodes directory name node) where
    -- the entry is one that a directory may have
    pub entry_lives : IsLiveEntry nodes directory s.listing.greatest s.entry
    entry_lives =
        let d = directory_found nodes directory s.listing s.live in
        let h = is_listed nodes directory (own nodes) d.0 s.listing (tree.each directory d.0 d.1) d.2 in
        All-among (among name s.listing.entries s.entry h.entries.distinct s.named) (IsLiveEntry nodes directory s.listing.greatest) h.each

    pub named_once : 1 ≤ names_at nodes directory node
    named_once =
        let d = directory_found nodes directory s.listing s.live in
        let h = is_listed nodes directory (own nodes) d.0 s.listing (tree.each directory d.0 d.1) d.2 in
        let sum = sum-others (among name s.listing.entries s.entry h.entries.distinct s.named) (λ e. cond (eqb e.node node) 1 0) in
        let one = one_if-same s.entry.node node s.is in
        let at = ap (λ o. names_in (entries_in o) node) s.live in
        omega (arith, sum, one, at)

    pub node_lives : is_some (get nodes node) ≡ true
    node_lives = ap (λ n. is_some (get nodes n)) (sym s.is) ∙ entry_lives.live

    pub child_of : is_directory nodes node ≡ true → parent_at nodes node ≡ Some directory
    child_of is = ap (parent_at nodes) (sym s.is) ∙ entry_lives.child (ap (is_directory nodes) s.is ∙ is)

    -- the root has no name
    pub not_root : node ≢ root
    not_root here =
        let says = parent_says nodes root (own nodes) root tree tree.top in
        let z = (says.0 refl).1 in
        let le = names_le nodes directory node in
        let one = named_once in
        let at = ap (name_count nodes) here in
        absurd (omega (arith, z, le, one, at))

    -- no directory has itself for an entry
    pub not_itself : node ≢ directory
    not_itself here =
        let is : is_directory nodes node ≡ true = ap (is_directory nodes) here ∙ ap is_some s.live in
        let up : parent_at nodes node ≡ Some node = child_of is ∙ ap Some (sym here) in
        let chain = tree.below node node up in
        not_root (own_parent nodes node chain.0 up chain.1)

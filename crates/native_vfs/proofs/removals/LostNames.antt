-- A node that lost its last name: nothing names it, and no directory has it as its parent.
use Rattle.std.proofs.Common.{◌≡◌, ◌≢◌, ◌<◌, ◌-◌, ℕ, true, false, eqb, ℤ, List, [], Option, Some, None, is_some, refl, sym, ap, subst, ◌∙◌, arith, inl, inr}
use Rattle.std.proofs.lemmas.Bool.{cases_eq, eqb-true, and_parts, true≢false}
use Rattle.std.proofs.lemmas.Option.{same_Some, none-some}
use Rattle.std.specs.FinMap.{get}
use Rattle.kernel_core.specs.Nodes.{Nodes, Inode, NodeContent, File, Directory, Link, Listing, listing_at, listing_in, in_inode, is_directory, entries_in, entry_named, update, settled, is_unused}
use Rattle.kernel_core.specs.Totals.{content_entries, live_entries}
use Rattle.kernel_core.specs.ValidTree.{names_in, root}
use Rattle.kernel_core.specs.NameCalls.{take_name, relisted, without_entry, one_link_less, unlinked, orphaned, has_entries}
use Rattle.kernel_core.specs.FileSystem.{name_count, IsTime, parent_of, parent_at}
use Rattle.file_system_laws.proofs.Lookups.{get-update_found, get-update_other, update-update}
use Rattle.file_system_laws.proofs.Counts.{live_entries-settled}
use Rattle.file_system_laws.proofs.Entries.{one_if}
use Rattle.file_system_laws.proofs.Tallies.{own, HasParentIn, IsContentIn, IsTree, directory_found, listing_exists, is_listed}
use Rattle.file_system_laws.proofs.Loose.{lacking, taking, one_if-same}
use Rattle.file_system_laws.proofs.Places.{Stands, node_lives, not_root, not_itself}
use Rattle.file_system_laws.proofs.Removing.{unneeded, no_child, no_entries, taken_as, unlinked_tree, orphaned_tree}
use Rattle.native_vfs.specs.inside.Steps.{IsUnnamed, links_in}

-- a node that lives
pub some-node : (nodes : Nodes) (number : ℕ) → is_some (get nodes number) ≡ true → (inode : Inode) × (get nodes number ≡ Some inode)
some-node nodes number = go (get nodes number) refl
  where
    go : (o : Option Inode) → get nodes number ≡ o → is_some o ≡ true → (inode : Inode) × (get nodes number ≡ Some inode)
    go None found e = absurd (true≢false (sym e))
    go (Some inode) found e = (inode, found)

-- A node that may be without links, where all else is as in a file system

module _ (nodes : Nodes) (node : ℕ) (tree : IsTree (unneeded nodes node) nodes) where
  -- what is known of such a node
  record IsIdle (content : NodeContent) : Type 0 where
    entries : content_entries content ≡ []
    listed : entries_in (listing_in content) ≡ []
    parent : parent_of (listing_in content) ≡ None
    count : name_count nodes node ≡ 0

  idle_content : (links : ℕ) (c : NodeContent) → links ≡ 0 → IsContentIn (unneeded nodes node) nodes node links c → IsIdle c
  idle_content links (File content) zero h = record { entries = refl; listed = refl; parent = refl; count = sym h.1 ∙ zero }
  idle_content links (Directory l) zero h = go l.parent refl h.parent
    where
      go : (o : Option ℕ) → l.parent ≡ o → HasParentIn (unneeded nodes node) nodes node links l o → IsIdle (Directory l)
      go None up is = record { entries = is.0; listed = is.0; parent = up; count = is.2 }
      go (Some p) up is = absurd (let a = is.0 in omega (arith, a, zero))
  idle_content links (Link target) zero h = record { entries = refl; listed = refl; parent = refl; count = sym h.1 ∙ zero }

  idle : (inode : Inode) → get nodes node ≡ Some inode → is_unused (Some inode) ≡ true → IsIdle inode.content
  idle inode found unused =
      idle_content inode.links inode.content (eqb-true inode.links 0 (and_parts (eqb inode.links 0) (eqb inode.holds 0) unused).0) (tree.each node inode found).content

  -- such a node has no entry
  pub unused-entries : (inode : Inode) → get nodes node ≡ Some inode → is_unused (Some inode) ≡ true → content_entries inode.content ≡ []
  unused-entries inode found unused = (idle inode found unused).entries

  pub unused-unnamed : is_unused (get nodes node) ≡ true → IsUnnamed nodes node
  unused-unnamed unused = go (get nodes node) refl unused
    where
      parents : (inode : Inode) → get nodes node ≡ Some inode → IsIdle inode.content → (directory : ℕ) → parent_at nodes directory ≢ Some node
      parents inode found is directory up =
          let none : parent_at nodes node ≡ None = ap (λ o. parent_of (in_inode listing_in o)) found ∙ is.parent in
          elim (cases_eq directory node) [
            | inl here ↦ none-some node (sym none ∙ ap (parent_at nodes) (sym here) ∙ up)
            | inr other ↦
                no_child (unneeded nodes node) nodes node tree
                (λ m apart. ap (λ o. names_in (entries_in (in_inode listing_in o)) m) found ∙ ap (λ es. names_in es m) is.listed)
                (λ same. none-some root (sym none ∙ ap (parent_at nodes) same ∙ tree.top)) directory node other up refl
          ]

      go : (o : Option Inode) → get nodes node ≡ o → is_unused o ≡ true → IsUnnamed nodes node
      go None found e = absurd (true≢false (sym e))
      go (Some inode) found e = let is = idle inode found e in record { names = is.count; parents = parents inode found is }

-- A name is taken

module _ (nodes : Nodes) (tree : IsTree (own nodes) nodes) (directory : ℕ) (name : List ℕ) (node : ℕ) (s : Stands nodes directory name node) (now : ℤ) (time : IsTime now) where
  abbrev taken : Nodes
  taken = take_name nodes directory name now

  -- the directory in which it stood has links
  pub directory-links : (inode : Inode) → get nodes directory ≡ Some inode → 0 < inode.links
  directory-links inode found =
      let d = directory_found nodes directory s.listing s.live in
      let h = is_listed nodes directory (own nodes) d.0 s.listing (tree.each directory d.0 d.1) d.2 in
      let same = same_Some d.0 inode (sym d.1 ∙ found) in
      subst (λ (i : Inode). 0 < i.links) same (go (d.0).links s.listing.parent h.parent)
    where
      go : (links : ℕ) (o : Option ℕ) → HasParentIn (own nodes) nodes directory links s.listing o → 0 < links
      go links None h = absurd (none-some s.entry (ap (λ es. entry_named es name) (sym h.0) ∙ s.named))
      go links (Some p) h = let a = h.0 in omega (arith, a)

  pub taken-links : 0 < links_in (get taken directory)
  taken-links =
      let d = directory_found nodes directory s.listing s.live in
      subst (λ o. 0 < links_in o) (sym (get-update_found nodes directory (relisted now (without_entry name)) d.0 d.1)) (directory-links d.0 d.1)

  node_taken : get taken node ≡ get nodes node
  node_taken = get-update_other nodes directory (relisted now (without_entry name)) node (not_itself nodes tree directory name node s)

  -- A file or link

  module _ (plain : is_directory nodes node ≡ false) where
    lacking_taken : IsTree (lacking taken node) taken
    lacking_taken = let one = ap one_if plain in taken_as nodes tree directory name node s now time (λ x. x) (λ x some. omega (arith, one))

    live : (inode : Inode) × (get nodes node ≡ Some inode)
    live = some-node nodes node (node_lives nodes tree directory name node s)

    no_listing : listing_in (live.0).content ≡ None
    no_listing = go (listing_in (live.0).content) (sym (ap (λ o. is_some (in_inode listing_in o)) live.1) ∙ plain)
      where
        go : (o : Option Listing) → is_some o ≡ false → o ≡ None
        go None e = refl
        go (Some l) e = absurd (true≢false e)

    pub file-links : 0 < links_in (get taken node)
    file-links =
        subst (λ o. 0 < links_in o) (sym (node_taken ∙ live.1))
        (go (live.0).links (live.0).content no_listing (lacking_taken.each node live.0 (node_taken ∙ live.1)).content)
      where
        go : (links : ℕ) (c : NodeContent) → listing_in c ≡ None → IsContentIn (lacking taken node) taken node links c → 0 < links
        go links (File content) none h = let a = h.1 in let b = one_if-same node node refl in omega (arith, a, b)
        go links (Directory l) none h = absurd (none-some l (sym none))
        go links (Link target) none h = let a = h.1 in let b = one_if-same node node refl in omega (arith, a, b)

    abbrev unlinked_stage : Nodes
    unlinked_stage = update taken node (unlinked now)

    pub file-stage : IsTree (unneeded unlinked_stage node) unlinked_stage
    file-stage = unlinked_tree taken node lacking_taken live.0 (node_taken ∙ live.1) no_listing now time

    pub file-entries : live_entries (settled unlinked_stage node) ≡ live_entries unlinked_stage
    file-entries = live_entries-settled unlinked_stage node (unused-entries unlinked_stage node file-stage)

  -- An empty directory

  module _ (kind : is_directory nodes node ≡ true) (none : has_entries nodes node ≡ false) where
    abbrev removed_stage : Nodes
    removed_stage = update (update taken directory one_link_less) node orphaned

    pub directory-stage : IsTree (unneeded removed_stage node) removed_stage
    directory-stage =
        let l = listing_exists nodes node kind in
        let parted = update nodes directory (taking now name (λ x. x - 1)) in
        let one = ap one_if kind in
        let is : IsTree (lacking parted node) parted = taken_as nodes tree directory name node s now time (λ x. x - 1) (λ x some. omega (arith, one)) in
        let at : listing_at parted node ≡ Some l.0 =
        ap (in_inode listing_in) (get-update_other nodes directory (taking now name (λ x. x - 1)) node (not_itself nodes tree directory name node s)) ∙ l.1 in
        subst (λ n. IsTree (unneeded (update n node orphaned) node) (update n node orphaned))
        (sym (update-update nodes directory (relisted now (without_entry name)) one_link_less))
        (orphaned_tree parted node is l.0 at (no_entries nodes node l.0 l.1 none) (not_root nodes tree directory name node s))

    pub directory-entries : live_entries (settled removed_stage node) ≡ live_entries removed_stage
    directory-entries = live_entries-settled removed_stage node (unused-entries removed_stage node directory-stage)

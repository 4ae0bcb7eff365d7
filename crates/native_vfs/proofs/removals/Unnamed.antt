-- A node of a file system that has no link: no entry names it, and no directory has it as its parent.
use Rattle.std.proofs.Common.{◌≡◌, ◌≢◌, ℕ, [], Option, Some, None, refl, sym, ap, subst, ◌∙◌, arith, inl, inr}
use Rattle.std.proofs.lemmas.Bool.{cases_eq}
use Rattle.std.specs.FinMap.{get}
use Rattle.kernel_core.specs.FileSystem.{IsFileSystem, IsLiveContent, HasParent, name_count, parent_at, parent_of}
use Rattle.kernel_core.specs.Nodes.{Nodes, Inode, NodeContent, File, Directory, Link, Listing, listing_at, listing_in, in_inode, entries_in, update}
use Rattle.kernel_core.specs.Totals.{content_entries}
use Rattle.kernel_core.specs.ValidTree.{root, names_in}
use Rattle.file_system_laws.proofs.Carried.{entries-live}
use Rattle.file_system_laws.proofs.Counts.{name_count-kept, listing_at-kept}
use Rattle.file_system_laws.proofs.Lookups.{parent_found, directory_found}
use Rattle.native_vfs.specs.inside.Steps.{IsUnnamed}

-- nothing names a node, and it has no entry and no parent
pub record IsLoose (nodes : Nodes) (n : ℕ) (content : NodeContent) : Type 0 where
  pub names : name_count nodes n ≡ 0
  pub entries : content_entries content ≡ []
  pub parent : parent_of (listing_in content) ≡ None

module _ (nodes : Nodes) (n : ℕ) (i : Inode) (is : IsFileSystem nodes) (found : get nodes n ≡ Some i) (unlinked : i.links ≡ 0) where
  pub unlinked-loose : IsLoose nodes n i.content
  unlinked-loose = go i.content ((is.each n i found).content)
    where
      parented : (l : Listing) (p : Option ℕ) → l.parent ≡ p → HasParent nodes n i.links l p → IsLoose nodes n (Directory l)
      parented l None same has = record { names = has.2; entries = has.0; parent = same }
      parented l (Some parent) same has = absurd (let h = has.0 in omega (arith, h, unlinked))

      go : (c : NodeContent) → IsLiveContent nodes n i.links c → IsLoose nodes n c
      go (File content) live = record { names = sym live.1 ∙ unlinked; entries = refl; parent = refl }
      go (Directory listing) live = parented listing listing.parent refl live.parent
      go (Link target) live = record { names = sym live.1 ∙ unlinked; entries = refl; parent = refl }

  no_parent : parent_at nodes n ≡ None
  no_parent = ap (λ o. parent_of (in_inode listing_in o)) found ∙ unlinked-loose.parent

  not_root : n ≢ root
  not_root top = let e : None ≡ Some root = sym no_parent ∙ ap (parent_at nodes) top ∙ is.top in cc

  no_entries : entries_in (listing_at nodes n) ≡ []
  no_entries = ap (λ o. entries_in (in_inode listing_in o)) found ∙ by i.content unlinked-loose.entries
    where
      by : (c : NodeContent) → content_entries c ≡ [] → entries_in (listing_in c) ≡ []
      by (File content) none = refl
      by (Directory listing) none = none
      by (Link target) none = refl

  -- a directory whose parent is the node would be named in it
  no_child : (q : ℕ) → parent_at nodes q ≢ Some n
  no_child q above =
      let p = parent_found nodes q n above in
      let d = directory_found nodes q p.0 p.1 in
      let l = entries-live nodes q (d.0).links (d.0).content ((is.each q d.0 d.1).content) p.0 d.2 in
      let has : HasParent nodes q (d.0).links p.0 (Some n) = subst (HasParent nodes q (d.0).links p.0) p.2 l.parent in
      elim (cases_eq q root) [
        | inl top ↦ not_root (has.1 top).0
        | inr lower ↦
            let one = (has.2 lower).1 in
            let none : names_in (entries_in (listing_at nodes n)) q ≡ 0 = ap (λ es. names_in es q) no_entries in
            absurd (omega (arith, one, none))
      ]

  pub unlinked-unnamed : IsUnnamed nodes n
  unlinked-unnamed = record { names = unlinked-loose.names; parents = no_child }

-- a change that leaves each node's entries and parent
module _ (nodes : Nodes) (n : ℕ) (f : Inode → Inode) (same : (i : Inode) → get nodes n ≡ Some i → (f i).content ≡ i.content) where
  parent_kept : (q : ℕ) → parent_at (update nodes n f) q ≡ parent_at nodes q
  parent_kept q = ap parent_of (listing_at-kept nodes n f same q)

  pub unnamed-after : (m : ℕ) → IsUnnamed nodes m → IsUnnamed (update nodes n f) m
  unnamed-after m is = record { names = name_count-kept nodes n f same m ∙ is.names; parents = λ q above. is.parents q (sym (parent_kept q) ∙ above) }

  pub unnamed-before : (m : ℕ) → IsUnnamed (update nodes n f) m → IsUnnamed nodes m
  unnamed-before m is = record { names = sym (name_count-kept nodes n f same m) ∙ is.names; parents = λ q above. is.parents q (parent_kept q ∙ above) }

-- Names, entries and blocks of all nodes, after a change; and what a directory whose entries change is found to be.
use Rattle.std.proofs.Common.{◌≡◌, ◌+◌, ℕ, true, cond, eqb, List, [], Option, Some, None, is_some, refl, sym, ap, ◌∙◌, arith, inl, inr}
use Rattle.std.specs.Prelude.{ℤ, length, option_map}
use Rattle.std.proofs.lemmas.Bool.{cases_eq}
use Rattle.std.proofs.lemmas.List.{length_push}
use Rattle.std.specs.FinMap.{get, insert}
use Rattle.kernel_core.specs.Nodes.{Nodes, Inode, NodeContent, File, Directory, Link, Listing, listing_at, listing_in, in_inode, is_directory, entry_named, update, settled, is_unused}
use Rattle.kernel_core.specs.Totals.{total, content_entries, content_blocks, live_entries, live_blocks}
use Rattle.kernel_core.specs.NameCalls.{with_entry, without_entry, in_directory, relisted, add_name, take_name}
use Rattle.kernel_core.specs.FileSystem.{name_count, parent_at, parent_of}
use Rattle.kernel_core.specs.ValidTree.{AreEntries, names_in}
use Rattle.kernel_core.specs.declared.tree.DirEntry.{DirEntry}
use Rattle.file_system_laws.proofs.Lookups.{get-update_same, get-update_other, get-update_found, part_kept, directory_found}
use Rattle.file_system_laws.proofs.Totals.{total-update, total-insert_new, total-kept, total-settled}
use Rattle.file_system_laws.proofs.Entries.{names_in-push, sum-others, length-others, among}

-- A change that keeps the content of a node

module _ (nodes : Nodes) (n : ℕ) (f : Inode → Inode) (same : (i : Inode) → get nodes n ≡ Some i → (f i).content ≡ i.content) where
  pub name_count-kept : (m : ℕ) → name_count (update nodes n f) m ≡ name_count nodes m
  name_count-kept m = total-kept (λ i. names_in (content_entries i.content) m) nodes n f (λ i found. ap (λ c. names_in (content_entries c) m) (same i found))

  pub live_entries-kept : live_entries (update nodes n f) ≡ live_entries nodes
  live_entries-kept = total-kept (λ i. length (content_entries i.content)) nodes n f (λ i found. ap (λ c. length (content_entries c)) (same i found))

  pub live_blocks-kept : live_blocks (update nodes n f) ≡ live_blocks nodes
  live_blocks-kept = total-kept (λ i. content_blocks i.content) nodes n f (λ i found. ap content_blocks (same i found))

  pub listing_at-kept : (m : ℕ) → listing_at (update nodes n f) m ≡ listing_at nodes m
  listing_at-kept m = part_kept nodes n f listing_in (λ i found. ap listing_in (same i found)) m

-- A directory whose entries change

module _ (nodes : Nodes) (directory : ℕ) (now : ℤ) (change : Listing → Listing) where
  pub listing_at-relisted : (listing : Listing) → listing_at nodes directory ≡ Some listing → listing_at (update nodes directory (relisted now change)) directory ≡ Some (change listing)
  listing_at-relisted listing live =
      let d = directory_found nodes directory listing live in
      ap (in_inode listing_in) (get-update_found nodes directory (relisted now change) d.0 d.1) ∙ ap (λ c. listing_in (in_directory change c)) d.2

  pub listing_at-relisted_other : (q : ℕ) → (q ≡ directory → ⊥) → listing_at (update nodes directory (relisted now change)) q ≡ listing_at nodes q
  listing_at-relisted_other q apart = ap (in_inode listing_in) (get-update_other nodes directory (relisted now change) q apart)

  map_in : (c : NodeContent) → listing_in (in_directory change c) ≡ option_map change (listing_in c)
  map_in (File content) = refl
  map_in (Directory listing) = refl
  map_in (Link target) = refl

  map_inode : (o : Option Inode) → in_inode listing_in (option_map (relisted now change) o) ≡ option_map change (in_inode listing_in o)
  map_inode None = refl
  map_inode (Some i) = map_in i.content

  -- a view that the change keeps
  view_kept : {A : Type 0} (view : Option Listing → A) → ((o : Option Listing) → view (option_map change o) ≡ view o) → (q : ℕ)
      → view (listing_at (update nodes directory (relisted now change)) q) ≡ view (listing_at nodes q)
  view_kept view same q = elim (cases_eq q directory) [
    | inl here ↦
        ap (λ k. view (listing_at (update nodes directory (relisted now change)) k)) here
        ∙ ap (λ o. view (in_inode listing_in o)) (get-update_same nodes directory (relisted now change))
        ∙ ap view (map_inode (get nodes directory)) ∙ same (listing_at nodes directory)
        ∙ ap (λ k. view (listing_at nodes k)) (sym here)
    | inr apart ↦ ap view (listing_at-relisted_other q apart)
  ]

  pub is_directory-relisted : (q : ℕ) → is_directory (update nodes directory (relisted now change)) q ≡ is_directory nodes q
  is_directory-relisted q = view_kept is_some mapped q
    where
      mapped : (o : Option Listing) → is_some (option_map change o) ≡ is_some o
      mapped None = refl
      mapped (Some l) = refl

  pub parent_at-relisted : ((l : Listing) → (change l).parent ≡ l.parent) → (q : ℕ) → parent_at (update nodes directory (relisted now change)) q ≡ parent_at nodes q
  parent_at-relisted same q = view_kept parent_of mapped q
    where
      mapped : (o : Option Listing) → parent_of (option_map change o) ≡ parent_of o
      mapped None = refl
      mapped (Some l) = same l

  -- an amount of the entries
  pub total-relisted : (amount : Inode → ℕ) (count : List DirEntry → ℕ) (listing : Listing) → listing_at nodes directory ≡ Some listing
      → ((i : Inode) (l : Listing) → i.content ≡ Directory l → amount i ≡ count l.entries)
      → total amount (update nodes directory (relisted now change)) + count listing.entries ≡ total amount nodes + count ((change listing).entries)
  total-relisted amount count listing live is =
      let d = directory_found nodes directory listing live in
      let a = total-update amount nodes directory (relisted now change) d.0 d.1 in
      let b = is d.0 listing d.2 in
      let c = is (relisted now change d.0) (change listing) (ap (in_directory change) d.2) in
      omega (arith, a, b, c)

  pub live_blocks-relisted : live_blocks (update nodes directory (relisted now change)) ≡ live_blocks nodes
  live_blocks-relisted = total-kept (λ i. content_blocks i.content) nodes directory (relisted now change) (λ i found. same i.content)
    where
      same : (c : NodeContent) → content_blocks (in_directory change c) ≡ content_blocks c
      same (File content) = refl
      same (Directory listing) = refl
      same (Link target) = refl

-- A name that is added

module _ (nodes : Nodes) (directory : ℕ) (name : List ℕ) (node : ℕ) (now : ℤ) (listing : Listing) (live : listing_at nodes directory ≡ Some listing) where
  pub name_count-add_name : (m : ℕ) → name_count (add_name nodes directory name node now) m ≡ name_count nodes m + cond (eqb node m) 1 0
  name_count-add_name m =
      let new : DirEntry = record { cookie = listing.greatest + 1; name = name; node = node } in
      let a = total-relisted nodes directory now (with_entry name node) (λ i. names_in (content_entries i.content) m) (λ es. names_in es m) listing live
      (λ i l e. ap (λ c. names_in (content_entries c) m) e) in
      let b = names_in-push listing.entries new m in
      omega (arith, a, b)

  pub live_entries-add_name : live_entries (add_name nodes directory name node now) ≡ live_entries nodes + 1
  live_entries-add_name =
      let new : DirEntry = record { cookie = listing.greatest + 1; name = name; node = node } in
      let a = total-relisted nodes directory now (with_entry name node) (λ i. length (content_entries i.content)) length listing live
      (λ i l e. ap (λ c. length (content_entries c)) e) in
      let b = length_push listing.entries new in
      omega (arith, a, b)

-- A name that is taken away

module _ (nodes : Nodes) (directory : ℕ) (name : List ℕ) (now : ℤ) (listing : Listing) (entry : DirEntry) (live : listing_at nodes directory ≡ Some listing)
    (are : AreEntries listing.entries) (found : entry_named listing.entries name ≡ Some entry) where
  pub name_count-take_name : (m : ℕ) → name_count (take_name nodes directory name now) m + cond (eqb entry.node m) 1 0 ≡ name_count nodes m
  name_count-take_name m =
      let a = total-relisted nodes directory now (without_entry name) (λ i. names_in (content_entries i.content) m) (λ es. names_in es m) listing live
      (λ i l e. ap (λ c. names_in (content_entries c) m) e) in
      let b = sum-others (among name listing.entries entry are.distinct found) (λ e. cond (eqb e.node m) 1 0) in
      omega (arith, a, b)

  pub live_entries-take_name : live_entries (take_name nodes directory name now) + 1 ≡ live_entries nodes
  live_entries-take_name =
      let a = total-relisted nodes directory now (without_entry name) (λ i. length (content_entries i.content)) length listing live
      (λ i l e. ap (λ c. length (content_entries c)) e) in
      let b = length-others name listing.entries entry (among name listing.entries entry are.distinct found) in
      omega (arith, a, b)

-- A node that is new, and one that goes

module _ (nodes : Nodes) (n : ℕ) (i : Inode) (none : get nodes n ≡ None) where
  pub name_count-insert : content_entries i.content ≡ [] → (m : ℕ) → name_count (insert nodes n i) m ≡ name_count nodes m
  name_count-insert empty m =
      let a = total-insert_new (λ i. names_in (content_entries i.content) m) nodes n i none in
      let b : names_in (content_entries i.content) m ≡ 0 = ap (λ es. names_in es m) empty in
      omega (arith, a, b)

  pub live_entries-insert : content_entries i.content ≡ [] → live_entries (insert nodes n i) ≡ live_entries nodes
  live_entries-insert empty =
      let a = total-insert_new (λ i. length (content_entries i.content)) nodes n i none in
      let b : length (content_entries i.content) ≡ 0 = ap length empty in
      omega (arith, a, b)

  pub live_blocks-insert : content_blocks i.content ≡ 0 → live_blocks (insert nodes n i) ≡ live_blocks nodes
  live_blocks-insert zero = let a = total-insert_new (λ i. content_blocks i.content) nodes n i none in omega (arith, a, zero)

-- a node that goes has no entries
module _ (nodes : Nodes) (n : ℕ) (empty : (i : Inode) → get nodes n ≡ Some i → is_unused (Some i) ≡ true → content_entries i.content ≡ []) where
  pub name_count-settled : (m : ℕ) → name_count (settled nodes n) m ≡ name_count nodes m
  name_count-settled m =
      total-settled (λ i. names_in (content_entries i.content) m) nodes n (λ i found unused. ap (λ es. names_in es m) (empty i found unused))

  pub live_entries-settled : live_entries (settled nodes n) ≡ live_entries nodes
  live_entries-settled = total-settled (λ i. length (content_entries i.content)) nodes n (λ i found unused. ap length (empty i found unused))

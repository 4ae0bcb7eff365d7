-- A file system while a call is under way: its names, needs and limits are counted by a tally, which at the begin and the end of
-- the call is that of the nodes themselves. And what a change of one node leaves of it.
use Rattle.std.proofs.Common.{◌≡◌, ◌≢◌, ◌≤◌, ◌<◌, ◌+◌, ◌^◌, ◌⊎◌, ℕ, true, List, [], length, All, get_or, Option, Some, None, is_some, refl, sym, ap, subst, ◌∙◌, arith, inl, inr}
use Rattle.std.proofs.lemmas.Bool.{cases_eq, true≢false}
use Rattle.std.proofs.lemmas.Option.{same_Some, none-some}
use Rattle.std.specs.FinMap.{get, len}
use Rattle.kernel_core.specs.FileContent.{IsContent}
use Rattle.kernel_core.specs.Nodes.{Nodes, Inode, NodeContent, File, Directory, Link, Listing, listing_at, listing_in, in_inode, is_directory, entries_in, update}
use Rattle.kernel_core.specs.Totals.{content_entries, content_blocks, live_entries, live_blocks}
use Rattle.kernel_core.specs.ValidTree.{AreEntries, IsTarget, names_in, root, node_limit, block_limit, entry_limit, greatest_number, greatest_cookie, greatest_mode}
use Rattle.kernel_core.specs.FileSystem.{name_count, subdirectories, IsTime, HasParent, parent_of, parent_at, IsLiveEntry, IsLiveContent, IsLive, IsBelowRoot, IsFileSystem}
use Rattle.kernel_core.specs.declared.tree.DirEntry.{DirEntry}
use Rattle.file_system_laws.proofs.Lookups.{get-update_found, get-update_other, is_some-update, len-update}
use Rattle.file_system_laws.proofs.Totals.{total-update, total-at_least}
use Rattle.file_system_laws.proofs.Reach.{below_same}
use Rattle.file_system_laws.proofs.Entries.{count_same}

-- How names are counted: how many entries name a node; how many of a directory do; how many links and holds a node has at least;
-- and how many entries may still be added, whatever the others are.
pub record Tally : Type 0 where
  pub count : ℕ → ℕ
  pub within : ℕ → ℕ → ℕ
  pub need : ℕ → ℕ
  pub spare : ℕ

-- how many entries of a directory name a node
abbrev pub names_at : Nodes → ℕ → ℕ → ℕ
names_at nodes parent number = names_in (entries_in (listing_at nodes parent)) number

-- as the nodes themselves have them
abbrev pub own : Nodes → Tally
own nodes = record { count = name_count nodes; within = names_at nodes; need = λ _. 1; spare = 0 }

-- what a node is whatever the others are
pub record IsSound (number : ℕ) (inode : Inode) : Type 0 where
  pub low : 1 ≤ number
  pub high : number ≤ greatest_number
  pub mode : inode.mode ≤ greatest_mode
  pub access : IsTime inode.access
  pub modified : IsTime inode.modified
  pub changed : IsTime inode.changed
  pub held : inode.holds < 2 ^ 32

-- the fields of `IsListing`, `IsLive` and `IsFileSystem`, by a tally

abbrev pub HasParentIn : Tally → Nodes → ℕ → ℕ → Listing → Option ℕ → Type 0
HasParentIn w nodes number links listing None = (listing.entries ≡ []) × (links ≡ 0) × (w.count number ≡ 0) × (number ≢ root)
HasParentIn w nodes number links listing (Some parent) =
    (links ≡ 2 + subdirectories nodes listing.entries)
    × (number ≡ root → (parent ≡ root) × (w.count number ≡ 0))
    × (number ≢ root → (w.count number ≡ 1) × (w.within parent number ≡ 1))

pub record IsListingIn (w : Tally) (nodes : Nodes) (number links : ℕ) (listing : Listing) : Type 0 where
  pub low : 2 ≤ listing.greatest
  pub high : listing.greatest ≤ greatest_cookie
  pub entries : AreEntries listing.entries
  pub each : All (IsLiveEntry nodes number listing.greatest) listing.entries
  pub parent : HasParentIn w nodes number links listing listing.parent

abbrev pub IsContentIn : Tally → Nodes → ℕ → ℕ → NodeContent → Type 0
IsContentIn w nodes number links (File content) = IsContent content × (links ≡ w.count number)
IsContentIn w nodes number links (Directory listing) = IsListingIn w nodes number links listing
IsContentIn w nodes number links (Link target) = IsTarget target × (links ≡ w.count number)

pub record IsLiveIn (w : Tally) (nodes : Nodes) (number : ℕ) (inode : Inode) : Type 0 where
  pub sound : IsSound number inode
  pub used : w.need number ≤ inode.links + inode.holds
  pub content : IsContentIn w nodes number inode.links inode.content

pub record IsTree (w : Tally) (nodes : Nodes) : Type 0 where
  pub top : parent_at nodes root ≡ Some root
  pub each : (number : ℕ) (inode : Inode) → get nodes number ≡ Some inode → IsLiveIn w nodes number inode
  pub below : (number parent : ℕ) → parent_at nodes number ≡ Some parent → IsBelowRoot nodes number
  pub few_nodes : len nodes ≤ node_limit
  pub few_blocks : live_blocks nodes ≤ block_limit
  pub few_entries : live_entries nodes + w.spare ≤ entry_limit

-- Between a file system and a tree with its own tally

module _ (nodes : Nodes) (number links : ℕ) where
  parent_opened : (listing : Listing) (o : Option ℕ) → HasParent nodes number links listing o → HasParentIn (own nodes) nodes number links listing o
  parent_opened listing None h = h
  parent_opened listing (Some parent) h = h

  parent_closed : (listing : Listing) (o : Option ℕ) → HasParentIn (own nodes) nodes number links listing o → HasParent nodes number links listing o
  parent_closed listing None h = h
  parent_closed listing (Some parent) h = h

  content_opened : (content : NodeContent) → IsLiveContent nodes number links content → IsContentIn (own nodes) nodes number links content
  content_opened (File content) h = h
  content_opened (Directory listing) h = record { low = h.low; high = h.high; entries = h.entries; each = h.each; parent = parent_opened listing listing.parent h.parent }
  content_opened (Link target) h = h

  content_closed : (content : NodeContent) → IsContentIn (own nodes) nodes number links content → IsLiveContent nodes number links content
  content_closed (File content) h = h
  content_closed (Directory listing) h = record { low = h.low; high = h.high; entries = h.entries; each = h.each; parent = parent_closed listing listing.parent h.parent }
  content_closed (Link target) h = h

pub sound_of : (nodes : Nodes) (number : ℕ) (inode : Inode) → IsLive nodes number inode → IsSound number inode
sound_of nodes number inode h = record { low = h.low; high = h.high; mode = h.mode; access = h.access; modified = h.modified; changed = h.changed; held = h.held }

pub opened : (nodes : Nodes) → IsFileSystem nodes → IsTree (own nodes) nodes
opened nodes fs = record {
  top = fs.top;
  each = λ number inode found. let h = fs.each number inode found in record {
    sound = sound_of nodes number inode h;
    used = h.used;
    content = content_opened nodes number inode.links inode.content h.content;
  };
  below = fs.below;
  few_nodes = fs.few_nodes;
  few_blocks = fs.few_blocks;
  few_entries = (let few : live_entries nodes ≤ entry_limit = fs.few_entries in omega arith);
}

pub closed : (nodes : Nodes) → IsTree (own nodes) nodes → IsFileSystem nodes
closed nodes tree = record {
  top = tree.top;
  each = λ number inode found. let h = tree.each number inode found in record {
    low = h.sound.low;
    high = h.sound.high;
    mode = h.sound.mode;
    access = h.sound.access;
    modified = h.sound.modified;
    changed = h.sound.changed;
    used = h.used;
    held = h.sound.held;
    content = content_closed nodes number inode.links inode.content h.content;
  };
  below = tree.below;
  few_nodes = tree.few_nodes;
  few_blocks = tree.few_blocks;
  few_entries = (let few : live_entries nodes + 0 ≤ entry_limit = tree.few_entries in omega arith);
}

-- What is found

module _ (nodes : Nodes) (number : ℕ) where
  pub directory_found : (listing : Listing) → listing_at nodes number ≡ Some listing → (inode : Inode) × (get nodes number ≡ Some inode) × (inode.content ≡ Directory listing)
  directory_found listing is = go (get nodes number) refl is
    where
      content : (c : NodeContent) → listing_in c ≡ Some listing → c ≡ Directory listing
      content (File c) e = absurd (none-some listing e)
      content (Directory l) e = ap Directory (same_Some l listing e)
      content (Link c) e = absurd (none-some listing e)

      go : (o : Option Inode) → get nodes number ≡ o → in_inode listing_in o ≡ Some listing → (inode : Inode) × (get nodes number ≡ Some inode) × (inode.content ≡ Directory listing)
      go None found e = absurd (none-some listing e)
      go (Some i) found e = (i, found, content i.content e)

  pub listing_found : (parent : ℕ) → parent_at nodes number ≡ Some parent → (listing : Listing) × (listing_at nodes number ≡ Some listing) × (listing.parent ≡ Some parent)
  listing_found parent up = go (listing_at nodes number) refl up
    where
      go : (o : Option Listing) → listing_at nodes number ≡ o → parent_of o ≡ Some parent → (listing : Listing) × (listing_at nodes number ≡ Some listing) × (listing.parent ≡ Some parent)
      go None found e = absurd (none-some parent e)
      go (Some l) found e = (l, found, e)

  pub listing_exists : is_directory nodes number ≡ true → (listing : Listing) × (listing_at nodes number ≡ Some listing)
  listing_exists is = go (listing_at nodes number) refl is
    where
      go : (o : Option Listing) → listing_at nodes number ≡ o → is_some o ≡ true → (listing : Listing) × (listing_at nodes number ≡ Some listing)
      go None found e = absurd (true≢false (sym e))
      go (Some l) found e = (l, found)

  pub is_listed : (w : Tally) (inode : Inode) (listing : Listing) → IsLiveIn w nodes number inode → inode.content ≡ Directory listing → IsListingIn w nodes number inode.links listing
  is_listed w inode listing live is = subst (λ c. IsContentIn w nodes number inode.links c) is live.content

  -- what a tree says of a directory with a parent
  pub parent_says : (w : Tally) (parent : ℕ) → IsTree w nodes → parent_at nodes number ≡ Some parent
      → (number ≡ root → (parent ≡ root) × (w.count number ≡ 0)) × (number ≢ root → (w.count number ≡ 1) × (w.within parent number ≡ 1))
  parent_says w parent tree up =
      let l = listing_found parent up in
      let d = directory_found l.0 l.1 in
      let h = is_listed w d.0 l.0 (tree.each number d.0 d.1) d.2 in
      let p : HasParentIn w nodes number d.0.links l.0 (Some parent) = subst (λ o. HasParentIn w nodes number d.0.links l.0 o) l.2 h.parent in
      (p.1, p.2)

-- no more entries of one directory name a node than of all
pub names_le : (nodes : Nodes) (parent number : ℕ) → names_at nodes parent number ≤ name_count nodes number
names_le nodes parent number = go (get nodes parent) refl
  where
    in_content : (c : NodeContent) → names_in (entries_in (listing_in c)) number ≡ names_in (content_entries c) number
    in_content (File c) = refl
    in_content (Directory l) = refl
    in_content (Link c) = refl

    go : (o : Option Inode) → get nodes parent ≡ o → names_in (entries_in (in_inode listing_in o)) number ≤ name_count nodes number
    go None found = omega arith
    go (Some i) found =
        let le = total-at_least (λ i. names_in (content_entries i.content) number) nodes parent i found in
        let is = in_content i.content in
        omega (arith, le, is)

-- A node that stays as it is, while others change

module _ (w v : Tally) (nodes changed : Nodes) where
  -- its names are counted as before
  pub record IsAlike (number : ℕ) : Type 0 where
    pub count : v.count number ≡ w.count number
    pub within : (parent : ℕ) → parent_at nodes number ≡ Some parent → v.within parent number ≡ w.within parent number
    pub need : v.need number ≤ w.need number

  -- a node that an entry names is as before
  pub record IsSameNode (number : ℕ) : Type 0 where
    pub live : is_some (get changed number) ≡ is_some (get nodes number)
    pub kind : is_directory changed number ≡ is_directory nodes number
    pub parent : parent_at changed number ≡ parent_at nodes number

  pub entry_carried : (directory greatest : ℕ) (e : DirEntry) → IsSameNode e.node → IsLiveEntry nodes directory greatest e → IsLiveEntry changed directory greatest e
  entry_carried directory greatest e same h = record {
    past = h.past;
    live = same.live ∙ h.live;
    child = λ is. same.parent ∙ h.child (sym same.kind ∙ is);
  }

  pub subdirectories_carried : (entries : List DirEntry) → All (λ e. IsSameNode e.node) entries → subdirectories changed entries ≡ subdirectories nodes entries
  subdirectories_carried entries same = count_same (λ e. is_directory changed e.node) (λ e. is_directory nodes e.node) entries (λ k d lt. (same k d lt).kind)

  module _ (number : ℕ) (alike : IsAlike number) where
    pub parent_carried : (links : ℕ) (listing : Listing) (o : Option ℕ) → parent_at nodes number ≡ o → All (λ e. IsSameNode e.node) listing.entries
        → HasParentIn w nodes number links listing o → HasParentIn v changed number links listing o
    parent_carried links listing None up same h = (h.0, h.1, alike.count ∙ h.2, h.3)
    parent_carried links listing (Some parent) up same h = (
      h.0 ∙ ap (λ n. 2 + n) (sym (subdirectories_carried listing.entries same)),
      (λ is. ((h.1 is).0, alike.count ∙ (h.1 is).1)),
      (λ other. (alike.count ∙ (h.2 other).0, alike.within parent up ∙ (h.2 other).1)),
    )

    pub content_carried : (links : ℕ) (content : NodeContent) → parent_at nodes number ≡ parent_of (listing_in content) → All (λ e. IsSameNode e.node) (content_entries content)
        → IsContentIn w nodes number links content → IsContentIn v changed number links content
    content_carried links (File content) up same h = (h.0, h.1 ∙ sym alike.count)
    content_carried links (Directory listing) up same h = record {
      low = h.low;
      high = h.high;
      entries = h.entries;
      each = λ k d lt. entry_carried number listing.greatest (get_or listing.entries k d) (same k d lt) (h.each k d lt);
      parent = parent_carried links listing listing.parent up same h.parent;
    }
    content_carried links (Link target) up same h = (h.0, h.1 ∙ sym alike.count)

    pub carried : (inode : Inode) → get nodes number ≡ Some inode → All (λ e. IsSameNode e.node) (content_entries inode.content) → IsLiveIn w nodes number inode → IsLiveIn v changed number inode
    carried inode found same h = record {
      sound = h.sound;
      used = (let a = h.used in let b = alike.need in omega (arith, a, b));
      content = content_carried inode.links inode.content (ap (λ o. parent_of (in_inode listing_in o)) found) same h.content;
    }

-- A change of one node

module _ (w v : Tally) (nodes : Nodes) (n : ℕ) (f : Inode → Inode) (i : Inode) (found : get nodes n ≡ Some i) where
  abbrev after : Nodes
  after = update nodes n f

  pub kind_after : is_some (listing_in (f i).content) ≡ is_some (listing_in i.content) → (m : ℕ) → is_directory after m ≡ is_directory nodes m
  kind_after kind m = elim (cases_eq m n) [
    | inl here ↦
        ap (is_directory after) here ∙ ap (λ o. is_some (in_inode listing_in o)) (get-update_found nodes n f i found) ∙ kind
        ∙ sym (ap (λ o. is_some (in_inode listing_in o)) found) ∙ sym (ap (is_directory nodes) here)
    | inr other ↦ ap (λ o. is_some (in_inode listing_in o)) (get-update_other nodes n f m other)
  ]

  pub parent_after_other : (m : ℕ) → m ≢ n → parent_at after m ≡ parent_at nodes m
  parent_after_other m other = ap (λ o. parent_of (in_inode listing_in o)) (get-update_other nodes n f m other)

  pub parent_after : parent_of (listing_in (f i).content) ≡ parent_of (listing_in i.content) → (m : ℕ) → parent_at after m ≡ parent_at nodes m
  parent_after same m = elim (cases_eq m n) [
    | inl here ↦
        ap (parent_at after) here ∙ ap (λ o. parent_of (in_inode listing_in o)) (get-update_found nodes n f i found) ∙ same
        ∙ sym (ap (λ o. parent_of (in_inode listing_in o)) found) ∙ sym (ap (parent_at nodes) here)
    | inr other ↦ parent_after_other m other
  ]

  -- The nodes after a change of one that keeps its kind, given what the node itself is after it.
  pub changed_one : is_some (listing_in (f i).content) ≡ is_some (listing_in i.content)
      → ((m : ℕ) → m ≢ n → IsAlike w v nodes after m)
      → ((m : ℕ) (inode : Inode) → m ≢ n → get nodes m ≡ Some inode → All (λ e. IsSameNode w v nodes after e.node) (content_entries inode.content))
      → IsLiveIn v after n (f i)
      → content_blocks (f i).content ≤ content_blocks i.content
      → length (content_entries (f i).content) + v.spare ≤ length (content_entries i.content) + w.spare
      → parent_at after root ≡ Some root
      → ((m parent : ℕ) → parent_at after m ≡ Some parent → IsBelowRoot after m)
      → IsTree w nodes → IsTree v after
  changed_one kind alike same live blocks entries top below tree = record {
    top = top;
    each = λ m inode at. each m inode at (cases_eq m n);
    below = below;
    few_nodes = (let a = tree.few_nodes in let b = len-update nodes n f in omega (arith, a, b));
    few_blocks = (let a = tree.few_blocks in let b = total-update (λ i. content_blocks i.content) nodes n f i found in omega (arith, a, b, blocks));
    few_entries = (let a = tree.few_entries in let b = total-update (λ i. length (content_entries i.content)) nodes n f i found in omega (arith, a, b, entries));
  }
    where
      each : (m : ℕ) (inode : Inode) → get after m ≡ Some inode → (m ≡ n) ⊎ (m ≡ n → ⊥) → IsLiveIn v after m inode
      each m inode at (inl here) =
          let is : f i ≡ inode = same_Some (f i) inode (sym (get-update_found nodes n f i found) ∙ ap (get after) (sym here) ∙ at) in
          subst (λ k. IsLiveIn v after k inode) (sym here) (subst (λ x. IsLiveIn v after n x) is live)
      each m inode at (inr other) =
          let at' : get nodes m ≡ Some inode = sym (get-update_other nodes n f m other) ∙ at in
          carried w v nodes after m (alike m other) inode at' (same m inode other at') (tree.each m inode at')

  pub same_node : is_some (listing_in (f i).content) ≡ is_some (listing_in i.content) → parent_of (listing_in (f i).content) ≡ parent_of (listing_in i.content)
      → (m : ℕ) → IsSameNode w v nodes after m
  same_node kind parent m = record { live = is_some-update nodes n f m; kind = kind_after kind m; parent = parent_after parent m }

  -- one that keeps the kind and the parent
  pub changed_within : is_some (listing_in (f i).content) ≡ is_some (listing_in i.content)
      → parent_of (listing_in (f i).content) ≡ parent_of (listing_in i.content)
      → ((m : ℕ) → m ≢ n → IsAlike w v nodes after m)
      → IsLiveIn v after n (f i)
      → content_blocks (f i).content ≤ content_blocks i.content
      → length (content_entries (f i).content) + v.spare ≤ length (content_entries i.content) + w.spare
      → IsTree w nodes → IsTree v after
  changed_within kind parent alike live blocks entries tree =
      changed_one kind alike (λ m inode other at k d lt. same_node kind parent (get_or (content_entries inode.content) k d).node) live blocks entries
      (parent_after parent root ∙ tree.top)
      (λ m up at. let below = tree.below m up (sym (parent_after parent m) ∙ at) in (below.0, below_same nodes after (parent_after parent) below.0 m below.1))
      tree

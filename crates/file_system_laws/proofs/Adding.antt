-- A name is added for a node that lives and is counted as if it had the name: the nodes then are a file system.
use Rattle.std.proofs.Common.{◌≡◌, ◌≢◌, ◌≤◌, ◌<◌, ◌+◌, ℕ, suc, Bool, true, false, cond, eqb, List, [], ◌∷◌, ◌++◌, Option, Some, None, is_some, refl, sym, ap, subst, ◌∙◌, arith, inl, inr}
use Rattle.std.specs.Prelude.{slice_index, ℤ, length, codes, option_map}
use Rattle.std.specs.List.{list_any}
use Rattle.std.specs.Str.{bytes_eq}
use Rattle.std.proofs.lemmas.Bool.{cases_eq, ne_eqb, eq-eqb, or_from}
use Rattle.std.proofs.lemmas.List.{length_push}
use Rattle.std.proofs.lemmas.List.Elements.{All-push, All-weaker}
use Rattle.std.proofs.lemmas.List.Sums.{sum_by_push}
use Rattle.std.specs.FinMap.{get, len}
use Rattle.kernel_core.specs.Nodes.{Nodes, Inode, Directory, Listing, listing_at, listing_in, in_inode, is_directory, entries_in, entry_named, update}
use Rattle.kernel_core.specs.Totals.{content_entries, content_blocks, live_entries, live_blocks}
use Rattle.kernel_core.specs.NameCalls.{with_entry, in_directory, relisted, add_name}
use Rattle.kernel_core.specs.FileSystem.{IsFileSystem, IsLive, IsLiveContent, IsListing, IsLiveEntry, HasParent, IsBelowRoot, IsBelowRootBy, IsTime, name_count, parent_at, parent_of, subdirectories}
use Rattle.kernel_core.specs.PathWalk.{named}
use Rattle.kernel_core.specs.ValidTree.{IsName, names_in, root, node_limit, entry_limit, greatest_cookie, is_no_name_byte}
use Rattle.kernel_core.specs.declared.tree.DirEntry.{DirEntry}
use Rattle.file_system_laws.proofs.Lookups.{get-update_other, get-update_found, directory_found, parent_found, len-update}
use Rattle.file_system_laws.proofs.Totals.{total-update}
use Rattle.file_system_laws.proofs.Entries.{names_in-push, AreEntries-push}
use Rattle.file_system_laws.proofs.Carried.{Kept, entry-carried, live-carried, below-carried, subdirectories-carried, entries-live}

-- A name that is not there

-- what a name that names nothing is, in a directory with a parent
pub record IsFree (listing : Listing) (name : List ℕ) : Type 0 where
  pub right : IsName name
  pub none : entry_named listing.entries name ≡ None

pub free_name : (directory parent : ℕ) (listing : Listing) (name : List ℕ) → listing.parent ≡ Some parent → named directory listing name ≡ None → ((at : ℕ) → slice_index name at < 256) → length name ≤ 255
    → list_any is_no_name_byte name ≡ false → IsFree listing name
free_name directory parent listing [] above none bytes short plain = absurd (let e : Some directory ≡ None = none in cc)
free_name directory parent listing (byte ∷ bytes) above none are short plain =
    go (bytes_eq (byte ∷ bytes) (codes ".")) (bytes_eq (byte ∷ bytes) (codes "..")) (entry_named listing.entries (byte ∷ bytes)) refl refl refl none
  where
    go : (dot dots : Bool) (o : Option DirEntry) → bytes_eq (byte ∷ bytes) (codes ".") ≡ dot → bytes_eq (byte ∷ bytes) (codes "..") ≡ dots
        → entry_named listing.entries (byte ∷ bytes) ≡ o
        → cond dot (Some directory) (cond dots listing.parent (option_map (λ e. e.node) o)) ≡ None → IsFree listing (byte ∷ bytes)
    go true dots o a b c h = absurd (let e : Some directory ≡ None = h in cc)
    go false true o a b c h = absurd (let e : Some parent ≡ None = sym above ∙ h in cc)
    go false false None a b c h = record {
      right = record { are_bytes = are; some = omega arith; short = short; no_dots = or_from _ _ a b; plain = plain };
      none = c;
    }
    go false false (Some e) a b c h = absurd (let f : Some e.node ≡ None = h in cc)

-- A directory with one more entry, and so many links more

abbrev pub grown : ℤ → List ℕ → ℕ → ℕ → Inode → Inode
grown now name node more inode = record inode {
  modified = now;
  changed = now;
  links = inode.links + more;
  content = in_directory (with_entry name node) inode.content;
}

pub add_name-grown : (nodes : Nodes) (directory : ℕ) (name : List ℕ) (node : ℕ) (now : ℤ) → update nodes directory (grown now name node 0) ≡ add_name nodes directory name node now
add_name-grown nodes directory name node now = ap (update nodes directory) (λ i inode. record (relisted now (with_entry name node) inode) { links = no_more inode.links i })
  where
    no_more : (n : ℕ) → n + 0 ≡ n
    no_more n = omega arith

-- The nodes before, and those in which the node that is to be named lives, with its link count already raised

pub record IsRaised (nodes base : Nodes) (directory node more : ℕ) (inode : Inode) : Type 0 where
  pub away : node ≢ directory
  pub rest : (q : ℕ) → q ≢ node → get base q ≡ get nodes q
  pub there : get base node ≡ Some inode
  pub subdirectory : cond (is_directory base node) 1 0 ≡ more
  pub child : is_directory base node ≡ true → parent_at base node ≡ Some directory
  pub kept : is_some (get nodes node) ≡ true → Kept nodes base node
  pub entries : entries_in (listing_at base node) ≡ entries_in (listing_at nodes node)
  pub orphan : parent_at nodes node ≡ None
  pub names : (q : ℕ) → name_count base q ≡ name_count nodes q
  pub few_nodes : len base ≤ node_limit
  pub same_blocks : live_blocks base ≡ live_blocks nodes
  pub same_entries : live_entries base ≡ live_entries nodes

module _ (nodes base : Nodes) (directory : ℕ) (name : List ℕ) (node : ℕ) (now : ℤ) (more : ℕ) (inode : Inode) (listing : Listing) (parent : ℕ) (is : IsFileSystem nodes)
    (raised : IsRaised nodes base directory node more inode) (live : listing_at nodes directory ≡ Some listing) (above : listing.parent ≡ Some parent)
    (free : IsFree listing name) (cookies : listing.greatest < greatest_cookie) (time : IsTime now) (room : live_entries nodes < entry_limit) where
  abbrev new : Nodes
  new = update base directory (grown now name node more)

  abbrev entry : DirEntry
  entry = record { cookie = listing.greatest + 1; name = name; node = node }

  back : directory ≢ node
  back e = raised.away (sym e)

  found : (i : Inode) × (get nodes directory ≡ Some i) × (i.content ≡ Directory listing)
  found = directory_found nodes directory listing live

  found_base : get base directory ≡ Some found.0
  found_base = raised.rest directory back ∙ found.1

  at_directory : get new directory ≡ Some (grown now name node more found.0)
  at_directory = get-update_found base directory (grown now name node more) found.0 found_base

  at_node : get new node ≡ Some inode
  at_node = get-update_other base directory (grown now name node more) node raised.away ∙ raised.there

  at_other : (q : ℕ) → q ≢ directory → q ≢ node → get new q ≡ get nodes q
  at_other q a b = get-update_other base directory (grown now name node more) q a ∙ raised.rest q b

  listing_at_directory : listing_at new directory ≡ Some (with_entry name node listing)
  listing_at_directory = ap (in_inode listing_in) at_directory ∙ ap (λ c. listing_in (in_directory (with_entry name node) c)) found.2

  listing_at_node : listing_at new node ≡ listing_at base node
  listing_at_node = ap (in_inode listing_in) (get-update_other base directory (grown now name node more) node raised.away)

  listing_at_other : (q : ℕ) → q ≢ directory → q ≢ node → listing_at new q ≡ listing_at nodes q
  listing_at_other q a b = ap (in_inode listing_in) (at_other q a b)

  -- a node that lived keeps what it was
  keep : (q : ℕ) → is_some (get nodes q) ≡ true → Kept nodes new q
  keep q lived = elim (cases_eq q directory) [
    | inl here ↦ subst (Kept nodes new) (sym here) (record {
      live = ap is_some at_directory;
      directory = ap is_some listing_at_directory ∙ sym (ap is_some live);
      parent = ap parent_of listing_at_directory ∙ sym (ap parent_of live);
    })
    | inr a ↦ elim (cases_eq q node) [
      | inl here ↦
          let k = raised.kept (ap (λ m. is_some (get nodes m)) (sym here) ∙ lived) in
          subst (Kept nodes new) (sym here) (record {
            live = ap is_some at_node;
            directory = ap is_some listing_at_node ∙ k.directory;
            parent = ap parent_of listing_at_node ∙ k.parent;
          })
      | inr b ↦ record {
        live = ap is_some (at_other q a b) ∙ lived;
        directory = ap is_some (listing_at_other q a b);
        parent = ap parent_of (listing_at_other q a b);
      }
    ]
  ]

  names : (q : ℕ) → name_count new q ≡ name_count nodes q + cond (eqb node q) 1 0
  names q =
      let a = total-update (λ i. names_in (content_entries i.content) q) base directory (grown now name node more) found.0 found_base in
      let b : names_in (content_entries (found.0).content) q ≡ names_in listing.entries q = ap (λ c. names_in (content_entries c) q) found.2 in
      let c : names_in (content_entries (in_directory (with_entry name node) (found.0).content)) q ≡ names_in (listing.entries ++ entry ∷ []) q =
      ap (λ c. names_in (content_entries (in_directory (with_entry name node) c)) q) found.2 in
      let d = names_in-push listing.entries entry q in
      let e = raised.names q in
      omega (arith, a, b, c, d, e)

  names_other : (q : ℕ) → q ≢ node → name_count new q ≡ name_count nodes q
  names_other q apart =
      let a = names q in
      let b = ap {B = ℕ} (λ b. cond b 1 0) (ne_eqb node q (λ e. apart (sym e))) in
      omega (arith, a, b)

  -- a directory names every other node as often as before
  names_above : (up q : ℕ) → q ≢ node → names_in (entries_in (listing_at new up)) q ≡ names_in (entries_in (listing_at nodes up)) q
  names_above up q apart = elim (cases_eq up directory) [
    | inl here ↦
        let a = names_in-push listing.entries entry q in
        let b = ap {B = ℕ} (λ b. cond b 1 0) (ne_eqb node q (λ e. apart (sym e))) in
        let c : names_in (entries_in (listing_at new up)) q ≡ names_in (listing.entries ++ entry ∷ []) q =
        ap (λ k. names_in (entries_in (listing_at new k)) q) here ∙ ap (λ o. names_in (entries_in o) q) listing_at_directory in
        let d : names_in (entries_in (listing_at nodes up)) q ≡ names_in listing.entries q =
        ap (λ k. names_in (entries_in (listing_at nodes k)) q) here ∙ ap (λ o. names_in (entries_in o) q) live in
        omega (arith, a, b, c, d)
    | inr a ↦ elim (cases_eq up node) [
      | inl here ↦
          ap (λ k. names_in (entries_in (listing_at new k)) q) here
          ∙ ap (λ o. names_in (entries_in o) q) listing_at_node
          ∙ ap (λ es. names_in es q) raised.entries
          ∙ ap (λ k. names_in (entries_in (listing_at nodes k)) q) (sym here)
      | inr b ↦ ap (λ o. names_in (entries_in o) q) (listing_at_other up a b)
    ]
  ]

  old_listing : IsListing nodes directory (found.0).links listing
  old_listing = entries-live nodes directory (found.0).links (found.0).content ((is.each directory found.0 found.1).content) listing found.2

  has_parent : HasParent nodes directory (found.0).links listing (Some parent)
  has_parent = subst (HasParent nodes directory (found.0).links listing) above old_listing.parent

  subdirectories_new : subdirectories new (listing.entries ++ entry ∷ []) ≡ subdirectories nodes listing.entries + more
  subdirectories_new =
      let a = sum_by_push (λ (e : DirEntry). cond (is_directory new e.node) 1 0) listing.entries entry in
      let b = subdirectories-carried nodes new listing.entries (λ k d short. (keep _ ((old_listing.each k d short).live)).directory) in
      let c = ap {B = ℕ} (λ o. cond (is_some o) 1 0) listing_at_node in
      let d = raised.subdirectory in
      omega (arith, a, b, c, d)

  new_listing : IsListing new directory ((found.0).links + more) (with_entry name node listing)
  new_listing = record {
    low = let h = old_listing.low in omega (arith, h);
    high = omega (arith, cookies);
    entries = AreEntries-push listing.entries entry old_listing.entries
        (record { low = let h = old_listing.low in omega (arith, h); high = omega (arith, cookies); name = free.right })
        (All-weaker (IsLiveEntry nodes directory listing.greatest) (λ e. e.cookie < listing.greatest + 1) (λ e l. let h = l.past in omega (arith, h)) listing.entries old_listing.each)
        free.none;
    each = All-push (IsLiveEntry new directory (listing.greatest + 1)) listing.entries entry
        (All-weaker (IsLiveEntry nodes directory listing.greatest) (IsLiveEntry new directory (listing.greatest + 1))
        (λ e l. let n = entry-carried nodes new directory listing.greatest e (keep e.node l.live) l in record { past = let h = n.past in omega (arith, h); live = n.live; child = n.child })
        listing.entries old_listing.each)
        (record {
          past = omega arith;
          live = ap is_some at_node;
          child = λ dir. ap parent_of listing_at_node ∙ raised.child (sym (ap is_some listing_at_node) ∙ dir);
        });
    parent = subst (HasParent new directory ((found.0).links + more) (with_entry name node listing)) (sym above) (
      (let a = has_parent.0 in let b = subdirectories_new in omega (arith, a, b)),
      (λ top. ((has_parent.1 top).0, names_other directory back ∙ (has_parent.1 top).1)),
      (λ lower. (names_other directory back ∙ (has_parent.2 lower).0, names_above parent directory back ∙ (has_parent.2 lower).1)),
    );
  }

  new_directory : IsLive new directory (grown now name node more found.0)
  new_directory =
      let old = is.each directory found.0 found.1 in
      record {
        low = old.low;
        high = old.high;
        mode = old.mode;
        access = old.access;
        modified = time;
        changed = time;
        used = let h = old.used in omega (arith, h);
        held = old.held;
        content = subst (λ c. IsLiveContent new directory ((found.0).links + more) (in_directory (with_entry name node) c)) (sym found.2) new_listing;
      }

  parent_same : (q : ℕ) → q ≢ node → parent_at new q ≡ parent_at nodes q
  parent_same q b = elim (cases_eq q directory) [
    | inl here ↦ ap (parent_at new) here ∙ ap parent_of listing_at_directory ∙ sym (ap parent_of live) ∙ ap (parent_at nodes) (sym here)
    | inr a ↦ ap parent_of (listing_at_other q a b)
  ]

  parent_stays : (q p : ℕ) → parent_at nodes q ≡ Some p → parent_at new q ≡ Some p
  parent_stays q p e = elim (cases_eq q node) [
    | inl here ↦ absurd (let f : None ≡ Some p = sym raised.orphan ∙ ap (parent_at nodes) (sym here) ∙ e in cc)
    | inr b ↦ parent_same q b ∙ e
  ]

  directory_below : IsBelowRoot new directory
  directory_below = below-carried nodes new parent_stays directory (is.below directory parent (ap parent_of live ∙ above))

  below : (q p : ℕ) → parent_at new q ≡ Some p → IsBelowRoot new q
  unfolding IsBelowRootBy
  below q p e = elim (cases_eq q node) [
    | inl here ↦
        let up : parent_at base node ≡ Some p = sym (ap parent_of listing_at_node) ∙ ap (parent_at new) (sym here) ∙ e in
        let l = parent_found base node p up in
        let d : parent_at new q ≡ Some directory = ap (parent_at new) here ∙ ap parent_of listing_at_node ∙ raised.child (ap is_some l.1) in
        (suc (directory_below.0), (directory, d, directory_below.1))
    | inr b ↦ below-carried nodes new parent_stays q (is.below q p (sym (parent_same q b) ∙ e))
  ]

  each : IsLive new node inode → (q : ℕ) (j : Inode) → get new q ≡ Some j → IsLive new q j
  each fresh q j at = elim (cases_eq q directory) [
    | inl here ↦
        let x : Some (grown now name node more found.0) ≡ Some j = sym at_directory ∙ ap (get new) (sym here) ∙ at in
        let y : grown now name node more found.0 ≡ j = cc in
        subst (λ k. IsLive new k j) (sym here) (subst (IsLive new directory) y new_directory)
    | inr a ↦ elim (cases_eq q node) [
      | inl here ↦
          let x : Some inode ≡ Some j = sym at_node ∙ ap (get new) (sym here) ∙ at in
          let y : inode ≡ j = cc in
          subst (λ k. IsLive new k j) (sym here) (subst (IsLive new node) y fresh)
      | inr b ↦
          let old = is.each q j (sym (at_other q a b) ∙ at) in
          live-carried nodes new q j
          (λ l e. let o = entries-live nodes q j.links j.content old.content l e in λ k d short. keep _ ((o.each k d short).live))
          (names_other q b) (λ l up e has lower. names_above up q b) old
    ]
  ]

  -- the nodes with the name, where the named node may live in them
  pub adding_keeps : IsLive (update base directory (grown now name node more)) node inode → IsFileSystem (update base directory (grown now name node more))
  adding_keeps fresh = record {
    top = parent_stays root root is.top;
    each = each fresh;
    below = below;
    few_nodes = let a = len-update base directory (grown now name node more) in let b = raised.few_nodes in omega (arith, a, b);
    few_blocks =
        let a = total-update (λ i. content_blocks i.content) base directory (grown now name node more) found.0 found_base in
        let b : content_blocks (found.0).content ≡ 0 = ap content_blocks found.2 in
        let c : content_blocks (in_directory (with_entry name node) (found.0).content) ≡ 0 = ap (λ c. content_blocks (in_directory (with_entry name node) c)) found.2 in
        let d = raised.same_blocks in
        let h = is.few_blocks in
        omega (arith, a, b, c, d, h);
    few_entries =
        let a = total-update (λ i. length (content_entries i.content)) base directory (grown now name node more) found.0 found_base in
        let b : length (content_entries (found.0).content) ≡ length listing.entries = ap (λ c. length (content_entries c)) found.2 in
        let c : length (content_entries (in_directory (with_entry name node) (found.0).content)) ≡ length (listing.entries ++ entry ∷ []) =
        ap (λ c. length (content_entries (in_directory (with_entry name node) c))) found.2 in
        let d = length_push listing.entries entry in
        let e = raised.same_entries in
        omega (arith, a, b, c, d, e, room);
  }

  -- how often the named node is named now
  pub adding-names : name_count (update base directory (grown now name node more)) node ≡ name_count nodes node + 1
  adding-names = let a = names node in let b = ap {B = ℕ} (λ b. cond b 1 0) (eq-eqb node node refl) in omega (arith, a, b)

  -- how often its directory names it
  pub adding-names_above : names_in (entries_in (listing_at (update base directory (grown now name node more)) directory)) node ≡ names_in listing.entries node + 1
  adding-names_above =
      let a = names_in-push listing.entries entry node in
      let b = ap {B = ℕ} (λ b. cond b 1 0) (eq-eqb node node refl) in
      let c : names_in (entries_in (listing_at new directory)) node ≡ names_in (listing.entries ++ entry ∷ []) node = ap (λ o. names_in (entries_in o) node) listing_at_directory in
      omega (arith, a, b, c)

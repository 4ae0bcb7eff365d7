-- A name moves from one directory to another, or to another name in its own (rename(2)).
use Rattle.std.proofs.Common.{◌≡◌, ◌≢◌, ◌≤◌, ◌<◌, ◌+◌, ◌-◌, ◌&&◌, ◌||◌, ℕ, Bool, true, false, cond, not, eqb, ℤ, List, length, All, get_or, Option, Some, None, is_some, is_none, option_map, refl, sym, ap, subst, ◌∙◌, arith, inl, inr}
use Rattle.std.proofs.lemmas.Bool.{cases_eq, cases_Bool, eqb-false, leb-false, true≢false, and_cases, or_parts}
use Rattle.std.proofs.lemmas.Option.{same_Some, none-some}
use Rattle.std.specs.FinMap.{get}
use Rattle.kernel_core.specs.Nodes.{Nodes, Inode, NodeContent, File, Directory, Link, Listing, listing_at, listing_in, in_inode, is_directory, entries_in, entry_named, update}
use Rattle.kernel_core.specs.PathWalk.{Place, Agrees}
use Rattle.kernel_core.specs.Totals.{content_entries, content_blocks}
use Rattle.kernel_core.specs.ValidTree.{IsName, names_in, root, greatest_cookie}
use Rattle.kernel_core.specs.NameCalls.{with_entry, without_entry, in_directory, relisted, take_name, add_name, one_link_less, one_link_more, changed_at, reparented, after_unlink, after_rmdir, replace_name, move_parent, is_no_entry, is_in_subtree, replace_refusal, is_orphan, is_used_up, lacks_cookie, is_node, has_entries, move_refusal, rename_of, rename_refusal, after_move, after_rename}
use Rattle.kernel_core.specs.declared.error.Errno.TheVariants.{ENOTDIR, ENOTEMPTY, EISDIR}
use Rattle.kernel_core.specs.FileSystem.{name_count, IsTime, parent_of, parent_at, IsBelowRoot, IsFileSystem}
use Rattle.file_system_laws.proofs.Lookups.{get-update_found, get-update_other, get-update_same, update-update, update_comm, is_some-update, listing_kept}
use Rattle.file_system_laws.proofs.Totals.{total-update}
use Rattle.file_system_laws.proofs.Reach.{IsApart, below_moved, moved_hangs, apart_carried, apart_itself, apart_from_subtree}
use Rattle.file_system_laws.proofs.Entries.{one_if, none-others, none_of, some-others, names_apart}
use Rattle.file_system_laws.proofs.Tallies.{Tally, names_at, own, HasParentIn, IsListingIn, IsContentIn, IsLiveIn, IsTree, opened, closed, directory_found, listing_exists, is_listed, names_le, IsAlike, IsSameNode, entry_carried, subdirectories_carried, content_carried, changed_one, changed_within, kind_after, parent_after, parent_after_other, same_node}
use Rattle.file_system_laws.proofs.Loose.{lacking, taking, adding, one_if-same, added_tree}
use Rattle.file_system_laws.proofs.Places.{Stands, stands_of, no_entry_of_name, is_name_of, node_lives, named_once, not_root, not_itself}
use Rattle.file_system_laws.proofs.Swaps.{update_swap, replace_swap}
use Rattle.file_system_laws.proofs.Removing.{lone_count, lone_entries, taken_as, no_child, IsRemoved, passed, no_entries, file_removed, directory_removed}

-- A directory gets another parent

module _ (nodes : Nodes) (node : ℕ) (tree : IsTree (lacking nodes node) nodes) (listing : Listing) (found : listing_at nodes node ≡ Some listing)
    (below_root : node ≢ root) (parent : ℕ) (apart : IsApart nodes node parent) where
  abbrev moved_to : Nodes
  moved_to = update nodes node (reparented parent)

  abbrev with_parent : Listing → Listing
  with_parent l = record l { parent = Some parent }

  pub reparented_tree : IsTree (lacking moved_to node) moved_to
  reparented_tree =
      let d = directory_found nodes node listing found in
      changed_one w v nodes node (reparented parent) d.0 d.1 (kind d) (λ m other. alike d m) (λ m inode other at. same d m inode at) (live d) (blocks d) (few d)
      (parent_after_other w v nodes node (reparented parent) d.0 d.1 root (λ e. below_root (sym e)) ∙ tree.top)
      (below d)
      tree
    where
      w : Tally
      w = lacking nodes node

      v : Tally
      v = lacking moved_to node

      Found : Type 0
      Found = (inode : Inode) × (get nodes node ≡ Some inode) × (inode.content ≡ Directory listing)

      after_is : (d : Found) → in_directory with_parent (d.0).content ≡ Directory (with_parent listing)
      after_is d = ap (in_directory with_parent) d.2

      kind : (d : Found) → is_some (listing_in (in_directory with_parent (d.0).content)) ≡ is_some (listing_in (d.0).content)
      kind d = ap (λ c. is_some (listing_in c)) (after_is d) ∙ sym (ap (λ c. is_some (listing_in c)) d.2)

      parent_of_node : (d : Found) → parent_at moved_to node ≡ Some parent
      parent_of_node d = ap (λ o. parent_of (in_inode listing_in o)) (get-update_found nodes node (reparented parent) d.0 d.1) ∙ ap (λ c. parent_of (listing_in c)) (after_is d)

      below : (d : Found) (m p : ℕ) → parent_at moved_to m ≡ Some p → IsBelowRoot moved_to m
      below d m p up = elim (cases_eq m node) [
        | inl here ↦ subst (λ n. IsBelowRoot moved_to n) (sym here) (moved_hangs nodes moved_to node parent (parent_of_node d) (parent_after_other w v nodes node (reparented parent) d.0 d.1) apart)
        | inr other ↦
            let c = tree.below m p (sym (parent_after_other w v nodes node (reparented parent) d.0 d.1 m other) ∙ up) in
            below_moved nodes moved_to node parent (parent_of_node d) (parent_after_other w v nodes node (reparented parent) d.0 d.1) apart c.0 m c.1
      ]

      entries_same : (d : Found) → content_entries (in_directory with_parent (d.0).content) ≡ content_entries (d.0).content
      entries_same d = ap content_entries (after_is d) ∙ sym (ap content_entries d.2)

      counts : (d : Found) (m : ℕ) → name_count moved_to m ≡ name_count nodes m
      counts d m =
          let a = total-update (λ i. names_in (content_entries i.content) m) nodes node (reparented parent) d.0 d.1 in
          let b = ap (λ es. names_in es m) (entries_same d) in
          omega (arith, a, b)

      names : (d : Found) (p m : ℕ) → names_at moved_to p m ≡ names_at nodes p m
      names d p m = elim (cases_eq p node) [
        | inl here ↦
            ap (λ k. names_at moved_to k m) here
            ∙ ap (λ o. names_in (entries_in (in_inode listing_in o)) m) (get-update_found nodes node (reparented parent) d.0 d.1) ∙ ap (λ c. names_in (entries_in (listing_in c)) m) (after_is d)
            ∙ sym (ap (λ o. names_in (entries_in o) m) found) ∙ sym (ap (λ k. names_at nodes k m) here)
        | inr other ↦ ap (λ o. names_in (entries_in (in_inode listing_in o)) m) (get-update_other nodes node (reparented parent) p other)
      ]

      alike : (d : Found) (m : ℕ) → IsAlike w v nodes moved_to m
      alike d m = record {
        count = ap (λ n. n + one_if (eqb node m)) (counts d m);
        within = λ p up. ap (λ n. n + one_if (eqb node m)) (names d p m);
        need = omega arith;
      }

      same_at : (d : Found) (e : ℕ) → e ≢ node → IsSameNode w v nodes moved_to e
      same_at d e unnamed = record {
        live = ap is_some (get-update_other nodes node (reparented parent) e unnamed);
        kind = kind_after w v nodes node (reparented parent) d.0 d.1 (kind d) e;
        parent = parent_after_other w v nodes node (reparented parent) d.0 d.1 e unnamed;
      }

      same : (d : Found) (m : ℕ) (inode : Inode) → get nodes m ≡ Some inode → All (λ e. IsSameNode w v nodes moved_to e.node) (content_entries inode.content)
      same d m inode at k x lt = same_at d (get_or (content_entries inode.content) k x).node (lone_entries nodes node tree listing found below_root m inode at k x lt)

      blocks : (d : Found) → content_blocks (in_directory with_parent (d.0).content) ≤ content_blocks (d.0).content
      blocks d = let a = ap content_blocks (after_is d) in let b = ap content_blocks d.2 in omega (arith, a, b)

      few : (d : Found) → length (content_entries (in_directory with_parent (d.0).content)) + 1 ≤ length (content_entries (d.0).content) + 1
      few d = let a = ap length (entries_same d) in omega (arith, a)

      own_entries : (d : Found) → All (λ e. IsSameNode w v nodes moved_to e.node) listing.entries
      own_entries d = subst (λ es. All (λ e. IsSameNode w v nodes moved_to e.node) es) (ap content_entries d.2) (same d node d.0 d.1)

      -- the new parent does not name it yet
      unnamed : (d : Found) → names_at moved_to parent node + one_if (eqb node node) ≡ 1
      unnamed d =
          let a = names d parent node in
          let b = names_le nodes parent node in
          let c = lone_count nodes node tree listing found below_root in
          let e = one_if-same node node refl in
          omega (arith, a, b, c, e)

      parent_is : (d : Found) (o : Option ℕ) → HasParentIn w nodes node (d.0).links listing o → HasParentIn v moved_to node (d.0).links (with_parent listing) (Some parent)
      parent_is d None h = absurd (let a = h.2 in let b = one_if-same node node refl in omega (arith, a, b))
      parent_is d (Some p) h = (
        h.0 ∙ ap (λ n. 2 + n) (sym (subdirectories_carried w v nodes moved_to listing.entries (own_entries d))),
        (λ is. absurd (below_root is)),
        (λ other. ((alike d node).count ∙ (h.2 other).0, unnamed d)),
      )

      live : (d : Found) → IsLiveIn v moved_to node (reparented parent d.0)
      live d =
          let old = tree.each node d.0 d.1 in
          let s = old.sound in
          let h = is_listed nodes node w d.0 listing old d.2 in
          let listed : IsListingIn v moved_to node (d.0).links (with_parent listing) = record {
            low = h.low;
            high = h.high;
            entries = h.entries;
            each = λ k x lt. entry_carried w v nodes moved_to node listing.greatest (get_or listing.entries k x) (own_entries d k x lt) (h.each k x lt);
            parent = parent_is d listing.parent h.parent;
          } in
          record {
            sound = record { low = s.low; high = s.high; mode = s.mode; access = s.access; modified = s.modified; changed = s.changed; held = s.held };
            used = old.used;
            content = subst (λ c. IsContentIn v moved_to node (d.0).links c) (sym (after_is d)) listed;
          }

-- A node gets the time of its change

module _ (nodes : Nodes) (tree : IsTree (own nodes) nodes) (node : ℕ) (inode : Inode) (found : get nodes node ≡ Some inode) (now : ℤ) (time : IsTime now) where
  abbrev touched : Nodes
  touched = update nodes node (changed_at now)

  pub touched_tree : IsTree (own touched) touched
  touched_tree = changed_within w v nodes node (changed_at now) inode found refl refl (λ m other. alike m) live (omega arith) (omega arith) tree
    where
      w : Tally
      w = own nodes

      v : Tally
      v = own touched

      alike : (m : ℕ) → IsAlike w v nodes touched m
      alike m = record {
        count = (let a = total-update (λ i. names_in (content_entries i.content) m) nodes node (changed_at now) inode found in omega (arith, a));
        within = λ p up. ap (λ o. names_in (entries_in o) m) (listing_kept nodes node (changed_at now) (λ i at. refl) p);
        need = omega arith;
      }

      live : IsLiveIn v touched node (changed_at now inode)
      live =
          let old = tree.each node inode found in
          let s = old.sound in
          record {
            sound = record { low = s.low; high = s.high; mode = s.mode; access = s.access; modified = s.modified; changed = time; held = s.held };
            used = old.used;
            content = content_carried w v nodes touched node (alike node) inode.links inode.content (ap (λ o. parent_of (in_inode listing_in o)) found)
                (λ k x lt. same_node w v nodes node (changed_at now) inode found refl refl (get_or (content_entries inode.content) k x).node) old.content;
          }

-- One entry moves

-- a directory in which a name may be made
pub record IsFree (nodes : Nodes) (directory : ℕ) (name : List ℕ) : Type 0 where
  pub listing : Listing
  pub live : listing_at nodes directory ≡ Some listing
  pub free : entry_named listing.entries name ≡ None
  pub room : listing.greatest < greatest_cookie
  pub has_parent : is_some listing.parent ≡ true

free_after : (nodes changed : Nodes) (directory : ℕ) (name : List ℕ) → get changed directory ≡ get nodes directory → IsFree nodes directory name → IsFree changed directory name
free_after nodes changed directory name same f = record { listing = f.listing; live = ap (in_inode listing_in) same ∙ f.live; free = f.free; room = f.room; has_parent = f.has_parent }

-- also where another name was taken
free_taken : (nodes : Nodes) (from directory : ℕ) (gone name : List ℕ) (now : ℤ) (links : ℕ → ℕ) → IsFree nodes directory name → IsFree (update nodes from (taking now gone links)) directory name
free_taken nodes from directory gone name now links f = elim (cases_eq directory from) [
  | inl here ↦
      let found = directory_found nodes directory f.listing f.live in
      record {
        listing = without_entry gone f.listing;
        live = ap (λ k. listing_at (update nodes k (taking now gone links)) directory) (sym here)
            ∙ ap (in_inode listing_in) (get-update_found nodes directory (taking now gone links) found.0 found.1) ∙ ap (λ c. listing_in (in_directory (without_entry gone) c)) found.2;
        free = none-others name gone f.listing.entries f.free;
        room = f.room;
        has_parent = f.has_parent;
      }
  | inr other ↦ free_after nodes (update nodes from (taking now gone links)) directory name (get-update_other nodes from (taking now gone links) directory other) f
]

module _ (nodes : Nodes) (tree : IsTree (own nodes) nodes) (from : ℕ) (name : List ℕ) (node : ℕ) (s : Stands nodes from name node)
    (to : ℕ) (new : List ℕ) (f : IsFree nodes to new) (is_name : IsName new) (now : ℤ) (time : IsTime now) where
  found_some : (m : Nodes) → is_some (get m node) ≡ true → (inode : Inode) × (get m node ≡ Some inode)
  found_some m = go (get m node) refl
    where
      go : (o : Option Inode) → get m node ≡ o → is_some o ≡ true → (inode : Inode) × (get m node ≡ Some inode)
      go None found e = absurd (true≢false (sym e))
      go (Some i) found e = (i, found)

  touched_last : (m : Nodes) → IsTree (own m) m → is_some (get m node) ≡ true → IsTree (own (update m node (changed_at now))) (update m node (changed_at now))
  touched_last m is live = let i = found_some m live in touched_tree m is node i.0 i.1 now time

  abbrev file_moved : Nodes
  file_moved = update (add_name (take_name nodes from name now) to new node now) node (changed_at now)

  pub file_moved_tree : is_directory nodes node ≡ false → IsTree (own file_moved) file_moved
  file_moved_tree plain =
      let same = λ (x : ℕ). x in
      let taken = update nodes from (taking now name same) in
      let one = ap one_if plain in
      let t1 = taken_as nodes tree from name node s now time same (λ x some. omega (arith, one)) in
      let g = free_taken nodes from to name new now same f in
      let lives : is_some (get taken node) ≡ true = is_some-update nodes from (taking now name same) node ∙ node_lives nodes tree from name node s in
      let other = get-update_other nodes from (taking now name same) node (not_itself nodes tree from name node s) in
      let plain' : is_directory taken node ≡ false = ap (λ o. is_some (in_inode listing_in o)) other ∙ plain in
      let one' = ap one_if plain' in
      let t2 = added_tree taken node t1 to new g.listing g.live g.free g.room g.has_parent is_name lives (λ is. absurd (true≢false (sym is ∙ plain'))) now time same (λ x. omega (arith, one')) in
      touched_last (update taken to (adding now new node same)) t2 (is_some-update taken to (adding now new node same) node ∙ lives)

  abbrev less : ℕ → ℕ
  less x = x - 1

  abbrev more : ℕ → ℕ
  more x = x + 1

  abbrev parted : Nodes
  parted = update nodes from (taking now name less)

  abbrev set_below : Nodes
  set_below = update parted node (reparented to)

  abbrev joined : Nodes
  joined = update set_below to (adding now new node more)

  directory_joined : is_directory nodes node ≡ true → IsApart nodes node to → IsTree (own (update joined node (changed_at now))) (update joined node (changed_at now))
  directory_joined is apart =
      let one = ap one_if is in
      let t1 = taken_as nodes tree from name node s now time less (λ x some. omega (arith, one)) in
      let below = not_root nodes tree from name node s in
      let other = get-update_other nodes from (taking now name less) node (not_itself nodes tree from name node s) in
      let l = listing_exists nodes node is in
      let at : listing_at parted node ≡ Some l.0 = ap (in_inode listing_in) other ∙ l.1 in
      let keeps = parents_kept in
      let apart' : IsApart parted node to = (apart.0, apart_carried nodes parted (λ _. Unit {0}) (λ m p stays up. (keeps m ∙ up, tt)) node apart.0 to tt apart.1) in
      let t2 = reparented_tree parted node t1 l.0 at below to apart' in
      let away : to ≢ node = apart_itself nodes node apart.0 to below apart.1 in
      let g = free_after parted set_below to new (get-update_other parted node (reparented to) to away) (free_taken nodes from to name new now less f) in
      let d = directory_found parted node l.0 at in
      let here : get set_below node ≡ Some (reparented to d.0) = get-update_found parted node (reparented to) d.0 d.1 in
      let here_listing : listing_at set_below node ≡ Some (record l.0 { parent = Some to }) = ap (in_inode listing_in) here ∙ ap (λ c. listing_in (in_directory (λ l. record l { parent = Some to }) c)) d.2 in
      let one' = ap (λ o. one_if (is_some o)) here_listing in
      let t3 = added_tree set_below node t2 to new g.listing g.live g.free g.room g.has_parent is_name (ap is_some here) (λ _. ap parent_of here_listing) now time more (λ x. omega (arith, one')) in
      touched_last joined t3 (is_some-update set_below to (adding now new node more) node ∙ ap is_some here)
    where
      parents_kept : (m : ℕ) → parent_at parted m ≡ parent_at nodes m
      parents_kept =
          let d = directory_found nodes from s.listing s.live in
          parent_after (own nodes) (own nodes) nodes from (taking now name less) d.0 d.1
          (ap (λ c. parent_of (listing_in (in_directory (without_entry name) c))) d.2 ∙ sym (ap (λ c. parent_of (listing_in c)) d.2))

  abbrev directory_moved : Nodes
  directory_moved =
      update (update (update (update (add_name (take_name nodes from name now) to new node now) from one_link_less) to one_link_more) node (reparented to)) node (changed_at now)

  pub directory_moved_tree : is_directory nodes node ≡ true → IsApart nodes node to → IsTree (own directory_moved) directory_moved
  directory_moved_tree is apart =
      let away : to ≢ node = apart_itself nodes node apart.0 to (not_root nodes tree from name node s) apart.1 in
      let taken = take_name nodes from name now in
      let adds = relisted now (with_entry new node) in
      let a : update (update taken to adds) from one_link_less ≡ update (update taken from one_link_less) to adds = update_swap taken to from adds one_link_less (λ i. refl) in
      let b : update taken from one_link_less ≡ parted = update-update nodes from (relisted now (without_entry name)) one_link_less in
      let c : update (update (update taken to adds) from one_link_less) to one_link_more ≡ update parted to (adding now new node more) =
      ap (λ n. update n to one_link_more) (a ∙ ap (λ n. update n to adds) b) ∙ update-update parted to adds one_link_more in
      let e : update (update parted to (adding now new node more)) node (reparented to) ≡ joined = update_comm parted to node (adding now new node more) (reparented to) away in
      subst (λ n. IsTree (own n) n) (sym (ap (λ n. update n node (changed_at now)) (ap (λ n. update n node (reparented to)) c ∙ e))) (directory_joined is apart)

-- What stands under the new name goes first: the order of the changes

-- The nodes without what stood under the new name

pub record IsReady (nodes ready : Nodes) (from : ℕ) (name : List ℕ) (node to : ℕ) (new : List ℕ) : Type 0 where
  pub tree : IsTree (own ready) ready
  pub stands : Stands ready from name node
  pub free : IsFree ready to new
  pub kind : is_directory ready node ≡ is_directory nodes node
  pub apart : IsApart nodes node to → IsApart ready node to

module _ (nodes : Nodes) (tree : IsTree (own nodes) nodes) (from : ℕ) (name : List ℕ) (node : ℕ) (s : Stands nodes from name node)
    (to : ℕ) (new : List ℕ) (old : ℕ) (t : Stands nodes to new old) (room : t.listing.greatest < greatest_cookie) (has_parent : is_some t.listing.parent ≡ true)
    (differ : node ≢ old) (quiet : (m : ℕ) → names_at nodes old m ≡ 0) where
  -- the directory of the entry that moves is not what goes
  pub from_stays : from ≢ old
  from_stays is =
      let one = named_once nodes tree from name node s in
      let none = quiet node in
      let same = ap (λ k. names_at nodes k node) is in
      absurd (omega (arith, one, none, same))

  module _ (ready : Nodes) (r : IsRemoved nodes ready to new old t.listing) where
    listing_ready : (m : ℕ) → m ≢ old → m ≢ to → listing_at ready m ≡ listing_at nodes m
    listing_ready m other apart = ap (in_inode listing_in) (r.others m other apart)

    parents_ready : (m : ℕ) → m ≢ old → parent_at ready m ≡ parent_at nodes m
    parents_ready m other = elim (cases_eq m to) [
      | inl here ↦ ap (parent_at ready) here ∙ ap parent_of r.listed ∙ sym (ap parent_of t.live) ∙ sym (ap (parent_at nodes) here)
      | inr apart ↦ ap parent_of (listing_ready m other apart)
    ]

    kinds_ready : (m : ℕ) → m ≢ old → is_directory ready m ≡ is_directory nodes m
    kinds_ready m other = elim (cases_eq m to) [
      | inl here ↦ ap (is_directory ready) here ∙ ap is_some r.listed ∙ sym (ap is_some t.live) ∙ sym (ap (is_directory nodes) here)
      | inr apart ↦ ap is_some (listing_ready m other apart)
    ]

    stands_ready : Stands ready from name node
    stands_ready = elim (cases_eq from to) [
      | inl here ↦
          let same : t.listing ≡ s.listing = same_Some t.listing s.listing (sym t.live ∙ ap (listing_at nodes) (sym here) ∙ s.live) in
          let in_one : entry_named t.listing.entries name ≡ Some s.entry = ap (λ l. entry_named l.entries name) same ∙ s.named in
          let differs = names_apart name new t.listing.entries s.entry t.entry in_one t.named (λ e. differ (sym s.is ∙ e ∙ t.is)) in
          record {
            listing = without_entry new t.listing;
            live = ap (listing_at ready) here ∙ r.listed;
            entry = s.entry;
            named = some-others name new t.listing.entries s.entry differs in_one;
            is = s.is;
          }
      | inr apart ↦ record { listing = s.listing; live = listing_ready from from_stays apart ∙ s.live; entry = s.entry; named = s.named; is = s.is }
    ]

    pub replaced : IsReady nodes ready from name node to new
    replaced = record {
      tree = r.tree;
      stands = stands_ready;
      free = record { listing = without_entry new t.listing; live = r.listed; free = none_of new t.listing.entries; room = room; has_parent = has_parent };
      kind = kinds_ready node differ;
      apart = λ a. (
        a.0,
        apart_carried nodes ready (λ m. m ≢ old)
            (λ m p stays up. (parents_ready m stays ∙ up, no_child (own nodes) nodes old tree (λ m' _. quiet m') (not_root nodes tree to new old t) m p stays up))
            node a.0 to (λ e. not_itself nodes tree to new old t (sym e)) a.1,
      );
    }

-- The entry moves in nodes that are ready

relisted_kind : (nodes : Nodes) (n : ℕ) (now : ℤ) (change : Listing → Listing) (m : ℕ) → is_directory (update nodes n (relisted now change)) m ≡ is_directory nodes m
relisted_kind nodes n now change m = elim (cases_eq m n) [
  | inl here ↦ ap (is_directory (update nodes n (relisted now change))) here ∙ ap (λ o. is_some (in_inode listing_in o)) (get-update_same nodes n (relisted now change)) ∙ in_option (get nodes n) ∙ ap (is_directory nodes) (sym here)
  | inr other ↦ ap (λ o. is_some (in_inode listing_in o)) (get-update_other nodes n (relisted now change) m other)
]
  where
    in_content : (c : NodeContent) → is_some (listing_in (in_directory change c)) ≡ is_some (listing_in c)
    in_content (File c) = refl
    in_content (Directory l) = refl
    in_content (Link c) = refl

    in_option : (o : Option Inode) → is_some (in_inode listing_in (option_map (relisted now change) o)) ≡ is_some (in_inode listing_in o)
    in_option None = refl
    in_option (Some i) = in_content i.content

module _ (nodes ready : Nodes) (from : ℕ) (name : List ℕ) (node to : ℕ) (new : List ℕ) (r : IsReady nodes ready from name node to new) (is_name : IsName new)
    (apart : is_directory nodes node ≡ true → IsApart nodes node to) (now : ℤ) (time : IsTime now) where
  abbrev added_to : Nodes
  added_to = add_name (take_name ready from name now) to new node now

  pub ready_tree : IsTree (own (update (move_parent added_to node from to) node (changed_at now))) (update (move_parent added_to node from to) node (changed_at now))
  ready_tree =
      let kind : is_directory added_to node ≡ is_directory nodes node =
      relisted_kind (take_name ready from name now) to now (with_entry new node) node ∙ relisted_kind ready from now (without_entry name) node ∙ r.kind in
      subst (λ b. Whole b) (sym kind) (go (is_directory nodes node) refl)
    where
      Whole : Bool → Type 0
      Whole b = IsTree
          (own (update (cond b (update (update (update added_to from one_link_less) to one_link_more) node (reparented to)) added_to) node (changed_at now)))
          (update (cond b (update (update (update added_to from one_link_less) to one_link_more) node (reparented to)) added_to) node (changed_at now))

      go : (b : Bool) → is_directory nodes node ≡ b → Whole b
      go true is = directory_moved_tree ready r.tree from name node r.stands to new r.free is_name now time (r.kind ∙ is) (r.apart (apart is))
      go false is = file_moved_tree ready r.tree from name node r.stands to new r.free is_name now time (r.kind ∙ is)

-- rename(2)

-- what its refusal says of a move that may be made
record MayMove (nodes : Nodes) (from to : Place) (moved : ℕ) : Type 0 where
  from_plain : is_no_entry from.name ≡ false
  to_plain : is_no_entry to.name ≡ false
  outside : is_directory nodes moved ≡ true → is_in_subtree nodes moved to.directory ≡ false
  replaces : replace_refusal nodes moved to.node ≡ None
  parented : is_orphan (listing_at nodes to.directory) ≡ false
  cookie : lacks_cookie nodes to ≡ false

first_none : {X : Type 0} (o rest : Option X) → cond (is_some o) o rest ≡ None → (o ≡ None) × (rest ≡ None)
first_none None rest e = (refl, e)
first_none (Some x) rest e = absurd (none-some x (sym e))

may_move : (nodes : Nodes) (from to : Place) (moved : ℕ) → rename_of nodes from to (Some moved) ≡ None → is_node to.node moved ≡ false → MayMove nodes from to moved
may_move nodes from to moved allowed differs =
    let a = passed (is_no_entry from.name || is_no_entry to.name) _ _ allowed in
    let plain = or_parts (is_no_entry from.name) (is_no_entry to.name) a.0 in
    let b : move_refusal nodes to moved ≡ None = sym (ap (λ x. cond x None (move_refusal nodes to moved)) differs) ∙ a.1 in
    let c = passed (is_directory nodes moved && is_in_subtree nodes moved to.directory) _ _ b in
    let d = first_none (replace_refusal nodes moved to.node) _ c.1 in
    let e = passed (is_orphan (listing_at nodes to.directory)) _ _ d.1 in
    let f = passed (lacks_cookie nodes to) _ None e.1 in
    record {
      from_plain = plain.0;
      to_plain = plain.1;
      outside = λ is. elim (and_cases (is_directory nodes moved) (is_in_subtree nodes moved to.directory) c.0) [ inl not ↦ absurd (true≢false (sym is ∙ not)) | inr out ↦ out ];
      replaces = d.0;
      parented = e.0;
      cookie = f.0;
    }

module _ (nodes : Nodes) (fs : IsFileSystem nodes) (from to : Place) (moved : ℕ) (at_from : Agrees nodes from) (at_to : Agrees nodes to) (found : from.node ≡ Some moved)
    (may : MayMove nodes from to moved) (differs : is_node to.node moved ≡ false) (now : ℤ) (time : IsTime now) where
  abbrev tree : IsTree (own nodes) nodes
  tree = opened nodes fs

  stands : Stands nodes from.directory from.name moved
  stands = stands_of nodes from moved at_from found may.from_plain

  room : at_to.listing.greatest < greatest_cookie
  room = leb-false greatest_cookie at_to.listing.greatest (sym (ap is_used_up at_to.live) ∙ may.cookie)

  has_parent : is_some at_to.listing.parent ≡ true
  has_parent = go at_to.listing.parent (sym (ap is_orphan at_to.live) ∙ may.parented)
    where
      go : (o : Option ℕ) → is_none o ≡ false → is_some o ≡ true
      go None e = absurd (true≢false e)
      go (Some p) e = refl

  abbrev Ready : Option ℕ → Type 0
  Ready o = (ready : Nodes) × IsReady nodes ready from.directory from.name moved to.directory to.name
      × (replace_name (take_name nodes from.directory from.name now) to o now ≡ take_name ready from.directory from.name now)

  ready_free : to.node ≡ None → Ready None
  ready_free at = (
    nodes,
    record {
      tree = tree;
      stands = stands;
      free = record {
        listing = at_to.listing;
        live = at_to.live;
        free = no_entry_of_name to.directory at_to.listing to.name may.to_plain (sym at_to.names ∙ at);
        room = room;
        has_parent = has_parent;
      };
      kind = refl;
      apart = λ a. a;
    },
    refl,
  )

  module _ (old : ℕ) (at : to.node ≡ Some old) where
    under : Stands nodes to.directory to.name old
    under = stands_of nodes to old at_to at may.to_plain

    differ : moved ≢ old
    differ is = eqb-false old moved (sym (ap (λ o. is_node o moved) at) ∙ differs) (sym is)

    -- an entry's directory is the place's
    same_listing : under.listing ≡ at_to.listing
    same_listing = same_Some under.listing at_to.listing (sym under.live ∙ at_to.live)

    room' : under.listing.greatest < greatest_cookie
    room' = subst (λ l. l.greatest < greatest_cookie) (sym same_listing) room

    has_parent' : is_some under.listing.parent ≡ true
    has_parent' = subst (λ l. is_some l.parent ≡ true) (sym same_listing) has_parent

    goes : (quiet : (m : ℕ) → names_at nodes old m ≡ 0) → (ready : Nodes) → replace_name nodes to (Some old) now ≡ ready → IsRemoved nodes ready to.directory to.name old under.listing → Ready (Some old)
    goes quiet ready is r =
        let stays = from_stays nodes tree from.directory from.name moved stands to.directory to.name old under room' has_parent' differ quiet in (
          ready,
          replaced nodes tree from.directory from.name moved stands to.directory to.name old under room' has_parent' differ quiet ready r,
          replace_swap nodes from.directory from.name to now old stays ∙ ap (λ n. take_name n from.directory from.name now) is,
        )

    ready_file : is_directory nodes old ≡ false → Ready (Some old)
    ready_file plain =
        goes (λ m. unlisted (listing_at nodes old) m plain) (after_unlink nodes to old now)
        (ap (λ b. cond b (after_rmdir nodes to old now) (after_unlink nodes to old now)) plain)
        (file_removed nodes tree to.directory to.name old under now time plain)
      where
        unlisted : (o : Option Listing) (m : ℕ) → is_some o ≡ false → names_in (entries_in o) m ≡ 0
        unlisted None m e = refl
        unlisted (Some l) m e = absurd (true≢false e)

    ready_directory : is_directory nodes old ≡ true → Ready (Some old)
    ready_directory is =
        let l = listing_exists nodes old is in
        let empty = no_entries nodes old l.0 l.1 (empty_by (is_directory nodes moved) (is_directory nodes old) (has_entries nodes old) is (sym (ap (replace_refusal nodes moved) at) ∙ may.replaces)) in
        goes (λ m. ap (λ o. names_in (entries_in o) m) l.1 ∙ ap (λ es. names_in es m) empty) (after_rmdir nodes to old now)
        (ap (λ b. cond b (after_rmdir nodes to old now) (after_unlink nodes to old now)) is)
        (directory_removed nodes tree to.directory to.name old under now time l.0 l.1 empty)
      where
        empty_by : (b c d : Bool) → c ≡ true → cond b (cond (not c) (Some ENOTDIR) (cond d (Some ENOTEMPTY) None)) (cond c (Some EISDIR) None) ≡ None → d ≡ false
        empty_by true c d is e = (passed d ENOTEMPTY None (passed (not c) ENOTDIR (cond d (Some ENOTEMPTY) None) e).1).0
        empty_by false c d is e = absurd (true≢false (sym is ∙ (passed c EISDIR None e).0))

  ready_by : (o : Option ℕ) → to.node ≡ o → Ready o
  ready_by None at = ready_free at
  ready_by (Some old) at = elim (cases_Bool (is_directory nodes old)) [ inl is ↦ ready_directory old at is | inr plain ↦ ready_file old at plain ]

  moved_tree : IsTree (own (after_move nodes from to moved now)) (after_move nodes from to moved now)
  moved_tree =
      let r = ready_by to.node refl in
      let below : IsBelowRoot nodes to.directory = hangs at_to.listing.parent (ap parent_of at_to.live) has_parent in
      subst
      (λ n. IsTree (own (update (move_parent (add_name n to.directory to.name moved now) moved from.directory to.directory) moved (changed_at now)))
      (update (move_parent (add_name n to.directory to.name moved now) moved from.directory to.directory) moved (changed_at now)))
      (sym r.2)
      (ready_tree nodes r.0 from.directory from.name moved to.directory to.name r.1 (is_name_of nodes to at_to may.to_plain)
      (λ is. apart_from_subtree nodes moved to.directory (may.outside is) below) now time)
    where
      hangs : (o : Option ℕ) → parent_at nodes to.directory ≡ o → is_some o ≡ true → IsBelowRoot nodes to.directory
      hangs None up e = absurd (true≢false (sym e))
      hangs (Some p) up e = fs.below to.directory p up

pub rename_keeps : (nodes : Nodes) (from to : Place) (moved : ℕ) (now : ℤ) → IsFileSystem nodes → Agrees nodes from → Agrees nodes to → from.node ≡ Some moved
    → rename_refusal nodes from to ≡ None → IsTime now → IsFileSystem (after_rename nodes from to moved now)
rename_keeps nodes from to moved now fs at_from at_to found allowed time = go (is_node to.node moved) refl
  where
    go : (b : Bool) → is_node to.node moved ≡ b → IsFileSystem (after_rename nodes from to moved now)
    go true same = subst IsFileSystem (sym (ap (λ b. cond b nodes (after_move nodes from to moved now)) same)) fs
    go false differs =
        let may = may_move nodes from to moved (sym (ap (rename_of nodes from to) found) ∙ allowed) differs in
        subst IsFileSystem (sym (ap (λ b. cond b nodes (after_move nodes from to moved now)) differs))
        (closed (after_move nodes from to moved now) (moved_tree nodes fs from to moved at_from at_to found may differs now time))

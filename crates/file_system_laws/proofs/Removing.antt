-- A name is removed, and the node that it named goes where it has no other name and no hold (unlink(2), rmdir(2)).
use Rattle.std.proofs.Common.{◌≡◌, ◌≢◌, ◌≤◌, ◌+◌, ◌-◌, ◌⊎◌, ◌&&◌, ℕ, Bool, true, false, cond, not, eqb, ℤ, List, [], ◌∷◌, length, All, get_or, Option, Some, None, is_some, refl, sym, ap, subst, ◌∙◌, arith, inl, inr, codes, bytes_eq}
use Rattle.std.proofs.lemmas.Bool.{cases_eq, cases_Bool, eq-eqb, ne_eqb, eqb-true, eqb-false, true≢false, and_parts, and_cases, not-false, or_from}
use Rattle.std.proofs.lemmas.Option.{none-some}
use Rattle.std.specs.FinMap.{get, remove}
use Rattle.kernel_core.specs.Nodes.{Nodes, Inode, NodeContent, File, Directory, Link, Listing, listing_at, listing_in, in_inode, is_directory, entries_in, update, settled, is_unused}
use Rattle.kernel_core.specs.PathWalk.{Place, Agrees}
use Rattle.kernel_core.specs.Totals.{content_entries, content_blocks}
use Rattle.kernel_core.specs.ValidTree.{names_in, root}
use Rattle.kernel_core.specs.NameCalls.{without_entry, in_directory, take_name, one_link_less, unlinked, orphaned, unlink_of, unlink_refusal, after_unlink, rmdir_of, rmdir_refusal, after_rmdir, has_entries, is_empty_list, is_no_entry}
use Rattle.kernel_core.specs.FileSystem.{name_count, IsTime, parent_of, parent_at, IsBelowRoot, IsFileSystem}
use Rattle.kernel_core.specs.declared.tree.DirEntry.{DirEntry}
use Rattle.file_system_laws.proofs.Lookups.{get-update_found, get-update_other, update-update, listing_kept, settled-used, settled-unused, get-settled_other, get-remove_same, get-remove_other, len-remove_le}
use Rattle.file_system_laws.proofs.Totals.{total-update, total-remove, total-zero}
use Rattle.file_system_laws.proofs.Reach.{below_kept}
use Rattle.file_system_laws.proofs.Entries.{one_if, All-unnamed}
use Rattle.file_system_laws.proofs.Tallies.{Tally, names_at, own, HasParentIn, IsListingIn, IsContentIn, IsLiveIn, IsTree, opened, closed, directory_found, listing_exists, is_listed, parent_says, IsAlike, IsSameNode, carried, changed_one, changed_within, kind_after, parent_after_other}
use Rattle.file_system_laws.proofs.Loose.{lacking, taking, one_if-same, one_if-other, taken_tree}
use Rattle.file_system_laws.proofs.Places.{Stands, stands_of, stands_of_file, node_lives, not_root, not_itself}

-- A node that nothing names

abbrev zero_if : Bool → ℕ
zero_if b = cond b 0 1

-- the tally in which one node may be without links and holds
abbrev pub unneeded : Nodes → ℕ → Tally
unneeded nodes node = record { count = name_count nodes; within = names_at nodes; need = λ m. zero_if (eqb m node); spare = 0 }

-- no directory has for its parent a node without entries
pub no_child : (w : Tally) (nodes : Nodes) (node : ℕ) → IsTree w nodes → ((m : ℕ) → m ≢ node → w.within node m ≡ 0) → node ≢ root
    → (m parent : ℕ) → m ≢ node → parent_at nodes m ≡ Some parent → parent ≢ node
no_child w nodes node tree none below_root m parent other up is =
    let says = parent_says nodes m w parent tree up in
    elim (cases_eq m root) [
      | inl here ↦ below_root (sym is ∙ (says.0 here).0)
      | inr apart ↦ (let a = none m other in let b = (says.1 apart).1 in let c = ap (λ p. w.within p m) is in absurd (omega (arith, a, b, c)))
    ]

-- every other directory still hangs below the root where a node without entries has no parent any more
pub below_without : (nodes changed : Nodes) (node : ℕ) → ((m : ℕ) → m ≢ node → parent_at changed m ≡ parent_at nodes m) → parent_at changed node ≡ None
    → ((m parent : ℕ) → m ≢ node → parent_at nodes m ≡ Some parent → parent ≢ node)
    → ((m parent : ℕ) → parent_at nodes m ≡ Some parent → IsBelowRoot nodes m)
    → (m parent : ℕ) → parent_at changed m ≡ Some parent → IsBelowRoot changed m
below_without nodes changed node same none apart below m parent up =
    let other : m ≢ node = λ is. none-some parent (sym none ∙ ap (parent_at changed) (sym is) ∙ up) in
    let chain = below m parent (sym (same m other) ∙ up) in
    (chain.0, below_kept nodes changed (λ k. k ≢ node) (λ k p stays at. (same k stays ∙ at, apart k p stays at)) chain.0 m other chain.1)

-- A file or link loses a name

module _ (nodes : Nodes) (node : ℕ) (tree : IsTree (lacking nodes node) nodes) (inode : Inode) (found : get nodes node ≡ Some inode)
    (plain : listing_in inode.content ≡ None) (now : ℤ) (time : IsTime now) where
  abbrev unnamed : Nodes
  unnamed = update nodes node (unlinked now)

  same_listings : (m : ℕ) → listing_at unnamed m ≡ listing_at nodes m
  same_listings = listing_kept nodes node (unlinked now) (λ i at. refl)

  same_counts : (m : ℕ) → name_count unnamed m ≡ name_count nodes m
  same_counts m = let a = total-update (λ i. names_in (content_entries i.content) m) nodes node (unlinked now) inode found in omega (arith, a)

  pub unlinked_tree : IsTree (unneeded unnamed node) unnamed
  unlinked_tree =
      changed_within w v nodes node (unlinked now) inode found refl refl alike live (omega arith) (omega arith) tree
    where
      w : Tally
      w = lacking nodes node

      v : Tally
      v = unneeded unnamed node

      alike : (m : ℕ) → m ≢ node → IsAlike w v nodes unnamed m
      alike m other = record {
        count = (let a = same_counts m in let b = one_if-other node m (λ e. other (sym e)) in omega (arith, a, b));
        within = λ p up. (let a = ap (λ o. names_in (entries_in o) m) (same_listings p) in let b = one_if-other node m (λ e. other (sym e)) in omega (arith, a, b));
        need = (let a = ap zero_if (ne_eqb m node other) in omega (arith, a));
      }

      content_is : (links : ℕ) (c : NodeContent) → listing_in c ≡ None → IsContentIn w nodes node links c → IsContentIn v unnamed node (links - 1) c
      content_is links (File content) none h = (h.0, (let a = h.1 in let b = one_if-same node node refl in let c = same_counts node in omega (arith, a, b, c)))
      content_is links (Directory l) none h = absurd (none-some l (sym none))
      content_is links (Link target) none h = (h.0, (let a = h.1 in let b = one_if-same node node refl in let c = same_counts node in omega (arith, a, b, c)))

      live : IsLiveIn v unnamed node (unlinked now inode)
      live =
          let old = tree.each node inode found in
          let s = old.sound in
          record {
            sound = record { low = s.low; high = s.high; mode = s.mode; access = s.access; modified = s.modified; changed = time; held = s.held };
            used = (let a = ap zero_if (eq-eqb node node refl) in omega (arith, a));
            content = content_is inode.links inode.content plain old.content;
          }

-- A directory loses its name

-- a directory that lacks its one name is named by nothing
module _ (nodes : Nodes) (node : ℕ) (tree : IsTree (lacking nodes node) nodes) (listing : Listing) (found : listing_at nodes node ≡ Some listing) (below_root : node ≢ root) where
  pub lone_count : name_count nodes node ≡ 0
  lone_count =
      let d = directory_found nodes node listing found in
      go d.0.links listing.parent (is_listed nodes node (lacking nodes node) d.0 listing (tree.each node d.0 d.1) d.2).parent
    where
      go : (links : ℕ) (o : Option ℕ) → HasParentIn (lacking nodes node) nodes node links listing o → name_count nodes node ≡ 0
      go links None h = absurd (let a = h.2 in let b = one_if-same node node refl in omega (arith, a, b))
      go links (Some p) h = (let a = (h.2 below_root).0 in let b = one_if-same node node refl in omega (arith, a, b))

  -- and no entry of a node is one for it
  pub lone_entries : (m : ℕ) (inode : Inode) → get nodes m ≡ Some inode → All (λ e. e.node ≢ node) (content_entries inode.content)
  lone_entries m inode at = All-unnamed (content_entries inode.content) node (total-zero (λ i. names_in (content_entries i.content) node) nodes m inode lone_count at)

module _ (nodes : Nodes) (node : ℕ) (tree : IsTree (lacking nodes node) nodes) (listing : Listing) (found : listing_at nodes node ≡ Some listing)
    (empty : listing.entries ≡ []) (below_root : node ≢ root) where
  abbrev removed : Nodes
  removed = update nodes node orphaned

  abbrev unparented : Listing → Listing
  unparented l = record l { parent = None }

  pub orphaned_tree : IsTree (unneeded removed node) removed
  orphaned_tree =
      let d = directory_found nodes node listing found in
      changed_one w v nodes node orphaned d.0 d.1 (kind d) (alike d) (same d) (live d) (blocks d) (few d)
      (parent_after_other w v nodes node orphaned d.0 d.1 root (λ e. below_root (sym e)) ∙ tree.top)
      (below_without nodes removed node (parent_after_other w v nodes node orphaned d.0 d.1) (none_after d) apart tree.below)
      tree
    where
      w : Tally
      w = lacking nodes node

      v : Tally
      v = unneeded removed node

      Found : Type 0
      Found = (inode : Inode) × (get nodes node ≡ Some inode) × (inode.content ≡ Directory listing)

      after_is : (d : Found) → in_directory unparented (d.0).content ≡ Directory (unparented listing)
      after_is d = ap (in_directory unparented) d.2

      kind : (d : Found) → is_some (listing_in (in_directory unparented (d.0).content)) ≡ is_some (listing_in (d.0).content)
      kind d = ap (λ c. is_some (listing_in c)) (after_is d) ∙ sym (ap (λ c. is_some (listing_in c)) d.2)

      none_after : (d : Found) → parent_at removed node ≡ None
      none_after d = ap (λ o. parent_of (in_inode listing_in o)) (get-update_found nodes node orphaned d.0 d.1) ∙ ap (λ c. parent_of (listing_in c)) (after_is d)

      entries_same : (d : Found) → content_entries (in_directory unparented (d.0).content) ≡ content_entries (d.0).content
      entries_same d = ap content_entries (after_is d) ∙ sym (ap content_entries d.2)

      counts : (d : Found) (m : ℕ) → name_count removed m ≡ name_count nodes m
      counts d m =
          let a = total-update (λ i. names_in (content_entries i.content) m) nodes node orphaned d.0 d.1 in
          let b = ap (λ es. names_in es m) (entries_same d) in
          omega (arith, a, b)

      names : (d : Found) (p m : ℕ) → names_at removed p m ≡ names_at nodes p m
      names d p m = elim (cases_eq p node) [
        | inl here ↦
            ap (λ k. names_at removed k m) here
            ∙ ap (λ o. names_in (entries_in (in_inode listing_in o)) m) (get-update_found nodes node orphaned d.0 d.1) ∙ ap (λ c. names_in (entries_in (listing_in c)) m) (after_is d)
            ∙ sym (ap (λ o. names_in (entries_in o) m) found) ∙ sym (ap (λ k. names_at nodes k m) here)
        | inr other ↦ ap (λ o. names_in (entries_in (in_inode listing_in o)) m) (get-update_other nodes node orphaned p other)
      ]

      alike : (d : Found) (m : ℕ) → m ≢ node → IsAlike w v nodes removed m
      alike d m other = record {
        count = (let a = counts d m in let b = one_if-other node m (λ e. other (sym e)) in omega (arith, a, b));
        within = λ p up. (let a = names d p m in let b = one_if-other node m (λ e. other (sym e)) in omega (arith, a, b));
        need = (let a = ap zero_if (ne_eqb m node other) in omega (arith, a));
      }

      apart : (m parent : ℕ) → m ≢ node → parent_at nodes m ≡ Some parent → parent ≢ node
      apart = no_child w nodes node tree
          (λ m other. let a = ap (λ o. names_in (entries_in o) m) found in let b = ap (λ es. names_in es m) empty in let c = one_if-other node m (λ e. other (sym e)) in
          let z : names_in [] m ≡ 0 = refl in omega (arith, a, b, c, z))
          below_root

      same : (d : Found) (m : ℕ) (inode : Inode) → m ≢ node → get nodes m ≡ Some inode → All (λ e. IsSameNode w v nodes removed e.node) (content_entries inode.content)
      same d m inode other at k x lt =
          let e = (get_or (content_entries inode.content) k x).node in
          let unnamed : e ≢ node = lone_entries nodes node tree listing found below_root m inode at k x lt in
          record {
            live = ap is_some (get-update_other nodes node orphaned e unnamed);
            kind = kind_after w v nodes node orphaned d.0 d.1 (kind d) e;
            parent = parent_after_other w v nodes node orphaned d.0 d.1 e unnamed;
          }

      blocks : (d : Found) → content_blocks (in_directory unparented (d.0).content) ≤ content_blocks (d.0).content
      blocks d = let a = ap content_blocks (after_is d) in let b = ap content_blocks d.2 in omega (arith, a, b)

      few : (d : Found) → length (content_entries (in_directory unparented (d.0).content)) + 0 ≤ length (content_entries (d.0).content) + 1
      few d = let a = ap length (entries_same d) in omega (arith, a)

      live : (d : Found) → IsLiveIn v removed node (orphaned d.0)
      live d =
          let old = tree.each node d.0 d.1 in
          let s = old.sound in
          let h = is_listed nodes node w d.0 listing old d.2 in
          let listed : IsListingIn v removed node 0 (unparented listing) = record {
            low = h.low;
            high = h.high;
            entries = h.entries;
            each = λ k x lt. absurd (let a = ap length empty in let z : length {A = DirEntry} [] ≡ 0 = refl in omega (arith, a, lt, z));
            parent = (empty, refl, counts d node ∙ lone_count nodes node tree listing found below_root, below_root);
          } in
          record {
            sound = record { low = s.low; high = s.high; mode = s.mode; access = s.access; modified = s.modified; changed = s.changed; held = s.held };
            used = (let a = ap zero_if (eq-eqb node node refl) in omega (arith, a));
            content = subst (λ c. IsContentIn v removed node 0 c) (sym (after_is d)) listed;
          }

-- A node without links and holds goes

module _ (nodes : Nodes) (node : ℕ) (tree : IsTree (unneeded nodes node) nodes) where
  -- what is known of a node without links
  record IsIdle (inode : Inode) : Type 0 where
    entries : content_entries inode.content ≡ []
    listed : entries_in (listing_in inode.content) ≡ []
    parent : parent_of (listing_in inode.content) ≡ None
    count : name_count nodes node ≡ 0

  idle : (inode : Inode) → get nodes node ≡ Some inode → inode.links ≡ 0 → IsIdle inode
  idle inode found none = record { entries = facts.0; listed = facts.1; parent = facts.2; count = facts.3 }
    where
      in_listing : (links : ℕ) (l : Listing) (o : Option ℕ) → l.parent ≡ o → links ≡ 0 → HasParentIn (unneeded nodes node) nodes node links l o
          → (l.entries ≡ []) × (l.entries ≡ []) × (l.parent ≡ None) × (name_count nodes node ≡ 0)
      in_listing links l None up z h = (h.0, h.0, up, h.2)
      in_listing links l (Some p) up z h = absurd (let a = h.0 in omega (arith, a, z))

      in_content : (links : ℕ) (c : NodeContent) → links ≡ 0 → IsContentIn (unneeded nodes node) nodes node links c
          → (content_entries c ≡ []) × (entries_in (listing_in c) ≡ []) × (parent_of (listing_in c) ≡ None) × (name_count nodes node ≡ 0)
      in_content links (File content) z h = (refl, refl, refl, sym h.1 ∙ z)
      in_content links (Directory l) z h = in_listing links l l.parent refl z h.parent
      in_content links (Link target) z h = (refl, refl, refl, sym h.1 ∙ z)

      facts : (content_entries inode.content ≡ []) × (entries_in (listing_in inode.content) ≡ []) × (parent_of (listing_in inode.content) ≡ None) × (name_count nodes node ≡ 0)
      facts = in_content inode.links inode.content none (tree.each node inode found).content

  gone_tree : (inode : Inode) → get nodes node ≡ Some inode → IsIdle inode → IsTree (own (remove nodes node)) (remove nodes node)
  gone_tree inode found is = record {
    top = others root (λ e. below_root (sym e)) ∙ tree.top;
    each = λ m i at. each m i at (cases_eq m node);
    below = below_without nodes (remove nodes node) node others none_after apart tree.below;
    few_nodes = (let a = tree.few_nodes in let b = len-remove_le nodes node in omega (arith, a, b));
    few_blocks = (let a = tree.few_blocks in let b = total-remove (λ i. content_blocks i.content) nodes node inode found in omega (arith, a, b));
    few_entries = (let a = tree.few_entries in let b = total-remove (λ i. length (content_entries i.content)) nodes node inode found in omega (arith, a, b));
  }
    where
      w : Tally
      w = unneeded nodes node

      v : Tally
      v = own (remove nodes node)

      parent_is : parent_at nodes node ≡ None
      parent_is = ap (λ o. parent_of (in_inode listing_in o)) found ∙ is.parent

      below_root : node ≢ root
      below_root e = none-some root (sym parent_is ∙ ap (parent_at nodes) e ∙ tree.top)

      others : (m : ℕ) → m ≢ node → parent_at (remove nodes node) m ≡ parent_at nodes m
      others m other = ap (λ o. parent_of (in_inode listing_in o)) (get-remove_other nodes node m other)

      none_after : parent_at (remove nodes node) node ≡ None
      none_after = ap (λ o. parent_of (in_inode listing_in o)) (get-remove_same nodes node)

      named_by : (m : ℕ) → names_at nodes node m ≡ 0
      named_by m = ap (λ o. names_in (entries_in (in_inode listing_in o)) m) found ∙ ap (λ es. names_in es m) is.listed

      apart : (m parent : ℕ) → m ≢ node → parent_at nodes m ≡ Some parent → parent ≢ node
      apart = no_child w nodes node tree (λ m other. named_by m) below_root

      names : (p m : ℕ) → names_at (remove nodes node) p m ≡ names_at nodes p m
      names p m = elim (cases_eq p node) [
        | inl here ↦ ap (λ k. names_at (remove nodes node) k m) here ∙ ap (λ o. names_in (entries_in (in_inode listing_in o)) m) (get-remove_same nodes node) ∙ sym (named_by m) ∙ sym (ap (λ k. names_at nodes k m) here)
        | inr other ↦ ap (λ o. names_in (entries_in (in_inode listing_in o)) m) (get-remove_other nodes node p other)
      ]

      alike : (m : ℕ) → m ≢ node → IsAlike w v nodes (remove nodes node) m
      alike m other = record {
        count = (let a = total-remove (λ i. names_in (content_entries i.content) m) nodes node inode found in let b = ap (λ es. names_in es m) is.entries in let z : names_in [] m ≡ 0 = refl in omega (arith, a, b, z));
        within = λ p up. names p m;
        need = (let a = ap zero_if (ne_eqb m node other) in omega (arith, a));
      }

      same : (m : ℕ) (i : Inode) → get nodes m ≡ Some i → All (λ e. IsSameNode w v nodes (remove nodes node) e.node) (content_entries i.content)
      same m i at k x lt =
          let e = (get_or (content_entries i.content) k x).node in
          let unnamed : e ≢ node = All-unnamed (content_entries i.content) node (total-zero (λ i. names_in (content_entries i.content) node) nodes m i is.count at) k x lt in
          let stays = get-remove_other nodes node e unnamed in
          record { live = ap is_some stays; kind = ap (λ o. is_some (in_inode listing_in o)) stays; parent = ap (λ o. parent_of (in_inode listing_in o)) stays }

      each : (m : ℕ) (i : Inode) → get (remove nodes node) m ≡ Some i → (m ≡ node) ⊎ (m ≡ node → ⊥) → IsLiveIn v (remove nodes node) m i
      each m i at (inl here) = absurd (none-some i (sym (get-remove_same nodes node) ∙ ap (get (remove nodes node)) (sym here) ∙ at))
      each m i at (inr other) =
          let at' : get nodes m ≡ Some i = sym (get-remove_other nodes node m other) ∙ at in
          carried w v nodes (remove nodes node) m (alike m other) i at' (same m i at') (tree.each m i at')

  -- where it is used it stays, as it should
  stays_tree : is_unused (get nodes node) ≡ false → IsTree (own nodes) nodes
  stays_tree used = record {
    top = tree.top;
    each = λ m i at. let h = tree.each m i at in record { sound = h.sound; used = needed m i at h.used (cases_eq m node); content = content_same m i.links i.content h.content };
    below = tree.below;
    few_nodes = tree.few_nodes;
    few_blocks = tree.few_blocks;
    few_entries = tree.few_entries;
  }
    where
      some_use : (a b : ℕ) → (eqb a 0 && eqb b 0) ≡ false → 1 ≤ a + b
      some_use a b e = elim (and_cases (eqb a 0) (eqb b 0) e) [
        | inl x ↦ (let n = eqb-false a 0 x in omega (arith, n))
        | inr x ↦ (let n = eqb-false b 0 x in omega (arith, n))
      ]

      needed : (m : ℕ) (i : Inode) → get nodes m ≡ Some i → (unneeded nodes node).need m ≤ i.links + i.holds → (m ≡ node) ⊎ (m ≡ node → ⊥) → 1 ≤ i.links + i.holds
      needed m i at h (inl here) = some_use i.links i.holds (sym (ap is_unused (ap (get nodes) (sym here) ∙ at)) ∙ used)
      needed m i at h (inr other) = (let a = ap zero_if (ne_eqb m node other) in omega (arith, a, h))

      parent_same : (m links : ℕ) (l : Listing) (o : Option ℕ) → HasParentIn (unneeded nodes node) nodes m links l o → HasParentIn (own nodes) nodes m links l o
      parent_same m links l None h = h
      parent_same m links l (Some p) h = h

      content_same : (m links : ℕ) (c : NodeContent) → IsContentIn (unneeded nodes node) nodes m links c → IsContentIn (own nodes) nodes m links c
      content_same m links (File c) h = h
      content_same m links (Directory l) h = record { low = h.low; high = h.high; entries = h.entries; each = h.each; parent = parent_same m links l l.parent h.parent }
      content_same m links (Link t) h = h

  pub settled_tree : IsTree (own (settled nodes node)) (settled nodes node)
  settled_tree = go (get nodes node) refl (cases_Bool (is_unused (get nodes node)))
    where
      idle_of : (o : Option Inode) → get nodes node ≡ o → is_unused o ≡ true → IsTree (own (remove nodes node)) (remove nodes node)
      idle_of None found e = absurd (true≢false (sym e))
      idle_of (Some i) found e = gone_tree i found (idle i found (eqb-true i.links 0 (and_parts (eqb i.links 0) (eqb i.holds 0) e).0))

      go : (o : Option Inode) → get nodes node ≡ o → (is_unused (get nodes node) ≡ true) ⊎ (is_unused (get nodes node) ≡ false) → IsTree (own (settled nodes node)) (settled nodes node)
      go o found (inl unused) = subst (λ n. IsTree (own n) n) (sym (settled-unused nodes node unused)) (idle_of o found (ap is_unused (sym found) ∙ unused))
      go o found (inr used) = subst (λ n. IsTree (own n) n) (sym (settled-used nodes node used)) (stays_tree used)

-- The calls

-- what a removal leaves: a file system, in which all but the node and the directory is as before
pub record IsRemoved (nodes after : Nodes) (directory : ℕ) (name : List ℕ) (node : ℕ) (listing : Listing) : Type 0 where
  pub tree : IsTree (own after) after
  pub others : (m : ℕ) → m ≢ node → m ≢ directory → get after m ≡ get nodes m
  pub listed : listing_at after directory ≡ Some (without_entry name listing)
  pub lives : is_some (get after directory) ≡ true

pub passed : {X : Type 0} (b : Bool) (error : X) (rest : Option X) → cond b (Some error) rest ≡ None → (b ≡ false) × (rest ≡ None)
passed true error rest e = absurd (none-some error (sym e))
passed false error rest e = (refl, e)

module _ (nodes : Nodes) (tree : IsTree (own nodes) nodes) (directory : ℕ) (name : List ℕ) (node : ℕ) (s : Stands nodes directory name node) (now : ℤ) (time : IsTime now) where
  abbrev file_gone : Nodes
  file_gone = settled (update (take_name nodes directory name now) node (unlinked now)) node

  abbrev directory_gone : Nodes
  directory_gone = settled (update (update (take_name nodes directory name now) directory one_link_less) node orphaned) node

  -- the directory after its change, and every other node
  listing_taken : (links : ℕ → ℕ) → listing_at (update nodes directory (taking now name links)) directory ≡ Some (without_entry name s.listing)
  listing_taken links =
      let d = directory_found nodes directory s.listing s.live in
      ap (in_inode listing_in) (get-update_found nodes directory (taking now name links) d.0 d.1) ∙ ap (λ c. listing_in (in_directory (without_entry name) c)) d.2

  same_after : (links : ℕ → ℕ) (f : Inode → Inode) (m : ℕ) → m ≢ node → get (settled (update (update nodes directory (taking now name links)) node f) node) m ≡ get (update nodes directory (taking now name links)) m
  same_after links f m other = get-settled_other (update (update nodes directory (taking now name links)) node f) node m other ∙ get-update_other (update nodes directory (taking now name links)) node f m other

  left_by : (links : ℕ → ℕ) (f : Inode → Inode)
      → IsTree (own (settled (update (update nodes directory (taking now name links)) node f) node)) (settled (update (update nodes directory (taking now name links)) node f) node)
      → IsRemoved nodes (settled (update (update nodes directory (taking now name links)) node f) node) directory name node s.listing
  left_by links f is = record {
    tree = is;
    others = λ m other apart. same_after links f m other ∙ get-update_other nodes directory (taking now name links) m apart;
    listed = ap (in_inode listing_in) here ∙ listing_taken links;
    lives = (let d = directory_found nodes directory s.listing s.live in ap is_some (here ∙ get-update_found nodes directory (taking now name links) d.0 d.1));
  }
    where
      here : get (settled (update (update nodes directory (taking now name links)) node f) node) directory ≡ get (update nodes directory (taking now name links)) directory
      here = same_after links f directory (λ e. not_itself nodes tree directory name node s (sym e))

  abbrev kept_links : ℕ → ℕ
  kept_links x = x

  abbrev less_link : ℕ → ℕ
  less_link x = x - 1

  -- the nodes without the name
  pub taken_as : (links : ℕ → ℕ) → ((x : ℕ) → 1 ≤ x → links x + one_if (is_directory nodes node) ≡ x)
      → IsTree (lacking (update nodes directory (taking now name links)) node) (update nodes directory (taking now name links))
  taken_as links fewer =
      subst (λ n. IsTree (lacking (update nodes directory (taking now name links)) n) (update nodes directory (taking now name links))) s.is
      (taken_tree nodes tree directory name s.listing s.entry s.live s.named now time links
      (λ x some. ap (λ n. links x + one_if (is_directory nodes n)) s.is ∙ fewer x some))

  pub file_removed : is_directory nodes node ≡ false → IsRemoved nodes file_gone directory name node s.listing
  file_removed plain =
      let taken = update nodes directory (taking now name kept_links) in
      let one = ap one_if plain in
      let is = taken_as kept_links (λ x some. omega (arith, one)) in
      let live : (inode : Inode) × (get nodes node ≡ Some inode) = some_node (get nodes node) refl (node_lives nodes tree directory name node s) in
      let at : get taken node ≡ Some live.0 = get-update_other nodes directory (taking now name kept_links) node (not_itself nodes tree directory name node s) ∙ live.1 in
      left_by kept_links (unlinked now) (settled_tree (update taken node (unlinked now)) node (unlinked_tree taken node is live.0 at (no_listing live.0 live.1) now time))
    where
      some_node : (o : Option Inode) → get nodes node ≡ o → is_some o ≡ true → (inode : Inode) × (get nodes node ≡ Some inode)
      some_node None found e = absurd (true≢false (sym e))
      some_node (Some i) found e = (i, found)

      no_listing : (inode : Inode) → get nodes node ≡ Some inode → listing_in inode.content ≡ None
      no_listing inode found = go (listing_in inode.content) (sym (ap (λ o. is_some (in_inode listing_in o)) found) ∙ plain)
        where
          go : (o : Option Listing) → is_some o ≡ false → o ≡ None
          go None e = refl
          go (Some l) e = absurd (true≢false e)

  pub directory_removed : (listing : Listing) → listing_at nodes node ≡ Some listing → listing.entries ≡ [] → IsRemoved nodes directory_gone directory name node s.listing
  directory_removed listing found empty =
      let taken = update nodes directory (taking now name less_link) in
      let one = ap (λ o. one_if (is_some o)) found in
      let is = taken_as less_link (λ x some. omega (arith, one)) in
      let at : listing_at taken node ≡ Some listing =
      ap (in_inode listing_in) (get-update_other nodes directory (taking now name less_link) node (not_itself nodes tree directory name node s)) ∙ found in
      subst (λ n. IsRemoved nodes (settled (update n node orphaned) node) directory name node s.listing)
      (sym (update-update nodes directory (λ i. taking now name kept_links i) one_link_less))
      (left_by less_link orphaned (settled_tree (update taken node orphaned) node (orphaned_tree taken node is listing at empty (not_root nodes tree directory name node s))))

-- unlink(2)

unlink_plain : (nodes : Nodes) (place : Place) (node : ℕ) → place.node ≡ Some node → unlink_refusal nodes place ≡ None → is_directory nodes node ≡ false
unlink_plain nodes place node at allowed = (passed (is_directory nodes node) _ None (sym (ap (unlink_of nodes) at) ∙ allowed)).0

pub unlink_keeps : (nodes : Nodes) (place : Place) (node : ℕ) (now : ℤ) → IsFileSystem nodes → Agrees nodes place → place.node ≡ Some node → unlink_refusal nodes place ≡ None → IsTime now
    → IsFileSystem (after_unlink nodes place node now)
unlink_keeps nodes place node now fs agrees at allowed time =
    let tree = opened nodes fs in
    let plain = unlink_plain nodes place node at allowed in
    closed (after_unlink nodes place node now) (file_removed nodes tree place.directory place.name node (stands_of_file nodes tree place node agrees at plain) now time plain).tree

-- rmdir(2)

-- what rmdir's refusal says of a directory that may go
pub record MayGo (nodes : Nodes) (name : List ℕ) (node : ℕ) : Type 0 where
  pub plain : is_no_entry name ≡ false
  pub kind : is_directory nodes node ≡ true
  pub empty : has_entries nodes node ≡ false

may_go : (nodes : Nodes) (name : List ℕ) (node : ℕ) → rmdir_of nodes name (Some node) ≡ None → MayGo nodes name node
may_go nodes name node allowed =
    let a = passed (bytes_eq name (codes ".")) _ _ allowed in
    let b = passed (bytes_eq name (codes "..")) _ _ a.1 in
    let c = passed (eqb node root) _ _ b.1 in
    let d = passed (is_empty_list name) _ _ c.1 in
    let e = passed (not (is_directory nodes node)) _ _ d.1 in
    let f = passed (has_entries nodes node) _ None e.1 in
    record { plain = or_from _ _ d.0 (or_from _ _ a.0 b.0); kind = not-false (is_directory nodes node) e.0; empty = f.0 }

pub no_entries : (nodes : Nodes) (node : ℕ) (listing : Listing) → listing_at nodes node ≡ Some listing → has_entries nodes node ≡ false → listing.entries ≡ []
no_entries nodes node listing found none = go listing.entries (not-false _ (sym (ap (λ o. not (is_empty_list (entries_in o))) found) ∙ none))
  where
    go : (es : List DirEntry) → is_empty_list es ≡ true → es ≡ []
    go [] e = refl
    go (x ∷ es) e = absurd (true≢false (sym e))

pub rmdir_keeps : (nodes : Nodes) (place : Place) (node : ℕ) (now : ℤ) → IsFileSystem nodes → Agrees nodes place → place.node ≡ Some node → rmdir_refusal nodes place ≡ None → IsTime now
    → IsFileSystem (after_rmdir nodes place node now)
rmdir_keeps nodes place node now fs agrees at allowed time =
    let tree = opened nodes fs in
    let may = may_go nodes place.name node (sym (ap (rmdir_of nodes place.name) at) ∙ allowed) in
    let l = listing_exists nodes node may.kind in
    closed (after_rmdir nodes place node now)
    (directory_removed nodes tree place.directory place.name node (stands_of nodes place node agrees at may.plain) now time l.0 l.1 (no_entries nodes node l.0 l.1 may.empty)).tree

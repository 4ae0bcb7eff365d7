-- Each call on one node keeps a file system.
use Rattle.std.proofs.Common.{◌≡◌, ◌≢◌, ◌≤◌, ◌<◌, ◌+◌, ◌-◌, ◌^◌, ℕ, true, false, eqb, List, [], ◌∷◌, Option, Some, None, is_some, refl, sym, ap, subst, ◌∙◌, arith, inl, inr}
use Rattle.std.specs.Prelude.{ℤ, length, ◌&&◌}
use Rattle.std.specs.Option.{unwrap_or}
use Rattle.std.proofs.lemmas.Bool.{cases_eq, cases_Bool, eqb-true, and_parts, false≢true}
use Rattle.std.proofs.lemmas.Bool.Decides.{nat_tests}
use Rattle.std.specs.FinMap.{get, remove}
use Rattle.kernel_core.specs.FileContent.{FileContent, IsContent, kept_blocks, written, resized}
use Rattle.kernel_core.specs.Nodes.{Nodes, Inode, NodeContent, File, Directory, Link, Listing, listing_at, listing_in, in_inode, file_at, entries_in, update, settled, is_unused}
use Rattle.kernel_core.specs.Totals.{content_entries, content_blocks, live_blocks, spare_blocks}
use Rattle.kernel_core.specs.NodeCalls.{with_mode, with_times, held, let_go, released, with_content, modified_at, after_write, after_resize}
use Rattle.kernel_core.specs.FileSystem.{IsFileSystem, IsLive, IsLiveContent, HasParent, IsTime, name_count, parent_at, parent_of}
use Rattle.kernel_core.specs.ValidTree.{names_in, root, block_limit, greatest_mode}
use Rattle.file_system_laws.proofs.Lookups.{get-update_other, get-update_found, get-remove_same, get-remove_other, update-missing, is_some-update, part_kept, file_found, len-update, len-remove_le, settled-used, settled-unused, same_nodes, update-update, parent_found, directory_found}
use Rattle.file_system_laws.proofs.Totals.{total-kept, total-update, total-remove, total-remove_le, total-at_least}
use Rattle.file_system_laws.proofs.Entries.{All-unnamed}
use Rattle.file_system_laws.proofs.Carried.{Kept, SameShape, live-same_shape, below-same_shape, live-carried, below-carried_by, entries-live}

-- One node that is changed

entries_of_listing : (c : NodeContent) → content_entries c ≡ entries_in (listing_in c)
entries_of_listing (File content) = refl
entries_of_listing (Directory listing) = refl
entries_of_listing (Link target) = refl

same_entries : (c d : NodeContent) → listing_in c ≡ listing_in d → content_entries c ≡ content_entries d
same_entries c d e = entries_of_listing c ∙ ap entries_in e ∙ sym (entries_of_listing d)

module _ (nodes : Nodes) (n : ℕ) (f : Inode → Inode) (same : (i : Inode) → get nodes n ≡ Some i → listing_in ((f i).content) ≡ listing_in (i.content)) where
  pub same_shape : SameShape nodes (update nodes n f)
  same_shape = record {
    listings = part_kept nodes n f listing_in same;
    lives = λ q live. is_some-update nodes n f q ∙ live;
    names = λ q. total-kept (λ i. names_in (content_entries i.content) q) nodes n f (λ i found. ap (λ es. names_in es q) (same_entries _ _ (same i found)));
  }

  -- a change that leaves the node one that may live, in the nodes before it, and the blocks within their limit
  pub change_keeps : IsFileSystem nodes → ((i : Inode) → get nodes n ≡ Some i → IsLive nodes n (f i)) → live_blocks (update nodes n f) ≤ block_limit → IsFileSystem (update nodes n f)
  change_keeps is live blocks = record {
    top = ap parent_of (same_shape.listings root) ∙ is.top;
    each = each;
    below = λ q parent e. below-same_shape nodes (update nodes n f) same_shape q (is.below q parent (sym (ap parent_of (same_shape.listings q)) ∙ e));
    few_nodes = let e = len-update nodes n f in let h = is.few_nodes in omega (arith, e, h);
    few_blocks = blocks;
    few_entries =
        let e = total-kept (λ i. length (content_entries i.content)) nodes n f (λ i found. ap length (same_entries _ _ (same i found))) in
        let h = is.few_entries in
        omega (arith, e, h);
  }
    where
      at : (o : Option Inode) → get nodes n ≡ o → (j : Inode) → get (update nodes n f) n ≡ Some j → IsLive nodes n j
      at None e j found = absurd (let x : None ≡ Some j = sym e ∙ ap (λ m. get m n) (sym (update-missing nodes n f e)) ∙ found in cc)
      at (Some i) e j found =
          let x : Some (f i) ≡ Some j = sym (get-update_found nodes n f i e) ∙ found in
          let y : f i ≡ j = cc in
          subst (IsLive nodes n) y (live i e)

      each : (q : ℕ) (j : Inode) → get (update nodes n f) q ≡ Some j → IsLive (update nodes n f) q j
      each q j found = live-same_shape nodes (update nodes n f) same_shape q j (elim (cases_eq q n) [
        | inl here ↦ subst (λ k. IsLive nodes k j) (sym here) (at (get nodes n) refl j (ap (get (update nodes n f)) (sym here) ∙ found))
        | inr apart ↦ is.each q j (sym (get-update_other nodes n f q apart) ∙ found)
      ])

-- Mode, times and holds

module _ (nodes : Nodes) (n : ℕ) (is : IsFileSystem nodes) where
  same_blocks : (f : Inode → Inode) → ((i : Inode) → (f i).content ≡ i.content) → live_blocks (update nodes n f) ≤ block_limit
  same_blocks f same =
      let e = total-kept (λ i. content_blocks i.content) nodes n f (λ i found. ap content_blocks (same i)) in
      let h = is.few_blocks in
      omega (arith, e, h)

  pub mode_keeps : (mode : ℕ) (now : ℤ) → mode ≤ greatest_mode → IsTime now → IsFileSystem (update nodes n (with_mode mode now))
  mode_keeps mode now small time =
      change_keeps nodes n (with_mode mode now) (λ i found. refl) is
      (λ i found. let old = is.each n i found in record {
        low = old.low;
        high = old.high;
        mode = small;
        access = old.access;
        modified = old.modified;
        changed = time;
        used = old.used;
        held = old.held;
        content = old.content;
      })
      (same_blocks (with_mode mode now) (λ i. refl))

  chosen : (given : Option ℤ) (kept : ℤ) → ((t : ℤ) → given ≡ Some t → IsTime t) → IsTime kept → IsTime (unwrap_or given kept)
  chosen None kept times time = time
  chosen (Some t) kept times time = times t refl

  pub times_keep : (access modified : Option ℤ) (now : ℤ) → ((t : ℤ) → access ≡ Some t → IsTime t) → ((t : ℤ) → modified ≡ Some t → IsTime t) → IsTime now
      → IsFileSystem (update nodes n (with_times access modified now))
  times_keep access modified now first second time =
      change_keeps nodes n (with_times access modified now) (λ i found. refl) is
      (λ i found. let old = is.each n i found in record {
        low = old.low;
        high = old.high;
        mode = old.mode;
        access = chosen access i.access first old.access;
        modified = chosen modified i.modified second old.modified;
        changed = time;
        used = old.used;
        held = old.held;
        content = old.content;
      })
      (same_blocks (with_times access modified now) (λ i. refl))

  pub hold_keeps : ((i : Inode) → get nodes n ≡ Some i → i.holds + 1 < 2 ^ 32) → IsFileSystem (update nodes n held)
  hold_keeps few =
      change_keeps nodes n held (λ i found. refl) is
      (λ i found. let old = is.each n i found in record {
        low = old.low;
        high = old.high;
        mode = old.mode;
        access = old.access;
        modified = old.modified;
        changed = old.changed;
        used = let h = old.used in omega (arith, h);
        held = few i found;
        content = old.content;
      })
      (same_blocks held (λ i. refl))

-- A node that goes

module _ (nodes : Nodes) (n : ℕ) (i : Inode) (is : IsFileSystem nodes) (found : get nodes n ≡ Some i) (unlinked : i.links ≡ 0) where
  -- no entry names a node that has no link, and it has no entries and is no directory's parent
  unnamed : (name_count nodes n ≡ 0) × (listing_at nodes n ≡ listing_in i.content) × (content_entries i.content ≡ []) × (parent_at nodes n ≡ None)
  unnamed = let r = go i.content ((is.each n i found).content) in (r.0, at, r.1, ap parent_of at ∙ r.2)
    where
      at : listing_at nodes n ≡ listing_in i.content
      at = ap (in_inode listing_in) found

      parented : (l : Listing) (p : Option ℕ) → HasParent nodes n i.links l p → (name_count nodes n ≡ 0) × (l.entries ≡ []) × (p ≡ None)
      parented l None has = (has.2, has.0, refl)
      parented l (Some parent) has = absurd (let h = has.0 in omega (arith, h, unlinked))

      go : (c : NodeContent) → IsLiveContent nodes n i.links c → (name_count nodes n ≡ 0) × (content_entries c ≡ []) × (parent_of (listing_in c) ≡ None)
      go (File content) live = (sym live.1 ∙ unlinked, refl, refl)
      go (Directory listing) live = parented listing listing.parent live.parent
      go (Link target) live = (sym live.1 ∙ unlinked, refl, refl)

  not_root : n ≢ root
  not_root top = let e : None ≡ Some root = sym (unnamed.3) ∙ ap (parent_at nodes) top ∙ is.top in cc

  listing_other : (q : ℕ) → q ≢ n → listing_at (remove nodes n) q ≡ listing_at nodes q
  listing_other q apart = ap (in_inode listing_in) (get-remove_other nodes n q apart)

  kept : (q : ℕ) → q ≢ n → is_some (get nodes q) ≡ true → Kept nodes (remove nodes n) q
  kept q apart live = record {
    live = ap is_some (get-remove_other nodes n q apart) ∙ live;
    directory = ap is_some (listing_other q apart);
    parent = ap parent_of (listing_other q apart);
  }

  names : (q : ℕ) → name_count (remove nodes n) q ≡ name_count nodes q
  names q =
      let a = total-remove (λ i. names_in (content_entries i.content) q) nodes n i found in
      let b : names_in (content_entries i.content) q ≡ 0 = ap (λ es. names_in es q) unnamed.2 in
      omega (arith, a, b)

  no_entries : entries_in (listing_at nodes n) ≡ []
  no_entries = ap entries_in unnamed.1 ∙ sym (entries_of_listing i.content) ∙ unnamed.2

  -- whichever directory is asked, it names a node as often as before
  names_above : (above q : ℕ) → names_in (entries_in (listing_at (remove nodes n) above)) q ≡ names_in (entries_in (listing_at nodes above)) q
  names_above above q = elim (cases_eq above n) [
    | inl here ↦
        ap (λ k. names_in (entries_in (listing_at (remove nodes n) k)) q) here
        ∙ ap (λ o. names_in (entries_in (in_inode listing_in o)) q) (get-remove_same nodes n)
        ∙ ap (λ es. names_in es q) (sym no_entries)
        ∙ ap (λ k. names_in (entries_in (listing_at nodes k)) q) (sym here)
    | inr apart ↦ ap (λ o. names_in (entries_in o) q) (listing_other above apart)
  ]

  -- a directory whose parent is the node would be named in it
  parent_apart : (q parent : ℕ) → q ≢ n → parent_at nodes q ≡ Some parent → parent ≢ n
  parent_apart q parent apart e here =
      let p = parent_found nodes q parent e in
      let d = directory_found nodes q p.0 p.1 in
      let l = entries-live nodes q (d.0).links (d.0).content ((is.each q d.0 d.1).content) p.0 d.2 in
      let has : HasParent nodes q (d.0).links p.0 (Some parent) = subst (HasParent nodes q (d.0).links p.0) p.2 l.parent in
      elim (cases_eq q root) [
        | inl top ↦ not_root (sym here ∙ (has.1 top).0)
        | inr lower ↦
            let one = (has.2 lower).1 in
            let none : names_in (entries_in (listing_at nodes parent)) q ≡ 0 = ap (λ k. names_in (entries_in (listing_at nodes k)) q) here ∙ ap (λ es. names_in es q) no_entries in
            absurd (omega (arith, one, none))
      ]

  each : (q : ℕ) (j : Inode) → get (remove nodes n) q ≡ Some j → IsLive (remove nodes n) q j
  each q j at = elim (cases_eq q n) [
    | inl here ↦ absurd (let e : None ≡ Some j = sym (get-remove_same nodes n) ∙ ap (get (remove nodes n)) (sym here) ∙ at in cc)
    | inr apart ↦
        let old = is.each q j (sym (get-remove_other nodes n q apart) ∙ at) in
        live-carried nodes (remove nodes n) q j
        (λ listing e.
        let l = entries-live nodes q j.links j.content old.content listing e in
        let fewer = total-at_least (λ i. names_in (content_entries i.content) n) nodes q j (sym (get-remove_other nodes n q apart) ∙ at) in
        let here : names_in (content_entries j.content) n ≡ names_in listing.entries n = ap (λ c. names_in (content_entries c) n) e in
        let zero = unnamed.0 in
        let away = All-unnamed listing.entries n (omega (arith, fewer, here, zero)) in
        λ k d short. kept _ (away k d short) ((l.each k d short).live))
        (names q)
        (λ listing above e has lower. names_above above q)
        old
  ]

  pub remove_keeps : IsFileSystem (remove nodes n)
  remove_keeps = record {
    top = ap parent_of (listing_other root (λ e. not_root (sym e))) ∙ is.top;
    each = each;
    below = λ q parent e. elim (cases_eq q n) [
      | inl here ↦ absurd (let f : None ≡ Some parent = sym (ap (λ o. parent_of (in_inode listing_in o)) (get-remove_same nodes n)) ∙ ap (parent_at (remove nodes n)) (sym here) ∙ e in cc)
      | inr apart ↦
          let old = is.below q parent (sym (ap parent_of (listing_other q apart)) ∙ e) in
          (old.0, below-carried_by nodes (remove nodes n) (λ k. k ≢ n) (λ k p away f. (ap parent_of (listing_other k away) ∙ f, parent_apart k p away f)) old.0 q apart old.1)
    ];
    few_nodes = let a = len-remove_le nodes n in let b = is.few_nodes in omega (arith, a, b);
    few_blocks = let a = total-remove_le (λ i. content_blocks i.content) nodes n in let b = is.few_blocks in omega (arith, a, b);
    few_entries = let a = total-remove_le (λ i. length (content_entries i.content)) nodes n in let b = is.few_entries in omega (arith, a, b);
  }

-- a node as if it had one hold
abbrev pub once_held : Inode → Inode
once_held inode = record inode { holds = 1 }

-- A node is settled: the nodes are a file system where it is used, and would be one if it were held where it is not.
pub settle_keeps : (nodes : Nodes) (n : ℕ) → (is_unused (get nodes n) ≡ false → IsFileSystem nodes) → (is_unused (get nodes n) ≡ true → IsFileSystem (update nodes n once_held))
    → IsFileSystem (settled nodes n)
settle_keeps nodes n used unused = elim (cases_Bool (is_unused (get nodes n))) [
  | inl goes ↦ subst IsFileSystem (sym (settled-unused nodes n goes)) (go (get nodes n) refl goes)
  | inr stays ↦ subst IsFileSystem (sym (settled-used nodes n stays)) (used stays)
]
  where
    same : (i : Inode) → get nodes n ≡ Some i → remove (update nodes n once_held) n ≡ remove nodes n
    same i e = same_nodes _ _ (λ q. elim (cases_eq q n) [
      | inl here ↦ ap (get (remove (update nodes n once_held) n)) here ∙ get-remove_same (update nodes n once_held) n ∙ sym (get-remove_same nodes n) ∙ ap (get (remove nodes n)) (sym here)
      | inr apart ↦ get-remove_other (update nodes n once_held) n q apart ∙ get-update_other nodes n once_held q apart ∙ sym (get-remove_other nodes n q apart)
    ])

    go : (o : Option Inode) → get nodes n ≡ o → is_unused o ≡ true → IsFileSystem (remove nodes n)
    go None e un = absurd (false≢true un)
    go (Some i) e un =
        let zero : i.links ≡ 0 = eqb-true _ _ ((and_parts _ _ un).0) in
        subst IsFileSystem (same i e)
        (remove_keeps (update nodes n once_held) n (once_held i) (unused (ap is_unused e ∙ un)) (get-update_found nodes n once_held i e) zero)

-- a hold that is released
pub release_keeps : (nodes : Nodes) (n : ℕ) → IsFileSystem nodes → IsFileSystem (released nodes n)
release_keeps nodes n is = settle_keeps (update nodes n let_go) n
    (λ used. change_keeps nodes n let_go (λ i found. refl) is
    (λ i found. let old = is.each n i found in
    let some = sym (ap is_unused (get-update_found nodes n let_go i found)) ∙ used in
    record {
      low = old.low;
      high = old.high;
      mode = old.mode;
      access = old.access;
      modified = old.modified;
      changed = old.changed;
      used = in_use i.links (i.holds - 1) some;
      held = let h = old.held in fewer i.holds h;
      content = old.content;
    })
    (same_blocks nodes n is let_go (λ i. refl)))
    (λ unused. subst IsFileSystem (sym (update-update nodes n let_go once_held))
    (change_keeps nodes n (λ i. once_held (let_go i)) (λ i found. refl) is
    (λ i found. let old = is.each n i found in record {
      low = old.low;
      high = old.high;
      mode = old.mode;
      access = old.access;
      modified = old.modified;
      changed = old.changed;
      used = omega arith;
      held = omega arith;
      content = old.content;
    })
    (same_blocks nodes n is (λ i. once_held (let_go i)) (λ i. refl))))
  where
    in_use : (l h : ℕ) → (eqb l 0 && eqb h 0) ≡ false → 1 ≤ l + h
    in_use l h e = grind (arith, nat_tests)

    fewer : (h : ℕ) → h < 2 ^ 32 → h - 1 < 2 ^ 32
    fewer h lt = omega arith

-- A file's content

module _ (nodes : Nodes) (n : ℕ) (content : FileContent) (is : IsFileSystem nodes) (there : file_at nodes n ≡ Some content) where
  -- content that a file may have, and that keeps at most so many blocks more as may still be taken
  pub content_keeps : (now : ℤ) (change : FileContent → FileContent) → IsTime now → IsContent (change content) → kept_blocks (change content) ≤ kept_blocks content + spare_blocks nodes
      → IsFileSystem (update nodes n (modified_at now change))
  content_keeps now change time may few =
      let d = file_found nodes n content there in
      change_keeps nodes n (modified_at now change) (λ i found. kept_listing i.content) is
      (λ i found.
      let old = is.each n i found in
      let x : Some i ≡ Some d.0 = sym found ∙ d.1 in
      let one : i ≡ d.0 = cc in
      record {
        low = old.low;
        high = old.high;
        mode = old.mode;
        access = old.access;
        modified = time;
        changed = time;
        used = old.used;
        held = old.held;
        content = subst (λ c. IsLiveContent nodes n i.links c → IsLiveContent nodes n i.links (with_content change c)) (sym (ap (λ i. i.content) one ∙ d.2)) (λ h. (may, h.1)) old.content;
      })
      (let a = total-update (λ i. content_blocks i.content) nodes n (modified_at now change) d.0 d.1 in
      let b : content_blocks d.0.content ≡ kept_blocks content = ap content_blocks d.2 in
      let c : content_blocks (with_content change d.0.content) ≡ kept_blocks (change content) = ap (λ c. content_blocks (with_content change c)) d.2 in
      let h = is.few_blocks in
      omega (arith, a, b, c, few, h))
    where
      kept_listing : (c : NodeContent) → listing_in (with_content change c) ≡ listing_in c
      kept_listing (File content) = refl
      kept_listing (Directory listing) = refl
      kept_listing (Link target) = refl

  pub write_keeps : (at : ℕ) (bytes : List ℕ) (now : ℤ) → IsTime now → IsContent (written content at bytes) → kept_blocks (written content at bytes) ≤ kept_blocks content + spare_blocks nodes
      → IsFileSystem (after_write nodes n at bytes now)
  write_keeps at [] now time may few = is
  write_keeps at (byte ∷ bytes) now time may few = content_keeps now (λ c. written c at (byte ∷ bytes)) time may few

  pub resize_keeps : (size : ℕ) (now : ℤ) → IsTime now → IsContent (resized content size) → kept_blocks (resized content size) ≤ kept_blocks content → IsFileSystem (after_resize nodes n size now)
  resize_keeps size now time may few = content_keeps now (λ c. resized c size) time may (omega (arith, few))

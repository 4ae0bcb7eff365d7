-- What a renaming that is not refused finds: the nodes without what stood under the new name, in which the entry can move.
use Rattle.std.proofs.Common.{◌≡◌, ◌≢◌, ◌<◌, ◌+◌, ◌^◌, ◌&&◌, ◌||◌, ℕ, Bool, true, false, cond, not, ℤ, length, Option, Some, None, is_some, is_none, refl, sym, ap, subst, ◌∙◌, arith, inl, inr}
use Rattle.std.proofs.lemmas.Bool.{cases_eq, cases_Bool, eqb-false, leb-false, true≢false, and_cases, or_parts}
use Rattle.std.proofs.lemmas.Option.{same_Some, none-some}
use Rattle.std.specs.FinMap.{get}
use Rattle.kernel_core.specs.FileSystem.{IsFileSystem, IsTime, IsBelowRoot, parent_of, parent_at}
use Rattle.kernel_core.specs.NameCalls.{with_entry, without_entry, in_directory, take_name, add_name, one_link_less, one_link_more, changed_at, reparented, after_unlink, after_rmdir, replace_name, move_parent, is_no_entry, is_in_subtree, replace_refusal, is_orphan, is_used_up, lacks_cookie, is_node, has_entries, move_refusal, rename_of, rename_refusal, after_move}
use Rattle.kernel_core.specs.Nodes.{Nodes, NodeContent, File, Directory, Link, Listing, listing_at, is_directory, entries_in, entry_named, update}
use Rattle.kernel_core.specs.PathWalk.{Place, Agrees}
use Rattle.kernel_core.specs.Totals.{content_entries, content_blocks, live_entries, live_blocks}
use Rattle.kernel_core.specs.ValidTree.{IsName, names_in, greatest_cookie}
use Rattle.kernel_core.specs.declared.error.Errno.TheVariants.{ENOTDIR, ENOTEMPTY, EISDIR}
use Rattle.file_system_laws.proofs.CallCounts.{links-le}
use Rattle.file_system_laws.proofs.Counts.{live_entries-kept, live_blocks-kept, live_entries-add_name, live_blocks-relisted, listing_at-relisted, listing_at-relisted_other}
use Rattle.file_system_laws.proofs.Entries.{none-others}
use Rattle.file_system_laws.proofs.Lookups.{directory_found}
use Rattle.file_system_laws.proofs.Places.{Stands, stands_of, no_entry_of_name, is_name_of, node_lives}
use Rattle.file_system_laws.proofs.Reach.{apart_from_subtree}
use Rattle.file_system_laws.proofs.Removing.{passed, no_entries, file_removed, directory_removed}
use Rattle.file_system_laws.proofs.Renaming.{IsReady, replaced, from_stays, ready_tree}
use Rattle.file_system_laws.proofs.Tallies.{own, names_at, IsTree, opened, closed, listing_exists}
use Rattle.file_system_laws.proofs.Totals.{total-kept}
use Rattle.native_vfs.specs.inside.Renames.{entry_moved, MayGive}
use Rattle.native_vfs.specs.inside.Steps.{links_in}
use Rattle.native_vfs.specs.inside.Stored.{CanAdd}
use Rattle.native_vfs.proofs.removals.LostNames.{some-node, directory-links}
use Rattle.native_vfs.proofs.removals.RemovalCounts.{taken-entries, taken-blocks}
use Rattle.file_system_laws.proofs.Swaps.{replace_swap}

-- what no refusal says of a move
record MayMove (nodes : Nodes) (from to : Place) (moved : ℕ) : Type 0 where
  from_plain : is_no_entry from.name ≡ false
  to_plain : is_no_entry to.name ≡ false
  outside : is_directory nodes moved ≡ true → is_in_subtree nodes moved to.directory ≡ false
  replaces : replace_refusal nodes moved to.node ≡ None
  parented : is_orphan (listing_at nodes to.directory) ≡ false
  cookie : lacks_cookie nodes to ≡ false

first_none : {X : Type 0} (o rest : Option X) → cond (is_some o) o rest ≡ None → (o ≡ None) × (rest ≡ None)
first_none None rest e = (refl, e)
first_none (Some x) rest e = absurd (none-some x (sym e))

may_move : (nodes : Nodes) (from to : Place) (moved : ℕ) → rename_of nodes from to (Some moved) ≡ None → is_node to.node moved ≡ false → MayMove nodes from to moved
may_move nodes from to moved allowed differs =
    let a = passed (is_no_entry from.name || is_no_entry to.name) _ _ allowed in
    let plain = or_parts (is_no_entry from.name) (is_no_entry to.name) a.0 in
    let b : move_refusal nodes to moved ≡ None = sym (ap (λ x. cond x None (move_refusal nodes to moved)) differs) ∙ a.1 in
    let c = passed (is_directory nodes moved && is_in_subtree nodes moved to.directory) _ _ b in
    let d = first_none (replace_refusal nodes moved to.node) _ c.1 in
    let e = passed (is_orphan (listing_at nodes to.directory)) _ _ d.1 in
    let f = passed (lacks_cookie nodes to) _ None e.1 in
    record {
      from_plain = plain.0;
      to_plain = plain.1;
      outside = λ is. elim (and_cases (is_directory nodes moved) (is_in_subtree nodes moved to.directory) c.0) [ inl not ↦ absurd (true≢false (sym is ∙ not)) | inr out ↦ out ];
      replaces = d.0;
      parented = e.0;
      cookie = f.0;
    }

empty_by : (b c d : Bool) → c ≡ true → cond b (cond (not c) (Some ENOTDIR) (cond d (Some ENOTEMPTY) None)) (cond c (Some EISDIR) None) ≡ None → d ≡ false
empty_by true c d is e = (passed d ENOTEMPTY None (passed (not c) ENOTDIR (cond d (Some ENOTEMPTY) None) e).1).0
empty_by false c d is e = absurd (true≢false (sym is ∙ (passed c EISDIR None e).0))

-- A new parent leaves the blocks.

reparented_blocks : (p : ℕ) (c : NodeContent) → content_blocks (in_directory (λ l. record l { parent = Some p }) c) ≡ content_blocks c
reparented_blocks p (File content) = refl
reparented_blocks p (Directory listing) = refl
reparented_blocks p (Link target) = refl

pub move_parent-blocks : (n : Nodes) (moved from to : ℕ) → live_blocks (move_parent n moved from to) ≡ live_blocks n
move_parent-blocks n moved from to = go (is_directory n moved)
  where
    go : (b : Bool) → live_blocks (cond b (update (update (update n from one_link_less) to one_link_more) moved (reparented to)) n) ≡ live_blocks n
    go true =
        total-kept (λ i. content_blocks i.content) (update (update n from one_link_less) to one_link_more) moved (reparented to) (λ i found. reparented_blocks to i.content)
        ∙ live_blocks-kept (update n from one_link_less) to one_link_more (λ i found. refl) ∙ live_blocks-kept n from one_link_less (λ i found. refl)
    go false = refl

module _ (nodes : Nodes) (fs : IsFileSystem nodes) (from to : Place) (moved : ℕ) (at_from : Agrees nodes from) (at_to : Agrees nodes to) (found : from.node ≡ Some moved)
    (allowed : rename_refusal nodes from to ≡ None) (differs : is_node to.node moved ≡ false) (now : ℤ) (time : IsTime now) where
  may : MayMove nodes from to moved
  may = may_move nodes from to moved (sym (ap (rename_of nodes from to) found) ∙ allowed) differs

  abbrev tree : IsTree (own nodes) nodes
  tree = opened nodes fs

  stands : Stands nodes from.directory from.name moved
  stands = stands_of nodes from moved at_from found may.from_plain

  pub to-plain : is_no_entry to.name ≡ false
  to-plain = may.to_plain

  pub to-name : IsName to.name
  to-name = is_name_of nodes to at_to may.to_plain

  -- what is replaced is empty
  pub may-give : MayGive nodes to.node
  may-give = go to.node refl
    where
      go : (o : Option ℕ) → to.node ≡ o → MayGive nodes o
      go None at = tt
      go (Some old) at = λ is. empty_by (is_directory nodes moved) (is_directory nodes old) (has_entries nodes old) is (sym (ap (replace_refusal nodes moved) at) ∙ may.replaces)

  room : at_to.listing.greatest < greatest_cookie
  room = leb-false greatest_cookie at_to.listing.greatest (sym (ap is_used_up at_to.live) ∙ may.cookie)

  has_parent : is_some at_to.listing.parent ≡ true
  has_parent = go at_to.listing.parent (sym (ap is_orphan at_to.live) ∙ may.parented)
    where
      go : (o : Option ℕ) → is_none o ≡ false → is_some o ≡ true
      go None e = absurd (true≢false e)
      go (Some p) e = refl

  -- the nodes without what stood under the new name
  record Prepared (o : Option ℕ) : Type 0 where
    ready : IsReady nodes (replace_name nodes to o now) from.directory from.name moved to.directory to.name
    swap : replace_name (take_name nodes from.directory from.name now) to o now ≡ take_name (replace_name nodes to o now) from.directory from.name now

  prepared_free : to.node ≡ None → Prepared None
  prepared_free at = record {
    ready = record {
      tree = tree;
      stands = stands;
      free = record {
        listing = at_to.listing;
        live = at_to.live;
        free = no_entry_of_name to.directory at_to.listing to.name may.to_plain (sym at_to.names ∙ at);
        room = room;
        has_parent = has_parent;
      };
      kind = refl;
      apart = λ a. a;
    };
    swap = refl;
  }

  module _ (old : ℕ) (at : to.node ≡ Some old) where
    under : Stands nodes to.directory to.name old
    under = stands_of nodes to old at_to at may.to_plain

    differ : moved ≢ old
    differ is = eqb-false old moved (sym (ap (λ o. is_node o moved) at) ∙ differs) (sym is)

    -- an entry's directory is the place's
    same_listing : under.listing ≡ at_to.listing
    same_listing = same_Some under.listing at_to.listing (sym under.live ∙ at_to.live)

    room' : under.listing.greatest < greatest_cookie
    room' = subst (λ l. l.greatest < greatest_cookie) (sym same_listing) room

    has_parent' : is_some under.listing.parent ≡ true
    has_parent' = subst (λ l. is_some l.parent ≡ true) (sym same_listing) has_parent

    swap_by : (quiet : (m : ℕ) → names_at nodes old m ≡ 0)
        → replace_name (take_name nodes from.directory from.name now) to (Some old) now ≡ take_name (replace_name nodes to (Some old) now) from.directory from.name now
    swap_by quiet =
        replace_swap nodes from.directory from.name to now old
        (from_stays nodes tree from.directory from.name moved stands to.directory to.name old under room' has_parent' differ quiet)

    prepared_file : is_directory nodes old ≡ false → Prepared (Some old)
    prepared_file plain = record {
      ready = subst (λ b. IsReady nodes (cond b (after_rmdir nodes to old now) (after_unlink nodes to old now)) from.directory from.name moved to.directory to.name) (sym plain)
          (replaced nodes tree from.directory from.name moved stands to.directory to.name old under room' has_parent' differ quiet (after_unlink nodes to old now)
          (file_removed nodes tree to.directory to.name old under now time plain));
      swap = swap_by quiet;
    }
      where
        unlisted : (o : Option Listing) (m : ℕ) → is_some o ≡ false → names_in (entries_in o) m ≡ 0
        unlisted None m e = refl
        unlisted (Some l) m e = absurd (true≢false e)

        quiet : (m : ℕ) → names_at nodes old m ≡ 0
        quiet m = unlisted (listing_at nodes old) m plain

    prepared_directory : is_directory nodes old ≡ true → Prepared (Some old)
    prepared_directory is =
        let l = listing_exists nodes old is in
        let empty = no_entries nodes old l.0 l.1 (empty_by (is_directory nodes moved) (is_directory nodes old) (has_entries nodes old) is (sym (ap (replace_refusal nodes moved) at) ∙ may.replaces)) in
        let quiet : (m : ℕ) → names_at nodes old m ≡ 0 = λ m. ap (λ o. names_in (entries_in o) m) l.1 ∙ ap (λ es. names_in es m) empty in
        record {
          ready = subst (λ b. IsReady nodes (cond b (after_rmdir nodes to old now) (after_unlink nodes to old now)) from.directory from.name moved to.directory to.name) (sym is)
              (replaced nodes tree from.directory from.name moved stands to.directory to.name old under room' has_parent' differ quiet (after_rmdir nodes to old now)
              (directory_removed nodes tree to.directory to.name old under now time l.0 l.1 empty));
          swap = swap_by quiet;
        }

  prepared : Prepared to.node
  prepared = go to.node refl
    where
      go : (o : Option ℕ) → to.node ≡ o → Prepared o
      go None at = prepared_free at
      go (Some old) at = elim (cases_Bool (is_directory nodes old)) [ inl is ↦ prepared_directory old at is | inr plain ↦ prepared_file old at plain ]

  abbrev pub cleared : Nodes
  cleared = replace_name nodes to to.node now

  abbrev ready : IsReady nodes cleared from.directory from.name moved to.directory to.name
  ready = prepared.ready

  -- The move in these nodes

  abbrev pub at_end : Nodes
  at_end = entry_moved cleared from.directory from.name moved to.directory to.name now

  pub moved-after : after_move nodes from to moved now ≡ at_end
  moved-after =
      ap (λ n. update (move_parent (add_name n to.directory to.name moved now) moved from.directory to.directory) moved (changed_at now)) prepared.swap

  pub moved-system : IsFileSystem at_end
  moved-system =
      closed at_end
      (ready_tree nodes cleared from.directory from.name moved to.directory to.name ready to-name
      (λ is. apart_from_subtree nodes moved to.directory (may.outside is) (hangs at_to.listing.parent (ap parent_of at_to.live) has_parent)) now time)
    where
      hangs : (o : Option ℕ) → parent_at nodes to.directory ≡ o → is_some o ≡ true → IsBelowRoot nodes to.directory
      hangs None up e = absurd (true≢false (sym e))
      hangs (Some p) up e = fs.below to.directory p up

  lives_listed : (n : ℕ) (listing : Listing) → listing_at cleared n ≡ Some listing → is_some (get cleared n) ≡ true
  lives_listed n listing live = let d = directory_found cleared n listing live in ap is_some d.1

  pub from-lives : is_some (get cleared from.directory) ≡ true
  from-lives = lives_listed from.directory ready.stands.listing ready.stands.live

  pub to-lives : is_some (get cleared to.directory) ≡ true
  to-lives = lives_listed to.directory ready.free.listing ready.free.live

  pub moved-lives : is_some (get cleared moved) ≡ true
  moved-lives = node_lives cleared ready.tree from.directory from.name moved ready.stands

  pub from-links : 0 < links_in (get cleared from.directory)
  from-links =
      let i = some-node cleared from.directory from-lives in
      subst (λ o. 0 < links_in o) (sym i.1) (directory-links cleared ready.tree from.directory from.name moved ready.stands now time i.0 i.1)

  pub to-links : links_in (get cleared to.directory) + 1 < 2 ^ 32
  to-links =
      let i = some-node cleared to.directory to-lives in
      let few = links-le cleared to.directory i.0 (closed cleared ready.tree) i.1 in
      let same = ap links_in i.1 in
      omega (arith, few, same)

  abbrev taken : Nodes
  taken = take_name cleared from.directory from.name now

  -- the new name's directory, after the old name was taken
  record IsOpen : Type 0 where
    listing : Listing
    live : listing_at taken to.directory ≡ Some listing
    free : entry_named listing.entries to.name ≡ None
    room : listing.greatest < greatest_cookie

  is_open : IsOpen
  is_open = elim (cases_eq to.directory from.directory) [
    | inl here ↦ record {
      listing = without_entry from.name ready.free.listing;
      live = ap (λ n. listing_at (take_name cleared n from.name now) to.directory) (sym here)
          ∙ listing_at-relisted cleared to.directory now (without_entry from.name) ready.free.listing ready.free.live;
      free = none-others to.name from.name (ready.free.listing).entries ready.free.free;
      room = ready.free.room;
    }
    | inr other ↦ record {
      listing = ready.free.listing;
      live = listing_at-relisted_other cleared from.directory now (without_entry from.name) to.directory other ∙ ready.free.live;
      free = ready.free.free;
      room = ready.free.room;
    }
  ]

  pub can-add : CanAdd (listing_at taken to.directory) to.name
  can-add = subst (λ o. CanAdd o to.name) (sym is_open.live) (is_open.room, is_open.free)

  -- Counts

  reparented_entries : (p : ℕ) (c : NodeContent) → length (content_entries (in_directory (λ l. record l { parent = Some p }) c)) ≡ length (content_entries c)
  reparented_entries p (File content) = refl
  reparented_entries p (Directory listing) = refl
  reparented_entries p (Link target) = refl

  parent_entries : (n : Nodes) → live_entries (move_parent n moved from.directory to.directory) ≡ live_entries n
  parent_entries n = go (is_directory n moved)
    where
      go : (b : Bool) → live_entries (cond b (update (update (update n from.directory one_link_less) to.directory one_link_more) moved (reparented to.directory)) n) ≡ live_entries n
      go true =
          total-kept (λ i. length (content_entries i.content)) (update (update n from.directory one_link_less) to.directory one_link_more) moved (reparented to.directory)
          (λ i found. reparented_entries to.directory i.content)
          ∙ live_entries-kept (update n from.directory one_link_less) to.directory one_link_more (λ i found. refl) ∙ live_entries-kept n from.directory one_link_less (λ i found. refl)
      go false = refl

  abbrev added : Nodes
  added = add_name taken to.directory to.name moved now

  -- one entry was taken, and one added
  pub moved-entries : live_entries at_end ≡ live_entries cleared
  moved-entries =
      live_entries-kept (move_parent added moved from.directory to.directory) moved (changed_at now) (λ i found. refl) ∙ parent_entries added
      ∙ live_entries-add_name taken to.directory to.name moved now is_open.listing is_open.live
      ∙ taken-entries cleared ready.tree from.directory from.name moved ready.stands now

  pub moved-blocks : live_blocks at_end ≡ live_blocks cleared
  moved-blocks =
      live_blocks-kept (move_parent added moved from.directory to.directory) moved (changed_at now) (λ i found. refl) ∙ move_parent-blocks added moved from.directory to.directory
      ∙ live_blocks-relisted taken to.directory now (with_entry to.name moved) ∙ taken-blocks cleared ready.tree from.directory from.name moved ready.stands now

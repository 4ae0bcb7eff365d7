-- Making a file, a directory or a symbolic link, and a second name, keeps a file system.
use Rattle.std.proofs.Common.{◌≡◌, ◌≢◌, ◌≤◌, ◌<◌, ◌+◌, ◌-◌, ℕ, zero, suc, Bool, true, false, cond, eqb, List, [], ◌∷◌, Option, Some, None, is_some, refl, sym, ap, subst, ◌∙◌, arith}
use Rattle.std.specs.Prelude.{slice_index, ℤ, All, length, count_by, ◌||◌, is_none}
use Rattle.std.specs.List.{list_any, IsDistinct}
use Rattle.std.specs.List.Sorted.{IsStrictlySortedBy}
use Rattle.std.proofs.lemmas.Bool.{ne_eqb, false≢true, or_parts, leb-false}
use Rattle.std.proofs.lemmas.List.Elements.{All-nil}
use Rattle.std.specs.Ordering.{nat_cmp}
use Rattle.std.specs.FinMap.{get, insert, remove, len, empty, get-empty, len-empty}
use Rattle.kernel_core.specs.Nodes.{Nodes, Inode, NodeContent, File, Directory, Link, Listing, listing_at, listing_in, in_inode, is_directory, entries_in, update}
use Rattle.kernel_core.specs.Totals.{content_entries, content_blocks, live_entries, nodes_full, entries_full}
use Rattle.kernel_core.specs.NameCalls.{IsNewNumber, new_file, new_directory, new_link, after_make, after_create, after_mkdir, after_symlink, after_link, one_link_more, changed_at, relisted, with_entry, is_orphan, is_used_up, lacks_cookie, name_refusal, make_refusal, symlink_refusal, link_refusal}
use Rattle.kernel_core.specs.FileSystem.{IsFileSystem, IsLive, IsLiveContent, IsTime, name_count, parent_of}
use Rattle.kernel_core.specs.PathWalk.{Place, Agrees}
use Rattle.kernel_core.specs.ValidTree.{AreEntries, IsEntry, IsTarget, names_in, node_limit, entry_limit, greatest_cookie, greatest_mode, greatest_number}
use Rattle.kernel_core.specs.declared.error.Errno.TheVariants.{EPERM, EEXIST, ENOENT, ENOSPC}
use Rattle.kernel_core.specs.declared.tree.DirEntry.{DirEntry}
use Rattle.file_system_laws.proofs.Lookups.{get-insert_same, get-insert_other, get-remove_other, get-remove_same, get-update_other, get-update_found, directory_found, put_back, len-insert_new, len-update, update-update}
use Rattle.file_system_laws.proofs.Totals.{total-none, total-at_least}
use Rattle.file_system_laws.proofs.Entries.{count_same}
use Rattle.file_system_laws.proofs.Counts.{name_count-insert, live_entries-insert, live_blocks-insert, name_count-kept, live_entries-kept, live_blocks-kept, listing_at-kept}
use Rattle.file_system_laws.proofs.Adding.{IsFree, free_name, grown, add_name-grown, IsRaised, adding_keeps, adding-names, adding-names_above}

-- What a call that is not refused tells

-- a name that may be made
pub record IsFreePlace (nodes : Nodes) (place : Place) (listing : Listing) : Type 0 where
  pub parent : ℕ
  pub above : listing.parent ≡ Some parent
  pub free : IsFree listing place.name
  pub cookies : listing.greatest < greatest_cookie

pub not_refused : (nodes : Nodes) (place : Place) (full : Bool) (agrees : Agrees nodes place) → name_refusal nodes place full ≡ None → (full ≡ false) × IsFreePlace nodes place agrees.listing
not_refused nodes place full agrees free = let r = parts in (r.1.0, made r.0 r.1 (agrees.listing.parent) refl)
  where
    inner : (orphan full lacks : Bool) → cond orphan (Some ENOENT) (cond (full || lacks) (Some ENOSPC) None) ≡ None → (full ≡ false) × (orphan ≡ false) × (lacks ≡ false)
    inner true full lacks h = absurd (let e : Some ENOENT ≡ None = h in cc)
    inner false true lacks h = absurd (let e : Some ENOSPC ≡ None = h in cc)
    inner false false true h = absurd (let e : Some ENOSPC ≡ None = h in cc)
    inner false false false h = (refl, refl, refl)

    outer : (node : Option ℕ) (orphan full lacks : Bool) → cond (is_some node) (Some EEXIST) (cond orphan (Some ENOENT) (cond (full || lacks) (Some ENOSPC) None)) ≡ None
        → (node ≡ None) × ((full ≡ false) × (orphan ≡ false) × (lacks ≡ false))
    outer None orphan full lacks h = (refl, inner orphan full lacks h)
    outer (Some node) orphan full lacks h = absurd (let e : Some EEXIST ≡ None = h in cc)

    parts : (place.node ≡ None) × ((full ≡ false) × (is_orphan (listing_at nodes place.directory) ≡ false) × (lacks_cookie nodes place ≡ false))
    parts = outer place.node (is_orphan (listing_at nodes place.directory)) full (lacks_cookie nodes place) free

    made : place.node ≡ None → (full ≡ false) × (is_orphan (listing_at nodes place.directory) ≡ false) × (lacks_cookie nodes place ≡ false)
        → (above : Option ℕ) → agrees.listing.parent ≡ above → IsFreePlace nodes place agrees.listing
    made none rest None e = absurd (false≢true (sym (rest.1) ∙ ap is_orphan agrees.live ∙ ap is_none e))
    made none rest (Some parent) e = record {
      parent = parent;
      above = e;
      free = free_name place.directory parent agrees.listing place.name e (sym agrees.names ∙ none) agrees.are_bytes agrees.short agrees.plain;
      cookies = leb-false greatest_cookie (agrees.listing.greatest) (sym (ap is_used_up agrees.live) ∙ rest.2);
    }

no_entries : AreEntries []
unfolding IsStrictlySortedBy IsDistinct
no_entries = record { each = All-nil IsEntry; rising = tt; distinct = tt }

-- New numbers

live_below : (k : ℕ) (nodes : Nodes) → ((q : ℕ) → q < k → is_some (get nodes (2 + q)) ≡ true) → k ≤ len nodes
live_below zero nodes all = omega arith
live_below (suc k) nodes all =
    go (get nodes (2 + k)) refl (all k (omega arith))
    (live_below k (remove nodes (2 + k)) (λ q lower. ap is_some (get-remove_other nodes (2 + k) (2 + q) (λ same. absurd (omega (arith, same, lower)))) ∙ all q (omega arith)))
  where
    go : (o : Option Inode) → get nodes (2 + k) ≡ o → is_some o ≡ true → k ≤ len (remove nodes (2 + k)) → suc k ≤ len nodes
    go None e live rest = absurd (false≢true live)
    go (Some i) e live rest =
        let a = ap len (put_back nodes (2 + k) i e) ∙ len-insert_new (remove nodes (2 + k)) (2 + k) i (get-remove_same nodes (2 + k)) in
        omega (arith, rest, a)

-- a new number is not greater than what nodes there are
pub new_number-small : (nodes : Nodes) (number : ℕ) → IsNewNumber nodes number → number ≤ len nodes + 2
new_number-small nodes number is =
    let a = live_below (number - 2) nodes (λ q lower. is.least (2 + q) (omega arith) (omega (arith, lower))) in
    omega (arith, a)

-- entries of which none names a node count 0
names_in-none : (entries : List DirEntry) (m : ℕ) → All (λ e. eqb e.node m ≡ false) entries → names_in entries m ≡ 0
names_in-none entries m all = count_same (λ e. eqb e.node m) (λ _. false) entries all ∙ never entries
  where
    never : (es : List DirEntry) → count_by (λ _. false) es ≡ 0
    never [] = refl
    never (e ∷ es) = never es

-- no entry names a number that no node has
pub unused-unnamed : (nodes : Nodes) (number : ℕ) → IsFileSystem nodes → get nodes number ≡ None → name_count nodes number ≡ 0
unused-unnamed nodes number is none =
    total-none (λ i. names_in (content_entries i.content) number) nodes (λ q i found. go q i.links i.content ((is.each q i found).content))
  where
    go : (q links : ℕ) (c : NodeContent) → IsLiveContent nodes q links c → names_in (content_entries c) number ≡ 0
    go q links (File content) live = refl
    go q links (Directory listing) live =
        names_in-none listing.entries number (λ k d short. ne_eqb _ number (λ e.
        absurd (false≢true (sym (ap is_some none) ∙ ap (λ n. is_some (get nodes n)) (sym e) ∙ (live.each k d short).live))))
    go q links (Link target) live = refl

-- A node that is made under a name

module _ (nodes : Nodes) (place : Place) (number : ℕ) (now : ℤ) (is : IsFileSystem nodes) (agrees : Agrees nodes place) (free : make_refusal nodes place ≡ None)
    (new : IsNewNumber nodes number) (time : IsTime now) where
  told : ((nodes_full nodes || entries_full nodes) ≡ false) × IsFreePlace nodes place agrees.listing
  told = not_refused nodes place (nodes_full nodes || entries_full nodes) agrees free

  room_nodes : len nodes < node_limit
  room_nodes = leb-false node_limit (len nodes) ((or_parts _ _ told.0).0)

  room_entries : live_entries nodes < entry_limit
  room_entries = leb-false entry_limit (live_entries nodes) ((or_parts _ _ told.0).1)

  low : 1 ≤ number
  low = let h = new.from_two in omega (arith, h)

  high : number ≤ greatest_number
  high = let a = new_number-small nodes number new in let b = room_nodes in omega (arith, a, b)

  away : number ≢ place.directory
  away e =
      let d = directory_found nodes place.directory agrees.listing agrees.live in
      absurd (let f : None ≡ Some d.0 = sym new.unused ∙ ap (get nodes) e ∙ d.1 in cc)

  raised : (more : ℕ) (inode : Inode) → content_entries inode.content ≡ [] → content_blocks inode.content ≡ 0 → cond (is_some (listing_in inode.content)) 1 0 ≡ more
      → (is_some (listing_in inode.content) ≡ true → parent_of (listing_in inode.content) ≡ Some place.directory)
      → entries_in (listing_in inode.content) ≡ []
      → IsRaised nodes (insert nodes number inode) place.directory number more inode
  raised more inode empty blocks count child entries = record {
    away = away;
    rest = λ q apart. get-insert_other nodes number inode q apart;
    there = get-insert_same nodes number inode;
    subdirectory = ap (λ o. cond (is_some o) 1 0) at ∙ count;
    child = λ dir. ap parent_of at ∙ child (sym (ap is_some at) ∙ dir);
    kept = λ lived. absurd (false≢true (sym (ap is_some new.unused) ∙ lived));
    entries = ap entries_in at ∙ entries ∙ sym (ap (λ o. entries_in (in_inode listing_in o)) new.unused);
    orphan = ap (λ o. parent_of (in_inode listing_in o)) new.unused;
    names = name_count-insert nodes number inode new.unused empty;
    few_nodes = let a = len-insert_new nodes number inode new.unused in let b = room_nodes in omega (arith, a, b);
    same_blocks = live_blocks-insert nodes number inode new.unused blocks;
    same_entries = live_entries-insert nodes number inode new.unused empty;
  }
    where
      at : listing_at (insert nodes number inode) number ≡ listing_in inode.content
      at = ap (in_inode listing_in) (get-insert_same nodes number inode)

  count : (more : ℕ) (inode : Inode) → IsRaised nodes (insert nodes number inode) place.directory number more inode
      → name_count (update (insert nodes number inode) place.directory (grown now place.name number more)) number ≡ 1
  count more inode r =
      let a = adding-names nodes (insert nodes number inode) place.directory place.name number now more inode agrees.listing told.1.parent is r agrees.live told.1.above told.1.free told.1.cookies time room_entries in
      let b = unused-unnamed nodes number is new.unused in
      omega (arith, a, b)

  keeps : (more : ℕ) (inode : Inode) → IsRaised nodes (insert nodes number inode) place.directory number more inode
      → IsLive (update (insert nodes number inode) place.directory (grown now place.name number more)) number inode
      → IsFileSystem (update (insert nodes number inode) place.directory (grown now place.name number more))
  keeps more inode r fresh =
      adding_keeps nodes (insert nodes number inode) place.directory place.name number now more inode agrees.listing told.1.parent is r agrees.live told.1.above told.1.free told.1.cookies time room_entries fresh

  -- a node that is no directory
  simple : (inode : Inode) → content_entries inode.content ≡ [] → content_blocks inode.content ≡ 0 → listing_in inode.content ≡ None
      → (IsRaised nodes (insert nodes number inode) place.directory number 0 inode → IsLive (update (insert nodes number inode) place.directory (grown now place.name number 0)) number inode)
      → IsFileSystem (after_make nodes place number inode now)
  simple inode empty blocks none live =
      let r = raised 0 inode empty blocks (ap (λ o. cond (is_some o) 1 0) none) (λ dir. absurd (false≢true (sym (ap is_some none) ∙ dir))) (ap entries_in none) in
      subst IsFileSystem (add_name-grown (insert nodes number inode) place.directory place.name number now) (keeps 0 inode r (live r))

  pub create_keeps : (mode : ℕ) → mode ≤ greatest_mode → IsFileSystem (after_create nodes place number mode now)
  create_keeps mode small = simple (new_file mode now) refl (len-empty nat_cmp (List ℕ)) refl (λ r. record {
    low = low;
    high = high;
    mode = small;
    access = time;
    modified = time;
    changed = time;
    used = omega arith;
    held = omega arith;
    content = (record { small = omega arith; blocks = λ index block found. absurd (let e : None ≡ Some block = sym (get-empty nat_cmp index) ∙ found in cc) }, sym (count 0 (new_file mode now) r));
  })

  pub make_link_keeps : (target : List ℕ) → IsTarget target → IsFileSystem (after_symlink nodes place number target now)
  make_link_keeps target right = simple (new_link target now) refl refl refl (λ r. record {
    low = low;
    high = high;
    mode = omega arith;
    access = time;
    modified = time;
    changed = time;
    used = omega arith;
    held = omega arith;
    content = (right, sym (count 0 (new_link target now) r));
  })

  names_above : (mode : ℕ) (r : IsRaised nodes (insert nodes number (new_directory mode place.directory now)) place.directory number 1 (new_directory mode place.directory now))
      → names_in (entries_in (listing_at (update (insert nodes number (new_directory mode place.directory now)) place.directory (grown now place.name number 1)) place.directory)) number ≡ 1
  names_above mode r =
      let i = new_directory mode place.directory now in
      let a = adding-names_above nodes (insert nodes number i) place.directory place.name number now 1 i agrees.listing told.1.parent is r agrees.live told.1.above told.1.free told.1.cookies time room_entries in
      let b = unused-unnamed nodes number is new.unused in
      let d = directory_found nodes place.directory agrees.listing agrees.live in
      let c = total-at_least (λ i. names_in (content_entries i.content) number) nodes place.directory d.0 d.1 in
      let e : names_in (content_entries (d.0).content) number ≡ names_in (agrees.listing.entries) number = ap (λ c. names_in (content_entries c) number) d.2 in
      omega (arith, a, b, c, e)

  pub mkdir_keeps : (mode : ℕ) → mode ≤ greatest_mode → IsFileSystem (after_mkdir nodes place number mode now)
  mkdir_keeps mode small =
      let i = new_directory mode place.directory now in
      let r = raised 1 i refl refl refl (λ dir. refl) refl in
      subst IsFileSystem (sym (update-update (insert nodes number i) place.directory (relisted now (with_entry place.name number)) one_link_more)) (keeps 1 i r (record {
        low = low;
        high = high;
        mode = small;
        access = time;
        modified = time;
        changed = time;
        used = omega arith;
        held = omega arith;
        content = record {
          low = omega arith;
          high = omega arith;
          entries = no_entries;
          each = All-nil _;
          parent = (
            refl,
            (λ top. absurd (let h = new.from_two in omega (arith, top, h))),
            (λ lower. (count 1 i r, names_above mode r)),
          );
        };
      }))

-- an empty target is refused
pub symlink_keeps : (nodes : Nodes) (place : Place) (number : ℕ) (target : List ℕ) (now : ℤ) → IsFileSystem nodes → Agrees nodes place → symlink_refusal nodes place target ≡ None
    → IsNewNumber nodes number → IsTime now → ((at : ℕ) → slice_index target at < 256) → length target ≤ 4095 → list_any (λ byte. eqb byte 0) target ≡ false → IsFileSystem (after_symlink nodes place number target now)
symlink_keeps nodes place number [] now is agrees free new time are short plain = absurd (let e : Some ENOENT ≡ None = free in cc)
symlink_keeps nodes place number (byte ∷ target) now is agrees free new time are short plain =
    make_link_keeps nodes place number now is agrees free new time (byte ∷ target) (record { are_bytes = are; some = omega arith; short = short; plain = plain })

-- A second name

module _ (nodes : Nodes) (node : ℕ) (place : Place) (now : ℤ) (inode : Inode) (is : IsFileSystem nodes) (agrees : Agrees nodes place) (free : link_refusal nodes node place ≡ None)
    (there : get nodes node ≡ Some inode) (time : IsTime now) where
  abbrev more_linked : Inode → Inode
  more_linked i = changed_at now (one_link_more i)

  plain_node : (is_directory nodes node ≡ false) × (name_refusal nodes place (entries_full nodes) ≡ None)
  plain_node = go (is_directory nodes node) free
    where
      go : (b : Bool) → cond b (Some EPERM) (name_refusal nodes place (entries_full nodes)) ≡ None → (b ≡ false) × (name_refusal nodes place (entries_full nodes) ≡ None)
      go true h = absurd (let e : Some EPERM ≡ None = h in cc)
      go false h = (refl, h)

  allowed : (entries_full nodes ≡ false) × IsFreePlace nodes place agrees.listing
  allowed = not_refused nodes place (entries_full nodes) agrees plain_node.1

  no_listing : listing_at nodes node ≡ None
  no_listing = go (listing_at nodes node) plain_node.0
    where
      go : (o : Option Listing) → is_some o ≡ false → o ≡ None
      go None h = refl
      go (Some l) h = absurd (false≢true (sym h))

  at : listing_at (update nodes node more_linked) node ≡ listing_at nodes node
  at = listing_at-kept nodes node more_linked (λ i found. refl) node

  linked : IsRaised nodes (update nodes node more_linked) place.directory node 0 (more_linked inode)
  linked = record {
    away = λ e. absurd (let f : None ≡ Some agrees.listing = sym no_listing ∙ ap (listing_at nodes) e ∙ agrees.live in cc);
    rest = λ q apart. get-update_other nodes node more_linked q apart;
    there = get-update_found nodes node more_linked inode there;
    subdirectory = ap (λ o. cond (is_some o) 1 0) (at ∙ no_listing);
    child = λ dir. absurd (false≢true (sym (ap is_some (at ∙ no_listing)) ∙ dir));
    kept = λ lived. record { live = ap is_some (get-update_found nodes node more_linked inode there); directory = ap is_some at; parent = ap parent_of at };
    entries = ap entries_in at;
    orphan = ap parent_of no_listing;
    names = name_count-kept nodes node more_linked (λ i found. refl);
    few_nodes = let a = len-update nodes node more_linked in let b = is.few_nodes in omega (arith, a, b);
    same_blocks = live_blocks-kept nodes node more_linked (λ i found. refl);
    same_entries = live_entries-kept nodes node more_linked (λ i found. refl);
  }

  entry_room : live_entries nodes < entry_limit
  entry_room = leb-false entry_limit (live_entries nodes) allowed.0

  abbrev named_twice : Nodes
  named_twice = update (update nodes node more_linked) place.directory (grown now place.name node 0)

  counted : name_count named_twice node ≡ name_count nodes node + 1
  counted = adding-names nodes (update nodes node more_linked) place.directory place.name node now 0 (more_linked inode) agrees.listing allowed.1.parent is linked agrees.live allowed.1.above allowed.1.free allowed.1.cookies time entry_room

  linked_content : (c : NodeContent) → listing_in c ≡ None → IsLiveContent nodes node inode.links c → IsLiveContent named_twice node (inode.links + 1) c
  linked_content (File content) none live = (live.0, let a = live.1 in let b = counted in omega (arith, a, b))
  linked_content (Directory listing) none live = absurd (let e : Some listing ≡ None = none in cc)
  linked_content (Link target) none live = (live.0, let a = live.1 in let b = counted in omega (arith, a, b))

  pub link_keeps : IsFileSystem (after_link nodes node place now)
  link_keeps =
      let old = is.each node inode there in
      subst IsFileSystem (add_name-grown (update nodes node more_linked) place.directory place.name node now)
      (adding_keeps nodes (update nodes node more_linked) place.directory place.name node now 0 (more_linked inode) agrees.listing allowed.1.parent is linked agrees.live allowed.1.above allowed.1.free allowed.1.cookies time entry_room
      (record {
        low = old.low;
        high = old.high;
        mode = old.mode;
        access = old.access;
        modified = old.modified;
        changed = time;
        used = omega arith;
        held = old.held;
        content = linked_content inode.content (sym (ap (in_inode listing_in) there) ∙ no_listing) old.content;
      }))

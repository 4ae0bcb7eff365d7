-- What the steps that make a node under a name leave.
use Rattle.std.proofs.Common.{◌≡◌, ◌≢◌, ℕ, ◌+◌, ◌-◌, ◌<◌, Bool, true, false, List, length, Option, Some, None, is_some, IsSome, refl, sym, ap, subst, ◌∙◌, arith, inl, inr, get_or-set_other, get_or-set_same}
use Rattle.std.specs.Prelude.{Result, Ok, Err, OnErr, option_map, ℤ, slice_set, ◌||◌}
use Rattle.std.proofs.lemmas.Bool.{cases_eq, leb-false, or_parts}
use Rattle.std.specs.FinMap.{get, insert, len}
use Rattle.slab.specs.Slab.{get as slab_get}
use Rattle.kernel_core.specs.NameCalls.{IsNewNumber, make_refusal, name_refusal, after_make, relisted, with_entry}
use Rattle.kernel_core.specs.Nodes.{Nodes, Inode, Listing, listing_at, listing_in, in_inode, update}
use Rattle.kernel_core.specs.PathWalk.{Agrees}
use Rattle.kernel_core.specs.Totals.{nodes_full, entries_full, content_blocks, live_blocks}
use Rattle.kernel_core.specs.ValidTree.{IsName, node_limit}
use Rattle.file_system_laws.proofs.Counts.{live_blocks-relisted, live_blocks-insert}
use Rattle.file_system_laws.proofs.Lookups.{is_some-update, get-insert_same, get-insert_other}
use Rattle.file_system_laws.proofs.Making.{IsFreePlace, not_refused}
use Rattle.number_pool.specs.Places.{is_taken_at, AreAllTaken, IsLeastFree}
use Rattle.number_pool.proofs.Pigeonhole.{full_pool_fits}
use Rattle.directory_names.specs.declared.entry.NodeRef.{NodeRef}
use Rattle.native_vfs.specs.Keyed.{place_at, number_at, AgreesAt}
use Rattle.native_vfs.specs.inside.Making.{IsMade}
use Rattle.native_vfs.specs.inside.Steps.{IsSame, IsAddition, IsInsertion}
use Rattle.native_vfs.specs.inside.Stored.{Table, nodes_of, keyed_of, inode_of, number_of_key, number_in, HasDistinctNumbers, Leads, AgreesPool, CanAdd}
use Rattle.native_vfs.specs.declared.place.Place.{Place as KeyedPlace}
use Rattle.native_vfs.specs.declared.stored.Stored.{Stored}
use Rattle.native_vfs.proofs.tables.Kept.{nodes-view}
use Rattle.native_vfs.proofs.tables.Reasons.{live-dir}
use Rattle.native_vfs.proofs.tables.Tables.{not_none, key-get, number_at-table, keys-kept, number-kept, distinct-kept, leads-kept}

-- The number

none_of : {X : Type 0} (o : Option X) → is_some o ≡ false → o ≡ None
none_of None h = refl
none_of (Some x) h = absurd (let e : true ≡ false = h in cc)

module _ (nodes : Nodes) (taken : List Bool) (agrees : AgreesPool nodes taken) (whole : length taken ≡ 65536) where
  -- where fewer nodes live than there are places, one is free
  pub not-all_taken : len nodes < 65536 → AreAllTaken taken → ⊥
  not-all_taken few all =
      let fits = full_pool_fits nodes 2 taken
      (λ place inside. let below : place < 65536 = omega (arith, whole, inside) in let e : 2 + place ≡ place + 2 = omega arith in ap (λ n. is_some (get nodes n)) e ∙ sym (agrees place below))
      all in
      omega (arith, fits, whole, few)

  -- the least free place is the least number that no node has
  pub new-number : (place number : ℕ) → IsLeastFree taken place → number ≡ place + 2 → IsNewNumber nodes number
  new-number place number least is =
      let inside : place < 65536 = let h = least.inside in omega (arith, h, whole) in
      record {
        from_two = omega (arith, is);
        unused = ap (get nodes) is ∙ none_of _ (sym (agrees place inside) ∙ least.free);
        least = λ lower low below.
            let at : lower ≡ (lower - 2) + 2 = omega (arith, low) in
            ap (λ n. is_some (get nodes n)) at ∙ sym (agrees (lower - 2) (omega (arith, below, is, inside))) ∙ least.below (lower - 2) (omega (arith, below, is, low));
      }

  -- then the place is taken, and the number is that of a node
  pub pool-made : (place number directory : ℕ) (inode : Inode) (change : Inode → Inode) → place < 65536 → number ≡ place + 2
      → AgreesPool (update (insert nodes number inode) directory change) (slice_set taken place true)
  pool-made place number directory inode change inside is other below = elim (cases_eq other place) [
    | inl here ↦
        ap (is_taken_at (slice_set taken place true)) here
        ∙ get_or-set_same taken place true false (omega (arith, inside, whole))
        ∙ sym (is_some-update (insert nodes number inode) directory change (other + 2)
        ∙ ap (λ n. is_some (get (insert nodes number inode) n)) (let e : other + 2 ≡ number = omega (arith, here, is) in e)
        ∙ ap is_some (get-insert_same nodes number inode))
    | inr apart ↦
        get_or-set_other taken place other true false apart
        ∙ agrees other below
        ∙ sym (is_some-update (insert nodes number inode) directory change (other + 2)
        ∙ ap is_some (get-insert_other nodes number inode (other + 2) (λ e. apart (omega (arith, e, is)))))
  ]

-- The place

module _ (table : Table) (at : KeyedPlace) (agrees : AgreesAt (keyed_of table) at) where
  pub agrees-nodes : Agrees (nodes_of table) (place_at (keyed_of table) at)
  agrees-nodes = subst (λ nodes. Agrees nodes (place_at (keyed_of table) at)) (nodes-view table) agrees.agrees

  pub listing-dir : listing_at (nodes_of table) (number_of_key table at.dir) ≡ Some agrees-nodes.listing
  listing-dir = ap (listing_at (nodes_of table)) (sym (number_at-table table at.dir)) ∙ agrees-nodes.live

  module _ (full : Bool) (free : name_refusal (nodes_of table) (place_at (keyed_of table) at) full ≡ None) where
    pub allowed : (full ≡ false) × IsFreePlace (nodes_of table) (place_at (keyed_of table) at) agrees-nodes.listing
    allowed = not_refused (nodes_of table) (place_at (keyed_of table) at) full agrees-nodes free

    pub right-name : IsName at.name
    right-name = allowed.1.free.right

    pub can-add : CanAdd (listing_at (nodes_of table) (number_of_key table at.dir)) at.name
    can-add = subst (λ o. CanAdd o at.name) (sym listing-dir) (allowed.1.cookies, allowed.1.free.none)

  module _ (free : make_refusal (nodes_of table) (place_at (keyed_of table) at) ≡ None) where
    limits : (nodes_full (nodes_of table) ≡ false) × (entries_full (nodes_of table) ≡ false)
    limits = or_parts _ _ (allowed (nodes_full (nodes_of table) || entries_full (nodes_of table)) free).0

    pub few-nodes : len (nodes_of table) < 65536
    few-nodes = leb-false node_limit (len (nodes_of table)) limits.0

-- The steps

pub same-same : (one two three : Table) → IsSame one two → IsSame two three → IsSame one three
same-same one two three first second = record {
  nodes = second.nodes ∙ first.nodes;
  keys = second.keys ∙ first.keys;
  numbers = λ key. second.numbers key ∙ first.numbers key;
  references = λ h. second.references (first.references h);
  room = λ directory h. second.room directory (first.room directory h);
}

module _ (old reserved inserted : Table) (key : ℕ) (node : Stored) (dir : ℕ) (live : IsSome (slab_get old dir)) (same : IsSame old reserved) (insertion : IsInsertion reserved inserted key node) where
  some-kept : IsSome (slab_get reserved dir)
  some-kept = by (slab_get old dir) (slab_get reserved dir) (same.numbers dir) live
    where
      by : (o p : Option Stored) → option_map (λ n. n.number) p ≡ option_map (λ n. n.number) o → IsSome o → IsSome p
      by None p h some = absurd (let e : false ≡ true = some in cc)
      by (Some n) None h some = absurd (let e : None ≡ Some n.number = h in cc)
      by (Some n) (Some m) h some = refl

  pub dir-away : dir ≢ key
  dir-away e = let h : false ≡ true = sym (ap is_some (ap (slab_get reserved) e ∙ insertion.free)) ∙ some-kept in cc

  pub dir-live : IsSome (slab_get inserted dir)
  dir-live = ap is_some (insertion.updates.others dir dir-away) ∙ some-kept

  pub dir-number : number_of_key inserted dir ≡ number_of_key old dir
  dir-number = ap number_in (insertion.updates.others dir dir-away) ∙ number-kept old reserved same.numbers dir

  pub nodes-inserted : nodes_of inserted ≡ insert (nodes_of old) node.number (inode_of node)
  nodes-inserted = insertion.nodes ∙ ap (λ nodes. insert nodes node.number (inode_of node)) same.nodes

  leads-inserted : (reference : NodeRef) → Leads old reference → Leads inserted reference
  leads-inserted reference leads =
      let l = leads-kept old reserved same.numbers reference leads in
      (l.0, insertion.updates.others reference.key (λ e. not_none l.0 (sym l.1 ∙ ap (slab_get reserved) e ∙ insertion.free)) ∙ l.1, l.2)

  -- the directory's listing is as it was
  pub listing-inserted : (listing : Listing) → get (nodes_of old) node.number ≡ None → listing_at (nodes_of old) (number_of_key old dir) ≡ Some listing
      → listing_at (nodes_of inserted) (number_of_key inserted dir) ≡ Some listing
  listing-inserted listing none live =
      ap (listing_at (nodes_of inserted)) dir-number ∙ ap (λ nodes. listing_at nodes (number_of_key old dir)) nodes-inserted
      ∙ ap (in_inode listing_in) (get-insert_other (nodes_of old) node.number (inode_of node) (number_of_key old dir) away) ∙ live
    where
      away : number_of_key old dir ≢ node.number
      away e = let h : None ≡ Some listing = sym (ap (in_inode listing_in) (ap (get (nodes_of old)) e ∙ none)) ∙ live in cc

  module _ (new : Table) (now : ℤ) (at : KeyedPlace) (at_dir : at.dir ≡ dir) (name : List ℕ) (at_name : name ≡ at.name)
      (addition : IsAddition inserted new dir (relisted now (with_entry name node.number))) (taken : List Bool) (place : ℕ)
      (distinct : HasDistinctNumbers old) (agrees : AgreesPool (nodes_of old) taken) (whole : length taken ≡ 65536) (least : IsLeastFree taken place) (is : node.number ≡ place + 2) where
    nodes_made : nodes_of new ≡ after_make (nodes_of old) (place_at (keyed_of old) at) node.number (inode_of node) now
    nodes_made =
        addition.nodes
        ∙ ap (λ n. update (nodes_of inserted) n (relisted now (with_entry name node.number))) (dir-number ∙ ap (number_of_key old) (sym at_dir) ∙ sym (number_at-table old at.dir))
        ∙ ap (λ nodes. update nodes (number_at (keyed_of old) at.dir) (relisted now (with_entry name node.number))) nodes-inserted
        ∙ ap (λ name. update (insert (nodes_of old) node.number (inode_of node)) (number_at (keyed_of old) at.dir) (relisted now (with_entry name node.number))) at_name

    pub made : IsMade old new key (λ number. after_make (nodes_of old) (place_at (keyed_of old) at) number (inode_of node) now)
    made = record {
      number = node.number;
      least = new-number (nodes_of old) taken agrees whole place node.number least is;
      nodes = nodes_made;
      fresh = ap (λ keys. get keys key) (sym same.keys) ∙ key-get reserved key ∙ ap (option_map (λ n. n.number)) insertion.free;
      keys = keys-kept inserted new addition.numbers ∙ insertion.keys ∙ ap (λ keys. insert keys key node.number) same.keys;
      references = λ h. addition.references (insertion.references (same.references h));
      leads = λ reference h. leads-kept inserted new addition.numbers reference (leads-inserted reference h);
    }

    pub made-distinct : HasDistinctNumbers new
    made-distinct = distinct-kept inserted new addition.numbers insertion.distinct

    pub made-pool : AgreesPool (nodes_of new) (slice_set taken place true)
    made-pool = subst (λ nodes. AgreesPool nodes (slice_set taken place true)) (sym nodes_made)
        (pool-made (nodes_of old) taken agrees whole place node.number (number_at (keyed_of old) at.dir) (inode_of node) (relisted now (with_entry at.name node.number))
        (let h = least.inside in omega (arith, h, whole)) is)

-- a node that keeps no block leaves their count
pub made-blocks : (old new : Table) (key : ℕ) (at : KeyedPlace) (inode : Inode) (now : ℤ) → content_blocks inode.content ≡ 0
    → IsMade old new key (λ number. after_make (nodes_of old) (place_at (keyed_of old) at) number inode now) → (blocks : ℕ) → blocks ≡ live_blocks (nodes_of old) → blocks ≡ live_blocks (nodes_of new)
made-blocks old new key at inode now none made blocks counted =
    counted ∙ sym (ap live_blocks made.nodes
    ∙ live_blocks-relisted (insert (nodes_of old) made.number inode) (number_at (keyed_of old) at.dir) now (with_entry at.name made.number)
    ∙ live_blocks-insert (nodes_of old) made.number inode made.least.unused none)

-- what an error leaves
pub on-err : {A E P : Type 0} (result : Result A E) → P → OnErr result P
on-err (Ok value) h = tt
on-err (Err error) h = h

-- a name can be added where a node came in
pub can-insert : (old reserved inserted : Table) (key : ℕ) (node : Stored) (at : KeyedPlace) (name : List ℕ) (full : Bool) (agrees : AgreesAt (keyed_of old) at)
    → name_refusal (nodes_of old) (place_at (keyed_of old) at) full ≡ None → IsSame old reserved → IsInsertion reserved inserted key node → get (nodes_of old) node.number ≡ None → name ≡ at.name
    → CanAdd (listing_at (nodes_of inserted) (number_of_key inserted at.dir)) name
can-insert old reserved inserted key node at name full agrees free same insertion none is =
    let h = allowed old at agrees full free in
    let listing = listing-inserted old reserved inserted key node at.dir (live-dir old at agrees) same insertion (agrees-nodes old at agrees).listing none (listing-dir old at agrees) in
    subst (λ name. CanAdd (listing_at (nodes_of inserted) (number_of_key inserted at.dir)) name) (sym is)
    (subst (λ o. CanAdd o at.name) (sym listing) (h.1.cookies, h.1.free.none))

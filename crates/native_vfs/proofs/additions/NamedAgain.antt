-- What the steps that give a node one more name leave.
use Rattle.std.proofs.Common.{◌≡◌, ℕ, ◌+◌, ◌^◌, ◌<◌, Bool, true, false, cond, List, Some, None, is_some, IsSome, refl, sym, ap, subst, ◌∙◌, arith}
use Rattle.std.specs.Prelude.{ℤ}
use Rattle.std.specs.FinMap.{get}
use Rattle.slab.specs.Slab.{get as slab_get}
use Rattle.kernel_core.specs.FileSystem.{IsFileSystem, IsTime}
use Rattle.kernel_core.specs.NameCalls.{name_refusal, link_refusal, after_link, changed_at, one_link_more, relisted, with_entry}
use Rattle.kernel_core.specs.Nodes.{Nodes, Inode, listing_at, is_directory, update}
use Rattle.kernel_core.specs.PathWalk.{Place}
use Rattle.kernel_core.specs.Totals.{live_entries, live_blocks, entries_full}
use Rattle.kernel_core.specs.declared.error.Errno.TheVariants.{EPERM}
use Rattle.file_system_laws.proofs.CallCounts.{link_counts, links-le}
use Rattle.file_system_laws.proofs.Counts.{listing_at-kept}
use Rattle.file_system_laws.proofs.Lookups.{is_some-update}
use Rattle.file_system_laws.proofs.Making.{link_keeps}
use Rattle.native_vfs.specs.Keyed.{Keyed, AgreesAt, place_at, number_at}
use Rattle.native_vfs.specs.inside.Making.{IsNamedAgain}
use Rattle.native_vfs.specs.inside.Steps.{IsSame, IsAddition, links_in, links_at}
use Rattle.native_vfs.specs.inside.Stored.{Table, nodes_of, keyed_of, inode_of, number_of_key, HasDistinctNumbers, KeepsNumbers, CanAdd, IsStep}
use Rattle.native_vfs.specs.declared.place.Place.{Place as KeyedPlace}
use Rattle.native_vfs.proofs.tables.Kept.{IsWhole, nodes-view, keys-view, nodes-seen, keys-seen, number-seen}
use Rattle.native_vfs.proofs.additions.MadeCalls.{some_at}
use Rattle.native_vfs.proofs.additions.MadeNodes.{agrees-nodes, listing-dir, allowed}
use Rattle.native_vfs.proofs.tables.Tables.{node-there, number-there, number_at-table, keys-kept, number-kept, distinct-kept, leads-kept}

abbrev pub more : ℤ → Inode → Inode
more now i = changed_at now (one_link_more i)

-- a link that is not refused
pub link-free : (nodes : Nodes) (node : ℕ) (place : Place) → link_refusal nodes node place ≡ None → name_refusal nodes place (entries_full nodes) ≡ None
link-free nodes node place free = by (is_directory nodes node) free
  where
    by : (b : Bool) → cond b (Some EPERM) (name_refusal nodes place (entries_full nodes)) ≡ None → name_refusal nodes place (entries_full nodes) ≡ None
    by true h = let e : Some EPERM ≡ None = h in absurd (cc)
    by false h = h

-- the node at a live key
pub inode-there : (table : Table) (key : ℕ) → HasDistinctNumbers table → IsSome (slab_get table key) → (inode : Inode) × (get (nodes_of table) (number_of_key table key) ≡ Some inode)
inode-there table key distinct live =
    let node = some_at (slab_get table key) live in
    (inode_of node.0, ap (get (nodes_of table)) (number-there table key node.0 node.1) ∙ node-there table key node.0 distinct node.1)

-- it has few links
pub few-links : (old reserved : Table) (node : ℕ) → IsSame old reserved → HasDistinctNumbers old → IsFileSystem (nodes_of old) → IsSome (slab_get old node) → links_at reserved node + 1 < 2 ^ 32
few-links old reserved node same distinct system live =
    let there = inode-there old node distinct live in
    let few = links-le (nodes_of old) (number_of_key old node) there.0 system there.1 in
    let is : links_at reserved node ≡ there.0.links =
    ap (λ nodes. links_in (get nodes (number_of_key reserved node))) same.nodes
    ∙ ap (λ n. links_in (get (nodes_of old) n)) (number-kept old reserved same.numbers node)
    ∙ ap links_in there.1 in
    omega (arith, few, is)

module _ (old reserved linked : Table) (node : ℕ) (now : ℤ) (same : IsSame old reserved) (step : IsStep reserved linked node (more now)) where
  numbers_linked : KeepsNumbers old linked
  numbers_linked key = step.numbers key ∙ same.numbers key

  nodes_linked : nodes_of linked ≡ update (nodes_of old) (number_of_key old node) (more now)
  nodes_linked =
      step.nodes
      ∙ ap (λ n. update (nodes_of reserved) n (more now)) (number-kept old reserved same.numbers node)
      ∙ ap (λ nodes. update nodes (number_of_key old node) (more now)) same.nodes

  module _ (at : KeyedPlace) (name : List ℕ) (is_name : name ≡ at.name) where
    pub can-again : (agrees : AgreesAt (keyed_of old) at) → link_refusal (nodes_of old) (number_of_key old node) (place_at (keyed_of old) at) ≡ None
        → CanAdd (listing_at (nodes_of linked) (number_of_key linked at.dir)) name
    can-again agrees free =
        let h = allowed old at agrees (entries_full (nodes_of old)) (link-free (nodes_of old) (number_of_key old node) (place_at (keyed_of old) at) free) in
        let listing : listing_at (nodes_of linked) (number_of_key linked at.dir) ≡ Some (agrees-nodes old at agrees).listing =
        ap (listing_at (nodes_of linked)) (number-kept old linked numbers_linked at.dir)
        ∙ ap (λ nodes. listing_at nodes (number_of_key old at.dir)) nodes_linked
        ∙ listing_at-kept (nodes_of old) (number_of_key old node) (more now) (λ i found. refl) (number_of_key old at.dir)
        ∙ listing-dir old at agrees in
        subst (λ name. CanAdd (listing_at (nodes_of linked) (number_of_key linked at.dir)) name) (sym is_name)
        (subst (λ o. CanAdd o at.name) (sym listing) (h.1.cookies, h.1.free.none))

    pub named-again : (new : Table) (number : ℕ) → number ≡ number_of_key reserved node → IsAddition linked new at.dir (relisted now (with_entry name number))
        → IsNamedAgain old new (after_link (nodes_of old) (number_of_key old node) (place_at (keyed_of old) at) now)
    named-again new number is_number addition = record {
      nodes =
          addition.nodes
          ∙ ap (λ n. update (nodes_of linked) n (relisted now (with_entry name number))) (number-kept old linked numbers_linked at.dir ∙ sym (number_at-table old at.dir))
          ∙ ap (λ nodes. update nodes (number_at (keyed_of old) at.dir) (relisted now (with_entry name number))) nodes_linked
          ∙ ap (λ name. update (update (nodes_of old) (number_of_key old node) (more now)) (number_at (keyed_of old) at.dir) (relisted now (with_entry name number))) is_name
          ∙ ap (λ number. update (update (nodes_of old) (number_of_key old node) (more now)) (number_at (keyed_of old) at.dir) (relisted now (with_entry at.name number)))
          (is_number ∙ number-kept old reserved same.numbers node);
      numbers = λ key. addition.numbers key ∙ numbers_linked key;
      references = λ h. addition.references (step.references (same.references h));
    }

-- What is kept, and what callers see

module _ (old new : Table) (node : ℕ) (at : KeyedPlace) (now : ℤ) (named : IsNamedAgain old new (after_link (nodes_of old) (number_of_key old node) (place_at (keyed_of old) at) now)) where
  pub whole-named : (taken : List Bool) (entries blocks root : ℕ) → IsWhole old taken entries blocks root → (agrees : AgreesAt (keyed_of old) at)
      → link_refusal (nodes_of old) (number_of_key old node) (place_at (keyed_of old) at) ≡ None → IsSome (slab_get old node) → IsTime now → IsWhole new taken (entries + 1) blocks root
  whole-named taken entries blocks root is agrees free live time =
      let there = agrees-nodes old at agrees in
      let inode = inode-there old node is.distinct live in
      let number = number_of_key old node in
      let place = place_at (keyed_of old) at in
      let counts = link_counts (nodes_of old) number place now there.listing there.live in
      record {
        distinct = distinct-kept old new named.numbers is.distinct;
        references = named.references is.references;
        system = subst IsFileSystem (sym named.nodes) (link_keeps (nodes_of old) number place now inode.0 is.system there free inode.1 time);
        pool = λ at below.
            is.pool at below
            ∙ sym (ap (λ nodes. is_some (get nodes (at + 2))) named.nodes
            ∙ is_some-update (update (nodes_of old) number (more now)) place.directory (relisted now (with_entry place.name number)) (at + 2)
            ∙ is_some-update (nodes_of old) number (more now) (at + 2));
        entry_total = ap (λ n. n + 1) is.entry_total ∙ sym (ap live_entries named.nodes ∙ counts.entries);
        block_total = is.block_total ∙ sym (ap live_blocks named.nodes ∙ counts.blocks);
        top = leads-kept old new named.numbers _ is.top;
      }

  module _ (system : Keyed) (view : keyed_of old ≡ system) where
    pub nodes-named : (keyed_of new).nodes ≡ after_link system.nodes (number_at system node) (place_at system at) now
    nodes-named =
        nodes-view new ∙ named.nodes
        ∙ ap (λ nodes. after_link nodes (number_of_key old node) (place_at (keyed_of old) at) now) (nodes-seen old system view)
        ∙ ap (λ number. after_link system.nodes number (place_at (keyed_of old) at) now) (number-seen old system view node)
        ∙ ap (λ s. after_link system.nodes (number_at system node) (place_at s at) now) view

    pub keys-named : (keyed_of new).keys ≡ system.keys
    keys-named = keys-view new ∙ keys-kept old new named.numbers ∙ keys-seen old system view

-- the reason to refuse a link
pub link-refusal-seen : (table : Table) (system : Keyed) → keyed_of table ≡ system → (node : ℕ) (at : KeyedPlace)
    → link_refusal (nodes_of table) (number_of_key table node) (place_at (keyed_of table) at) ≡ link_refusal system.nodes (number_at system node) (place_at system at)
link-refusal-seen table system view node at =
    ap (λ nodes. link_refusal nodes (number_of_key table node) (place_at (keyed_of table) at)) (nodes-seen table system view)
    ∙ ap (λ number. link_refusal system.nodes number (place_at (keyed_of table) at)) (number-seen table system view node)
    ∙ ap (λ s. link_refusal system.nodes (number_at system node) (place_at s at)) view

-- What a call that makes a name leaves of what is kept, and what its callers see of it.
use Rattle.std.proofs.Common.{◌≡◌, ◌≢◌, ℕ, ◌+◌, ◌^◌, ◌<◌, ◌≤◌, Bool, true, false, eqb, List, [], ◌∷◌, map, length, Option, Some, None, is_some, IsSome, refl, sym, ap, subst, ◌∙◌, arith}
use Rattle.std.specs.Prelude.{ℤ, All, slice_index}
use Rattle.std.specs.List.{list_any}
use Rattle.std.proofs.lemmas.List.Elements.{All-nil}
use Rattle.std.specs.FinMap.{get, insert}
use Rattle.slab.specs.Slab.{get as slab_get}
use Rattle.kernel_core.specs.FileSystem.{IsFileSystem, IsTime}
use Rattle.kernel_core.specs.NameCalls.{IsNewNumber, make_refusal, symlink_refusal, after_make, after_create, after_mkdir, after_symlink, relisted, with_entry}
use Rattle.kernel_core.specs.Nodes.{Nodes, Inode, Directory, update}
use Rattle.kernel_core.specs.PathWalk.{Place}
use Rattle.kernel_core.specs.Totals.{live_entries, live_blocks}
use Rattle.kernel_core.specs.ValidTree.{greatest_mode}
use Rattle.kernel_core.specs.declared.error.Errno.{Errno}
use Rattle.kernel_core.specs.declared.error.Errno.TheVariants.{ENOENT}
use Rattle.file_system_laws.proofs.CallCounts.{IsNamed, create_counts, mkdir_counts, symlink_counts, links-le}
use Rattle.file_system_laws.proofs.Lookups.{is_some-update, get-update_found, directory_found, get-insert_other}
use Rattle.file_system_laws.proofs.Making.{create_keeps, mkdir_keeps, symlink_keeps}
use Rattle.directory_names.specs.Names.{Names, plain}
use Rattle.native_vfs.specs.Answers.{Makes}
use Rattle.native_vfs.specs.Keyed.{Keyed, AgreesAt, place_at, number_at}
use Rattle.native_vfs.specs.inside.Making.{IsMade}
use Rattle.native_vfs.specs.inside.Steps.{IsSame, links_in, links_at}
use Rattle.native_vfs.specs.inside.Stored.{Table, nodes_of, keyed_of, content_of, number_of_key, Leads, ContentLeads, IsStep, IsKept}
use Rattle.native_vfs.specs.declared.place.Place.{Place as KeyedPlace}
use Rattle.native_vfs.specs.declared.stored.Stored.{Stored}
use Rattle.native_vfs.specs.declared.stored.StoredContent.TheVariants as kept
use Rattle.native_vfs.proofs.tables.Kept.{nodes-view, keys-view}
use Rattle.native_vfs.proofs.additions.MadeNodes.{agrees-nodes}
use Rattle.native_vfs.proofs.tables.Reasons.{live-dir}
use Rattle.native_vfs.proofs.tables.Tables.{keys-kept, distinct-kept, leads-kept, number-there, number_at-table}

-- What the callers see of the nodes and keys that are kept

module _ (table : Table) (system : Keyed) (view : keyed_of table ≡ system) where
  -- the reason to refuse a call
  pub refusal-seen : (refusal : Nodes → Place → Option Errno) (at : KeyedPlace) → refusal (nodes_of table) (place_at (keyed_of table) at) ≡ refusal system.nodes (place_at system at)
  refusal-seen refusal at = ap (λ nodes. refusal nodes (place_at (keyed_of table) at)) (sym (nodes-view table)) ∙ ap (λ s. refusal s.nodes (place_at s at)) view

  pub agrees-kept : (at : KeyedPlace) → AgreesAt system at → AgreesAt (keyed_of table) at
  agrees-kept at agrees = subst (λ s. AgreesAt s at) (sym view) agrees

-- Where nothing changes

module _ (old new : Table) (same : IsSame old new) where
  pub view-same : (system : Keyed) → keyed_of old ≡ system → keyed_of new ≡ system
  unfolding keyed_of
  view-same system view =
      ap (λ (nodes : Nodes). record (keyed_of new) { nodes = nodes }) same.nodes
      ∙ ap (λ keys. record (keyed_of old) { keys = keys }) same.keys
      ∙ view

  pub kept-same : (entries left root : ℕ) → left ≡ entries → IsKept old entries root → IsKept new left root
  kept-same entries left root uncounted is = record {
    sound = record {
      references = same.references is.sound.references;
      system = subst IsFileSystem (sym same.nodes) is.sound.system;
      entry_total = uncounted ∙ is.sound.entry_total ∙ ap live_entries (sym same.nodes);
    };
    top = leads-kept old new same.numbers _ is.top;
  }

-- Where a node was made

module _ (old new : Table) (key : ℕ) (after : ℕ → Nodes) (made : IsMade old new key after) where
  pub kept-made : (entries root : ℕ) → IsKept old entries root → IsFileSystem (after made.number) → IsNamed (nodes_of old) (after made.number) 1 → IsKept new (entries + 1) root
  kept-made entries root is system counts = record {
    sound = record {
      references = made.references is.sound.references;
      system = subst IsFileSystem (sym made.nodes) system;
      entry_total = ap (λ n. n + 1) is.sound.entry_total ∙ sym (ap live_entries made.nodes ∙ counts.entries);
    };
    top = made.leads _ is.top;
  }

  -- a step on another node
  pub made-step : (last : Table) (other number : ℕ) (change : Inode → Inode) → IsStep new last other change → number_of_key new other ≡ number
      → IsMade old last key (λ n. update (after n) number change)
  made-step last other number change step is =
      let nodes : nodes_of last ≡ update (after made.number) number change =
      step.nodes ∙ ap (λ n. update (nodes_of new) n change) is ∙ ap (λ nodes. update nodes number change) made.nodes in
      record {
        number = made.number;
        least = made.least;
        nodes = nodes;
        fresh = made.fresh;
        keys = keys-kept new last step.numbers ∙ made.keys;
        references = λ h. step.references (made.references h);
        leads = λ reference h. leads-kept new last step.numbers reference (made.leads reference h);
      }

pub makes-seen : (old new : Table) (key : ℕ) (at : KeyedPlace) (after : Nodes → Place → ℕ → Nodes) (system : Keyed) → keyed_of old ≡ system
    → IsMade old new key (after (nodes_of old) (place_at (keyed_of old) at)) → Makes system (keyed_of new) key (after system.nodes (place_at system at))
makes-seen old new key at after system view made =
    subst (λ s. Makes s (keyed_of new) key (after s.nodes (place_at s at))) view (record {
      number = made.number;
      least = subst (λ nodes. IsNewNumber nodes made.number) (sym (nodes-view old)) made.least;
      nodes = nodes-view new ∙ made.nodes ∙ ap (λ nodes. after nodes (place_at (keyed_of old) at) made.number) (sym (nodes-view old));
      fresh = ap (λ keys. get keys key) (keys-view old) ∙ made.fresh;
      keys = keys-view new ∙ made.keys ∙ ap (λ keys. insert keys key made.number) (sym (keys-view old));
    })

-- The calls

module _ (old new : Table) (entries root key : ℕ) (at : KeyedPlace) (now : ℤ) (is : IsKept old entries root) (agrees : AgreesAt (keyed_of old) at)
    (time : IsTime now) where
  abbrev place : Place
  place = place_at (keyed_of old) at

  module _ (free : make_refusal (nodes_of old) (place_at (keyed_of old) at) ≡ None) (mode : ℕ) (small : mode ≤ greatest_mode) where
    pub kept-created : IsMade old new key (λ number. after_create (nodes_of old) (place_at (keyed_of old) at) number mode now) → IsKept new (entries + 1) root
    kept-created made =
        let there = agrees-nodes old at agrees in
        kept-made old new key (λ number. after_create (nodes_of old) place number mode now) made entries root is
        (create_keeps (nodes_of old) place made.number now is.sound.system there free made.least time mode small)
        (create_counts (nodes_of old) place made.number now there.listing there.live made.least.unused mode)

    pub kept-mkdir : IsMade old new key (λ number. after_mkdir (nodes_of old) (place_at (keyed_of old) at) number mode now) → IsKept new (entries + 1) root
    kept-mkdir made =
        let there = agrees-nodes old at agrees in
        kept-made old new key (λ number. after_mkdir (nodes_of old) place number mode now) made entries root is
        (mkdir_keeps (nodes_of old) place made.number now is.sound.system there free made.least time mode small)
        (mkdir_counts (nodes_of old) place made.number now there.listing there.live made.least.unused mode)

  pub kept-symlink : (target : List ℕ) → symlink_refusal (nodes_of old) (place_at (keyed_of old) at) target ≡ None → ((place : ℕ) → slice_index target place < 256) → length target ≤ 4095
      → list_any (λ byte. eqb byte 0) target ≡ false → IsMade old new key (λ number. after_symlink (nodes_of old) (place_at (keyed_of old) at) number target now)
      → IsKept new (entries + 1) root
  kept-symlink target free bytes short plain made =
      let there = agrees-nodes old at agrees in
      kept-made old new key (λ number. after_symlink (nodes_of old) place number target now) made entries root is
      (symlink_keeps (nodes_of old) place made.number target now is.sound.system there free made.least time bytes short plain)
      (symlink_counts (nodes_of old) place made.number now there.listing there.live made.least.unused target)

-- a call that is not refused
pub none-left : {X : Type 0} (o : Option X) → ((x : X) → o ≡ Some x → ⊥) → o ≡ None
none-left None none = refl
none-left (Some x) none = absurd (none x refl)

-- The directory above, after a node was made in it

pub some_at : {X : Type 0} (o : Option X) → IsSome o → (x : X) × (o ≡ Some x)
some_at None some = let h : false ≡ true = some in absurd (cc)
some_at (Some x) some = (x, refl)

module _ (old new : Table) (key : ℕ) (at : KeyedPlace) (agrees : AgreesAt (keyed_of old) at) (inode : Inode) (now : ℤ)
    (made : IsMade old new key (λ number. after_make (nodes_of old) (place_at (keyed_of old) at) number inode now)) where
  node_above : (node : Stored) × (slab_get old at.dir ≡ Some node)
  node_above = some_at (slab_get old at.dir) (live-dir old at agrees)

  leads_above : Leads new (record { number = node_above.0.number; key = at.dir })
  leads_above = made.leads (record { number = node_above.0.number; key = at.dir }) (node_above.0, node_above.1, refl)

  pub above-live : IsSome (slab_get new at.dir)
  above-live = ap is_some leads_above.1

  pub above-number : number_of_key new at.dir ≡ number_at (keyed_of old) at.dir
  above-number =
      number-there new at.dir leads_above.0 leads_above.1 ∙ leads_above.2 ∙ sym (number-there old at.dir node_above.0 node_above.1) ∙ sym (number_at-table old at.dir)

  -- it has few links
  pub above-few : IsFileSystem (nodes_of old) → links_at new at.dir + 1 < 2 ^ 32
  above-few is =
      let there = agrees-nodes old at agrees in
      let found = directory_found (nodes_of old) (number_at (keyed_of old) at.dir) there.listing there.live in
      let few = links-le (nodes_of old) (number_at (keyed_of old) at.dir) found.0 is found.1 in
      let away : number_at (keyed_of old) at.dir ≢ made.number = λ e. let h : None ≡ Some found.0 = sym made.least.unused ∙ ap (get (nodes_of old)) (sym e) ∙ found.1 in cc in
      let same : links_at new at.dir ≡ found.0.links =
      ap (λ n. links_in (get (nodes_of new) n)) above-number
      ∙ ap (λ nodes. links_in (get nodes (number_at (keyed_of old) at.dir))) made.nodes
      ∙ ap links_in (get-update_found (insert (nodes_of old) made.number inode) (number_at (keyed_of old) at.dir) (relisted now (with_entry at.name made.number)) found.0
      (get-insert_other (nodes_of old) made.number inode (number_at (keyed_of old) at.dir) away ∙ found.1)) in
      omega (arith, few, same)

-- An empty directory

pub empty-directory : (parent number key : ℕ) (names : Names) → parent ≡ number → names.entries ≡ [] → names.greatest ≡ 2
    → content_of (kept.Directory (record { parent = Some (record { number = parent; key = key }); names = names })) ≡ Directory (record { parent = Some number; greatest = 2; entries = [] })
empty-directory parent number key names is none low =
    ap (λ p. Directory (record { parent = Some p; greatest = names.greatest; entries = map plain names.entries })) is
    ∙ ap (λ g. Directory (record { parent = Some number; greatest = g; entries = map plain names.entries })) low
    ∙ ap (λ es. Directory (record { parent = Some number; greatest = 2; entries = map plain es })) none

-- what it refers to
pub empty-leads : (table : Table) (number key : ℕ) (names : Names) → IsSome (slab_get table key) → number ≡ number_of_key table key → names.entries ≡ []
    → ContentLeads table (kept.Directory (record { parent = Some (record { number = number; key = key }); names = names }))
empty-leads table number key names live is none =
    let node = some_at (slab_get table key) live in
    record {
      parent = (node.0, node.1, sym (number-there table key node.0 node.1) ∙ sym is);
      names = subst (λ es. All (λ e. Leads table (record { number = e.number; key = e.key })) es) (sym none) (All-nil _);
    }

-- A target that is not refused

pub target-free : (nodes : Nodes) (place : Place) (target : List ℕ) → symlink_refusal nodes place target ≡ None → make_refusal nodes place ≡ None
target-free nodes place [] free = let h : Some ENOENT ≡ None = free in absurd (cc)
target-free nodes place (byte ∷ target) free = free

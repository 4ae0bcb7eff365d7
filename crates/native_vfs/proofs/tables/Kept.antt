-- What stays true of a file system that is kept, and what its callers see of it.
use Rattle.std.proofs.Common.{◌≡◌, ℕ, ◌+◌, Bool, true, false, List, Option, Some, None, is_some, IsSome, refl, sym, ap, subst, ◌∙◌}
use Rattle.std.specs.Prelude.{option_map}
use Rattle.std.specs.FinMap.{get}
use Rattle.slab.specs.Slab.{get as slab_get}
use Rattle.kernel_core.specs.FileSystem.{IsFileSystem, parent_of}
use Rattle.kernel_core.specs.Nodes.{Nodes, Inode, update, in_inode, listing_in}
use Rattle.kernel_core.specs.ValidTree.{root}
use Rattle.kernel_core.specs.Totals.{live_entries, live_blocks}
use Rattle.file_system_laws.proofs.Lookups.{is_some-update}
use Rattle.file_system_laws.proofs.Counts.{live_entries-kept, live_blocks-kept}
use Rattle.native_vfs.specs.Keyed.{Keyed, AreKeys, IsLiveKey, number_at, inode_at}
use Rattle.native_vfs.specs.inside.Steps.{IsSame, IsSettled, links_in, links_at, holds_in, holds_at}
use Rattle.native_vfs.specs.inside.Stored.{Table, nodes_of, keys_of, keyed_of, inode_of, number_of_key, HasDistinctNumbers, HasReferences, KeepsNumbers, Leads, AgreesPool, IsSound, IsKept, IsStep}
use Rattle.native_vfs.specs.declared.inodes.Inodes.{Inodes}
use Rattle.native_vfs.specs.declared.stored.Stored.{Stored}
use Rattle.native_vfs.proofs.tables.Tables.{key-get, node-found, node-there, node-after, number-there, number_at-table, AreKeys-table, keys-kept, distinct-kept, leads-kept}

-- All that is kept: what the nodes agree with, and that they are a file system whose root has its key.
pub record IsWhole (table : Table) (taken : List Bool) (entry_count block_count root_key : ℕ) : Type 0 where
  pub distinct : HasDistinctNumbers table
  pub references : HasReferences table
  pub system : IsFileSystem (nodes_of table)
  pub pool : AgreesPool (nodes_of table) taken
  pub entry_total : entry_count ≡ live_entries (nodes_of table)
  pub block_total : block_count ≡ live_blocks (nodes_of table)
  pub top : Leads table (record { number = root; key = root_key })

pub whole-of : (inodes : Inodes) (root_key : ℕ) → IsKept inodes.table inodes.entries root_key → IsWhole inodes.table inodes.numbers inodes.entries inodes.blocks root_key
whole-of inodes root_key is = record {
  distinct = inodes.distinct;
  references = is.sound.references;
  system = is.sound.system;
  pool = inodes.pool;
  entry_total = is.sound.entry_total;
  block_total = inodes.block_total;
  top = is.top;
}

module _ (table : Table) (taken : List Bool) (entries blocks root_key : ℕ) (is : IsWhole table taken entries blocks root_key) where
  pub sound-of : IsSound table entries
  sound-of = record { references = is.references; system = is.system; entry_total = is.entry_total }

  pub kept-of : IsKept table entries root_key
  kept-of = record { sound = sound-of; top = is.top }

-- What callers see

pub nodes-view : (table : Table) → (keyed_of table).nodes ≡ nodes_of table
unfolding keyed_of
nodes-view table = refl

pub keys-view : (table : Table) → (keyed_of table).keys ≡ keys_of table
unfolding keyed_of
keys-view table = refl

module _ (table : Table) (system : Keyed) (view : keyed_of table ≡ system) where
  pub nodes-seen : nodes_of table ≡ system.nodes
  nodes-seen = sym (nodes-view table) ∙ ap (λ s. s.nodes) view

  pub keys-seen : keys_of table ≡ system.keys
  keys-seen = sym (keys-view table) ∙ ap (λ s. s.keys) view

  pub number-seen : (key : ℕ) → number_of_key table key ≡ number_at system key
  number-seen key = sym (number_at-table table key) ∙ ap (λ s. number_at s key) view

  pub inode-seen : (key : ℕ) → get (nodes_of table) (number_of_key table key) ≡ inode_at system key
  inode-seen key = ap (get (nodes_of table)) (number-seen key) ∙ ap (λ n. get n (number_at system key)) nodes-seen

  -- a live key has a node
  pub live-seen : (key : ℕ) → IsLiveKey system key → IsSome (slab_get table key)
  live-seen key live =
      in_option (slab_get table key)
      ∙ ap is_some (sym (key-get table key))
      ∙ ap (λ k. is_some (get k key)) keys-seen ∙ live
    where
      in_option : (o : Option Stored) → is_some o ≡ is_some (option_map (λ n. n.number) o)
      in_option None = refl
      in_option (Some node) = refl

  -- the node at a live key
  pub inode-live : (key : ℕ) (node : Stored) → HasDistinctNumbers table → slab_get table key ≡ Some node → inode_at system key ≡ Some (inode_of node)
  inode-live key node distinct at = sym (inode-seen key) ∙ ap (get (nodes_of table)) (number-there table key node at) ∙ node-there table key node distinct at

  -- a live key stands for a node
  pub inode-alive : HasDistinctNumbers table → (key : ℕ) → IsLiveKey system key → (node : Stored) × (slab_get table key ≡ Some node) × (inode_at system key ≡ Some (inode_of node))
  inode-alive distinct key live = by (slab_get table key) refl (live-seen key live)
    where
      by : (o : Option Stored) → slab_get table key ≡ o → IsSome (slab_get table key)
          → (node : Stored) × (slab_get table key ≡ Some node) × (inode_at system key ≡ Some (inode_of node))
      by None is some = let h : false ≡ true = sym (ap is_some is) ∙ some in absurd (cc)
      by (Some node) is some = (node, is, inode-live key node distinct is)

  pub holds-seen : (key : ℕ) → holds_at table key ≡ holds_in (inode_at system key)
  holds-seen key = ap holds_in (inode-seen key)

  pub links-seen : (key : ℕ) → links_at table key ≡ links_in (inode_at system key)
  links-seen key = ap links_in (inode-seen key)

-- Numbers that are kept are those of live nodes as before

both_ways : (a b : Bool) → (a ≡ true → b ≡ true) → (b ≡ true → a ≡ true) → a ≡ b
both_ways true b there back = sym (there refl)
both_ways false true there back = back refl
both_ways false false there back = refl

lives_on : (old new : Table) → KeepsNumbers old new → HasDistinctNumbers new → (number : ℕ) → is_some (get (nodes_of old) number) ≡ true → is_some (get (nodes_of new) number) ≡ true
lives_on old new numbers distinct number live = go (get (nodes_of old) number) refl live
  where
    go : (o : Option Inode) → get (nodes_of old) number ≡ o → is_some o ≡ true → is_some (get (nodes_of new) number) ≡ true
    go None none e = absurd (let f : false ≡ true = e in cc)
    go (Some inode) found e =
        let s = node-found old number inode found in
        let a = node-after old new numbers s.key s.node s.at in
        ap (λ n. is_some (get (nodes_of new) n)) (sym (a.2 ∙ s.has_number)) ∙ ap is_some (node-there new s.key a.0 distinct a.1)

pub same-lives : (old new : Table) → KeepsNumbers old new → HasDistinctNumbers old → (number : ℕ) → is_some (get (nodes_of new) number) ≡ is_some (get (nodes_of old) number)
same-lives old new numbers distinct number =
    both_ways _ _ (lives_on new old (λ key. sym (numbers key)) distinct number) (lives_on old new numbers (distinct-kept old new numbers distinct) number)

-- and the pool agrees with them
pub pool-numbers : (old new : Table) → KeepsNumbers old new → HasDistinctNumbers old → (taken : List Bool) → AgreesPool (nodes_of old) taken → AgreesPool (nodes_of new) taken
pool-numbers old new numbers distinct taken agrees place below = agrees place below ∙ sym (same-lives old new numbers distinct (place + 2))

-- Where no node changes

module _ (old new : Table) (same : IsSame old new) where
  pub same-distinct : HasDistinctNumbers old → HasDistinctNumbers new
  same-distinct distinct = distinct-kept old new same.numbers distinct

  pub same-pool : (taken : List Bool) → AgreesPool (nodes_of old) taken → AgreesPool (nodes_of new) taken
  same-pool taken agrees place below = agrees place below ∙ sym (ap (λ nodes. is_some (get nodes (place + 2))) same.nodes)

  pub same-blocks : (blocks : ℕ) → blocks ≡ live_blocks (nodes_of old) → blocks ≡ live_blocks (nodes_of new)
  same-blocks blocks counted = counted ∙ sym (ap live_blocks same.nodes)

-- After a step

module _ (old new : Table) (key : ℕ) (change : Inode → Inode) (step : IsStep old new key change) where
  pub pool-stepped : (taken : List Bool) → AgreesPool (nodes_of old) taken → AgreesPool (nodes_of new) taken
  pool-stepped taken agrees place below =
      agrees place below ∙ sym (ap (λ nodes. is_some (get nodes (place + 2))) step.nodes ∙ is_some-update (nodes_of old) (number_of_key old key) change (place + 2))

  pub step-distinct : HasDistinctNumbers old → HasDistinctNumbers new
  step-distinct distinct = distinct-kept old new step.numbers distinct

  pub blocks-stepped : ((i : Inode) → (change i).content ≡ i.content) → (blocks : ℕ) → blocks ≡ live_blocks (nodes_of old) → blocks ≡ live_blocks (nodes_of new)
  blocks-stepped same blocks counted = counted ∙ sym (ap live_blocks step.nodes ∙ live_blocks-kept (nodes_of old) (number_of_key old key) change (λ i found. same i))

  -- the nodes and keys that callers see
  pub nodes-stepped : (system : Keyed) → keyed_of old ≡ system → (keyed_of new).nodes ≡ update system.nodes (number_at system key) change
  nodes-stepped system view =
      nodes-view new ∙ step.nodes
      ∙ ap (λ n. update (nodes_of old) n change) (number-seen old system view key)
      ∙ ap (λ nodes. update nodes (number_at system key) change) (nodes-seen old system view)

  pub keys-stepped : (system : Keyed) → keyed_of old ≡ system → (keyed_of new).keys ≡ system.keys
  keys-stepped system view = keys-view new ∙ keys-kept old new step.numbers ∙ keys-seen old system view

  -- a step that leaves each node's entries and blocks
  pub whole-step : (taken : List Bool) (entries blocks top : ℕ) → IsWhole old taken entries blocks top → IsFileSystem (update (nodes_of old) (number_of_key old key) change)
      → ((i : Inode) → (change i).content ≡ i.content) → IsWhole new taken entries blocks top
  whole-step taken entries blocks top is system same = record {
    distinct = step-distinct is.distinct;
    references = step.references is.references;
    system = subst IsFileSystem (sym step.nodes) system;
    pool = pool-stepped taken is.pool;
    entry_total = is.entry_total ∙ sym (ap live_entries step.nodes ∙ live_entries-kept (nodes_of old) (number_of_key old key) change (λ i found. same i));
    block_total = blocks-stepped same blocks is.block_total;
    top = leads-kept old new step.numbers _ is.top;
  }

-- Each call ensures that the nodes are a file system, and that the keys fit them.
pub valid-sound : (table : Table) (entries : ℕ) → IsSound table entries → IsFileSystem (keyed_of table).nodes
valid-sound table entries is = subst IsFileSystem (sym (nodes-view table)) is.system

pub valid-view : (table : Table) (taken : List Bool) (entries blocks top : ℕ) → IsWhole table taken entries blocks top → IsFileSystem (keyed_of table).nodes
valid-view table taken entries blocks top is = subst IsFileSystem (sym (nodes-view table)) is.system

pub are-keys-view : (table : Table) (taken : List Bool) (entries blocks top : ℕ) → IsWhole table taken entries blocks top → AreKeys (keyed_of table)
are-keys-view table taken entries blocks top is = AreKeys-table table is.distinct

-- A node that settled, after which all is as it has to be.
pub whole-settled : (old new : Table) (key : ℕ) (taken : List Bool) (entries blocks key_of_root : ℕ) → IsSettled old new key → HasReferences old → IsFileSystem (nodes_of new)
    → AgreesPool (nodes_of new) taken → entries ≡ live_entries (nodes_of new) → blocks ≡ live_blocks (nodes_of new) → Leads old (record { number = root; key = key_of_root })
    → IsWhole new taken entries blocks key_of_root
whole-settled old new key taken entries blocks key_of_root settled references system pool entry_total block_total top = record {
  distinct = settled.distinct;
  references = settled.references references;
  system = system;
  pool = pool;
  entry_total = entry_total;
  block_total = block_total;
  top = settled.leads (record { number = root; key = key_of_root }) top (root_lives (nodes_of new) system);
}
  where
    in_inode_some : (o : Option Inode) → parent_of (in_inode listing_in o) ≡ Some root → is_some o ≡ true
    in_inode_some None h = absurd (cc)
    in_inode_some (Some i) h = refl

    root_lives : (nodes : Nodes) → IsFileSystem nodes → is_some (get nodes root) ≡ true
    root_lives nodes system = in_inode_some (get nodes root) system.top

-- The table after one step and another, and after the last node that they changed went where it may.
use Rattle.std.proofs.Common.{◌≡◌, ℕ, ◌+◌, ◌<◌, Bool, true, List, Some, is_some, IsSome, refl, sym, ap, subst, ◌∙◌}
use Rattle.std.specs.Prelude.{option_map, ℤ}
use Rattle.std.specs.FinMap.{get}
use Rattle.slab.specs.Slab.{get as slab_get}
use Rattle.kernel_core.specs.FileSystem.{IsFileSystem}
use Rattle.kernel_core.specs.Nodes.{Nodes, Inode, listing_at, update, settled, is_unused}
use Rattle.kernel_core.specs.PathWalk.{Agrees}
use Rattle.kernel_core.specs.Totals.{live_entries}
use Rattle.file_system_laws.proofs.Lookups.{is_some-update}
use Rattle.native_vfs.specs.Keyed.{KeepsKeys, AgreesAt, place_at, number_at}
use Rattle.native_vfs.specs.inside.Removals.{IsLoss}
use Rattle.native_vfs.specs.inside.Steps.{IsSettled, IsUnnamed, links_in, links_at}
use Rattle.native_vfs.specs.inside.Stored.{Table, nodes_of, keyed_of, number_of_key, HasDistinctNumbers, HasReferences, HasRoom, KeepsNumbers, AgreesPool, IsSound, IsStep}
use Rattle.native_vfs.specs.declared.place.Place.{Place as KeyedPlace}
use Rattle.native_vfs.proofs.tables.Kept.{nodes-view, keys-view}
use Rattle.native_vfs.proofs.tables.Tables.{number_at-table, keys-kept, number-kept, distinct-kept, leads-kept, live-kept}

-- nodes changed, and none came or went
pub record IsChanged (old new : Table) : Type 0 where
  pub numbers : KeepsNumbers old new
  pub references : HasReferences old → HasReferences new
  pub live : (number : ℕ) → is_some (get (nodes_of new) number) ≡ is_some (get (nodes_of old) number)
  pub room : (directory : ℕ) → HasRoom old directory → HasRoom new directory

pub unchanged : (table : Table) → IsChanged table table
unchanged table = record { numbers = λ key. refl; references = λ h. h; live = λ number. refl; room = λ directory room. room }

module _ (old mid new : Table) (key : ℕ) (change : Inode → Inode) (so_far : IsChanged old mid) (step : IsStep mid new key change) where
  pub one-more : IsChanged old new
  one-more = record {
    numbers = λ other. step.numbers other ∙ so_far.numbers other;
    references = λ h. step.references (so_far.references h);
    live = λ number. ap (λ nodes. is_some (get nodes number)) step.nodes ∙ is_some-update (nodes_of mid) (number_of_key mid key) change number ∙ so_far.live number;
    room = λ directory room. step.room directory (so_far.room directory room);
  }

  -- the nodes by the numbers that the keys had at first
  pub nodes-more : (nodes : Nodes) → nodes_of mid ≡ nodes → nodes_of new ≡ update nodes (number_of_key old key) change
  nodes-more nodes is = step.nodes ∙ ap (λ n. update (nodes_of mid) n change) (number-kept old mid so_far.numbers key) ∙ ap (λ m. update m (number_of_key old key) change) is

-- a step at a time that is shown in another way
pub at-time : (old new : Table) (key : ℕ) (change : ℤ → Inode → Inode) (shown now : ℤ) → shown ≡ now → IsStep old new key (change shown) → IsStep old new key (change now)
at-time old new key change shown now same step = subst (λ time. IsStep old new key (change time)) same step

module _ (old stage : Table) (changed : IsChanged old stage) where
  pub changed-distinct : HasDistinctNumbers old → HasDistinctNumbers stage
  changed-distinct = distinct-kept old stage changed.numbers

  pub changed-live : (key : ℕ) → IsSome (slab_get old key) → IsSome (slab_get stage key)
  changed-live = live-kept old stage changed.numbers

  pub changed-pool : (taken : List Bool) → AgreesPool (nodes_of old) taken → AgreesPool (nodes_of stage) taken
  changed-pool taken agrees place below = agrees place below ∙ sym (changed.live (place + 2))

  pub changed-keys : (keyed_of stage).keys ≡ (keyed_of old).keys
  changed-keys = keys-view stage ∙ keys-kept old stage changed.numbers ∙ sym (keys-view old)

  module _ (node : ℕ) (nodes : Nodes) (is : nodes_of stage ≡ nodes) where
    number_here : number_of_key stage node ≡ number_of_key old node
    number_here = number-kept old stage changed.numbers node

    -- a node's links
    pub changed-links : 0 < links_in (get nodes (number_of_key old node)) → 0 < links_at stage node
    changed-links some = subst (λ m. 0 < links_in (get m (number_of_key stage node))) (sym is) (subst (λ n. 0 < links_in (get nodes n)) (sym number_here) some)

    -- what is owed before the node may go
    pub changed-unnamed : (is_unused (get nodes (number_of_key old node)) ≡ true → IsUnnamed nodes (number_of_key old node))
        → is_unused (get (nodes_of stage) (number_of_key stage node)) ≡ true → IsUnnamed (nodes_of stage) (number_of_key stage node)
    changed-unnamed unnamed =
        subst (λ m. is_unused (get m (number_of_key stage node)) ≡ true → IsUnnamed m (number_of_key stage node)) (sym is)
        (subst (λ n. is_unused (get nodes n) ≡ true → IsUnnamed nodes n) (sym number_here) unnamed)

    module _ (new : Table) (went : IsSettled stage new node) where
      pub nodes-settled : nodes_of new ≡ settled nodes (number_of_key old node)
      nodes-settled = went.nodes ∙ ap (settled (nodes_of stage)) number_here ∙ ap (λ m. settled m (number_of_key old node)) is

      pub sound-settled : (entries left : ℕ) → IsSound old entries → IsFileSystem (settled nodes (number_of_key old node)) → left ≡ live_entries (nodes_of new) → IsSound new left
      sound-settled entries left sound system counted = record {
        references = went.references (changed.references sound.references);
        system = subst IsFileSystem (sym nodes-settled) system;
        entry_total = counted;
      }

  keys_settled : (node : ℕ) (new : Table) → IsSettled stage new node → KeepsKeys (keyed_of old) (keyed_of new)
  keys_settled node new went key number = subst (λ keys. KeepsKeys (record { nodes = (keyed_of old).nodes; keys = keys }) (keyed_of new)) changed-keys went.keys key number

  pub loss-settled : (node : ℕ) (new : Table) → IsSettled stage new node → IsLoss old new node
  loss-settled node new went = record {
    keys = keys_settled node new went;
    leads = λ reference lead live. went.leads reference (leads-kept old stage changed.numbers reference lead) live;
    room = λ directory apart room. went.room directory apart (changed.room directory room);
  }

-- A place in the table

module _ (table : Table) (at : KeyedPlace) (agrees : AgreesAt (keyed_of table) at) where
  pub placed : Agrees (nodes_of table) (place_at (keyed_of table) at)
  placed = subst (λ nodes. Agrees nodes (place_at (keyed_of table) at)) (nodes-view table) agrees.agrees

  pub named-node : (node : ℕ) → at.node ≡ Some node → (place_at (keyed_of table) at).node ≡ Some (number_of_key table node)
  named-node node is = ap (λ o. option_map (number_at (keyed_of table)) o) is ∙ ap (λ n. Some n) (number_at-table table node)

  pub placed-listing : is_some (listing_at (nodes_of table) (number_of_key table at.dir)) ≡ true
  placed-listing = ap is_some (ap (listing_at (nodes_of table)) (sym (number_at-table table at.dir)) ∙ placed.live)

-- What callers see after a call on names that was refused, and after one that took a name away.
use Rattle.std.proofs.Common.{◌≡◌, ℕ, Bool, true, false, not, eqb, codes, bytes_eq, Option, Some, None, is_some, refl, sym, ap, subst, ◌∙◌}
use Rattle.std.specs.Prelude.{option_map}
use Rattle.std.proofs.lemmas.Bool.{not-false, or_from}
use Rattle.std.specs.FinMap.{get}
use Rattle.kernel_core.specs.FileSystem.{IsFileSystem, parent_of}
use Rattle.kernel_core.specs.NameCalls.{unlink_of, unlink_refusal, rmdir_of, rmdir_refusal, is_empty_list, has_entries}
use Rattle.kernel_core.specs.Nodes.{Nodes, Inode, is_directory, in_inode, listing_in}
use Rattle.kernel_core.specs.PathWalk.{Place}
use Rattle.kernel_core.specs.ValidTree.{root}
use Rattle.file_system_laws.proofs.Removing.{passed, MayGo}
use Rattle.native_vfs.specs.Answers.{with_node}
use Rattle.native_vfs.specs.Keyed.{Keyed, AreKeys, KeepsKeys, place_at, number_at}
use Rattle.native_vfs.specs.inside.Removals.{IsLoss}
use Rattle.native_vfs.specs.inside.Stored.{Table, nodes_of, keyed_of, number_of_key, HasDistinctNumbers, IsSound, IsKept}
use Rattle.native_vfs.specs.declared.place.Place.{Place as KeyedPlace}
use Rattle.native_vfs.proofs.tables.Kept.{nodes-view, number-seen, valid-sound}
use Rattle.native_vfs.proofs.tables.Tables.{AreKeys-table}

-- the root lives
pub root-lives : (nodes : Nodes) → IsFileSystem nodes → is_some (get nodes root) ≡ true
root-lives nodes system = go (get nodes root) system.top
  where
    go : (o : Option Inode) → parent_of (in_inode listing_in o) ≡ Some root → is_some o ≡ true
    go None h = absurd (let f : None ≡ Some root = h in cc)
    go (Some inode) h = refl

module _ (table : Table) (system : Keyed) (view : keyed_of table ≡ system) where
  -- what is found on the table at a place is found on the nodes that callers see
  pub seen-at : {X : Type 0} (find : Nodes → Place → X) (at : KeyedPlace) → find (nodes_of table) (place_at (keyed_of table) at) ≡ find system.nodes (place_at system at)
  seen-at find at = ap (λ nodes. find nodes (place_at (keyed_of table) at)) (sym (nodes-view table)) ∙ ap (λ (s : Keyed). find s.nodes (place_at s at)) view

  -- a call that is refused leaves a file system
  pub valid-seen : (entries : ℕ) → IsSound table entries → IsFileSystem system.nodes
  valid-seen entries sound = subst (λ (s : Keyed). IsFileSystem s.nodes) view (valid-sound table entries sound)

  pub are-keys-seen : HasDistinctNumbers table → AreKeys system
  are-keys-seen distinct = subst AreKeys view (AreKeys-table table distinct)

  -- the nodes after a call on the node of a place
  pub after-seen : (after : Nodes → Place → ℕ → Nodes) (at : KeyedPlace) (node : ℕ) → at.node ≡ Some node → (new : Table)
      → nodes_of new ≡ after (nodes_of table) (place_at (keyed_of table) at) (number_of_key table node)
      → (keyed_of new).nodes ≡ with_node (place_at system at).node system.nodes (after system.nodes (place_at system at))
  after-seen after at node is new nodes =
      nodes-view new ∙ nodes ∙ seen-at (λ n p. after n p (number_of_key table node)) at
      ∙ ap (after system.nodes (place_at system at)) (number-seen table system view node)
      ∙ sym (ap (λ o. with_node (option_map (number_at system) o) system.nodes (after system.nodes (place_at system at))) is)

  pub keeps-seen : (new : Table) → KeepsKeys (keyed_of table) (keyed_of new) → KeepsKeys system (keyed_of new)
  keeps-seen new keeps = subst (λ s. KeepsKeys s (keyed_of new)) view keeps

-- what is kept after a name was taken away
pub kept-lost : (old new : Table) (node entries left key : ℕ) → IsKept old entries key → IsSound new left → IsLoss old new node → IsKept new left key
kept-lost old new node entries left key is sound loss = record {
  sound = sound;
  top = loss.leads (record { number = root; key = key }) is.top (root-lives (nodes_of new) sound.system);
}

-- What a refusal that there is not says

-- a node that may be unlinked is no directory
pub unlink-plain : (nodes : Nodes) (place : Place) (node : ℕ) → place.node ≡ Some node → unlink_refusal nodes place ≡ None → is_directory nodes node ≡ false
unlink-plain nodes place node at allowed = (passed (is_directory nodes node) _ None (sym (ap (unlink_of nodes) at) ∙ allowed)).0

-- a directory that may be removed is empty, and its name is an entry's
pub rmdir-may : (nodes : Nodes) (place : Place) (node : ℕ) → place.node ≡ Some node → rmdir_refusal nodes place ≡ None → MayGo nodes place.name node
rmdir-may nodes place node at allowed =
    let a = passed (bytes_eq place.name (codes ".")) _ _ (sym (ap (rmdir_of nodes place.name) at) ∙ allowed) in
    let b = passed (bytes_eq place.name (codes "..")) _ _ a.1 in
    let c = passed (eqb node root) _ _ b.1 in
    let d = passed (is_empty_list place.name) _ _ c.1 in
    let e = passed (not (is_directory nodes node)) _ _ d.1 in
    let f = passed (has_entries nodes node) _ None e.1 in
    record { plain = or_from _ _ d.0 (or_from _ _ a.0 b.0); kind = not-false (is_directory nodes node) e.0; empty = f.0 }

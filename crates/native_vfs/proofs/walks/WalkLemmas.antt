-- What the walk of a path relies on: what is kept at a key, and one step after another.
use Rattle.std.proofs.Common.{◌≡◌, ℕ, suc, Bool, true, List, [], ◌∷◌, Option, Some, None, Result, Ok, Err, is_some, refl, sym, ◌∙◌, ap, subst}
use Rattle.std.specs.FinMap.{get}
use Rattle.std.proofs.lemmas.List.Elements.{All-weaker}
use Rattle.slab.specs.Slab.{get as slab_get}
use Rattle.kernel_core.specs.FileSystem.{IsFileSystem, IsLive, IsLiveContent, parent_at, parent_of}
use Rattle.kernel_core.specs.Nodes.{Nodes, Listing, listing_at, is_directory}
use Rattle.kernel_core.specs.PathWalk as walking
use Rattle.kernel_core.specs.ValidTree.{root}
use Rattle.kernel_core.specs.declared.core_error.CoreError.{CoreError}
use Rattle.kernel_core.specs.declared.core_error.CoreError.TheVariants.{Refused, Stop}
use Rattle.kernel_core.specs.declared.core_error.Stop.TheVariants.{NoMemory, ReadFault, WriteFault}
use Rattle.kernel_core.specs.declared.error.Errno.{Errno}
use Rattle.kernel_core.specs.declared.error.Errno.TheVariants.{ENOENT}
use Rattle.native_vfs.specs.Answers.{IsWalked}
use Rattle.directory_names.specs.declared.entry.NodeRef.{NodeRef}
use Rattle.native_vfs.specs.Keyed.{Keyed, number_at, AgreesAt, place_at}
use Rattle.native_vfs.specs.inside.Stored.{Table, nodes_of, keyed_of, inode_of, content_of, HasDistinctNumbers, HasReferences, Leads, OptionLeads, ContentLeads}
use Rattle.native_vfs.specs.inside.Walking.{LeadsTo, OptionLeadsTo, IsSound, walk_of, found_place, Gives, IsCopied}
use Rattle.native_vfs.specs.declared.place.Place.{Place}
use Rattle.native_vfs.specs.declared.walk.Found.{Found}
use Rattle.native_vfs.specs.declared.stored.Stored.{Stored}
use Rattle.native_vfs.specs.declared.stored.StoredContent.{StoredContent}
use Rattle.native_vfs.specs.declared.stored.StoredContent.TheVariants as kept
use Rattle.native_vfs.specs.declared.walk.Walk.{Walk as KeyedWalk}
use Rattle.native_vfs.proofs.tables.Kept.{nodes-seen, keys-seen}
use Rattle.native_vfs.proofs.tables.Tables.{key-there, node-there}

-- What is kept at a key

pub leads-to : (system : Keyed) (table : Table) (reference : NodeRef) → keyed_of table ≡ system → Leads table reference → LeadsTo system reference
leads-to system table reference view leads =
    ap (λ k. get k reference.key) (sym (keys-seen table system view)) ∙ key-there table reference.key leads.0 leads.1 ∙ ap (λ n. Some n) leads.2

content-sound :
    (system : Keyed) (table : Table) (number : ℕ) (node : Stored) (content : StoredContent) → node.content ≡ content → keyed_of table ≡ system →
    ContentLeads table content → IsLive (nodes_of table) number (inode_of node) → IsSound system content
content-sound system table number node (kept.File content) at is leads live = tt
content-sound system table number node (kept.Directory directory) at is leads live = record {
  parent = parent directory.parent leads.parent;
  names = All-weaker _ _ (λ e h. leads-to system table (record { number = e.number; key = e.key }) is h) directory.names.entries leads.names;
}
  where
    parent : (o : Option NodeRef) → OptionLeads table o → OptionLeadsTo system o
    parent None h = tt
    parent (Some reference) h = leads-to system table reference is h
content-sound system table number node (kept.Link target) at is leads live =
    (subst (λ k. IsLiveContent (nodes_of table) number node.links (content_of k)) at live.content).0

pub node-sound :
    (system : Keyed) (table : Table) (key : ℕ) (node : Stored) → keyed_of table ≡ system → HasDistinctNumbers table → HasReferences table →
    IsFileSystem (nodes_of table) → slab_get table key ≡ Some node → IsSound system node.content
node-sound system table key node is distinct references fs at =
    content-sound system table node.number node node.content refl is (references key node at)
    (fs.each node.number (inode_of node) (node-there table key node distinct at))

-- the root is a directory
is-directory : (nodes : Nodes) (number : ℕ) → is_some (parent_at nodes number) ≡ true → is_directory nodes number ≡ true
is-directory nodes number some = by (listing_at nodes number) some
  where
    by : (o : Option Listing) → is_some (parent_of o) ≡ true → is_some o ≡ true
    by None h = h
    by (Some listing) h = refl

pub root-directory : (system : Keyed) (table : Table) → keyed_of table ≡ system → IsFileSystem (nodes_of table) → is_directory system.nodes root ≡ true
root-directory system table view fs =
    ap (λ n. is_directory n root) (sym (nodes-seen table system view)) ∙ is-directory (nodes_of table) root (ap is_some fs.top)

-- Steps

pub step-none :
    (system : Keyed) (follow : Bool) (walk : KeyedWalk) → walk.rest ≡ [] →
    walking.walk_step system.nodes follow (walk_of system walk) ≡ walking.found (number_at system walk.at) [] (Some (number_at system walk.at))
unfolding walking.walk_step
step-none system follow walk none = ap (walking.at_component system.nodes follow (walk_of system walk)) none

pub step-some :
    (system : Keyed) (follow : Bool) (walk : KeyedWalk) (name : List ℕ) (rest : List (List ℕ)) → walk.rest ≡ name ∷ rest →
    walking.walk_step system.nodes follow (walk_of system walk) ≡ walking.at_component system.nodes follow (walk_of system walk) (name ∷ rest)
unfolding walking.walk_step
step-some system follow walk name rest some = ap (walking.at_component system.nodes follow (walk_of system walk)) some

-- a step more
pub one-step :
    (nodes : Nodes) (follow : Bool) (walk : walking.Walk) (next : walking.WalkStep) (result : Result walking.Place Errno) → walking.walk_step nodes follow walk ≡ next →
    ((count : ℕ) × walking.EndsAfter count nodes follow next result) → (count : ℕ) × walking.EndsAfter count nodes follow (walking.Goes walk) result
unfolding walking.EndsAfter
one-step nodes follow walk next result is ends =
    (suc ends.0, subst (λ s. walking.EndsAfter ends.0 nodes follow s result) (sym is) ends.1)

pub ended :
    (nodes : Nodes) (follow : Bool) (result : Result walking.Place Errno) → (count : ℕ) × walking.EndsAfter count nodes follow (walking.Ends result) result
unfolding walking.EndsAfter
ended nodes follow result = (0, refl)

-- The walk

-- an empty path
pub walk-empty :
    (nodes : Nodes) (from : ℕ) (path : List ℕ) (follow : Bool) → path ≡ [] → walking.Walks nodes from path follow (Err ENOENT)
walk-empty nodes from path follow none = subst (λ p. walking.Walks nodes from p follow (Err ENOENT)) (sym none) (ended nodes follow (Err ENOENT))

module _ (system : Keyed) (from : ℕ) (path : List ℕ) (follow : Bool) (walk after : KeyedWalk) (most : ℕ) (same : (result : Result walking.Place Errno)
    → (count : ℕ) × walking.EndsAfter count system.nodes follow (walking.Goes (walk_of system walk)) result → walking.Walks system.nodes from path follow result) where
  -- where a walk ends here, the walk from its beginning does
  pub walk-ends : (result : Result walking.Place Errno) → walking.walk_step system.nodes follow (walk_of system walk) ≡ walking.Ends result → walking.Walks system.nodes from path follow result
  walk-ends result is = same result (one-step system.nodes follow (walk_of system walk) (walking.Ends result) result is (ended system.nodes follow result))

  pub walked-found :
      (found : Found) (result : Result Place CoreError) → Gives system most (walking.walk_step system.nodes follow (walk_of system walk)) after (Ok (Some found)) →
      IsCopied found result → IsWalked system from path follow result
  walked-found found (Ok place) gives copied =
      subst (λ p. AgreesAt system p × walking.Walks system.nodes from path follow (Ok (place_at system p))) (sym copied)
      (gives.1, walk-ends (Ok (place_at system (found_place found))) gives.0)
  walked-found found (Err (Refused error)) gives copied = absurd copied
  walked-found found (Err (Stop NoMemory)) gives copied = tt
  walked-found found (Err (Stop ReadFault)) gives copied = absurd copied
  walked-found found (Err (Stop WriteFault)) gives copied = absurd copied

  pub walked-error :
      (error : CoreError) → Gives system most (walking.walk_step system.nodes follow (walk_of system walk)) after (Err error) → IsWalked system from path follow (Err error)
  walked-error (Refused error) gives = walk-ends (Err error) gives
  walked-error (Stop NoMemory) gives = tt
  walked-error (Stop ReadFault) gives = gives
  walked-error (Stop WriteFault) gives = gives

-- What a look at the table tells of a key.
use Rattle.std.proofs.Common.{◌≡◌, ℕ, List, Bool, true, Option, Some, None, is_some, IsSome, IfSome, IsTrue, refl, ap, subst, ◌∙◌}
use Rattle.std.specs.Prelude.{option_map}
use Rattle.slab.specs.Slab.{get as slab_get}
use Rattle.kernel_core.specs.FileContent.{FileContent}
use Rattle.kernel_core.specs.FileSystem.{parent_at}
use Rattle.kernel_core.specs.Nodes.{file_at, target_at, is_directory, listing_in}
use Rattle.directory_names.specs.declared.entry.NodeRef.{NodeRef}
use Rattle.native_vfs.specs.Keyed.{Keyed, IsLiveKey, number_at, inode_at}
use Rattle.native_vfs.specs.inside.Stored.{Table, keyed_of, content_of, number_of, HasDistinctNumbers}
use Rattle.native_vfs.specs.declared.stored.Stored.{Stored}
use Rattle.native_vfs.specs.declared.stored.StoredDirectory.{StoredDirectory}
use Rattle.native_vfs.specs.declared.stored.StoredContent.TheVariants as kept
use Rattle.native_vfs.proofs.tables.Facts.{lead-live, file-seen, target-seen, part-seen, parent-seen, if-inode}

mapped : (parent : Option NodeRef) → IsTrue (is_some parent) → is_some (option_map number_of parent) ≡ true
mapped None some = cc
mapped (Some parent) some = refl

module _ (table : Table) (system : Keyed) (view : keyed_of table ≡ system) (distinct : HasDistinctNumbers table) (key : ℕ) (node : Stored) (at : slab_get table key ≡ Some node) where
  pub live : IsLiveKey system key
  live = lead-live table system view distinct (record { number = node.number; key = key }) (node, at, refl)

  pub file : (content : FileContent) → node.content ≡ kept.File content → IsSome (file_at system.nodes (number_at system key))
  file content is = ap is_some (file-seen table system view distinct key node at content is)

  pub link : (target : List ℕ) → node.content ≡ kept.Link target → IsSome (target_at system.nodes (number_at system key))
  link target is = ap is_some (target-seen table system view distinct key node at target is)

  pub directory : (listing : StoredDirectory) → node.content ≡ kept.Directory listing → is_directory system.nodes (number_at system key) ≡ true
  directory listing is = ap is_some (part-seen table system view distinct key node at listing_in ∙ ap (λ c. listing_in (content_of c)) is)

  pub parent : (listing : StoredDirectory) → node.content ≡ kept.Directory listing → (found : Bool) → found ≡ is_some listing.parent → IsTrue found
      → IsSome (parent_at system.nodes (number_at system key))
  parent listing is found tells some = ap is_some (parent-seen table system view distinct key node at listing is) ∙ mapped listing.parent (subst IsTrue tells some)

  pub holding : IfSome (inode_at system key) (λ inode. inode.holds ≡ node.holds)
  holding = if-inode table system view distinct key node at (λ inode. inode.holds ≡ node.holds) refl

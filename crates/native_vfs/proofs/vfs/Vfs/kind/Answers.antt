use Rattle.std.proofs.Common.{◌≡◌, ℕ, Some, ap, ◌∙◌}
use Rattle.std.specs.Prelude.{option_map}
use Rattle.slab.specs.Slab.{get as slab_get}
use Rattle.kernel_core.specs.Queries.{kind_of, kind_at}
use Rattle.native_vfs.specs.Keyed.{Keyed, number_at}
use Rattle.native_vfs.specs.inside.Stored.{Table, HasDistinctNumbers, content_of, keyed_of}
use Rattle.native_vfs.specs.declared.stored.Stored.{Stored}
use Rattle.native_vfs.specs.declared.stored.StoredContent.{StoredContent}
use Rattle.native_vfs.proofs.tables.Kept.{live-seen, inode-live}
use Rattle.native_vfs.proofs.vfs.Vfs.kind.Goals as goal

-- the kind of the node at a key
kind-seen : (table : Table) (system : Keyed) → keyed_of table ≡ system → HasDistinctNumbers table → (key : ℕ) (node : Stored) → slab_get table key ≡ Some node
    → (content : StoredContent) → node.content ≡ content → kind_at system.nodes (number_at system key) ≡ Some (kind_of (content_of content))
kind-seen table system view distinct key node at content is =
    ap (option_map (λ i. kind_of i.content)) (inode-live table system view key node distinct at) ∙ ap (λ k. Some (kind_of (content_of k))) is

pub index-requires : goal.index-requires
index-requires c = live-seen c.self.inside.inodes.table c.args.self.now c.self.view_is c.args.node c.requires.live

pub returns-in-File : goal.returns-in-File
returns-in-File c = kind-seen c.self.inside.inodes.table c.args.self.now c.self.view_is c.self.inside.inodes.distinct c.args.node c.index.result.now c.index.ensures _ c.in-File.is

pub returns-in-Directory : goal.returns-in-Directory
returns-in-Directory c = kind-seen c.self.inside.inodes.table c.args.self.now c.self.view_is c.self.inside.inodes.distinct c.args.node c.index.result.now c.index.ensures _ c.in-Directory.is

pub returns-in-Link : goal.returns-in-Link
returns-in-Link c = kind-seen c.self.inside.inodes.table c.args.self.now c.self.view_is c.self.inside.inodes.distinct c.args.node c.index.result.now c.index.ensures _ c.in-Link.is

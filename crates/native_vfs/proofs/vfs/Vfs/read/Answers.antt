use Rattle.std.proofs.Common.{sym, ap, ◌∙◌}
use Rattle.std.specs.Prelude.{is_some}
use Rattle.kernel_core.specs.Nodes.{file_in}
use Rattle.native_vfs.proofs.tables.Facts.{no-file, part-seen, if-file}
use Rattle.native_vfs.proofs.tables.Kept.{live-seen}
use Rattle.native_vfs.proofs.vfs.Vfs.read.Goals as goal

pub index-requires : goal.index-requires
index-requires c = live-seen c.self.inside.inodes.table c.args.self.now c.self.view_is c.args.node c.requires.live

pub unreachable-requires : goal.unreachable-requires
unreachable-requires c =
    no-file c.index.result.now.content c.in_default.not-File (sym
    (ap is_some (part-seen c.self.inside.inodes.table c.args.self.now c.self.view_is c.self.inside.inodes.distinct c.args.node c.index.result.now
    c.index.ensures file_in)) ∙ c.requires.file)

pub returns-clause-count : goal.returns-clause-count
returns-clause-count c = if-file c.self.inside.inodes.table c.args.self.now c.self.view_is c.self.inside.inodes.distinct c.args.node c.index.result.now c.index.ensures c.in-File.content _ c.in-File.is c.read.ensures.count

pub returns-clause-bytes : goal.returns-clause-bytes
returns-clause-bytes c = if-file c.self.inside.inodes.table c.args.self.now c.self.view_is c.self.inside.inodes.distinct c.args.node c.index.result.now c.index.ensures c.in-File.content _ c.in-File.is c.read.ensures.bytes

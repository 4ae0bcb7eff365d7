use Rattle.std.proofs.Common.{sym}
use Rattle.native_vfs.proofs.tables.Facts.{number-live}
use Rattle.native_vfs.proofs.tables.Kept.{live-seen}
use Rattle.native_vfs.proofs.vfs.Vfs.number.Goals as goal

pub index-requires : goal.index-requires
index-requires c = live-seen c.self.inside.inodes.table c.args.self.now c.self.view_is c.args.node c.requires.live

pub returns : goal.returns
returns c = sym (number-live c.self.inside.inodes.table c.args.self.now c.self.view_is c.self.inside.inodes.distinct c.args.node c.index.result.now c.index.ensures)

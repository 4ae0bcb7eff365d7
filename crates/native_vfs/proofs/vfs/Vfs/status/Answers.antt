use Rattle.std.proofs.Common.{sym, ap, ◌∙◌}
use Rattle.native_vfs.specs.Seen.{status_of}
use Rattle.native_vfs.specs.inside.Stored.{inode_of}
use Rattle.native_vfs.proofs.tables.Facts.{mode-small, blocks-few, sectors-few, number-live}
use Rattle.native_vfs.proofs.tables.Kept.{live-seen, inode-live}
use Rattle.native_vfs.proofs.vfs.Vfs.status.Goals as goal

pub index-stored-requires : goal.index-stored-requires
index-stored-requires c = live-seen c.self.inside.inodes.table c.args.self.now c.self.view_is c.args.node c.requires.live

pub describe-requires-clause-mode : goal.describe-requires-clause-mode
describe-requires-clause-mode c = mode-small c.self.inside.inodes.table c.args.self.now c.self.view_is c.self.inside.inodes.distinct c.args.node c.index-stored.result.now c.index-stored.ensures c.self.invariant.sound.system

pub describe-requires-clause-few : goal.describe-requires-clause-few
describe-requires-clause-few c =
    sectors-few c.index-stored.result.now.content (blocks-few c.self.inside.inodes.table c.args.self.now c.self.view_is c.self.inside.inodes.distinct
    c.args.node c.index-stored.result.now c.index-stored.ensures c.self.invariant.sound.system)

pub returns : goal.returns
returns c =
    let number = number-live c.self.inside.inodes.table c.args.self.now c.self.view_is c.self.inside.inodes.distinct c.args.node c.index-stored.result.now c.index-stored.ensures in (
      inode_of c.index-stored.result.now,
      inode-live c.self.inside.inodes.table c.args.self.now c.self.view_is c.args.node c.index-stored.result.now c.self.inside.inodes.distinct c.index-stored.ensures,
      c.describe.ensures ∙ ap (λ n. status_of n (inode_of c.index-stored.result.now)) (sym number),
    )

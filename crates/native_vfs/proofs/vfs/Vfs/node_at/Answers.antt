use Rattle.native_vfs.proofs.tables.Kept.{live-seen, inode-live}
use Rattle.native_vfs.proofs.walks.WalkLemmas.{node-sound}
use Rattle.native_vfs.proofs.vfs.Vfs.node_at.Goals as goal

pub node-requires : goal.node-requires
node-requires c = record { live = live-seen c.self.inside.inodes.table c.args.self.now c.self.view_is c.args.key c.requires }

pub returns-clause-inode : goal.returns-clause-inode
returns-clause-inode c =
    inode-live c.self.inside.inodes.table c.args.self.now c.self.view_is c.args.key c.node.result.now c.self.inside.inodes.distinct c.node.ensures.node

pub returns-clause-sound : goal.returns-clause-sound
returns-clause-sound c =
    node-sound c.args.self.now c.self.inside.inodes.table c.args.key c.node.result.now c.self.view_is c.self.inside.inodes.distinct
    c.self.invariant.sound.references c.self.invariant.sound.system c.node.ensures.node

use Rattle.std.proofs.Common.{rules}
use Rattle.native_vfs.proofs.removals.RemovalReasons.{parent-kept, no-parent}
use Rattle.native_vfs.proofs.refusals.parent_below_root.Goals as goal

pub returns-in-Directory-clause-parent : goal.returns-in-Directory-clause-parent
returns-in-Directory-clause-parent c =
    parent-kept c.args.inodes.now.table c.args.key c.node-node.result.now c.node-node.ensures.node c.args.inodes.now.distinct (λ e. c.if-node-eq-ROOT.false e)
    c.requires.references c.in-Directory.directory c.in-Directory.is c.map.result (search rules)

pub returns-in_default : goal.returns-in_default
returns-in_default c = record {
  live = tt;
  parent = no-parent c.args.inodes.now.table c.args.key c.node-node.result.now c.node-node.ensures.node c.args.inodes.now.distinct (λ e. c.if-node-eq-ROOT.false e) c.in_default.not-Directory;
}

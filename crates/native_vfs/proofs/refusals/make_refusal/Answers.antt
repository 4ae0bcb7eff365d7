use Rattle.std.proofs.Common.{ap, ◌∙◌}
use Rattle.kernel_core.specs.NameCalls.{name_refusal}
use Rattle.native_vfs.specs.Keyed.{place_at}
use Rattle.native_vfs.specs.inside.Stored.{keyed_of, nodes_of}
use Rattle.native_vfs.proofs.tables.Reasons.{full-nodes, full-entries}
use Rattle.native_vfs.proofs.refusals.make_refusal.Goals as goal
use Rattle.native_vfs.proofs.refusals.make_refusal.Goals.{then-len, else-len}

pub returns : goal.returns
returns c =
    c.name_refusal.ensures
    ∙ ap (name_refusal (nodes_of c.args.inodes.now.table) (place_at (keyed_of c.args.inodes.now.table) c.args.at.now)) (elim c.if-len.branch [
      | then-len w ↦ full-nodes c.args.inodes.now.table c.len.result _ c.args.inodes.now.distinct c.len.ensures w.full-is w.if-len.true
      | else-len w ↦ full-entries c.args.inodes.now.table c.len.result c.args.inodes.now.entries _ c.args.inodes.now.distinct c.len.ensures w.full-is c.requires.entries w.if-len.false
    ])

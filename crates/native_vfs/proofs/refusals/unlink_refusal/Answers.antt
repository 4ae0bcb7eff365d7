use Rattle.std.proofs.Common.{◌∙◌, sym, ap}
use Rattle.kernel_core.specs.NameCalls.{unlink_of}
use Rattle.native_vfs.specs.inside.Stored.{nodes_of}
use Rattle.native_vfs.proofs.tables.Reasons.{live-node}
use Rattle.native_vfs.proofs.removals.Stages.{named-node}
use Rattle.native_vfs.proofs.refusals.unlink_refusal.Goals as goal

pub file_refusal-requires : goal.file_refusal-requires
file_refusal-requires c = record { live = live-node c.args.inodes.now.table c.args.at.now c.in-Some.node c.requires.agrees c.in-Some.is }

pub returns-in-Some : goal.returns-in-Some
returns-in-Some c = c.file_refusal.ensures ∙ sym (ap (unlink_of (nodes_of c.args.inodes.now.table)) (named-node c.args.inodes.now.table c.args.at.now c.requires.agrees c.in-Some.node c.in-Some.is))

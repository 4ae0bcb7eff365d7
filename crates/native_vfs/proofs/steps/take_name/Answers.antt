use Rattle.std.specs.Int.{w128}
use Rattle.std.proofs.Math.Facts.{to_z-of_z}
use Rattle.native_vfs.proofs.tables.Changes.{take-step, take-none}
use Rattle.native_vfs.proofs.steps.take_name.Goals as goal

pub returns-in-Directory : goal.returns-in-Directory
returns-in-Directory c =
    rw (to_z-of_z {w = w128} {z = c.args.now} c.ranges.now) (record { step = take-step c.args.table.now c.args.dir c.index_mut-node.result.now c.index_mut-node.ensures.value c.requires.distinct c.in-Directory.directory c.in-Directory.is c.remove.new.self c.args.name.now c.args.now c.remove.ensures.removed c.remove.ensures.kept })

pub returns-in_default : goal.returns-in_default
returns-in_default c =
    rw (to_z-of_z {w = w128} {z = c.args.now} c.ranges.now) (record { step = take-none c.args.table.now c.args.dir c.index_mut-node.result.now c.index_mut-node.ensures.value c.requires.distinct c.in_default.not-Directory c.args.name.now c.args.now })

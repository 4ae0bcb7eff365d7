use Rattle.std.specs.Int.{w128}
use Rattle.std.proofs.Math.Facts.{to_z-of_z}
use Rattle.native_vfs.proofs.tables.Changes.{add-step, can-cookie, can-absent}
use Rattle.native_vfs.proofs.steps.add_name.Goals as goal

pub add-requires-clause-cookie : goal.add-requires-clause-cookie
add-requires-clause-cookie c =
    can-cookie c.args.table.now c.args.dir c.index_mut-stored.result.now c.index_mut-stored.ensures.value c.requires.distinct
    c.in-Directory.directory c.in-Directory.is c.args.name c.requires.can

pub add-requires-clause-absent : goal.add-requires-clause-absent
add-requires-clause-absent c =
    can-absent c.args.table.now c.args.dir c.index_mut-stored.result.now c.index_mut-stored.ensures.value c.requires.distinct
    c.in-Directory.directory c.in-Directory.is c.args.name c.requires.can

pub returns-in-Directory : goal.returns-in-Directory
returns-in-Directory c =
    rw (to_z-of_z {w = w128} {z = c.args.now} c.ranges.now) (record { step = add-step c.args.table.now c.args.dir c.index_mut-stored.result.now c.index_mut-stored.ensures.value c.requires.distinct c.in-Directory.directory c.in-Directory.is c.add.new.self c.args.name c.args.node c.args.now c.requires.leads c.add.ensures.added })

use Rattle.native_vfs.proofs.tables.Changes.{reserve-same, no_listing}
use Rattle.native_vfs.proofs.steps.reserve_name.Goals as goal

pub returns-clause-same : goal.returns-clause-same
returns-clause-same c =
    reserve-same c.args.table.now c.args.dir c.index_mut-node.result.now c.index_mut-node.ensures.value c.requires.distinct c.in-Directory.directory
    c.in-Directory.is c.reserve.new.self c.reserve.ensures.same c.reserve.ensures.kept

pub unreachable-requires : goal.unreachable-requires
unreachable-requires c = no_listing c.args.table.now c.args.dir c.index_mut-node.result.now c.index_mut-node.ensures.value c.requires.distinct c.in_default.not-Directory c.requires.directory

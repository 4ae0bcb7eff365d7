use Rattle.native_vfs.proofs.tables.Changes.{reparent-step, reparent-none}
use Rattle.native_vfs.proofs.steps.reparent.Goals as goal

pub returns-in-Directory : goal.returns-in-Directory
returns-in-Directory c =
    record { step = reparent-step c.args.table.now c.args.key c.index_mut-node.result.now c.index_mut-node.ensures.value c.requires.distinct c.in-Directory.directory c.in-Directory.is c.args.parent c.requires.leads }

pub returns-in_default : goal.returns-in_default
returns-in_default c = record { step = reparent-none c.args.table.now c.args.key c.index_mut-node.result.now c.index_mut-node.ensures.value c.requires.distinct c.in_default.not-Directory c.args.parent.number }

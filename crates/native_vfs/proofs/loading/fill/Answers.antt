use Rattle.native_vfs.proofs.trees.LoadedNodes.{fill-step}
use Rattle.native_vfs.proofs.loading.fill.Goals as goal

pub returns : goal.returns
returns c = fill-step c.args.table.now c.args.key c.index_mut-node.result.now c.args.links c.args.directory c.index_mut-node.ensures.value c.requires.distinct c.requires.leads

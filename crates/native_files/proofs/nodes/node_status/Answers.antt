use Rattle.std.proofs.Common.{ap, ◌∙◌}
use Rattle.native_files.proofs.NodeFacts.{IsStatus-node}
use Rattle.native_files.specs.inside.Contents.{shown}
use Rattle.native_files.proofs.nodes.node_status.Goals as goal
use Rattle.native_vfs.specs.Keyed.{number_at}

pub returns-clause-fits : goal.returns-clause-fits
returns-clause-fits c =
    let told = c.status.ensures in
    IsStatus-node c.args.vfs.now.nodes c.requires.valid (number_at c.args.vfs.now c.args.key) told.0 told.1 c.shown.result (c.shown.ensures ∙ ap shown told.2)

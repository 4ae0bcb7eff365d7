use Rattle.std.proofs.Common.{◌≤◌, sym, ap, subst}
use Rattle.kernel_core.specs.FileContent.{greatest_size}
use Rattle.native_files.proofs.NodeFacts.{size-small}
use Rattle.native_files.proofs.nodes.file_size.Goals as goal
use Rattle.native_vfs.specs.Keyed.{number_at}

pub returns-in-File-clause-small : goal.returns-in-File-clause-small
returns-in-File-clause-small c =
    let told = c.status.ensures in
    subst (λ n. n ≤ greatest_size) (sym (ap (λ s. s.size) told.2))
    (size-small c.args.vfs.now.nodes c.requires.valid (number_at c.args.vfs.now c.args.key) told.0 told.1)

use Rattle.std.proofs.Common.{length}
use Rattle.native_files.proofs.NodeFacts.{read-end}
use Rattle.native_files.proofs.nodes.read_file.Goals as goal
use Rattle.native_vfs.specs.Keyed.{number_at}

pub returns-in-File-clause-end : goal.returns-in-File-clause-end
returns-in-File-clause-end c =
    read-end c.args.vfs.now.nodes c.requires.valid (number_at c.args.vfs.now c.args.key) c.in-File.ensures c.args.at (length c.args.buffer.now) c.read.result c.ranges.at.fits c.read.ensures.count

use Rattle.native_vfs.proofs.tables.Reasons.{directory-there, no_directory-there}
use Rattle.native_vfs.proofs.table.directory.Goals as goal

pub returns-in-Directory : goal.returns-in-Directory
returns-in-Directory c = record { listing = directory-there c.args.table.now c.args.key c.node.result.now c.node.ensures.node c.requires.distinct c.in-Directory.directory c.in-Directory.is }

pub returns-in_default : goal.returns-in_default
returns-in_default c = record { listing = no_directory-there c.args.table.now c.args.key c.node.result.now c.node.ensures.node c.requires.distinct c.in_default.not-Directory }

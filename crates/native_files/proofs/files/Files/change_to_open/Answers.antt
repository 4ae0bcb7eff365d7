use Rattle.native_files.proofs.Homes.{directory-kind}
use Rattle.native_files.proofs.files.Files.change_to_open.Goals as goal
use Rattle.native_vfs.specs.Keyed.{number_at}

pub move_home-requires-clause-directory : goal.move_home-requires-clause-directory
move_home-requires-clause-directory c = directory-kind c.self.inside.vfs.nodes (number_at c.self.inside.vfs c.in-Ok.to) c.in-Ok.ensures.2

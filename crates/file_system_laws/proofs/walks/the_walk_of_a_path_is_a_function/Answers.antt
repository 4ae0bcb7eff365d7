use Rattle.file_system_laws.proofs.WalkedPaths.{walked_is_the_walk}
use Rattle.file_system_laws.proofs.walks.the_walk_of_a_path_is_a_function.Goals as goal

pub returns : goal.returns
returns c = walked_is_the_walk

use Rattle.kernel_core.specs.Queries.{walked}
use Rattle.file_system_laws.proofs.WalkedPaths.{walked_is_the_walk}
use Rattle.file_system_laws.proofs.walks.a_path_has_a_walk.Goals as goal

pub returns : goal.returns
returns c = λ nodes from path follow. (walked nodes from path follow, walked_is_the_walk nodes from path follow)

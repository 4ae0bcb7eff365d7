use Rattle.file_system_laws.proofs.Walking.{one_answer}
use Rattle.file_system_laws.proofs.walks.a_path_has_one_walk.Goals as goal

pub returns : goal.returns
returns c = one_answer

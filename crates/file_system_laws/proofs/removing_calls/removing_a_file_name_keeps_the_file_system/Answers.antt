use Rattle.file_system_laws.proofs.Removing.{unlink_keeps}
use Rattle.file_system_laws.proofs.removing_calls.removing_a_file_name_keeps_the_file_system.Goals as goal

pub returns : goal.returns
returns c = unlink_keeps

use Rattle.file_system_laws.proofs.Removing.{rmdir_keeps}
use Rattle.file_system_laws.proofs.removing_calls.removing_a_directory_keeps_the_file_system.Goals as goal

pub returns : goal.returns
returns c = rmdir_keeps

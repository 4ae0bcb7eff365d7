use Rattle.file_system_laws.proofs.Renaming.{rename_keeps}
use Rattle.file_system_laws.proofs.renaming_calls.renaming_a_node_keeps_the_file_system.Goals as goal

pub returns : goal.returns
returns c = rename_keeps

use Rattle.file_system_laws.proofs.Making.{symlink_keeps}
use Rattle.file_system_laws.proofs.making_calls.making_a_symbolic_link_keeps_the_file_system.Goals as goal

pub returns : goal.returns
returns c = symlink_keeps

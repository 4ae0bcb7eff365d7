use Rattle.file_system_laws.proofs.Making.{mkdir_keeps}
use Rattle.file_system_laws.proofs.making_calls.making_a_directory_keeps_the_file_system.Goals as goal

pub returns : goal.returns
returns c = λ nodes place number mode now is agrees free new small time. mkdir_keeps nodes place number now is agrees free new time mode small

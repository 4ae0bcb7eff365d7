use Rattle.kernel_laws.proofs.FileBytes.{gives_elsewhere, gives_written}
use Rattle.kernel_laws.proofs.effects.a_file_gives_what_was_written.Goals as goal

pub returns : goal.returns
returns c = record { there = gives_written; elsewhere = gives_elsewhere }

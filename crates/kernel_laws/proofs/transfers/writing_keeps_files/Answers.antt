use Rattle.kernel_laws.proofs.WriteKept.{write_at_keeps, write_keeps}
use Rattle.kernel_laws.proofs.transfers.writing_keeps_files.Goals as goal

pub returns : goal.returns
returns c = record {
  write = λ files limit now fd asked bytes is time are. (write_keeps files is now time limit bytes are fd asked).kept;
  write_at = λ files limit now fd place asked bytes is time are. (write_at_keeps files is now time limit bytes are fd place asked).kept;
}

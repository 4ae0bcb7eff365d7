use Rattle.kernel_laws.proofs.OpenThingsKept.{read_at_keeps}
use Rattle.kernel_laws.proofs.TransferEnds.{read_at_ends, read_ends, write_at_ends, write_ends}
use Rattle.kernel_laws.proofs.WriteKept.{write_at_keeps, write_keeps}
use Rattle.kernel_model.proofs.ReadKept.{read_kept}
use Rattle.kernel_laws.proofs.every_row.a_transfer_keeps_files_sound.Goals as goal

pub returns : goal.returns
returns c = record {
  read = λ files left fd asked room is. record { always = read_kept files is.always left fd asked room; ends = (read_ends files is.ends left fd asked room).kept };
  read_at = λ files fd place asked room is. record { always = (read_at_keeps files is.always fd place asked room).kept; ends = (read_at_ends files is.ends fd place asked room).kept };
  write = λ files limit now fd asked bytes is time are. record { always = (write_keeps files is.always now time limit bytes are fd asked).kept; ends = (write_ends files is.ends limit now fd asked bytes).kept };
  write_at = λ files limit now fd place asked bytes is time are. record { always = (write_at_keeps files is.always now time limit bytes are fd place asked).kept; ends = (write_at_ends files is.ends limit now fd place asked bytes).kept };
}

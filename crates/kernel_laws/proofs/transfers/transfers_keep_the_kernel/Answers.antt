use Rattle.kernel_laws.proofs.WholeKept.{kernel_read_kept, kernel_write_kept}
use Rattle.kernel_laws.proofs.transfers.transfers_keep_the_kernel.Goals as goal

pub returns : goal.returns
returns c = record {
  read = λ kernel left fd asked room is. kernel_read_kept kernel is left fd asked room;
  write = λ kernel limit fd asked bytes is time are. kernel_write_kept kernel is time limit fd asked bytes are;
}

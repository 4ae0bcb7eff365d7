use Rattle.kernel_laws.proofs.WholeKept.{kernel_read_ends, kernel_read_kept, kernel_write_ends, kernel_write_kept, sound_files}
use Rattle.kernel_laws.proofs.every_row.a_row_on_files_is_a_row_of_the_kernel.Goals as goal

pub returns : goal.returns
returns c = record {
  files = sound_files;
  read = λ kernel left fd asked room is. record { always = kernel_read_kept kernel is.always left fd asked room; ends = kernel_read_ends kernel is.ends left fd asked room };
  write = λ kernel limit fd asked bytes is time are. record { always = kernel_write_kept kernel is.always time limit fd asked bytes are; ends = kernel_write_ends kernel is.ends limit fd asked bytes };
}

use Rattle.kernel_laws.proofs.OtherKept.{read_clock_keeps, resolution_keeps, read_timer_keeps, sleep_keeps}
use Rattle.kernel_laws.proofs.clocks.asking_for_the_time_keeps_the_kernel.Goals as goal

pub returns : goal.returns
returns c = record {
  read_clock = λ kernel quanta id is. (read_clock_keeps kernel is quanta id).kept;
  resolution = λ kernel id is. (resolution_keeps kernel is id).kept;
  read_timer = λ kernel which is. (read_timer_keeps kernel is which).kept;
  sleep = λ kernel id absolute time is. (sleep_keeps kernel is id absolute time).kept;
}

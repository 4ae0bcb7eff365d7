use Rattle.kernel_laws.proofs.SignalsKept.{kill_keeps, kill_thread_keeps, kill_thread_of_keeps, queue_keeps}
use Rattle.kernel_laws.proofs.sending.sending_keeps_the_kernel.Goals as goal

pub returns : goal.returns
returns c = record {
  kill = λ kernel pid signal is. (kill_keeps kernel is pid signal).kept;
  kill_thread = λ kernel tid signal is. (kill_thread_keeps kernel is tid signal).kept;
  kill_thread_of = λ kernel pid tid signal is. (kill_thread_of_keeps kernel is pid tid signal).kept;
  queue = λ kernel pid signal sent is. (queue_keeps kernel is pid signal sent).kept;
}

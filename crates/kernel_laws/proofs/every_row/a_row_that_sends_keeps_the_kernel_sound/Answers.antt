use Rattle.kernel_laws.proofs.SignalsKept.{kill_keeps, kill_thread_keeps, kill_thread_of_keeps, queue_keeps}
use Rattle.kernel_laws.proofs.WholeKept.{kill_ends, kill_thread_ends, kill_thread_of_ends, queue_ends}
use Rattle.kernel_laws.proofs.every_row.a_row_that_sends_keeps_the_kernel_sound.Goals as goal

pub returns : goal.returns
returns c = record {
  kill = λ kernel pid signal is. record { always = (kill_keeps kernel is.always pid signal).kept; ends = (kill_ends kernel is.ends pid signal).kept };
  kill_thread = λ kernel tid signal is. record { always = (kill_thread_keeps kernel is.always tid signal).kept; ends = (kill_thread_ends kernel is.ends tid signal).kept };
  kill_thread_of = λ kernel pid tid signal is. record { always = (kill_thread_of_keeps kernel is.always pid tid signal).kept; ends = (kill_thread_of_ends kernel is.ends pid tid signal).kept };
  queue = λ kernel pid signal sent is. record { always = (queue_keeps kernel is.always pid signal sent).kept; ends = (queue_ends kernel is.ends pid signal sent).kept };
}

use Rattle.kernel_laws.proofs.OtherKept.{poll_keeps, select_keeps}
use Rattle.kernel_laws.proofs.clocks.asking_for_readiness_keeps_the_kernel.Goals as goal

pub returns : goal.returns
returns c = record {
  poll = λ kernel wait count entries is. (poll_keeps kernel is wait count entries).kept;
  select = λ kernel wait count sets is. (select_keeps kernel is wait count sets).kept;
}

use Rattle.kernel_laws.proofs.OtherKept.{random_bytes_keeps}
use Rattle.kernel_laws.proofs.system.taking_random_bytes_keeps_the_kernel.Goals as goal

pub returns : goal.returns
returns c = λ kernel asked room flags is. (random_bytes_keeps kernel is asked room flags).kept

use Rattle.kernel_laws.proofs.FileBytes.{keeps_below, zeros_past}
use Rattle.kernel_laws.proofs.effects.another_size_keeps_the_bytes_below_it.Goals as goal

pub returns : goal.returns
returns c = record { below = keeps_below; past = zeros_past }

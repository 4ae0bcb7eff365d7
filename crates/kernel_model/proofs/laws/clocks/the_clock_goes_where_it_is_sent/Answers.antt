use Rattle.kernel_model.proofs.Advances.{clock_at}
use Rattle.kernel_model.proofs.laws.clocks.the_clock_goes_where_it_is_sent.Goals as goal

pub returns : goal.returns
returns c = clock_at

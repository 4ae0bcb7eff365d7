use Rattle.kernel_model.proofs.Advances.{advance_twice}
use Rattle.kernel_model.proofs.laws.clocks.advancing_twice_is_advancing_once.Goals as goal

pub returns : goal.returns
returns c = advance_twice

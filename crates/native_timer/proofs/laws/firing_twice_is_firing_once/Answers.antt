use Rattle.native_timer.proofs.Again.{after_firing-after_firing}
use Rattle.native_timer.proofs.laws.firing_twice_is_firing_once.Goals as goal

pub returns : goal.returns
returns c = after_firing-after_firing

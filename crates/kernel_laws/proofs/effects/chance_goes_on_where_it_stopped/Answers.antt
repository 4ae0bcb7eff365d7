use Rattle.kernel_laws.proofs.Undone.{chance_on, chance_place}
use Rattle.kernel_laws.proofs.effects.chance_goes_on_where_it_stopped.Goals as goal

pub returns : goal.returns
returns c = record { bytes = chance_on; place = chance_place }

use Rattle.bridge_map.proofs.Ranges.{free_tells}
use Rattle.bridge_map.proofs.place.is_free.Goals as goal

pub returns : goal.returns
returns c = free_tells c.args.space.now.pages c.args.first c.args.count c.is_free.result c.is_free.ensures

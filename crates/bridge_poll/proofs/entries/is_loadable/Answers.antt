-- As many can be loaded as there are
use Rattle.bridge_poll.proofs.Loads.{all_load}
use Rattle.bridge_poll.proofs.entries.is_loadable.Goals as goal

pub returns : goal.returns
returns c = all_load c.args.space.now.pages c.args.entries.address _ c.readable.result c.readable.ensures.value c.readable.ensures.free

use Rattle.guest_space.proofs.Ranges.{free-told}
use Rattle.guest_space.proofs.range.is_free.Goals as goal

pub returns : goal.returns
returns c = free-told c.args.pages.now c.args.first c.args.count c.last_mapped.result c.is_none.result c.is_none.ensures c.last_mapped.ensures

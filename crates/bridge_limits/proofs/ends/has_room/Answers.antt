use Rattle.bridge_limits.proofs.Storable.{has_room}
use Rattle.bridge_limits.proofs.ends.has_room.Goals as goal

pub returns : goal.returns
returns c = has_room c.args.space.now c.args.address 8 c.writable.result c.writable.ensures.value c.writable.ensures.free

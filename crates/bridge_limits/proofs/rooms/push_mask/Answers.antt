-- What was pushed is that set.
use Rattle.bridge_limits.proofs.HostRooms.{set_pushed}
use Rattle.bridge_limits.proofs.rooms.push_mask.Goals as goal

pub returns-in-Set-clause-mask : goal.returns-in-Set-clause-mask
returns-in-Set-clause-mask c = set_pushed c.push.result c.push.new.mem c.args.mem.now c.set_bytes.result c.args.mask c.in-Set.set c.in-Set.is c.set_bytes.ensures.value c.set_bytes.ensures.words c.push.ensures.room c.push.ensures.place

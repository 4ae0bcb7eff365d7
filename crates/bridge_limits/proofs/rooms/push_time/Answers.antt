-- What was pushed is that time.
use Rattle.bridge_limits.proofs.HostRooms.{time_pushed}
use Rattle.bridge_limits.proofs.rooms.push_time.Goals as goal

pub returns-in-Some-clause-time : goal.returns-in-Some-clause-time
returns-in-Some-clause-time c = time_pushed c.push.result c.push.new.mem c.args.mem.now c.time_bytes.result c.args.wait c.in-Some.length c.in-Some.is c.requires c.time_bytes.ensures.sized c.time_bytes.ensures.value c.push.ensures.room c.push.ensures.place

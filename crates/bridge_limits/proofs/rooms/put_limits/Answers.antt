-- The mask stands behind the time.
use Rattle.bridge_limits.proofs.HostRooms.{both_aligned, both_few, mask_size, time_first}
use Rattle.bridge_limits.specs.inside.Rooms.{mask_room}
use Rattle.bridge_limits.proofs.rooms.put_limits.Goals as goal

pub returns-clause-time : goal.returns-clause-time
returns-clause-time c = time_first c.push_mask.new.mem c.push_time.new.mem (mask_room c.args.mask) c.in_ok-time.time c.args.wait c.in_ok-mask.ensures.room c.in_ok-time.ensures.time

pub returns-clause-aligned : goal.returns-clause-aligned
returns-clause-aligned c = both_aligned c.push_mask.new.mem c.push_time.new.mem (mask_room c.args.mask) c.in_ok-mask.ensures.room c.in_ok-time.ensures.aligned (mask_size c.args.mask).0

pub returns-clause-few : goal.returns-clause-few
returns-clause-few c = both_few c.push_mask.new.mem c.push_time.new.mem (mask_room c.args.mask) c.in_ok-mask.ensures.room c.in_ok-time.ensures.few (mask_size c.args.mask).1

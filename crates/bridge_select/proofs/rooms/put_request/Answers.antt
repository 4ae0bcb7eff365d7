use Rattle.bridge_select.proofs.Requesting.{hands}
use Rattle.bridge_select.specs.inside.Requests.{requested}
use Rattle.bridge_select.proofs.rooms.put_request.Goals as goal

pub returns : goal.returns
returns c =
    hands (requested c.args.request.now) c.args.space.now
    (record { read = c.in_ok-read.read; write = c.in_ok-write.write; except = c.in_ok-except.except; time = c.in_ok-limits.limits.time; pair = c.in_ok-pair.pair }) c.in_ok-limits.limits.mask
    c.put_limits.new.mem c.push_pair.new.mem c.push_set.new.mem c.push_set-2.new.mem c.push_set-3.new.mem
    c.in_ok-limits.ensures.time c.in_ok-limits.ensures.mask c.in_ok-pair.ensures.pair c.in_ok-pair.ensures.more c.in_ok-read.ensures.more c.in_ok-write.ensures.more c.in_ok-except.ensures.more
    c.in_ok-read.ensures.set c.in_ok-write.ensures.set c.in_ok-except.ensures.set c.in_ok-read.ensures.room c.in_ok-write.ensures.room c.in_ok-except.ensures.room

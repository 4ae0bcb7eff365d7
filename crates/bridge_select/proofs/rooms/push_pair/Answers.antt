use Rattle.std.proofs.Common.{arith}
use Rattle.bridge_select.proofs.Handed.{pair_pushed}
use Rattle.bridge_select.proofs.rooms.push_pair.Goals as goal

pub returns-clause-pair : goal.returns-clause-pair
returns-clause-pair c =
    pair_pushed c.push.result c.push.new.self c.args.mem.now c.pair_bytes.result c.args.mask c.args.size c.from.result c.pair_bytes.ensures c.from.ensures
    (omega arith) (omega arith) c.push.ensures.ok c.push.ensures.address

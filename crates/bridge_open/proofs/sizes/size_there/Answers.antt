-- Eight bytes were read.
use Rattle.bridge_open.proofs.SizeLooks.{long_enough}
use Rattle.bridge_open.proofs.sizes.size_there.Goals as goal

pub read_u64-requires : goal.read_u64-requires
read_u64-requires c = long_enough c.args.mem.now c.in-Some.bytes.now 65584 8 c.in-Some.ensures.bytes

use Rattle.native_kernel.proofs.Read.{length_read}
use Rattle.native_kernel.proofs.nodes.times_at.Goals as goal

pub times_in-requires : goal.times_in-requires
times_in-requires c = length_read c.args.mem.now c.in-Some.bytes.now c.args.address 32 c.in-Some.ensures.bytes

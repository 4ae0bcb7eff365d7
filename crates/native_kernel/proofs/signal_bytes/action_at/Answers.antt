use Rattle.native_kernel.proofs.Read.{length_read}
use Rattle.native_kernel.proofs.signal_bytes.action_at.Goals as goal

pub action_in-requires : goal.action_in-requires
action_in-requires c = length_read c.args.mem.now c.in-Some.bytes.now c.args.address 32 c.in-Some.ensures.bytes

use Rattle.native_kernel.proofs.Read.{length_read}
use Rattle.native_kernel.proofs.signal_bytes.sent_at.Goals as goal

pub sent_in-requires : goal.sent_in-requires
sent_in-requires c = length_read c.args.mem.now c.in-Some.bytes.now c.args.address 128 c.in-Some.ensures.bytes

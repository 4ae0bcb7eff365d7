use Rattle.native_kernel.proofs.Read.{length_read}
use Rattle.native_kernel.proofs.interval.setting_at.Goals as goal

pub setting_in-requires : goal.setting_in-requires
setting_in-requires c = length_read c.args.mem.now c.in-Some.bytes.now c.args.address 32 c.in-Some.ensures.bytes

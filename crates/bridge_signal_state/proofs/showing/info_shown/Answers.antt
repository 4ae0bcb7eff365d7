use Rattle.bridge_log.proofs.Kernel.{length_read}
use Rattle.bridge_signal_state.proofs.showing.info_shown.Goals as goal

pub info_in-requires : goal.info_in-requires
info_in-requires c = length_read c.args.mem.now c.in-Some.bytes.now 65552 128 c.in-Some.ensures.bytes

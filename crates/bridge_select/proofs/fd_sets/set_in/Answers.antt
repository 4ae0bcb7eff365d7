use Rattle.native_polls.proofs.Read.{length_read}
use Rattle.bridge_select.proofs.fd_sets.set_in.Goals as goal

pub read_u32_into-requires : goal.read_u32_into-requires
read_u32_into-requires c = length_read c.args.mem.now c.in-Some.bytes.now c.args.place 128 c.in-Some.ensures.bytes

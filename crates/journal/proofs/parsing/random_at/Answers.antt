use Rattle.std.proofs.Common.{arith}
use Rattle.journal.proofs.Lengths.{bytes_len}
use Rattle.journal.proofs.parsing.random_at.Goals as goal

pub copy_from_slice-requires : goal.copy_from_slice-requires
copy_from_slice-requires c =
    let len = bytes_len 16 c.args.file c.args.rest.now c.in_ok-bytes.bytes.now c.in_ok-bytes.rest.now c.in_ok-bytes.ensures in
    omega (arith, len)

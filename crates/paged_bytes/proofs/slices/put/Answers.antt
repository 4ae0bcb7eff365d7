use Rattle.std.proofs.Common.{arith}
use Rattle.paged_bytes.proofs.Puts.{put_mid-put_at}
use Rattle.paged_bytes.proofs.slices.put.Goals as goal

pub returns : goal.returns
returns c = put_mid-put_at _ _ _ _ _ c.requires c.copy_from_slice.ensures.after (omega arith)

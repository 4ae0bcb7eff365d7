use Rattle.std.proofs.Common.{arith}
use Rattle.raw_pages.proofs.Puts.{put_mid-put_at}
use Rattle.raw_pages.proofs.piece.put_part.Goals as goal

pub returns : goal.returns
returns c = put_mid-put_at _ _ _ _ _ c.requires.room c.copy_from_slice.ensures.after (omega (arith, c.requires.size))

use Rattle.std.proofs.Common.{refl, ◌∙◌}
use Rattle.guest_space.proofs.Writes.{shown-bytes_at}
use Rattle.guest_space.proofs.walk.read_piece.Goals as goal

pub returns : goal.returns
returns c = c.read.ensures.value ∙ shown-bytes_at _ _ _ _ refl c.requires c.read.ensures.whole

use Rattle.o32_model.proofs.MapLaws.{moved_is}
use Rattle.o32_model.proofs.laws.a_range_moves_whole.Goals as goal

pub returns : goal.returns
returns c = moved_is

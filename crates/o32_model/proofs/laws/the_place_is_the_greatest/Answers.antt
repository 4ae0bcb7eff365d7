use Rattle.o32_model.proofs.MapLaws.{greatest_place_is}
use Rattle.o32_model.proofs.laws.the_place_is_the_greatest.Goals as goal

pub returns : goal.returns
returns c = greatest_place_is

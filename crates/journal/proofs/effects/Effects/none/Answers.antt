use Rattle.std.proofs.Common.{refl}
use Rattle.journal.specs.Reading.{many}
use Rattle.journal.proofs.effects.Effects.none.Goals as goal

pub invariant_of-result : goal.invariant_of-result
unfolding many
invariant_of-result c = refl

pub returns : goal.returns
unfolding many
returns c = refl

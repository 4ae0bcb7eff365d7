use Rattle.guest_space.specs.Access.{readable_prefix}
use Rattle.guest_space.proofs.space.Space.readable.Goals as goal

pub returns-clause-value : goal.returns-clause-value
unfolding readable_prefix
returns-clause-value c = c.prefix.ensures.value

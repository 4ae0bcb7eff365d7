use Rattle.guest_space.specs.Access.{writable_prefix}
use Rattle.guest_space.proofs.space.Space.writable.Goals as goal

pub returns-clause-value : goal.returns-clause-value
unfolding writable_prefix
returns-clause-value c = c.prefix.ensures.value

use Rattle.replay_core.proofs.ReadAhead.{entry_formed, rest_formed}
use Rattle.replay_core.proofs.coming.Coming.take.Goals as goal

pub invariant_of-self : goal.invariant_of-self
invariant_of-self c =
    rest_formed c.in-Some.entry c.self.inside.next c.self.inside.left c.in-Some.ensures.value c.self.invariant c.next-self-inside.result c.next-self-inside.new.self c.next-self-inside.ensures

pub returns-in-Some-clause-formed : goal.returns-in-Some-clause-formed
returns-in-Some-clause-formed c = entry_formed c.in-Some.entry c.self.inside.next c.self.inside.left c.in-Some.ensures.value c.self.invariant

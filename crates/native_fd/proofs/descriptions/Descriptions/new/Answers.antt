use Rattle.native_fd.proofs.DescriptionLemmas.{AreKept-none, seen-none}
use Rattle.native_fd.proofs.descriptions.Descriptions.new.Goals as goal

pub invariant_of-result : goal.invariant_of-result
invariant_of-result g c = AreKept-none c.new.result.items c.new-2.result c.new.ensures.items c.new-2.ensures.empty

pub returns : goal.returns
returns g c = seen-none c.new.result.items c.new-2.result c.new.ensures.items

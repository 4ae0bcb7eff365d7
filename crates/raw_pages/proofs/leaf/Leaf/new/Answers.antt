use Rattle.raw_pages.proofs.Counts.{leaf-none}
use Rattle.raw_pages.proofs.leaf.Leaf.new.Goals as goal

pub invariant_of-result : goal.invariant_of-result
invariant_of-result c = leaf-none _ c.in_ok-entries.ensures

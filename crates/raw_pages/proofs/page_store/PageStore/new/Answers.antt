use Rattle.std.proofs.Common.{ap, ◌∙◌}
use Rattle.raw_pages.specs.inside.Tables.{map_of}
use Rattle.raw_pages.proofs.Tables.{store-none, map_of-none}
use Rattle.raw_pages.proofs.page_store.PageStore.new.Goals as goal

pub invariant_of-result : goal.invariant_of-result
invariant_of-result c = store-none _ c.in_ok-leaves.ensures

pub returns : goal.returns
returns c = ap map_of c.in_ok-leaves.ensures ∙ map_of-none 1024

-- The table of the structure and the native one.
use Rattle.std.proofs.Common.{◌∙◌}
use Rattle.std.specs.Prelude.{replicate}
use Rattle.bridge_status.specs.inside.Statuses.{shown, with_low_bytes}
use Rattle.bridge_status.proofs.structures.wide_bytes.Goals as goal

pub returns : goal.returns
unfolding shown
returns c = c.show.ensures ∙ (λ i. with_low_bytes (c.o32_layout.ensures.table i).fields (c.native_layout.ensures.table i).fields c.args.status.now (replicate (c.o32_layout.ensures.table i).size 0))

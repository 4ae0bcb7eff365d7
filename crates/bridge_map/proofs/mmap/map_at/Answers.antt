use Rattle.std.proofs.Common.{◌∙◌, sym, subst}
use Rattle.bridge_map.proofs.Ranges.{mapped_zeros}
use Rattle.bridge_map.specs.Rows.{MapsPages}
use Rattle.bridge_map.proofs.mmap.map_at.Goals as goal

pub returns-then-branch-clause-stored : goal.returns-then-branch-clause-stored
returns-then-branch-clause-stored c =
    c.in_ok-map.ensures.others
    ∙ sym (mapped_zeros c.args.space.now c.map.new.space.pages c.args.first c.args.count c.args.protection
    (subst (λ b. MapsPages b c.args.space.now.pages c.map.new.space.pages c.args.first c.args.count c.args.protection) c.if-branch.true c.in_ok-map.ensures.answer))

use Rattle.std.proofs.Common.{◌∙◌, ap}
use Rattle.guest_space.specs.Memory.{Memory}
use Rattle.guest_space.specs.Mapping.{with_protection}
use Rattle.start_stack.proofs.Protections.{with_protection-run}
use Rattle.start_stack.proofs.pages.protect_page.Goals as goal

pub returns : goal.returns
returns c =
    let old = c.args.space.now in
    c.protect.ensures.changed
    ∙ (ap (λ n. let m : Memory = record old { pages = with_protection old.pages c.args.page n c.args.protection } in m) c.protect.ensures.count
    ∙ ap (λ p. let m : Memory = record old { pages = p } in m) (with_protection-run old.pages c.args.page c.args.protection))

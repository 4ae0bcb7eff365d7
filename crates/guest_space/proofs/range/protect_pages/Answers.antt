use Rattle.std.proofs.Common.{◌+◌, ap, sym, ◌∙◌}
use Rattle.std.specs.FinMap.{get}
use Rattle.guest_space.specs.Mapping.{pages_with_protection}
use Rattle.guest_space.proofs.MappingLemmas.{with_protection-none, with_protection-more}
use Rattle.guest_space.proofs.range.protect_pages.Goals as goal

pub loop-done-init : goal.loop-done-init
loop-done-init c = sym (with_protection-none _ _ _)

pub loop-done-preserved : goal.loop-done-preserved
loop-done-preserved c =
    let number = c.args.first + c.loop-done.done in
    c.protect.ensures
    ∙ ap (λ m. pages_with_protection m number (get m number) c.args.protection) c.loop-done.invariant
    ∙ sym (with_protection-more _ _ _ _)

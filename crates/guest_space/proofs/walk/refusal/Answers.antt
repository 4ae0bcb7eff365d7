use Rattle.std.proofs.Common.{◌≡◌, ◌/◌, Some, ◌∙◌}
use Rattle.std.specs.FinMap.{get}
use Rattle.guest_space.proofs.Prefixes.{refusal_found, inside-none}
use Rattle.guest_space.proofs.walk.refusal.Goals as goal

pub returns-clause-value : goal.returns-clause-value
returns-clause-value c =
    c.err.ensures.value
    ∙ refusal_found (λ page. get c.args.pages.now (c.args.address / 4096) ≡ Some page.now) _ _ c.usable_page.ensures.allowed c.usable_page.ensures.refused

pub returns-clause-inside : goal.returns-clause-inside
returns-clause-inside c = inside-none _ _ _ _ (returns-clause-value c)

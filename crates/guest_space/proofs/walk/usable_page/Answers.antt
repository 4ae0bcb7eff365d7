use Rattle.std.proofs.Common.{ap, sym, ◌∙◌, arith, cond, Some, None}
use Rattle.guest_space.specs.declared.access.Why.TheVariants.{Forbidden}
use Rattle.guest_space.specs.Access.{allows, page_refusal}
use Rattle.guest_space.proofs.Prefixes.{refusal-beyond, refusal-page}
use Rattle.guest_space.proofs.walk.usable_page.Goals as goal

pub returns-then-address-ge-USER_END-clause-refused : goal.returns-then-address-ge-USER_END-clause-refused
returns-then-address-ge-USER_END-clause-refused c = refusal-beyond _ _ _ (omega arith)

pub returns-in-None-clause-refused : goal.returns-in-None-clause-refused
returns-in-None-clause-refused c =
    refusal-page _ _ _ (omega arith) ∙ ap (page_refusal c.args.access) (sym c.in-None.ensures)

pub returns-then-allows-clause-allowed : goal.returns-then-allows-clause-allowed
returns-then-allows-clause-allowed c =
    let allowed = ap (allows c.args.access) (sym c.protection.ensures) ∙ sym c.if-allows.ensures in (
      refusal-page _ _ _ (omega arith)
          ∙ ap (page_refusal c.args.access) (sym c.in-Some.ensures)
          ∙ ap (λ b. cond b None (Some Forbidden)) allowed,
      sym c.in-Some.ensures,
    )

pub returns-else-allows-clause-refused : goal.returns-else-allows-clause-refused
returns-else-allows-clause-refused c =
    let forbidden = ap (allows c.args.access) (sym c.protection.ensures) ∙ sym c.if-allows.ensures in
    refusal-page _ _ _ (omega arith)
    ∙ ap (page_refusal c.args.access) (sym c.in-Some.ensures)
    ∙ ap (λ b. cond b None (Some Forbidden)) forbidden

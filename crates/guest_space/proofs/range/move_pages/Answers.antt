use Rattle.std.proofs.Common.{◌+◌, subst, sym, arith, inl, inr}
use Rattle.guest_space.specs.Remapping.{AreMoved}
use Rattle.guest_space.proofs.Ranges.{moved-more, moved-none, at_to}
use Rattle.guest_space.proofs.Validity.{valid-moved}
use Rattle.guest_space.proofs.range.move_pages.Goals as goal

pub loop-done-init : goal.loop-done-init
loop-done-init c = moved-none c.args.pages.now c.args.first c.args.to

pub move_page-requires-clause-free : goal.move_page-requires-clause-free
move_page-requires-clause-free c =
    at_to c.args.pages.now c.loop-done.pages c.args.first c.args.to c.loop-done.done c.loop-done.invariant (c.requires.free c.loop-done.done (omega arith))
    (elim c.requires.apart [ inl low ↦ inl (omega arith) | inr high ↦ inr (omega arith) ])

pub loop-done-preserved : goal.loop-done-preserved
loop-done-preserved c =
    subst (λ m. AreMoved c.args.pages.now m c.args.first c.args.to (c.loop-done.done + 1)) (sym c.in_ok-move_page.ensures.ok)
    (moved-more c.args.pages.now c.loop-done.pages c.args.first c.args.to c.loop-done.done c.loop-done.invariant (c.requires.free c.loop-done.done (omega arith))
    (elim c.requires.apart [ inl low ↦ inl (omega arith) | inr high ↦ inr (omega arith) ]))

pub returns-in_err-move_page-clause-valid : goal.returns-in_err-move_page-clause-valid
returns-in_err-move_page-clause-valid c =
    λ valid. valid-moved c.args.pages.now c.move_page.new.self c.args.first c.args.to c.loop-done.done valid
    (subst (λ m. AreMoved c.args.pages.now m c.args.first c.args.to c.loop-done.done) (sym c.in_err-move_page.ensures.err) c.loop-done.invariant) (omega arith)

pub returns-clause-valid : goal.returns-clause-valid
returns-clause-valid c =
    λ valid. valid-moved c.args.pages.now c.loop-done.pages c.args.first c.args.to c.loop-done.done valid c.loop-done.invariant (omega arith)

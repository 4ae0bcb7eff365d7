use Rattle.std.proofs.Common.{◌≡◌, ap, subst, sym, ◌∙◌, arith, cond, None}
use Rattle.std.specs.FinMap.{get}
use Rattle.guest_space.specs.Memory.{IsValid}
use Rattle.guest_space.specs.Remapping.{without}
use Rattle.guest_space.proofs.Ranges.{unmapped-more, is-without, is_in-none}
use Rattle.guest_space.proofs.Validity.{valid-without}
use Rattle.guest_space.proofs.range.unmap_pages.Goals as goal

pub loop-done-init : goal.loop-done-init
loop-done-init c = λ number. ap (λ b. cond b None (get c.args.pages.now number)) (sym (is_in-none c.args.first number))

pub loop-done-preserved : goal.loop-done-preserved
loop-done-preserved c =
    λ number. ap (λ m. get m number) c.unmap.ensures ∙ unmapped-more c.args.pages.now c.loop-done.pages c.args.first c.loop-done.done c.loop-done.invariant number

pub returns-clause-changed : goal.returns-clause-changed
returns-clause-changed c =
    let all : c.loop-done.done ≡ c.args.count = omega arith in
    is-without c.args.pages.now c.loop-done.pages c.args.first c.loop-done.done c.loop-done.invariant ∙ ap (without c.args.pages.now c.args.first) all

pub returns-clause-valid : goal.returns-clause-valid
returns-clause-valid c =
    λ valid. subst IsValid (sym (is-without c.args.pages.now c.loop-done.pages c.args.first c.loop-done.done c.loop-done.invariant))
    (valid-without c.args.pages.now c.args.first c.loop-done.done valid)

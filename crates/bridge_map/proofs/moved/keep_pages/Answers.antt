use Rattle.std.proofs.Common.{◌≡◌, ◌+◌, refl, sym, ap, subst, ◌∙◌, arith, inl, inr}
use Rattle.std.proofs.lemmas.Bool.{cases_lt}
use Rattle.std.specs.FinMap.{get}
use Rattle.bridge_map.proofs.Journal.{with_more-none, with_more-twice}
use Rattle.bridge_map.proofs.Moving.{pages_effects-none, pages_effects-more}
use Rattle.bridge_map.specs.Rows.{IsWrittenOrZeros, page_effects}
use Rattle.o32_model.specs.Logs.{with_more}
use Rattle.bridge_map.proofs.moved.keep_pages.Goals as goal

pub loop-done-init : goal.loop-done-init
loop-done-init c = (
  with_more-none c.args.log.now.effects ∙ ap (with_more c.args.log.now.effects) (sym (pages_effects-none c.args.space.now.pages c.args.first)),
  refl,
  λ k below. absurd (omega arith),
)

pub loop-done-preserved : goal.loop-done-preserved
loop-done-preserved c =
    let effects = page_effects (c.args.first + c.loop-done.done) (get c.args.space.now.pages (c.args.first + c.loop-done.done)) in (
      c.in_ok-keep_page.ensures.effects
          ∙ ap (λ kept. with_more kept effects) c.loop-done.invariant.0
          ∙ with_more-twice c.args.log.now.effects _ effects
          ∙ ap (with_more c.args.log.now.effects) (sym (pages_effects-more c.args.space.now.pages c.args.first c.loop-done.done)),
      c.in_ok-keep_page.ensures.native ∙ c.loop-done.invariant.1,
      λ k below.
          elim (cases_lt k c.loop-done.done) [
            | inl before ↦ c.loop-done.invariant.2 k before
            | inr here ↦
                let same : c.loop-done.done ≡ k = omega arith in
                subst (λ n. IsWrittenOrZeros (get c.args.space.now.pages (c.args.first + n))) same c.in_ok-keep_page.ensures.zeros
          ],
    )

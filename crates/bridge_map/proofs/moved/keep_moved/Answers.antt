use Rattle.std.proofs.Common.{[], ◌∷◌, sym, ap, ◌∙◌}
use Rattle.bridge_map.proofs.Journal.{with_more-none, with_more-twice}
use Rattle.bridge_map.proofs.Moving.{stays_put, moves_away}
use Rattle.bridge_map.specs.Rows.{pages_effects}
use Rattle.kernel_core.specs.declared.record.Effect.TheVariants.{Unmap}
use Rattle.o32_model.specs.Logs.{with_more}
use Rattle.bridge_map.proofs.moved.keep_moved.Goals as goal

pub returns-then-at-first-clause-effects : goal.returns-then-at-first-clause-effects
returns-then-at-first-clause-effects c =
    with_more-none c.args.log.now.effects ∙ ap (with_more c.args.log.now.effects) (sym (stays_put c.args.space.now.pages c.args.first c.args.old c.args.at c.if-at-first.true))

pub returns-clause-effects : goal.returns-clause-effects
returns-clause-effects c =
    c.in_ok-keep_pages.ensures.effects
    ∙ ap (λ kept. with_more kept (pages_effects c.args.space.now.pages c.args.at c.args.old)) c.in_ok-keep.ensures.effects
    ∙ with_more-twice c.args.log.now.effects (Unmap c.args.first c.args.old ∷ []) (pages_effects c.args.space.now.pages c.args.at c.args.old)
    ∙ ap (with_more c.args.log.now.effects) (sym (moves_away c.args.space.now.pages c.args.first c.args.old c.args.at c.if-at-first.false))

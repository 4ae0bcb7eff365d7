use Rattle.std.proofs.Common.{◌+◌, ◌-◌, List, [], ◌∷◌, sym, ap, ◌∙◌, arith}
use Rattle.bridge_map.proofs.Journal.{with_more-none, with_more-twice}
use Rattle.bridge_map.proofs.Moving.{cut_effects, same_effects, growth_effects}
use Rattle.bridge_map.specs.Rows.{move_effects}
use Rattle.kernel_core.specs.declared.record.Effect.{Effect}
use Rattle.kernel_core.specs.declared.record.Effect.TheVariants.{Map}
use Rattle.o32_model.specs.Logs.{with_more}
use Rattle.bridge_map.proofs.moved.keep_resized.Goals as goal

pub returns-then-new-old-clause-effects : goal.returns-then-new-old-clause-effects
returns-then-new-old-clause-effects c =
    c.in_ok-keep.ensures.effects
    ∙ ap (with_more c.args.log.now.effects) (sym (cut_effects c.args.space.now.pages c.args.range.first c.args.range.old c.args.range.new c.args.range.at c.args.range.protection c.if-new-old.true))

pub returns-then-new-old-2-clause-effects : goal.returns-then-new-old-2-clause-effects
returns-then-new-old-2-clause-effects c =
    with_more-none c.args.log.now.effects
    ∙ ap (with_more c.args.log.now.effects) (sym (same_effects c.args.space.now.pages c.args.range.first c.args.range.old c.args.range.new c.args.range.at c.args.range.protection c.if-new-old-2.true))

pub returns-clause-effects : goal.returns-clause-effects
returns-clause-effects c =
    let growth : List Effect = Map (c.args.range.at + c.args.range.old) (c.args.range.new - c.args.range.old) c.args.range.protection ∷ [] in
    c.in_ok-keep-2.ensures.effects
    ∙ ap (λ kept. with_more kept growth) c.in_ok-keep_moved.ensures.effects
    ∙ with_more-twice c.args.log.now.effects (move_effects c.args.space.now.pages c.args.range.first c.args.range.old c.args.range.at) growth
    ∙ ap (with_more c.args.log.now.effects) (sym (growth_effects c.args.space.now.pages c.args.range.first c.args.range.old c.args.range.new c.args.range.at c.args.range.protection (omega arith)))

use Rattle.std.proofs.Common.{ap, subst, sym, ◌∙◌}
use Rattle.guest_space.specs.Break.{pages_up_to}
use Rattle.guest_space.specs.Memory.{Memory}
use Rattle.o32_model.specs.Logs.{with_more}
use Rattle.bridge_map.proofs.Breaks.{break_leads}
use Rattle.bridge_map.specs.Rows.{Leads, break_effects}
use Rattle.bridge_map.proofs.program_break.move_break.Goals as goal

pub returns-clause-effects : goal.returns-clause-effects
returns-clause-effects c =
    let stored = c.in_ok-now.ensures.ok in
    let from = c.page_count-from.ensures.value ∙ ap pages_up_to c.program_break.ensures in
    let to = c.page_count.ensures.value ∙ ap pages_up_to c.in_ok-now.ensures.answer in
    subst (λ (m : Memory). Leads c.args.log.now.effects c.keep_break.new.log.effects c.args.space.now.pages m.pages) (sym stored)
    (break_leads c.args.log.now.effects c.keep_break.new.log.effects c.args.space.now c.args.wish c.whole.ensures
    (c.in_ok-keep_break.ensures.effects ∙ (λ i. with_more c.args.log.now.effects (break_effects (from i) (to i)))))

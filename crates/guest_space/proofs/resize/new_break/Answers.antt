use Rattle.std.proofs.Common.{true, false, cond, sym, ap, ◌∙◌}
use Rattle.guest_space.specs.Break.{pages_between}
use Rattle.guest_space.proofs.Breaks.{break-below, break-above, break-moved}
use Rattle.guest_space.proofs.resize.new_break.Goals as goal

pub returns-then-to-start-clause-ok : goal.returns-then-to-start-clause-ok
returns-then-to-start-clause-ok c = break-below c.args.pages.now c.args.from c.args.start c.args.to c.if-to-start.true

pub returns-then-to-gt-BREAK_END-clause-ok : goal.returns-then-to-gt-BREAK_END-clause-ok
returns-then-to-gt-BREAK_END-clause-ok c = break-above c.args.pages.now c.args.from c.args.start c.args.to c.if-to-gt-BREAK_END.true

pub returns-then-moved-clause-ok : goal.returns-then-moved-clause-ok
returns-then-moved-clause-ok c =
    break-moved c.args.pages.now c.args.from c.args.start c.args.to c.move_break.new.pages true c.if-to-start.false c.if-to-gt-BREAK_END.false
    (sym c.if-moved.true ∙ c.in_ok-moved.ensures.answer)
    (c.in_ok-moved.ensures.ok ∙ ap (λ b. cond b (pages_between c.args.pages.now c.args.from c.args.to) c.args.pages.now) c.if-moved.true)

pub returns-else-moved-clause-ok : goal.returns-else-moved-clause-ok
returns-else-moved-clause-ok c =
    break-moved c.args.pages.now c.args.from c.args.start c.args.to c.move_break.new.pages false c.if-to-start.false c.if-to-gt-BREAK_END.false
    (sym c.if-moved.false ∙ c.in_ok-moved.ensures.answer)
    (c.in_ok-moved.ensures.ok ∙ ap (λ b. cond b (pages_between c.args.pages.now c.args.from c.args.to) c.args.pages.now) c.if-moved.false)

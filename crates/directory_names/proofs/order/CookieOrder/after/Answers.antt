use Rattle.std.proofs.Common.{ap, sym, ◌∙◌}
use Rattle.directory_names.specs.inside.Order.{Order, index_after}
use Rattle.directory_names.proofs.OrderLemmas.{index_after-first, index_after-behind}
use Rattle.directory_names.proofs.order.CookieOrder.after.Goals as goal

pub returns-in-Some : goal.returns-in-Some
returns-in-Some c =
    sym (index_after-first c.args.cookie c.self.inside.older.entries _ _ _ (sym (c.range-above.ensures.between tt) ∙ c.in-Some.ensures.steps))
    ∙ ap (λ (o : Order). index_after o.seats c.args.cookie) c.self.view_is

pub returns-in-None : goal.returns-in-None
returns-in-None c =
    c.index_above.ensures
    ∙ sym (index_after-behind c.args.cookie c.self.inside.older.entries _ (sym (c.range-above.ensures.between tt) ∙ c.in-None.ensures.steps.0))
    ∙ ap (λ (o : Order). index_after o.seats c.args.cookie) c.self.view_is

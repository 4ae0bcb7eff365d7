use Rattle.std.proofs.Common.{◌≡◌, ◌++◌, ap, sym, subst, ◌∙◌, nat_cmp, not, ◌==◌}
use Rattle.std.specs.List.Sorted.{IsStrictlySortedBy}
use Rattle.std.specs.Map.{keys_of}
use Rattle.std.specs.Option.{option_to_list}
use Rattle.std.proofs.lemmas.List.Elements.{filter-append}
use Rattle.directory_names.specs.inside.Order.{Order, without_seat}
use Rattle.directory_names.proofs.Lists.{rising-filter}
use Rattle.directory_names.proofs.OrderLemmas.{remove_entry-without, rising-first}
use Rattle.directory_names.proofs.order.CookieOrder.remove.Goals as goal

-- what is left of the seats
left : (c : goal.After-self-1) → c.remove.new.self.entries ++ option_to_list c.kept-self-inside.result ≡ without_seat (c.self.inside.older.entries ++ option_to_list c.self.inside.newest) c.args.cookie
left c =
    let older = c.self.inside.older.entries in
    (λ i. (c.remove.ensures.entries ∙ remove_entry-without c.args.cookie older (rising-first older _ c.self.invariant)) i ++ c.kept-self-inside.ensures i)
    ∙ sym (filter-append (λ seat. not (c.args.cookie == seat.0)) older (option_to_list c.self.inside.newest))

pub invariant_of-self : goal.invariant_of-self
invariant_of-self c =
    subst (λ seats. IsStrictlySortedBy nat_cmp (keys_of seats)) (sym (left c))
    (rising-filter (λ seat. seat.0) (λ seat. not (c.args.cookie == seat.0)) nat_cmp (c.self.inside.older.entries ++ option_to_list c.self.inside.newest) c.self.invariant)

pub returns-clause-seats : goal.returns-clause-seats
returns-clause-seats c = left c ∙ ap (λ (o : Order). without_seat o.seats c.args.cookie) c.self.view_is

use Rattle.std.proofs.Common.{◌≡◌, ◌++◌, [], ◌∷◌, ap, sym, subst, ◌∙◌, nat_cmp, true}
use Rattle.std.specs.List.Sorted.{IsStrictlySortedBy}
use Rattle.std.specs.Map.{keys_of}
use Rattle.std.specs.Option.{option_to_list}
use Rattle.std.proofs.lemmas.List.{append-nil}
use Rattle.directory_names.specs.inside.Order.{Order}
use Rattle.directory_names.proofs.OrderLemmas.{insert_entry-last}
use Rattle.directory_names.proofs.order.CookieOrder.reserve.Goals as goal

pub returns-in_ok-insert-clause-ok : goal.returns-in_ok-insert-clause-ok
returns-in_ok-insert-clause-ok c =
    let older = c.self.inside.older.entries in
    let rising = subst (λ newest. IsStrictlySortedBy nat_cmp (keys_of (older ++ option_to_list newest))) c.in-Some.is c.self.invariant in
    let seats : c.insert.new.self.entries ++ [] ≡ c.args.self.now.seats =
    append-nil c.insert.new.self.entries
    ∙ c.in_ok-insert.ensures.entries
    ∙ insert_entry-last older c.in-Some.cookie c.in-Some.index rising
    ∙ ap (λ newest. older ++ option_to_list newest) (sym c.in-Some.is)
    ∙ ap (λ (o : Order). o.seats) c.self.view_is in
    ap (λ s. record { has_room = true; seats = s }) seats

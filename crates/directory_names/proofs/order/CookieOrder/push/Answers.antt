use Rattle.std.proofs.Common.{◌≡◌, ◌<◌, ◌++◌, [], ap, sym, subst, ◌∙◌, All, nat_cmp}
use Rattle.std.specs.List.Sorted.{IsStrictlySortedBy}
use Rattle.std.specs.Map.{keys_of}
use Rattle.std.proofs.lemmas.List.{append-nil}
use Rattle.directory_names.specs.inside.Order.{Order}
use Rattle.directory_names.proofs.OrderLemmas.{seats-push, rising-first, seats-none}
use Rattle.directory_names.proofs.order.CookieOrder.push.Goals as goal

pub invariant_of-self : goal.invariant_of-self
invariant_of-self c =
    let older = c.self.inside.older.entries in
    let alone : c.args.self.now.seats ≡ older = sym (ap (λ (o : Order). o.seats) c.self.view_is) ∙ seats-none older c.self.inside.newest (ap (λ (o : Order). o.has_room) c.self.view_is ∙ c.requires.room) in
    seats-push older c.args.cookie c.args.index (rising-first older _ c.self.invariant) (subst (All (λ seat. seat.0 < c.args.cookie)) alone c.requires.greatest)

use Rattle.std.proofs.Common.{◌≡◌, ◌++◌, ap, sym, subst, ◌∙◌, nat_cmp, refl, Option, ℕ, None}
use Rattle.std.specs.Option.{is_none, option_map, option_copied_mut, option_to_list}
use Rattle.std.specs.Map.{lookup}
use Rattle.std.specs.Ordering.{is_eq}
use Rattle.std.proofs.lemmas.List.{map-append}
use Rattle.directory_names.specs.inside.Order.{Order, seat_at, with_index}
use Rattle.directory_names.proofs.OrderLemmas.{set_value-index, index-absent, rising-first, order-moved}
use Rattle.directory_names.proofs.order.CookieOrder.set_index.Goals as goal
use Rattle.directory_names.proofs.order.CookieOrder.set_index.Goals.{in-Some, in_default}

pub returns : goal.returns
returns c =
    let older = c.self.inside.older.entries in
    let cookie = c.args.cookie in
    let index = c.args.index in
    let set : c.match-get_mut.self-inside.older.entries ≡ with_index older cookie index =
    elim c.match-get_mut.branch [
      | in-Some w ↦
          ap (λ (s : _). s.older.entries) w.self-inside-is
          ∙ (c.get_mut.follows.holds _).0
          ∙ set_value-index cookie index older (rising-first older _ c.self.invariant)
      | in_default w ↦
          ap (λ (s : _). s.older.entries) w.self-inside-is
          ∙ ap (λ m. m.entries) c.get_mut.follows.holds-at-none
          ∙ index-absent cookie index older (sym c.get_mut.ensures.value ∙ ap option_copied_mut w.in_default.is)
    ] in
    let newest : c.match-get_mut.self-inside.newest ≡ c.self.inside.newest =
    elim c.match-get_mut.branch [
      | in-Some w ↦ ap (λ (s : _). s.newest) w.self-inside-is
      | in_default w ↦ ap (λ (s : _). s.newest) w.self-inside-is
    ] in
    let moved = c.moved-self-inside.ensures ∙ ap (option_map (seat_at cookie index)) newest in
    (λ i. record { has_room = is_none (moved i); seats = set i ++ option_to_list (moved i) })
    ∙ order-moved cookie index older c.self.inside.newest
    ∙ ap (λ (o : Order). record o { seats = with_index o.seats cookie index }) c.self.view_is

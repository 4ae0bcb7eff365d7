use Rattle.std.proofs.Common.{◌≡◌, Global, None, Some, slice_get, swap_remove, ap, sym, subst, ◌∙◌, refl}
use Rattle.std.specs.Option.{IfSome, option_map}
use Rattle.std.specs.Map.Iter.{deref_pair}
use Rattle.std.specs.Str.{bytes_eq}
use Rattle.indexmap.specs.IndexMap.{spare}
use Rattle.directory_names.specs.inside.Index.{listed, room, Agree}
use Rattle.directory_names.specs.inside.Order.{Order, with_index}
use Rattle.directory_names.specs.Names.{Names, AreNames, find_name, without}
use Rattle.directory_names.proofs.Validity.{AreNames-without, AreNames-room, same_names}
use Rattle.directory_names.proofs.IndexLemmas.{Entry, find_name-lookup, filter-absent, passes-lookup_key, removed-moved, removed-last}
use Rattle.directory_names.proofs.directory.Directory.remove.Goals as goal
use Rattle.directory_names.proofs.directory.Directory.remove.Goals.{After-set_index, In_default-get_index}

pub returns-in_default-clause-removed : goal.returns-in_default-clause-removed
returns-in_default-clause-removed c =
    let names = c.args.self.now in
    let are = subst AreNames c.self.view_is c.self.invariant.0 in
    let none : find_name names.entries c.args.name.now ≡ None =
    sym (find_name-lookup names c.self.inside.names.entries c.self.inside.order.seats (ap (λ (n : Names). n.entries) c.self.view_is) are c.self.invariant.1 c.args.name.now)
    ∙ ap (option_map (λ p. p.node)) (sym c.get_full.ensures.value ∙ ap (option_map (λ p. p.2.now)) c.in_default.is) in
    same_names refl refl (filter-absent names.entries c.args.name.now none)

-- Where the last entry was moved

moved : (c : After-set_index) → (listed c.swap_remove_index.new.self.entries c.set_index.new.self.seats ≡ (without c.args.self.now c.args.name.now).entries)
    × Agree c.swap_remove_index.new.self.entries c.set_index.new.self.seats
moved c =
    let es = c.self.inside.names.entries in
    let x : Entry Global = (c.in-Some.field-0-1.now, c.in-Some.place.now) in
    let m : Entry Global = (c.in-Some-get_index.field-0-0.now, c.in-Some-get_index.moved.now) in
    let named = passes-lookup_key (λ k. bytes_eq c.args.name.now k.items) es c.in-Some.field-0-1.now (sym c.in-Some.ensures.key) in
    let held = subst (λ o. IfSome o (λ p. c.swap_remove_index.new.self.entries ≡ swap_remove es c.in-Some.index p)) (c.swap_remove_index.ensures.entry ∙ c.in-Some.ensures.entry) c.swap_remove_index.ensures.entries in
    let seats = ap (λ (o : Order). o.seats) c.set_index.ensures ∙ ap (λ s. with_index s c.in-Some-get_index.moved.now.cookie c.in-Some.index) c.remove.ensures.seats in
    removed-moved c.args.self.now es c.self.inside.order.seats (ap (λ (n : Names). n.entries) c.self.view_is) c.self.invariant.1 c.in-Some.index x c.in-Some.ensures.entry
    c.args.name.now named c.swap_remove_index.new.self.entries held c.swap_remove_index.ensures.unique c.set_index.new.self.seats m (sym c.in-Some-get_index.ensures.entry) seats

moved_names : (c : After-set_index) → AreNames (record { greatest = c.self.inside.greatest; spare = room c.set_index.new.self.has_room (spare c.swap_remove_index.new.self); entries = listed c.swap_remove_index.new.self.entries c.set_index.new.self.seats })
moved_names c =
    let names = without c.args.self.now c.args.name.now in
    let are = AreNames-without c.args.self.now c.args.name.now (subst AreNames c.self.view_is c.self.invariant.0) in
    subst AreNames (same_names (sym (ap (λ (n : Names). n.greatest) c.self.view_is)) refl (sym (moved c).0))
    (AreNames-room names (room c.set_index.new.self.has_room (spare c.swap_remove_index.new.self)) are)

pub invariant_of-self : goal.invariant_of-self
invariant_of-self c = (moved_names c, (moved c).1)

pub returns-in-Some-get_index-clause-removed : goal.returns-in-Some-get_index-clause-removed
returns-in-Some-get_index-clause-removed c = same_names (ap (λ (n : Names). n.greatest) c.self.view_is) refl (moved c).0

pub returns-in-Some-get_index-clause-valid : goal.returns-in-Some-get_index-clause-valid
returns-in-Some-get_index-clause-valid c = moved_names c

-- Where the removed entry was the last

last : (c : In_default-get_index) → (listed c.swap_remove_index.new.self.entries c.remove.new.self.seats ≡ (without c.args.self.now c.args.name.now).entries)
    × Agree c.swap_remove_index.new.self.entries c.remove.new.self.seats
last c =
    let es = c.self.inside.names.entries in
    let x : Entry Global = (c.in-Some.field-0-1.now, c.in-Some.place.now) in
    let named = passes-lookup_key (λ k. bytes_eq c.args.name.now k.items) es c.in-Some.field-0-1.now (sym c.in-Some.ensures.key) in
    let held = subst (λ o. IfSome o (λ p. c.swap_remove_index.new.self.entries ≡ swap_remove es c.in-Some.index p)) (c.swap_remove_index.ensures.entry ∙ c.in-Some.ensures.entry) c.swap_remove_index.ensures.entries in
    let none : slice_get c.swap_remove_index.new.self.entries c.in-Some.index ≡ None = sym c.get_index.ensures.entry ∙ ap (option_map deref_pair) c.in_default-get_index.is in
    removed-last c.args.self.now es c.self.inside.order.seats (ap (λ (n : Names). n.entries) c.self.view_is) c.self.invariant.1 c.in-Some.index x c.in-Some.ensures.entry
    c.args.name.now named c.swap_remove_index.new.self.entries held c.swap_remove_index.ensures.unique c.remove.new.self.seats none c.remove.ensures.seats

last_names : (c : In_default-get_index) → AreNames (record { greatest = c.self.inside.greatest; spare = room c.remove.new.self.has_room (spare c.swap_remove_index.new.self); entries = listed c.swap_remove_index.new.self.entries c.remove.new.self.seats })
last_names c =
    let names = without c.args.self.now c.args.name.now in
    let are = AreNames-without c.args.self.now c.args.name.now (subst AreNames c.self.view_is c.self.invariant.0) in
    subst AreNames (same_names (sym (ap (λ (n : Names). n.greatest) c.self.view_is)) refl (sym (last c).0))
    (AreNames-room names (room c.remove.new.self.has_room (spare c.swap_remove_index.new.self)) are)

pub invariant_of-self-in_default-get_index : goal.invariant_of-self-in_default-get_index
invariant_of-self-in_default-get_index c = (last_names c, (last c).1)

pub returns-in_default-get_index-clause-removed : goal.returns-in_default-get_index-clause-removed
returns-in_default-get_index-clause-removed c = same_names (ap (λ (n : Names). n.greatest) c.self.view_is) refl (last c).0

pub returns-in_default-get_index-clause-valid : goal.returns-in_default-get_index-clause-valid
returns-in_default-get_index-clause-valid c = last_names c

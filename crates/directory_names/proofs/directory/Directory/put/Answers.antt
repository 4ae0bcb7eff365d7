use Rattle.std.proofs.Common.{◌≡◌, ◌≤◌, ◌<◌, ◌++◌, ◌∷◌, [], length, All, OnOk, None, ap, sym, subst, ◌∙◌, refl, arith}
use Rattle.std.specs.List.{IsDistinct}
use Rattle.std.specs.Map.{keys_of}
use Rattle.std.proofs.lemmas.List.Elements.{All-weaker}
use Rattle.std.specs.Str.{bytes_eq}
use Rattle.indexmap.specs.IndexMap.{spare, insert_entry}
use Rattle.indexmap.proofs.CallerLemmas.{insert_entry-new}
use Rattle.directory_names.specs.declared.entry.Place.{Place}
use Rattle.directory_names.specs.inside.Index.{named, listed, room, Agree}
use Rattle.directory_names.specs.inside.Order.{Order}
use Rattle.directory_names.specs.Names.{Names, AreNames, find_name, with_entry}
use Rattle.directory_names.proofs.Validity.{AreNames-with_entry, AreNames-room, same_names}
use Rattle.directory_names.proofs.IndexLemmas.{Entry, equal_names, lookup-absent, listed-push, Agree-push, seats-had}
use Rattle.directory_names.proofs.directory.Directory.put.Goals as goal

pub push-requires-clause-greatest : goal.push-requires-clause-greatest
push-requires-clause-greatest c =
    let names = c.args.self.now in
    let seats = c.self.inside.order.seats in
    let es = c.self.inside.names.entries in
    let are = subst AreNames c.self.view_is c.self.invariant.0 in
    let had = subst (All (λ e. e.cookie ≤ names.greatest)) (sym (ap (λ (n : Names). n.entries) c.self.view_is)) are.had in
    All-weaker (λ s. s.0 ≤ names.greatest) (λ s. s.0 < c.args.cookie) (λ s h. omega (arith, h, c.requires.low)) seats
    (seats-had es names.greatest seats c.self.invariant.1 had)

abbrev place : goal.After-self-1 → Place
place c = record { cookie = c.args.cookie; node = c.args.node }

-- what the map holds after the insertion
held : (c : goal.After-self-1) → c.insert.new.self.entries ≡ c.self.inside.names.entries ++ (c.into_vec.result, place c) ∷ []
held c =
    let names = c.args.self.now in
    let es = c.self.inside.names.entries in
    let are = subst AreNames c.self.view_is c.self.invariant.0 in
    let absent : find_name names.entries c.into_vec.result.items ≡ None = ap (find_name names.entries) c.into_vec.ensures ∙ c.requires.absent in
    subst (λ r. OnOk r (c.insert.new.self.entries ≡ insert_entry equal_names es c.into_vec.result (place c))) c.unwrap.ensures c.insert.ensures.entries
    ∙ insert_entry-new equal_names c.self.inside.names c.into_vec.result (place c)
    (lookup-absent names es c.self.inside.order.seats (ap (λ (n : Names). n.entries) c.self.view_is) are c.self.invariant.1 c.into_vec.result.items absent)

-- the seats after the new one
taken : (c : goal.After-self-1) → c.push.new.self.seats ≡ c.self.inside.order.seats ++ (c.args.cookie, length c.self.inside.names.entries) ∷ []
taken c =
    ap (λ (o : Order). o.seats) c.push.ensures
    ∙ ap (λ k. c.self.inside.order.seats ++ (c.args.cookie, k) ∷ []) c.len-index.ensures.len

shown : (c : goal.After-self-1) → listed c.insert.new.self.entries c.push.new.self.seats ≡ (with_entry c.args.self.now c.args.cookie c.args.name c.args.node).entries
shown c =
    let es = c.self.inside.names.entries in
    (λ i. listed (held c i) (taken c i))
    ∙ listed-push es (c.into_vec.result, place c) c.self.inside.order.seats c.args.cookie c.self.invariant.1
    ∙ (λ i. (c.self.view_is i).entries ++ record { cookie = c.args.cookie; name = c.into_vec.ensures i; number = c.args.node.number; key = c.args.node.key } ∷ [])

are_names : (c : goal.After-self-1) → AreNames (record { greatest = c.args.cookie; spare = room c.push.new.self.has_room (spare c.insert.new.self); entries = listed c.insert.new.self.entries c.push.new.self.seats })
are_names c =
    let names = with_entry c.args.self.now c.args.cookie c.args.name c.args.node in
    let are = AreNames-with_entry c.args.self.now c.args.cookie c.args.name c.args.node (subst AreNames c.self.view_is c.self.invariant.0)
    c.requires.low c.requires.high c.requires.name c.requires.absent in
    subst AreNames (same_names refl refl (sym (shown c))) (AreNames-room names (room c.push.new.self.has_room (spare c.insert.new.self)) are)

agree : (c : goal.After-self-1) → Agree c.insert.new.self.entries c.push.new.self.seats
agree c =
    let es = c.self.inside.names.entries in
    let seats = c.self.inside.order.seats in
    let distinct = subst (λ l. IsDistinct equal_names (keys_of l)) (held c) c.insert.ensures.unique in
    subst (λ l. Agree l c.push.new.self.seats) (sym (held c))
    (subst (Agree (es ++ (c.into_vec.result, place c) ∷ [])) (sym (taken c))
    (Agree-push es (c.into_vec.result, place c) seats c.self.invariant.1 (below c) distinct))
  where
    below : (c : goal.After-self-1) → All (λ s. s.0 < c.args.cookie) c.self.inside.order.seats
    below c =
        let names = c.args.self.now in
        let are = subst AreNames c.self.view_is c.self.invariant.0 in
        let had = subst (All (λ e. e.cookie ≤ names.greatest)) (sym (ap (λ (n : Names). n.entries) c.self.view_is)) are.had in
        All-weaker (λ s. s.0 ≤ names.greatest) (λ s. s.0 < c.args.cookie) (λ s h. omega (arith, h, c.requires.low)) c.self.inside.order.seats
        (seats-had c.self.inside.names.entries names.greatest c.self.inside.order.seats c.self.invariant.1 had)

pub invariant_of-self : goal.invariant_of-self
invariant_of-self c = (are_names c, agree c)

pub returns-clause-put : goal.returns-clause-put
returns-clause-put c = same_names refl refl (shown c)

pub returns-clause-valid : goal.returns-clause-valid
returns-clause-valid c = are_names c

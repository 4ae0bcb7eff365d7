use Rattle.std.proofs.Common.{map, ap, ◌∙◌, arith}
use Rattle.native_fd.specs.inside.Descriptions.{all_keys, item_at}
use Rattle.native_fd.proofs.DescriptionLemmas.{AreKept-inserted, AreKept-more, length-all, number-within, seen-inserted}
use Rattle.native_fd.proofs.descriptions.Descriptions.insert.Goals as goal

pub make_room-requires-clause-within : goal.make_room-requires-clause-within
make_room-requires-clause-within g c =
    let keys = c.self.inside.keys.items in
    omega (arith, number-within c.self.inside.items (all_keys keys) c.args.self.now c.self.view_is c.args.number c.requires.within, length-all keys c.self.invariant.few)

pub invariant_of-self-2 : goal.invariant_of-self-2
invariant_of-self-2 g c =
    let items = c.self.inside.items in
    let keys = c.make_room.new.keys.items in
    let kept = AreKept-more c.self.inside.keys.items keys items c.make_room.ensures.same c.make_room.ensures.few c.self.invariant in
    AreKept-inserted items keys kept c.args.self.now (ap (map (item_at items)) c.make_room.ensures.same ∙ c.self.view_is) c.args.number c.in_ok-make_room.ensures.room c.requires.free
    c.insert.new.self c.in_ok-key.key c.args.item c.in_ok-key.ensures.was_vacant c.in_ok-key.ensures.updates

pub returns-clause-ok : goal.returns-clause-ok
returns-clause-ok g c =
    let items = c.self.inside.items in
    let keys = c.make_room.new.keys.items in
    let kept = AreKept-more c.self.inside.keys.items keys items c.make_room.ensures.same c.make_room.ensures.few c.self.invariant in
    seen-inserted items keys kept c.args.self.now (ap (map (item_at items)) c.make_room.ensures.same ∙ c.self.view_is) c.args.number c.in_ok-make_room.ensures.room c.requires.free
    c.insert.new.self c.in_ok-key.key c.args.item c.in_ok-key.ensures.was_vacant c.in_ok-key.ensures.updates

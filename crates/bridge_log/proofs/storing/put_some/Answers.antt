-- Where there is no byte, nothing changes.
use Rattle.std.proofs.Common.{◌≡◌, length, sym, ap, ◌∙◌, rules}
use Rattle.std.proofs.lemmas.List.{nil_from_length}
use Rattle.o32_model.specs.GuestBytes.{with_stored}
use Rattle.bridge_log.proofs.Stores.{stored_nothing}
use Rattle.bridge_log.proofs.storing.put_some.Goals as goal

pub returns-then-is_empty-clause-stored : goal.returns-then-is_empty-clause-stored
returns-then-is_empty-clause-stored c =
    let none : length c.args.bytes.now ≡ 0 = search rules in
    sym (ap (with_stored c.args.space.now c.args.address) (nil_from_length c.args.bytes.now none) ∙ stored_nothing c.args.space.now c.args.address)

-- What was stored is one effect.
use Rattle.std.proofs.Common.{◌≡◌, length, true, rules}
use Rattle.o32_model.specs.GuestBytes.{is_storable}
use Rattle.bridge_log.proofs.Stores.{effected_stored}
use Rattle.bridge_log.proofs.storing.put.Goals as goal

pub returns-clause-effects : goal.returns-clause-effects
returns-clause-effects c = λ processor sent.
    let storable : is_storable c.args.space.now c.args.address (length c.args.bytes.now) ≡ true = search (rules, c.in_ok-store_structure.ensures.answer) in
    effected_stored _ _ processor sent c.args.space.now c.store_structure.new.space c.args.address c.args.bytes.now c.ranges.address.fits storable c.in_ok-store_structure.ensures.stored c.in_ok-wrote.ensures.effects

use Rattle.std.proofs.Common.{subst}
use Rattle.guest_space.specs.Memory.{Memory}
use Rattle.guest_space.specs.Places.{IsGreatestPlace}
use Rattle.guest_space.proofs.space.Space.place.Goals as goal

pub returns : goal.returns
returns c =
    subst (λ (m : Memory). IsGreatestPlace m.pages c.args.pages c.greatest_place.result) c.self.view_is c.greatest_place.ensures

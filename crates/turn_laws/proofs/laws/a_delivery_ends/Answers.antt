-- Each round leaves less to come.
use Rattle.turn_laws.proofs.Enough.{whole_ends}
use Rattle.turn_laws.proofs.laws.a_delivery_ends.Goals as goal

pub returns : goal.returns
returns c = whole_ends

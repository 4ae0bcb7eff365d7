-- By the table of each world
use Rattle.std.proofs.Common.{◌≡◌, false, rules}
use Rattle.std.specs.Prelude.{◌==◌}
use Rattle.bridge_signal.proofs.Naming.{listed_signal, unlisted}
use Rattle.bridge_signal.proofs.named.native_number.Goals as goal

pub returns-in-None : goal.returns-in-None
returns-in-None c =
    let some : (c.args.number == 0) ≡ false = search rules in
    unlisted c.args.number some c.in-None.ensures

pub returns-in-Some : goal.returns-in-Some
returns-in-Some c =
    let some : (c.args.number == 0) ≡ false = search rules in
    listed_signal c.args.number c.to_native.result c.in-Some.sig some c.in-Some.ensures c.to_native.ensures

-- A reply that gives no structure changes nothing.
use Rattle.std.proofs.Common.{arith}
use Rattle.std.proofs.lemmas.Int.{ints}
use Rattle.bridge_io.proofs.Storing.{unstored_error, unstored_sleep}
use Rattle.bridge_io.proofs.structures.put_structure.Goals as goal

pub returns-else-number-ge0-clause-stored : goal.returns-else-number-ge0-clause-stored
returns-else-number-ge0-clause-stored c =
    unstored_error c.args.space.now c.args.to.address c.args.to.structure c.args.mem.now c.in-Done.number c.args.reply c.in-Done.is (omega (arith, ints))

pub returns-in-Sleep-clause-stored : goal.returns-in-Sleep-clause-stored
returns-in-Sleep-clause-stored c =
    unstored_sleep c.args.space.now c.args.to.address c.args.to.structure c.args.mem.now c.in-Sleep.field-0 c.args.reply c.in-Sleep.is

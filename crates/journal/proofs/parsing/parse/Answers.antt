use Rattle.std.proofs.Common.{arith}
use Rattle.journal.proofs.JournalLaws.{accepted_from, complete_from}
use Rattle.journal.proofs.parsing.parse.Goals as goal

pub returns-clause-accepted : goal.returns-clause-accepted
returns-clause-accepted c = accepted_from c.args.bytes.now c.read.result (λ i. omega (arith, c.type_inv.bytes i)) c.read.ensures

pub returns-clause-complete : goal.returns-clause-complete
returns-clause-complete c = complete_from c.args.bytes.now c.read.result c.read.ensures

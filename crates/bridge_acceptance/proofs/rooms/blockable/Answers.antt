use Rattle.std.proofs.Common.{arith}
use Rattle.native_signal.proofs.SetMarks.{blockable_words}
use Rattle.bridge_acceptance.proofs.rooms.blockable.Goals as goal

pub returns-clause-value : goal.returns-clause-value
returns-clause-value c = blockable_words c.args.set (omega arith) (omega arith)

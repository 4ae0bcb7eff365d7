use Rattle.std.proofs.Common.{arith}
use Rattle.native_polls.proofs.SetLaws.{holds_ready}
use Rattle.native_polls.proofs.fd_sets.ready_set.Goals as goal

pub returns : goal.returns
returns g c =
    holds_ready (g.F.Readiness.files c.args.files.now) c.args.count c.args.words.now c.ready_words.result c.args.side (omega arith) (omega arith) c.ready_words.ensures

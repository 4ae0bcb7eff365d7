use Rattle.native_polls.specs.inside.FdSets.{fds_of}
use Rattle.kernel_model.specs.Readiness as spec
use Rattle.native_polls.proofs.SetLaws.{closed_here, closed_later}
use Rattle.native_polls.proofs.fd_sets.names_closed.Goals as goal

pub returns-then-has_closed : goal.returns-then-has_closed
returns-then-has_closed g c =
    closed_here (g.F.Readiness.files c.args.files.now) c.args.words.now c.loop-fd.fd c.args.count c.has_closed.result (spec.names_closed (g.F.Readiness.files c.args.files.now) (fds_of c.args.count c.args.words.now))
    c.loop-fd-test.true c.has_closed.ensures c.if-has_closed.true c.loop-fd.invariant

pub loop-fd-preserved : goal.loop-fd-preserved
loop-fd-preserved g c =
    closed_later (g.F.Readiness.files c.args.files.now) c.args.words.now c.loop-fd.fd c.args.count c.has_closed.result (spec.names_closed (g.F.Readiness.files c.args.files.now) (fds_of c.args.count c.args.words.now))
    c.loop-fd-test.true c.has_closed.ensures c.if-has_closed.false c.loop-fd.invariant

use Rattle.session_files.specs.Seen.{seen_of}
use Rattle.o32_session.proofs.Soaking.{told, told_faults, told_host, untold}
use Rattle.o32_session.proofs.soak.soak_count.Goals as goal

pub returns-in-Ok-clause-answer : goal.returns-in-Ok-clause-answer
returns-in-Ok-clause-answer g c loads store =
    let old = seen_of g.I.Source.left g.O.Sink.written g.E.Sink.written g.I.Source.faults g.O.Sink.faults g.E.Sink.faults c.args.dev.now loads store in
    rw c.tell.ensures.turns (told c.args.count c.in-Ok.soaked c.tell.result.end c.tell.result.host old (g.O.Sink.written c.tell.new.out) (g.O.Sink.faults c.tell.new.out)
    c.in-Ok.ensures.soaked c.tell.ensures.told c.tell.ensures.cause)

pub returns-in-Ok-clause-no_host : goal.returns-in-Ok-clause-no_host
returns-in-Ok-clause-no_host g c none =
    told_host c.in-Ok.soaked c.tell.result.end c.tell.result.host (g.O.Sink.written c.args.dev.now.out) (g.O.Sink.written c.tell.new.out) c.tell.ensures.told none

pub returns-in-Ok-clause-faults : goal.returns-in-Ok-clause-faults
returns-in-Ok-clause-faults g c loads store =
    let old = seen_of g.I.Source.left g.O.Sink.written g.E.Sink.written g.I.Source.faults g.O.Sink.faults g.E.Sink.faults c.args.dev.now loads store in
    told_faults c.in-Ok.soaked c.tell.result.end c.tell.result.host old (g.O.Sink.written c.tell.new.out) (g.O.Sink.faults c.tell.new.out) c.tell.ensures.told c.tell.ensures.cause

pub returns-in-Err-clause-answer : goal.returns-in-Err-clause-answer
returns-in-Err-clause-answer g c loads store =
    untold c.args.count c.in-Err.stopped.turns (seen_of g.I.Source.left g.O.Sink.written g.E.Sink.written g.I.Source.faults g.O.Sink.faults g.E.Sink.faults c.args.dev.now loads store) c.in-Err.ensures.stopped

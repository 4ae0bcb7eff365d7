use Rattle.std.proofs.Common.{None, refl, subst}
use Rattle.session_files.specs.Seen.{seen_of}
use Rattle.o32_session.specs.Soaked.{AnswersSoakReading}
use Rattle.session_files.specs.declared.refusal.Refusal.TheVariants.{Usage}
use Rattle.session_files.proofs.Faults.{line_faults}
use Rattle.session_files.proofs.Unrun.{refused}
use Rattle.o32_session.proofs.soak.soak_words.Goals as goal

pub returns-in-Ok-clause-answer : goal.returns-in-Ok-clause-answer
returns-in-Ok-clause-answer g c loads store =
    let old = seen_of g.I.Source.left g.O.Sink.written g.E.Sink.written g.I.Source.faults g.O.Sink.faults g.E.Sink.faults c.args.dev.now loads store in
    let new = seen_of g.I.Source.left g.O.Sink.written g.E.Sink.written g.I.Source.faults g.O.Sink.faults g.E.Sink.faults c.soak_count.new.dev loads store in
    let answer = c.soak_count.result in
    subst (λ r. AnswersSoakReading r old new answer.turns answer.end answer.host) c.in-Ok.ensures.reading (c.soak_count.ensures.answer loads store)

pub returns-in-Err-clause-answer : goal.returns-in-Err-clause-answer
returns-in-Err-clause-answer g c loads store =
    let old = seen_of g.I.Source.left g.O.Sink.written g.E.Sink.written g.I.Source.faults g.O.Sink.faults g.E.Sink.faults c.args.dev.now loads store in
    let new = seen_of g.I.Source.left g.O.Sink.written g.E.Sink.written g.I.Source.faults g.O.Sink.faults g.E.Sink.faults (record c.args.dev.now { err = c.refuse.new.err }) loads store in
    subst (λ r. AnswersSoakReading r old new 0 c.refuse.result None) c.in-Err.ensures.reading
    (refused (Usage c.in-Err.word) c.refuse.result old (g.E.Sink.written c.refuse.new.err) (g.E.Sink.faults c.refuse.new.err) loads store
    c.refuse.ensures.line c.refuse.ensures.cause refl)

pub returns-in-Err-clause-faults : goal.returns-in-Err-clause-faults
returns-in-Err-clause-faults g c loads store =
    let old = seen_of g.I.Source.left g.O.Sink.written g.E.Sink.written g.I.Source.faults g.O.Sink.faults g.E.Sink.faults c.args.dev.now loads store in
    let new = seen_of g.I.Source.left g.O.Sink.written g.E.Sink.written g.I.Source.faults g.O.Sink.faults g.E.Sink.faults (record c.args.dev.now { err = c.refuse.new.err }) loads store in
    line_faults (Usage c.in-Err.word) c.refuse.result old new (g.E.Sink.written c.args.dev.now.err) (g.E.Sink.written c.refuse.new.err) c.refuse.ensures.line c.refuse.ensures.cause
    refl refl refl refl

use Rattle.std.proofs.Common.{ℕ, Option, subst, sym}
use Rattle.o32_runner.specs.Emulators.{Emulated}
use Rattle.session_files.specs.Faults.{TellsFaults}
use Rattle.session_files.specs.Seen.{seen_of}
use Rattle.o32_session.specs.Soaked.{AnswersSoakReading}
use Rattle.o32_session.specs.Words.{read_soak, texts}
use Rattle.session_files.specs.declared.end.End.{End}
use Rattle.o32_session.proofs.top_call.answer_soak.Goals as goal

pub returns-clause-answer : goal.returns-clause-answer
returns-clause-answer g c loads store =
    let old = seen_of g.I.Source.left g.O.Sink.written g.E.Sink.written g.I.Source.faults g.O.Sink.faults g.E.Sink.faults c.args.dev.now loads store in
    let new = seen_of g.I.Source.left g.O.Sink.written g.E.Sink.written g.I.Source.faults g.O.Sink.faults g.E.Sink.faults c.soak_words-told.new.dev loads store in
    let reading = read_soak (texts c.args.words.now) in
    let told = c.soak_words-told.result in
    let answer = c.answer_of.result in
    subst (λ (h : Option Emulated). AnswersSoakReading reading old new answer.turns answer.end h) (sym c.answer_of.ensures.host)
    (subst (λ (n : ℕ). AnswersSoakReading reading old new n answer.end told.host) (sym c.answer_of.ensures.turns)
    (subst (λ (e : End). AnswersSoakReading reading old new told.turns e told.host) (sym c.answer_of.ensures.end) (c.soak_words-told.ensures.answer loads store)))

pub returns-clause-faults : goal.returns-clause-faults
returns-clause-faults g c loads store =
    let old = seen_of g.I.Source.left g.O.Sink.written g.E.Sink.written g.I.Source.faults g.O.Sink.faults g.E.Sink.faults c.args.dev.now loads store in
    let new = seen_of g.I.Source.left g.O.Sink.written g.E.Sink.written g.I.Source.faults g.O.Sink.faults g.E.Sink.faults c.soak_words-told.new.dev loads store in
    subst (λ (e : End). TellsFaults e old new) (sym c.answer_of.ensures.end) (c.soak_words-told.ensures.faults loads store)

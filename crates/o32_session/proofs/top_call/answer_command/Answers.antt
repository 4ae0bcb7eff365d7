use Rattle.std.proofs.Common.{subst}
use Rattle.stored_files.specs.Stored.{stored_of}
use Rattle.o32_session.specs.Soaked.{AnswersCommand}
use Rattle.session_files.specs.Seen.{seen_of}
use Rattle.o32_session.specs.Words.{texts}
use Rattle.o32_session.proofs.top_call.answer_command.Goals as goal

pub returns-in-Run-clause-answer : goal.returns-in-Run-clause-answer
returns-in-Run-clause-answer g c =
    let old = seen_of g.I.Source.left g.O.Sink.written g.E.Sink.written g.I.Source.faults g.O.Sink.faults g.E.Sink.faults c.args.dev.now (g.F.Store.load_faults c.args.files.now) (stored_of g.F.Store.files g.F.Store.created g.F.Store.loads g.F.Store.turned_away g.F.Store.write_faults c.args.files.now) in
    let new = seen_of g.I.Source.left g.O.Sink.written g.E.Sink.written g.I.Source.faults g.O.Sink.faults g.E.Sink.faults c.answer_words.new.dev (g.F.Store.load_faults c.answer_words.new.files) (stored_of g.F.Store.files g.F.Store.created g.F.Store.loads g.F.Store.turned_away g.F.Store.write_faults c.answer_words.new.files) in
    let answer = c.answer_words.result in
    subst (λ k. AnswersCommand k (texts c.args.words.now) old new answer.turns answer.end answer.host) c.in-Run.ensures c.answer_words.ensures.answer

pub returns-in-Replay-clause-answer : goal.returns-in-Replay-clause-answer
returns-in-Replay-clause-answer g c =
    let old = seen_of g.I.Source.left g.O.Sink.written g.E.Sink.written g.I.Source.faults g.O.Sink.faults g.E.Sink.faults c.args.dev.now (g.F.Store.load_faults c.args.files.now) (stored_of g.F.Store.files g.F.Store.created g.F.Store.loads g.F.Store.turned_away g.F.Store.write_faults c.args.files.now) in
    let new = seen_of g.I.Source.left g.O.Sink.written g.E.Sink.written g.I.Source.faults g.O.Sink.faults g.E.Sink.faults c.answer_replay.new.dev (g.F.Store.load_faults c.answer_replay.new.files) (stored_of g.F.Store.files g.F.Store.created g.F.Store.loads g.F.Store.turned_away g.F.Store.write_faults c.answer_replay.new.files) in
    let answer = c.answer_replay.result in
    subst (λ k. AnswersCommand k (texts c.args.words.now) old new answer.turns answer.end answer.host) c.in-Replay.ensures c.answer_replay.ensures.answer

pub returns-in-Soak-clause-answer : goal.returns-in-Soak-clause-answer
returns-in-Soak-clause-answer g c =
    let loads = g.F.Store.load_faults c.args.files.now in
    let store = stored_of g.F.Store.files g.F.Store.created g.F.Store.loads g.F.Store.turned_away g.F.Store.write_faults c.args.files.now in
    let old = seen_of g.I.Source.left g.O.Sink.written g.E.Sink.written g.I.Source.faults g.O.Sink.faults g.E.Sink.faults c.args.dev.now loads store in
    let new = seen_of g.I.Source.left g.O.Sink.written g.E.Sink.written g.I.Source.faults g.O.Sink.faults g.E.Sink.faults c.answer_soak.new.dev loads store in
    let answer = c.answer_soak.result in
    subst (λ k. AnswersCommand k (texts c.args.words.now) old new answer.turns answer.end answer.host) c.in-Soak.ensures (c.answer_soak.ensures.answer loads store)

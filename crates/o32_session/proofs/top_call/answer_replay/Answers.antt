use Rattle.std.proofs.Common.{ℕ, subst, sym}
use Rattle.stored_files.specs.Stored.{stored_of}
use Rattle.session_files.specs.Faults.{TellsFaults}
use Rattle.session_replay.specs.Replayed.{AnswersReplayWords}
use Rattle.session_files.specs.Seen.{seen_of}
use Rattle.o32_session.specs.Words.{texts}
use Rattle.session_files.specs.declared.end.End.{End}
use Rattle.o32_session.proofs.top_call.answer_replay.Goals as goal

pub returns-clause-answer : goal.returns-clause-answer
returns-clause-answer g c =
    let old = seen_of g.I.Source.left g.O.Sink.written g.E.Sink.written g.I.Source.faults g.O.Sink.faults g.E.Sink.faults c.args.dev.now (g.F.Store.load_faults c.args.files.now) (stored_of g.F.Store.files g.F.Store.created g.F.Store.loads g.F.Store.turned_away g.F.Store.write_faults c.args.files.now) in
    let new = seen_of g.I.Source.left g.O.Sink.written g.E.Sink.written g.I.Source.faults g.O.Sink.faults g.E.Sink.faults c.replay_words-replied.new.dev (g.F.Store.load_faults c.replay_words-replied.new.files) (stored_of g.F.Store.files g.F.Store.created g.F.Store.loads g.F.Store.turned_away g.F.Store.write_faults c.replay_words-replied.new.files) in
    let answer = c.answer_of.result in
    subst (λ (n : ℕ). AnswersReplayWords (texts c.args.words.now) old new n answer.end) (sym c.answer_of.ensures.turns)
    (subst (λ (e : End). AnswersReplayWords (texts c.args.words.now) old new c.replay_words-replied.result.turns e) (sym c.answer_of.ensures.end) c.replay_words-replied.ensures.answer)

pub returns-clause-faults : goal.returns-clause-faults
returns-clause-faults g c =
    let old = seen_of g.I.Source.left g.O.Sink.written g.E.Sink.written g.I.Source.faults g.O.Sink.faults g.E.Sink.faults c.args.dev.now (g.F.Store.load_faults c.args.files.now) (stored_of g.F.Store.files g.F.Store.created g.F.Store.loads g.F.Store.turned_away g.F.Store.write_faults c.args.files.now) in
    let new = seen_of g.I.Source.left g.O.Sink.written g.E.Sink.written g.I.Source.faults g.O.Sink.faults g.E.Sink.faults c.replay_words-replied.new.dev (g.F.Store.load_faults c.replay_words-replied.new.files) (stored_of g.F.Store.files g.F.Store.created g.F.Store.loads g.F.Store.turned_away g.F.Store.write_faults c.replay_words-replied.new.files) in
    subst (λ (e : End). TellsFaults e old new) (sym c.answer_of.ensures.end) c.replay_words-replied.ensures.faults

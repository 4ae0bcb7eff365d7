use Rattle.std.proofs.Common.{refl, subst}
use Rattle.stored_files.specs.Stored.{stored_of}
use Rattle.session_replay.specs.Replayed.{AnswersReplayReading}
use Rattle.session_files.specs.Seen.{seen_of}
use Rattle.session_files.specs.declared.refusal.Refusal.TheVariants.{Usage}
use Rattle.session_files.proofs.Faults.{line_faults}
use Rattle.session_files.proofs.Unrun.{refused}
use Rattle.session_replay.proofs.replay.replay_words.Goals as goal

pub returns-in-Ok-clause-answer : goal.returns-in-Ok-clause-answer
returns-in-Ok-clause-answer g c =
    let old = seen_of g.I.Source.left g.O.Sink.written g.E.Sink.written g.I.Source.faults g.O.Sink.faults g.E.Sink.faults c.args.dev.now (g.F.Store.load_faults c.args.files.now) (stored_of g.F.Store.files g.F.Store.created g.F.Store.loads g.F.Store.turned_away g.F.Store.write_faults c.args.files.now) in
    let new = seen_of g.I.Source.left g.O.Sink.written g.E.Sink.written g.I.Source.faults g.O.Sink.faults g.E.Sink.faults c.reply_line.new.dev (g.F.Store.load_faults c.reply_line.new.files) (stored_of g.F.Store.files g.F.Store.created g.F.Store.loads g.F.Store.turned_away g.F.Store.write_faults c.reply_line.new.files) in
    subst (λ r. AnswersReplayReading r old new c.reply_line.result.turns c.reply_line.result.end) c.in-Ok.ensures c.reply_line.ensures.answer

pub returns-in-Err-clause-answer : goal.returns-in-Err-clause-answer
returns-in-Err-clause-answer g c =
    let old = seen_of g.I.Source.left g.O.Sink.written g.E.Sink.written g.I.Source.faults g.O.Sink.faults g.E.Sink.faults c.args.dev.now (g.F.Store.load_faults c.args.files.now) (stored_of g.F.Store.files g.F.Store.created g.F.Store.loads g.F.Store.turned_away g.F.Store.write_faults c.args.files.now) in
    let new = seen_of g.I.Source.left g.O.Sink.written g.E.Sink.written g.I.Source.faults g.O.Sink.faults g.E.Sink.faults (record c.args.dev.now { err = c.refuse.new.err }) (g.F.Store.load_faults c.args.files.now) (stored_of g.F.Store.files g.F.Store.created g.F.Store.loads g.F.Store.turned_away g.F.Store.write_faults c.args.files.now) in
    subst (λ r. AnswersReplayReading r old new 0 c.refuse.result) c.in-Err.ensures
    (refused (Usage c.in-Err.word) c.refuse.result old (g.E.Sink.written c.refuse.new.err) (g.E.Sink.faults c.refuse.new.err) old.load_faults old.store
    c.refuse.ensures.line c.refuse.ensures.cause refl)

pub returns-in-Err-clause-faults : goal.returns-in-Err-clause-faults
returns-in-Err-clause-faults g c =
    let old = seen_of g.I.Source.left g.O.Sink.written g.E.Sink.written g.I.Source.faults g.O.Sink.faults g.E.Sink.faults c.args.dev.now (g.F.Store.load_faults c.args.files.now) (stored_of g.F.Store.files g.F.Store.created g.F.Store.loads g.F.Store.turned_away g.F.Store.write_faults c.args.files.now) in
    let new = seen_of g.I.Source.left g.O.Sink.written g.E.Sink.written g.I.Source.faults g.O.Sink.faults g.E.Sink.faults (record c.args.dev.now { err = c.refuse.new.err }) (g.F.Store.load_faults c.args.files.now) (stored_of g.F.Store.files g.F.Store.created g.F.Store.loads g.F.Store.turned_away g.F.Store.write_faults c.args.files.now) in
    line_faults (Usage c.in-Err.word) c.refuse.result old new (g.E.Sink.written c.args.dev.now.err) (g.E.Sink.written c.refuse.new.err) c.refuse.ensures.line c.refuse.ensures.cause
    refl refl refl refl

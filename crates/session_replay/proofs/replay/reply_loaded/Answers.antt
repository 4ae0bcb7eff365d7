use Rattle.std.proofs.Common.{arith, refl}
use Rattle.journal.specs.Reading.{reading_of}
use Rattle.replay_core.specs.Answered.{written}
use Rattle.session_files.specs.Seen.{seen_of}
use Rattle.session_replay.proofs.Repeating.{counts_later, replied, replied_faults, unreplied}
use Rattle.session_replay.proofs.replay.reply_loaded.Goals as goal

pub returns-in-Ok-clause-answer : goal.returns-in-Ok-clause-answer
returns-in-Ok-clause-answer g c loads store =
    replied c.args.loaded.now.plan (reading_of c.args.loaded.now.bytes.items) c.in-Ok.answer.end c.in-Ok.answer.turns c.end_of_replay.result
    (seen_of g.I.Source.left g.O.Sink.written g.E.Sink.written g.I.Source.faults g.O.Sink.faults g.E.Sink.faults c.args.dev.now loads store) (written g.O.Sink.written g.E.Sink.written c.replay_loaded.new.out c.replay_loaded.new.err) (g.E.Sink.written c.end_of_replay.new.err)
    (g.O.Sink.faults c.replay_loaded.new.out) (g.E.Sink.faults c.replay_loaded.new.err) (g.E.Sink.faults c.end_of_replay.new.err) c.in-Ok.ensures.replays c.in-Ok.ensures.cause
    c.end_of_replay.ensures.line c.end_of_replay.ensures.cause

pub returns-in-Ok-clause-faults : goal.returns-in-Ok-clause-faults
returns-in-Ok-clause-faults g c loads store =
    replied_faults c.in-Ok.answer.end c.end_of_replay.result (seen_of g.I.Source.left g.O.Sink.written g.E.Sink.written g.I.Source.faults g.O.Sink.faults g.E.Sink.faults c.args.dev.now loads store)
    (seen_of g.I.Source.left g.O.Sink.written g.E.Sink.written g.I.Source.faults g.O.Sink.faults g.E.Sink.faults (record c.args.dev.now { out = c.replay_loaded.new.out; err = c.end_of_replay.new.err }) loads store)
    (g.E.Sink.faults c.replay_loaded.new.err) (g.E.Sink.written c.replay_loaded.new.err) (g.E.Sink.written c.end_of_replay.new.err) c.in-Ok.ensures.cause
    c.end_of_replay.ensures.line c.end_of_replay.ensures.cause refl refl refl

pub returns-in-Err-clause-answer : goal.returns-in-Err-clause-answer
returns-in-Err-clause-answer g c loads store =
    unreplied c.args.loaded.now.plan (reading_of c.args.loaded.now.bytes.items) c.in-Err.reason c.end_without_run.result
    (seen_of g.I.Source.left g.O.Sink.written g.E.Sink.written g.I.Source.faults g.O.Sink.faults g.E.Sink.faults c.args.dev.now loads store) (written g.O.Sink.written g.E.Sink.written c.replay_loaded.new.out c.replay_loaded.new.err) (g.E.Sink.written c.end_without_run.new.err)
    (g.O.Sink.faults c.replay_loaded.new.out) (g.E.Sink.faults c.replay_loaded.new.err) (g.E.Sink.faults c.end_without_run.new.err) c.in-Err.ensures.replays c.in-Err.ensures.cause
    c.end_without_run.ensures.line c.end_without_run.ensures.cause

pub returns-in-Ok-clause-later : goal.returns-in-Ok-clause-later
returns-in-Ok-clause-later g c =
    let counts = counts_later c.in-Ok.answer.end (g.O.Sink.faults c.args.dev.now.out) (g.O.Sink.faults c.replay_loaded.new.out) (g.E.Sink.faults c.args.dev.now.err) (g.E.Sink.faults c.replay_loaded.new.err) c.in-Ok.ensures.cause in
    record { input_later = omega arith; out_later = counts.0; err_later = omega (arith, counts.1, c.end_of_replay.ensures.later) }

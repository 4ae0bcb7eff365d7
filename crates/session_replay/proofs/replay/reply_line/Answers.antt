use Rattle.std.proofs.Common.{Ok, Err, refl}
use Rattle.stored_files.specs.Stored.{stored_of}
use Rattle.session_files.specs.Faults.{NoneRose}
use Rattle.session_files.specs.Seen.{seen_of}
use Rattle.session_words.specs.Read.{replay_line_seen}
use Rattle.session_files.proofs.Faults.{tells_since, unrun_faults}
use Rattle.session_replay.proofs.Repeating.{begun, both_writes, unbegun}
use Rattle.session_replay.specs.declared.replay.Loaded.{Loaded}
use Rattle.session_replay.proofs.replay.reply_line.Goals as goal

pub returns-in-Ok-clause-answer : goal.returns-in-Ok-clause-answer
returns-in-Ok-clause-answer g c =
    let loads = g.F.Store.load_faults c.load_both.new.files in
    let store = stored_of g.F.Store.files g.F.Store.created g.F.Store.loads g.F.Store.turned_away g.F.Store.write_faults c.load_both.new.files in
    begun (replay_line_seen c.args.line) c.in-Ok.loaded.plan c.in-Ok.loaded.bytes.items (seen_of g.I.Source.left g.O.Sink.written g.E.Sink.written g.I.Source.faults g.O.Sink.faults g.E.Sink.faults c.args.dev.now (g.F.Store.load_faults c.args.files.now) (stored_of g.F.Store.files g.F.Store.created g.F.Store.loads g.F.Store.turned_away g.F.Store.write_faults c.args.files.now))
    (seen_of g.I.Source.left g.O.Sink.written g.E.Sink.written g.I.Source.faults g.O.Sink.faults g.E.Sink.faults c.reply_loaded.new.dev loads store) c.reply_loaded.result.turns c.reply_loaded.result.end loads store
    c.in-Ok.ensures.loaded.1 c.in-Ok.ensures.loaded.2 c.in-Ok.ensures.loads c.in-Ok.ensures.cause (c.reply_loaded.ensures.answer loads store)

pub returns-in-Ok-clause-faults : goal.returns-in-Ok-clause-faults
returns-in-Ok-clause-faults g c =
    let loads = g.F.Store.load_faults c.load_both.new.files in
    let store = stored_of g.F.Store.files g.F.Store.created g.F.Store.loads g.F.Store.turned_away g.F.Store.write_faults c.load_both.new.files in
    let old = seen_of g.I.Source.left g.O.Sink.written g.E.Sink.written g.I.Source.faults g.O.Sink.faults g.E.Sink.faults c.args.dev.now (g.F.Store.load_faults c.args.files.now) (stored_of g.F.Store.files g.F.Store.created g.F.Store.loads g.F.Store.turned_away g.F.Store.write_faults c.args.files.now) in
    let middle = seen_of g.I.Source.left g.O.Sink.written g.E.Sink.written g.I.Source.faults g.O.Sink.faults g.E.Sink.faults c.args.dev.now loads store in
    let none : NoneRose old middle = record {
      reads = refl;
      outs = refl;
      errs = refl;
      loads = c.in-Ok.ensures.cause;
      writes = both_writes (replay_line_seen c.args.line) (Ok c.in-Ok.loaded) old.store store c.in-Ok.ensures.loads;
    } in
    tells_since c.reply_loaded.result.end old middle (seen_of g.I.Source.left g.O.Sink.written g.E.Sink.written g.I.Source.faults g.O.Sink.faults g.E.Sink.faults c.reply_loaded.new.dev loads store) none (c.reply_loaded.ensures.faults loads store)

pub returns-in-Ok-clause-writes : goal.returns-in-Ok-clause-writes
returns-in-Ok-clause-writes g c =
    both_writes (replay_line_seen c.args.line) (Ok c.in-Ok.loaded) (stored_of g.F.Store.files g.F.Store.created g.F.Store.loads g.F.Store.turned_away g.F.Store.write_faults c.args.files.now) (stored_of g.F.Store.files g.F.Store.created g.F.Store.loads g.F.Store.turned_away g.F.Store.write_faults c.load_both.new.files) c.in-Ok.ensures.loads

pub returns-in-Err-clause-answer : goal.returns-in-Err-clause-answer
returns-in-Err-clause-answer g c =
    unbegun (replay_line_seen c.args.line) c.in-Err.reason c.end_without_run.result (seen_of g.I.Source.left g.O.Sink.written g.E.Sink.written g.I.Source.faults g.O.Sink.faults g.E.Sink.faults c.args.dev.now (g.F.Store.load_faults c.args.files.now) (stored_of g.F.Store.files g.F.Store.created g.F.Store.loads g.F.Store.turned_away g.F.Store.write_faults c.args.files.now))
    (g.E.Sink.written c.end_without_run.new.err) (g.E.Sink.faults c.end_without_run.new.err) (g.F.Store.load_faults c.load_both.new.files) (stored_of g.F.Store.files g.F.Store.created g.F.Store.loads g.F.Store.turned_away g.F.Store.write_faults c.load_both.new.files)
    c.in-Err.ensures.loaded c.end_without_run.ensures.line c.end_without_run.ensures.cause c.in-Err.ensures.loads c.in-Err.ensures.cause

pub returns-in-Err-clause-faults : goal.returns-in-Err-clause-faults
returns-in-Err-clause-faults g c =
    let old = seen_of g.I.Source.left g.O.Sink.written g.E.Sink.written g.I.Source.faults g.O.Sink.faults g.E.Sink.faults c.args.dev.now (g.F.Store.load_faults c.args.files.now) (stored_of g.F.Store.files g.F.Store.created g.F.Store.loads g.F.Store.turned_away g.F.Store.write_faults c.args.files.now) in
    let new = seen_of g.I.Source.left g.O.Sink.written g.E.Sink.written g.I.Source.faults g.O.Sink.faults g.E.Sink.faults (record c.args.dev.now { err = c.end_without_run.new.err }) (g.F.Store.load_faults c.load_both.new.files) (stored_of g.F.Store.files g.F.Store.created g.F.Store.loads g.F.Store.turned_away g.F.Store.write_faults c.load_both.new.files) in
    unrun_faults Loaded c.in-Err.reason c.end_without_run.result old new (g.E.Sink.written c.args.dev.now.err) (g.E.Sink.written c.end_without_run.new.err) c.end_without_run.ensures.line
    c.end_without_run.ensures.cause c.in-Err.ensures.cause refl refl
    (both_writes (replay_line_seen c.args.line) (Err c.in-Err.reason) old.store new.store c.in-Err.ensures.loads)

pub returns-in-Err-clause-writes : goal.returns-in-Err-clause-writes
returns-in-Err-clause-writes g c =
    both_writes (replay_line_seen c.args.line) (Err c.in-Err.reason) (stored_of g.F.Store.files g.F.Store.created g.F.Store.loads g.F.Store.turned_away g.F.Store.write_faults c.args.files.now) (stored_of g.F.Store.files g.F.Store.created g.F.Store.loads g.F.Store.turned_away g.F.Store.write_faults c.load_both.new.files) c.in-Err.ensures.loads

use Rattle.std.proofs.Common.{ℕ, ◌≤◌, [], None, Ok, Err, option_map, refl, subst, sym}
use Rattle.session_files.specs.Inputs.{Names}
use Rattle.o32_session.specs.Words.{texts, read_words, word_at}
use Rattle.session_files.specs.Faults.{NoneRose, TellsFaults}
use Rattle.stored_files.specs.Stored.{stored_of}
use Rattle.o32_session.specs.Session.{AnswersWords}
use Rattle.session_files.specs.Seen.{seen_of}
use Rattle.session_files.specs.declared.end.End.{End}
use Rattle.session_files.proofs.Faults.{tells_since, unrun_faults}
use Rattle.session_files.proofs.Loading.{reading_writes}
use Rattle.o32_session.specs.declared.prepare.Ready.{Ready}
use Rattle.o32_session.proofs.Naming.{ready_differ}
use Rattle.o32_session.proofs.Sessions.{ran_on, unrun, run_answers}
use Rattle.o32_session.proofs.top_call.answer_words.Goals as goal

pub returns-in-Ok-clause-answer : goal.returns-in-Ok-clause-answer
returns-in-Ok-clause-answer g c =
    run_answers (texts c.args.words.now) (read_words (texts c.args.words.now)) c.in-Ok.ready (seen_of g.I.Source.left g.O.Sink.written g.E.Sink.written g.I.Source.faults g.O.Sink.faults g.E.Sink.faults c.args.dev.now (g.F.Store.load_faults c.args.files.now) (stored_of g.F.Store.files g.F.Store.created g.F.Store.loads g.F.Store.turned_away g.F.Store.write_faults c.args.files.now))
    (seen_of g.I.Source.left g.O.Sink.written g.E.Sink.written g.I.Source.faults g.O.Sink.faults g.E.Sink.faults c.run_ready.new.dev (g.F.Store.load_faults c.run_ready.new.files) (stored_of g.F.Store.files g.F.Store.created g.F.Store.loads g.F.Store.turned_away g.F.Store.write_faults c.run_ready.new.files)) c.run_ready.result.turns c.run_ready.result.end c.run_ready.result.host (g.F.Store.load_faults c.prepare.new.files)
    (stored_of g.F.Store.files g.F.Store.created g.F.Store.loads g.F.Store.turned_away g.F.Store.write_faults c.prepare.new.files) c.in-Ok.ensures.prepared c.run_ready.ensures.run c.in-Ok.ensures.loads c.in-Ok.ensures.cause

pub returns-in-Ok-clause-faults : goal.returns-in-Ok-clause-faults
returns-in-Ok-clause-faults g c =
    let old = (seen_of g.I.Source.left g.O.Sink.written g.E.Sink.written g.I.Source.faults g.O.Sink.faults g.E.Sink.faults c.args.dev.now (g.F.Store.load_faults c.args.files.now) (stored_of g.F.Store.files g.F.Store.created g.F.Store.loads g.F.Store.turned_away g.F.Store.write_faults c.args.files.now)) in
    let middle = (seen_of g.I.Source.left g.O.Sink.written g.E.Sink.written g.I.Source.faults g.O.Sink.faults g.E.Sink.faults c.args.dev.now (g.F.Store.load_faults c.prepare.new.files) (stored_of g.F.Store.files g.F.Store.created g.F.Store.loads g.F.Store.turned_away g.F.Store.write_faults c.prepare.new.files)) in
    let none : NoneRose old middle = record {
      reads = refl;
      outs = refl;
      errs = refl;
      loads = c.in-Ok.ensures.cause;
      writes = reading_writes (texts c.args.words.now) (read_words (texts c.args.words.now)) (Ok c.in-Ok.ready) old.store middle.store c.in-Ok.ensures.loads;
    } in
    tells_since c.run_ready.result.end old middle (seen_of g.I.Source.left g.O.Sink.written g.E.Sink.written g.I.Source.faults g.O.Sink.faults g.E.Sink.faults c.run_ready.new.dev (g.F.Store.load_faults c.run_ready.new.files) (stored_of g.F.Store.files g.F.Store.created g.F.Store.loads g.F.Store.turned_away g.F.Store.write_faults c.run_ready.new.files)) none c.run_ready.ensures.faults

pub returns-in-Err-clause-answer : goal.returns-in-Err-clause-answer
returns-in-Err-clause-answer g c =
    let old = seen_of g.I.Source.left g.O.Sink.written g.E.Sink.written g.I.Source.faults g.O.Sink.faults g.E.Sink.faults c.args.dev.now (g.F.Store.load_faults c.args.files.now) (stored_of g.F.Store.files g.F.Store.created g.F.Store.loads g.F.Store.turned_away g.F.Store.write_faults c.args.files.now) in
    let new = seen_of g.I.Source.left g.O.Sink.written g.E.Sink.written g.I.Source.faults g.O.Sink.faults g.E.Sink.faults (record c.args.dev.now { err = c.end_without_run.new.err }) (g.F.Store.load_faults c.prepare.new.files) (stored_of g.F.Store.files g.F.Store.created g.F.Store.loads g.F.Store.turned_away g.F.Store.write_faults c.prepare.new.files) in
    let answer = c.answer_of.result in
    subst (λ (n : ℕ). AnswersWords (texts c.args.words.now) old new n answer.end answer.host) (sym c.answer_of.ensures.turns)
    (subst (λ (e : End). AnswersWords (texts c.args.words.now) old new 0 e answer.host) (sym c.answer_of.ensures.end)
    (unrun (texts c.args.words.now) (read_words (texts c.args.words.now)) c.in-Err.reason c.end_without_run.result old
    (g.E.Sink.written c.end_without_run.new.err) (g.E.Sink.faults c.end_without_run.new.err) (g.F.Store.load_faults c.prepare.new.files)
    (stored_of g.F.Store.files g.F.Store.created g.F.Store.loads g.F.Store.turned_away g.F.Store.write_faults c.prepare.new.files) answer.host
    c.in-Err.ensures.prepared c.end_without_run.ensures.line c.end_without_run.ensures.cause c.in-Err.ensures.loads c.in-Err.ensures.cause))

pub returns-in-Err-clause-faults : goal.returns-in-Err-clause-faults
returns-in-Err-clause-faults g c =
    let old = seen_of g.I.Source.left g.O.Sink.written g.E.Sink.written g.I.Source.faults g.O.Sink.faults g.E.Sink.faults c.args.dev.now (g.F.Store.load_faults c.args.files.now) (stored_of g.F.Store.files g.F.Store.created g.F.Store.loads g.F.Store.turned_away g.F.Store.write_faults c.args.files.now) in
    let new = seen_of g.I.Source.left g.O.Sink.written g.E.Sink.written g.I.Source.faults g.O.Sink.faults g.E.Sink.faults (record c.args.dev.now { err = c.end_without_run.new.err }) (g.F.Store.load_faults c.prepare.new.files) (stored_of g.F.Store.files g.F.Store.created g.F.Store.loads g.F.Store.turned_away g.F.Store.write_faults c.prepare.new.files) in
    subst (λ (e : End). TellsFaults e old new) (sym c.answer_of.ensures.end)
    (unrun_faults Ready c.in-Err.reason c.end_without_run.result old new (g.E.Sink.written c.args.dev.now.err) (g.E.Sink.written c.end_without_run.new.err) c.end_without_run.ensures.line
    c.end_without_run.ensures.cause c.in-Err.ensures.cause refl refl
    (reading_writes (texts c.args.words.now) (read_words (texts c.args.words.now)) (Err c.in-Err.reason) old.store new.store c.in-Err.ensures.loads))

pub returns-in-Ok-clause-input : goal.returns-in-Ok-clause-input
returns-in-Ok-clause-input g c refused =
    let names : Names = record { program = []; image = None; schedule = None; trace = option_map (word_at (texts c.args.words.now)) c.in-Ok.ready.trace; native = option_map (word_at (texts c.args.words.now)) c.in-Ok.ready.native; journal = option_map (word_at (texts c.args.words.now)) c.in-Ok.ready.journal; save = option_map (word_at (texts c.args.words.now)) c.in-Ok.ready.save } in
    absurd (ran_on c.in-Ok.ready.emulator.quantum c.in-Ok.ready.emulator.machine c.in-Ok.ready.budget c.in-Ok.ready.front.items names
    (seen_of g.I.Source.left g.O.Sink.written g.E.Sink.written g.I.Source.faults g.O.Sink.faults g.E.Sink.faults c.args.dev.now (g.F.Store.load_faults c.prepare.new.files) (stored_of g.F.Store.files g.F.Store.created g.F.Store.loads g.F.Store.turned_away g.F.Store.write_faults c.prepare.new.files))
    (seen_of g.I.Source.left g.O.Sink.written g.E.Sink.written g.I.Source.faults g.O.Sink.faults g.E.Sink.faults c.run_ready.new.dev (g.F.Store.load_faults c.run_ready.new.files) (stored_of g.F.Store.files g.F.Store.created g.F.Store.loads g.F.Store.turned_away g.F.Store.write_faults c.run_ready.new.files))
    c.run_ready.result.turns c.run_ready.result.end c.run_ready.result.host (c.run_ready.ensures.run names refl refl refl refl) refused)

pub run_ready-requires-clause-differ : goal.run_ready-requires-clause-differ
run_ready-requires-clause-differ g c =
    ready_differ (texts c.args.words.now) (read_words (texts c.args.words.now)) (g.F.Store.files c.args.files.now) c.in-Ok.ready refl c.in-Ok.ensures.prepared

pub returns-in-Ok-clause-writes_later : goal.returns-in-Ok-clause-writes_later
returns-in-Ok-clause-writes_later g c =
    let same = reading_writes (texts c.args.words.now) (read_words (texts c.args.words.now)) (Ok c.in-Ok.ready) (stored_of g.F.Store.files g.F.Store.created g.F.Store.loads g.F.Store.turned_away g.F.Store.write_faults c.args.files.now) (stored_of g.F.Store.files g.F.Store.created g.F.Store.loads g.F.Store.turned_away g.F.Store.write_faults c.prepare.new.files) c.in-Ok.ensures.loads in
    subst (λ (n : ℕ). n ≤ g.F.Store.write_faults c.run_ready.new.files) same c.run_ready.ensures.writes_later

use Rattle.std.proofs.Common.{inl, inr, refl, subst}
use Rattle.o32_session.specs.Words.{texts, command_of}
use Rattle.session_files.specs.Faults.{TellsFaults}
use Rattle.stored_files.specs.Stored.{stored_of}
use Rattle.session_files.specs.Seen.{seen_of}
use Rattle.session_files.specs.declared.end.End.{End}
use Rattle.o32_session.proofs.LeftJournals.{journal_left}
use Rattle.session_files.proofs.ReadWords.{words_utf8}
use Rattle.o32_session.proofs.Commands.{command_saves, replay_complete, run_complete}
use Rattle.o32_session.proofs.Soaking.{soak_complete}
use Rattle.o32_session.proofs.top_call.session.Goals as goal

pub returns-clause-complete : goal.returns-clause-complete
returns-clause-complete g c run left told no_load no_read no_file no_out no_err =
    let old = seen_of g.I.Source.left g.O.Sink.written g.E.Sink.written g.I.Source.faults g.O.Sink.faults g.E.Sink.faults c.args.dev.now (g.F.Store.load_faults c.args.files.now) (stored_of g.F.Store.files g.F.Store.created g.F.Store.loads g.F.Store.turned_away g.F.Store.write_faults c.args.files.now) in
    let new = seen_of g.I.Source.left g.O.Sink.written g.E.Sink.written g.I.Source.faults g.O.Sink.faults g.E.Sink.faults c.answer_command.new.dev (g.F.Store.load_faults c.answer_command.new.files) (stored_of g.F.Store.files g.F.Store.created g.F.Store.loads g.F.Store.turned_away g.F.Store.write_faults c.answer_command.new.files) in
    run_complete (command_of (texts c.args.words.now)) (texts c.args.words.now) old new
    c.answer_command.result.turns c.answer_command.result.end c.answer_command.result.host run left refl c.answer_command.ensures.answer told
    (λ fault. elim (subst (λ (e : End). TellsFaults e old new) fault c.answer_command.ensures.faults) [ inl rose ↦ no_load rose | inr rose ↦ no_read rose ]) no_file no_out no_err

pub returns-clause-saved : goal.returns-clause-saved
returns-clause-saved g c =
    command_saves (command_of (texts c.args.words.now)) (texts c.args.words.now) (seen_of g.I.Source.left g.O.Sink.written g.E.Sink.written g.I.Source.faults g.O.Sink.faults g.E.Sink.faults c.args.dev.now (g.F.Store.load_faults c.args.files.now) (stored_of g.F.Store.files g.F.Store.created g.F.Store.loads g.F.Store.turned_away g.F.Store.write_faults c.args.files.now))
    (seen_of g.I.Source.left g.O.Sink.written g.E.Sink.written g.I.Source.faults g.O.Sink.faults g.E.Sink.faults c.answer_command.new.dev (g.F.Store.load_faults c.answer_command.new.files) (stored_of g.F.Store.files g.F.Store.created g.F.Store.loads g.F.Store.turned_away g.F.Store.write_faults c.answer_command.new.files))
    c.answer_command.result.turns c.answer_command.result.end c.answer_command.result.host c.answer_command.ensures.answer

pub returns-clause-replays : goal.returns-clause-replays
returns-clause-replays g c replay no_load no_out no_err =
    let old = seen_of g.I.Source.left g.O.Sink.written g.E.Sink.written g.I.Source.faults g.O.Sink.faults g.E.Sink.faults c.args.dev.now (g.F.Store.load_faults c.args.files.now) (stored_of g.F.Store.files g.F.Store.created g.F.Store.loads g.F.Store.turned_away g.F.Store.write_faults c.args.files.now) in
    let new = seen_of g.I.Source.left g.O.Sink.written g.E.Sink.written g.I.Source.faults g.O.Sink.faults g.E.Sink.faults c.answer_command.new.dev (g.F.Store.load_faults c.answer_command.new.files) (stored_of g.F.Store.files g.F.Store.created g.F.Store.loads g.F.Store.turned_away g.F.Store.write_faults c.answer_command.new.files) in
    replay_complete (texts c.args.words.now) old new c.answer_command.result.turns c.answer_command.result.end c.answer_command.result.host replay c.answer_command.ensures.answer
    no_load no_out no_err

pub returns-clause-soaks : goal.returns-clause-soaks
returns-clause-soaks g c count asks no_out =
    let old = seen_of g.I.Source.left g.O.Sink.written g.E.Sink.written g.I.Source.faults g.O.Sink.faults g.E.Sink.faults c.args.dev.now (g.F.Store.load_faults c.args.files.now) (stored_of g.F.Store.files g.F.Store.created g.F.Store.loads g.F.Store.turned_away g.F.Store.write_faults c.args.files.now) in
    let new = seen_of g.I.Source.left g.O.Sink.written g.E.Sink.written g.I.Source.faults g.O.Sink.faults g.E.Sink.faults c.answer_command.new.dev (g.F.Store.load_faults c.answer_command.new.files) (stored_of g.F.Store.files g.F.Store.created g.F.Store.loads g.F.Store.turned_away g.F.Store.write_faults c.answer_command.new.files) in
    soak_complete (texts c.args.words.now) old new c.answer_command.result.turns c.answer_command.result.end c.answer_command.result.host count asks c.answer_command.ensures.answer no_out

pub returns-clause-journal : goal.returns-clause-journal
returns-clause-journal g c run left name finish told named over =
    let old = seen_of g.I.Source.left g.O.Sink.written g.E.Sink.written g.I.Source.faults g.O.Sink.faults g.E.Sink.faults c.args.dev.now (g.F.Store.load_faults c.args.files.now) (stored_of g.F.Store.files g.F.Store.created g.F.Store.loads g.F.Store.turned_away g.F.Store.write_faults c.args.files.now) in
    let new = seen_of g.I.Source.left g.O.Sink.written g.E.Sink.written g.I.Source.faults g.O.Sink.faults g.E.Sink.faults c.answer_command.new.dev (g.F.Store.load_faults c.answer_command.new.files) (stored_of g.F.Store.files g.F.Store.created g.F.Store.loads g.F.Store.turned_away g.F.Store.write_faults c.answer_command.new.files) in
    journal_left (command_of (texts c.args.words.now)) (texts c.args.words.now) old new c.answer_command.result.turns c.answer_command.result.end c.answer_command.result.host run left name finish
    (words_utf8 c.args.words.now) refl c.answer_command.ensures.answer told named over

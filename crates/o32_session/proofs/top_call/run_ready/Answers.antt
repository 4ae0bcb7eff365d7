use Rattle.std.proofs.Common.{ℕ, IfOk, List, Ok, Err, Result, option_map, refl, subst, sym, ◌≡◌, ◌∙◌}
use Rattle.std.specs.Option.{option_copied}
use Rattle.kernel_core.specs.declared.core_error.Stop.{Stop}
use Rattle.kernel_core.specs.declared.finish.Finish.{Finish}
use Rattle.outside.specs.Streams.{contents}
use Rattle.o32_runner.specs.Making.{StopsBehind}
use Rattle.o32_runner.specs.Runs.{KeepsTexts, RunsAs, WithinBudget, no_turn_follows}
use Rattle.stored_files.specs.Stored.{stored_of}
use Rattle.o32_runner.specs.Texts.{WritesTexts}
use Rattle.o32_runner.specs.Traced.{StopsOnlyIfAnyRose}
use Rattle.o32_session.specs.Asked.{Run}
use Rattle.session_files.specs.Faults.{TellsFaults}
use Rattle.o32_session.specs.Session.{Answers}
use Rattle.session_files.specs.Seen.{seen_of}
use Rattle.o32_session.specs.Words.{texts, word_at}
use Rattle.session_files.specs.declared.end.End.{End}
use Rattle.o32_session.proofs.Faults.{cut_faults, run_faults}
use Rattle.session_files.proofs.Faults.{tells_since}
use Rattle.o32_session.proofs.Keeping.{keeps_named}
use Rattle.o32_session.proofs.Sessions.{cut_answer, read_cause, run_answer, texts_named, write_cause}
use Rattle.o32_session.proofs.top_call.run_ready.Goals as goal

pub returns-in-Ok-clause-run : goal.returns-in-Ok-clause-run
returns-in-Ok-clause-run g c = λ names named traced logged kept.
    let quantum = c.args.ready.emulator.quantum in
    let machine = c.args.ready.emulator.machine in
    let budget = c.args.ready.budget in
    let turns = c.run_named-ran.result.turns in
    let trace_is = c.word_of.ensures in
    let native_is = c.word_of-2.ensures in
    let journal_is = c.word_of-3.ensures in
    let front = c.args.ready.front.items in
    let front_is = c.as_slice.ensures.value in
    run_answer quantum machine budget turns front names (option_map (word_at (texts c.args.words.now)) c.args.ready.save) c.in-Ok.finish c.run_named-ran.new.emulator c.answer_run.result
    (seen_of g.I.Source.left g.O.Sink.written g.E.Sink.written g.I.Source.faults g.O.Sink.faults g.E.Sink.faults c.args.dev.now (g.F.Store.load_faults c.args.files.now) (stored_of g.F.Store.files g.F.Store.created g.F.Store.loads g.F.Store.turned_away g.F.Store.write_faults c.args.files.now)) (seen_of g.I.Source.left g.O.Sink.written g.E.Sink.written g.I.Source.faults g.O.Sink.faults g.E.Sink.faults c.run_named-ran.new.dev (g.F.Store.load_faults c.answer_run.new.files) (stored_of g.F.Store.files g.F.Store.created g.F.Store.loads g.F.Store.turned_away g.F.Store.write_faults c.answer_run.new.files)) (stored_of g.F.Store.files g.F.Store.created g.F.Store.loads g.F.Store.turned_away g.F.Store.write_faults c.run_named-ran.new.files) named
    (subst (λ (e : Result Finish Stop). StopsOnlyIfAnyRose {T = Finish} g.I.Source.faults g.O.Sink.faults g.E.Sink.faults e (g.F.Store.write_faults c.args.files.now) (g.F.Store.write_faults c.run_named-ran.new.files) c.args.dev.now c.run_named-ran.new.dev) c.in-Ok.is c.run_named-ran.ensures.cause).1
    c.run_named-ran.ensures.within c.answer_run.ensures.small
    (texts_named front quantum machine budget turns (Ok c.in-Ok.finish) (contents g.I.Source.left g.O.Sink.written g.E.Sink.written c.args.dev.now) (contents g.I.Source.left g.O.Sink.written g.E.Sink.written c.run_named-ran.new.dev) (stored_of g.F.Store.files g.F.Store.created g.F.Store.loads g.F.Store.turned_away g.F.Store.write_faults c.args.files.now) (stored_of g.F.Store.files g.F.Store.created g.F.Store.loads g.F.Store.turned_away g.F.Store.write_faults c.run_named-ran.new.files) (option_copied c.word_of.result) names.trace (option_copied c.word_of-2.result) names.native (option_copied c.word_of-3.result) names.journal (trace_is ∙ sym traced) (native_is ∙ sym logged) (journal_is ∙ sym kept)
    (subst (λ (text : List ℕ). WritesTexts (option_copied c.word_of.result) (option_copied c.word_of-2.result) (option_copied c.word_of-3.result) text quantum machine budget turns (Ok c.in-Ok.finish) (contents g.I.Source.left g.O.Sink.written g.E.Sink.written c.args.dev.now) (contents g.I.Source.left g.O.Sink.written g.E.Sink.written c.run_named-ran.new.dev) (stored_of g.F.Store.files g.F.Store.created g.F.Store.loads g.F.Store.turned_away g.F.Store.write_faults c.args.files.now) (stored_of g.F.Store.files g.F.Store.created g.F.Store.loads g.F.Store.turned_away g.F.Store.write_faults c.run_named-ran.new.files)) front_is
    (subst (λ (e : Result Finish Stop). WritesTexts (option_copied c.word_of.result) (option_copied c.word_of-2.result) (option_copied c.word_of-3.result) c.as_slice.result.now quantum machine budget turns e (contents g.I.Source.left g.O.Sink.written g.E.Sink.written c.args.dev.now) (contents g.I.Source.left g.O.Sink.written g.E.Sink.written c.run_named-ran.new.dev) (stored_of g.F.Store.files g.F.Store.created g.F.Store.loads g.F.Store.turned_away g.F.Store.write_faults c.args.files.now) (stored_of g.F.Store.files g.F.Store.created g.F.Store.loads g.F.Store.turned_away g.F.Store.write_faults c.run_named-ran.new.files)) c.in-Ok.is c.run_named-ran.ensures.texts)))
    (subst (λ (e : Result Finish Stop). IfOk e (λ finish. c.run_named-ran.new.emulator.turns ≡ turns)) c.in-Ok.is c.run_named-ran.ensures.turns)
    (subst (λ (e : Result Finish Stop). RunsAs quantum machine budget turns e (contents g.I.Source.left g.O.Sink.written g.E.Sink.written c.args.dev.now) (contents g.I.Source.left g.O.Sink.written g.E.Sink.written c.run_named-ran.new.dev) c.run_named-ran.new.emulator.machine) c.in-Ok.is c.run_named-ran.ensures.run)
    c.run_named-ran.ensures.quantum
    (λ left told.
    keeps_named (texts c.args.words.now) names c.args.ready.emulator c.run_named-ran.new.emulator c.args.ready.native c.args.ready.journal c.requires.log c.requires.records logged kept
    (subst (λ (e : Result Finish Stop). IfOk e (λ finish. KeepsTexts c.args.ready.emulator c.run_named-ran.new.emulator)) c.in-Ok.is (c.run_named-ran.ensures.keeps left told)))
    (λ left told. subst (λ (e : Result Finish Stop). IfOk e (λ finish. c.run_named-ran.new.emulator.over ≡ no_turn_follows finish)) c.in-Ok.is (c.run_named-ran.ensures.over left told))
    c.answer_run.ensures.answer

pub returns-in-Err-clause-run : goal.returns-in-Err-clause-run
returns-in-Err-clause-run g c = λ names named traced logged kept.
    let quantum = c.args.ready.emulator.quantum in
    let machine = c.args.ready.emulator.machine in
    let budget = c.args.ready.budget in
    let turns = c.run_named-ran.result.turns in
    let trace_is = c.word_of.ensures in
    let native_is = c.word_of-2.ensures in
    let journal_is = c.word_of-3.ensures in
    let front = c.args.ready.front.items in
    let front_is = c.as_slice.ensures.value in
    let old = (seen_of g.I.Source.left g.O.Sink.written g.E.Sink.written g.I.Source.faults g.O.Sink.faults g.E.Sink.faults c.args.dev.now (g.F.Store.load_faults c.args.files.now) (stored_of g.F.Store.files g.F.Store.created g.F.Store.loads g.F.Store.turned_away g.F.Store.write_faults c.args.files.now)) in
    let new = (seen_of g.I.Source.left g.O.Sink.written g.E.Sink.written g.I.Source.faults g.O.Sink.faults g.E.Sink.faults c.run_named-ran.new.dev (g.F.Store.load_faults c.run_named-ran.new.files) (stored_of g.F.Store.files g.F.Store.created g.F.Store.loads g.F.Store.turned_away g.F.Store.write_faults c.run_named-ran.new.files)) in
    let answer = c.answer_of.result in
    let cause = subst (λ (e : Result Finish Stop). StopsOnlyIfAnyRose {T = Finish} g.I.Source.faults g.O.Sink.faults g.E.Sink.faults e (g.F.Store.write_faults c.args.files.now) (g.F.Store.write_faults c.run_named-ran.new.files) c.args.dev.now c.run_named-ran.new.dev) c.in-Err.is c.run_named-ran.ensures.cause in
    subst (λ (n : ℕ). Answers (Run quantum machine budget front) names old new n answer.end answer.host) (sym c.answer_of.ensures.turns)
    (subst (λ (e : End). Answers (Run quantum machine budget front) names old new turns e answer.host) (sym (c.answer_of.ensures.end ∙ c.from.ensures))
    (cut_answer quantum machine budget turns front names c.in-Err.stop old new c.run_named-ran.new.emulator.machine answer.host
    c.run_named-ran.ensures.within
    (λ none unkept. subst (λ (e : Result Finish Stop). WithinBudget e turns budget) c.in-Err.is (c.run_named-ran.ensures.early (trace_is ∙ (sym traced ∙ none)) (journal_is ∙ (sym kept ∙ unkept))))
    (subst (λ (e : Result Finish Stop). StopsBehind e turns budget (g.F.Store.write_faults c.args.files.now) (g.F.Store.write_faults c.run_named-ran.new.files)) c.in-Err.is c.run_named-ran.ensures.behind)
    (texts_named front quantum machine budget turns (Err c.in-Err.stop) (contents g.I.Source.left g.O.Sink.written g.E.Sink.written c.args.dev.now) (contents g.I.Source.left g.O.Sink.written g.E.Sink.written c.run_named-ran.new.dev) (stored_of g.F.Store.files g.F.Store.created g.F.Store.loads g.F.Store.turned_away g.F.Store.write_faults c.args.files.now) (stored_of g.F.Store.files g.F.Store.created g.F.Store.loads g.F.Store.turned_away g.F.Store.write_faults c.run_named-ran.new.files) (option_copied c.word_of.result) names.trace (option_copied c.word_of-2.result) names.native (option_copied c.word_of-3.result) names.journal (trace_is ∙ sym traced) (native_is ∙ sym logged) (journal_is ∙ sym kept)
    (subst (λ (text : List ℕ). WritesTexts (option_copied c.word_of.result) (option_copied c.word_of-2.result) (option_copied c.word_of-3.result) text quantum machine budget turns (Err c.in-Err.stop) (contents g.I.Source.left g.O.Sink.written g.E.Sink.written c.args.dev.now) (contents g.I.Source.left g.O.Sink.written g.E.Sink.written c.run_named-ran.new.dev) (stored_of g.F.Store.files g.F.Store.created g.F.Store.loads g.F.Store.turned_away g.F.Store.write_faults c.args.files.now) (stored_of g.F.Store.files g.F.Store.created g.F.Store.loads g.F.Store.turned_away g.F.Store.write_faults c.run_named-ran.new.files)) front_is
    (subst (λ (e : Result Finish Stop). WritesTexts (option_copied c.word_of.result) (option_copied c.word_of-2.result) (option_copied c.word_of-3.result) c.as_slice.result.now quantum machine budget turns e (contents g.I.Source.left g.O.Sink.written g.E.Sink.written c.args.dev.now) (contents g.I.Source.left g.O.Sink.written g.E.Sink.written c.run_named-ran.new.dev) (stored_of g.F.Store.files g.F.Store.created g.F.Store.loads g.F.Store.turned_away g.F.Store.write_faults c.args.files.now) (stored_of g.F.Store.files g.F.Store.created g.F.Store.loads g.F.Store.turned_away g.F.Store.write_faults c.run_named-ran.new.files)) c.in-Err.is c.run_named-ran.ensures.texts)))
    (subst (λ (e : Result Finish Stop). RunsAs quantum machine budget turns e (contents g.I.Source.left g.O.Sink.written g.E.Sink.written c.args.dev.now) (contents g.I.Source.left g.O.Sink.written g.E.Sink.written c.run_named-ran.new.dev) c.run_named-ran.new.emulator.machine) c.in-Err.is c.run_named-ran.ensures.run)
    (read_cause g.I.Source.faults g.O.Sink.faults g.E.Sink.faults c.in-Err.stop (g.F.Store.write_faults c.args.files.now) (g.F.Store.write_faults c.run_named-ran.new.files) c.args.dev.now c.run_named-ran.new.dev cause)
    (write_cause g.I.Source.faults g.O.Sink.faults g.E.Sink.faults c.in-Err.stop (g.F.Store.write_faults c.args.files.now) (g.F.Store.write_faults c.run_named-ran.new.files) c.args.dev.now c.run_named-ran.new.dev cause)))

pub returns-in-Ok-clause-faults : goal.returns-in-Ok-clause-faults
returns-in-Ok-clause-faults g c =
    let none = subst (λ (e : Result Finish Stop). StopsOnlyIfAnyRose {T = Finish} g.I.Source.faults g.O.Sink.faults g.E.Sink.faults e (g.F.Store.write_faults c.args.files.now) (g.F.Store.write_faults c.run_named-ran.new.files) c.args.dev.now c.run_named-ran.new.dev) c.in-Ok.is c.run_named-ran.ensures.cause in
    let old = (seen_of g.I.Source.left g.O.Sink.written g.E.Sink.written g.I.Source.faults g.O.Sink.faults g.E.Sink.faults c.args.dev.now (g.F.Store.load_faults c.args.files.now) (stored_of g.F.Store.files g.F.Store.created g.F.Store.loads g.F.Store.turned_away g.F.Store.write_faults c.args.files.now)) in
    let middle = record old { store = (stored_of g.F.Store.files g.F.Store.created g.F.Store.loads g.F.Store.turned_away g.F.Store.write_faults c.run_named-ran.new.files) } in
    let new = (seen_of g.I.Source.left g.O.Sink.written g.E.Sink.written g.I.Source.faults g.O.Sink.faults g.E.Sink.faults c.run_named-ran.new.dev (g.F.Store.load_faults c.answer_run.new.files) (stored_of g.F.Store.files g.F.Store.created g.F.Store.loads g.F.Store.turned_away g.F.Store.write_faults c.answer_run.new.files)) in
    tells_since c.answer_run.result.end old middle new (record { reads = refl; outs = refl; errs = refl; loads = refl; writes = none.1 })
    (run_faults (option_map (word_at (texts c.args.words.now)) c.args.ready.save) c.run_named-ran.new.emulator c.in-Ok.finish c.answer_run.result middle new
    c.answer_run.ensures.answer none.0.input_stays none.0.out_stays none.0.err_stays (c.answer_run.ensures.loads ∙ c.run_named-ran.ensures.loads))

pub returns-in-Err-clause-faults : goal.returns-in-Err-clause-faults
returns-in-Err-clause-faults g c =
    let old = (seen_of g.I.Source.left g.O.Sink.written g.E.Sink.written g.I.Source.faults g.O.Sink.faults g.E.Sink.faults c.args.dev.now (g.F.Store.load_faults c.args.files.now) (stored_of g.F.Store.files g.F.Store.created g.F.Store.loads g.F.Store.turned_away g.F.Store.write_faults c.args.files.now)) in
    let new = (seen_of g.I.Source.left g.O.Sink.written g.E.Sink.written g.I.Source.faults g.O.Sink.faults g.E.Sink.faults c.run_named-ran.new.dev (g.F.Store.load_faults c.run_named-ran.new.files) (stored_of g.F.Store.files g.F.Store.created g.F.Store.loads g.F.Store.turned_away g.F.Store.write_faults c.run_named-ran.new.files)) in
    let cause = subst (λ (e : Result Finish Stop). StopsOnlyIfAnyRose {T = Finish} g.I.Source.faults g.O.Sink.faults g.E.Sink.faults e (g.F.Store.write_faults c.args.files.now) (g.F.Store.write_faults c.run_named-ran.new.files) c.args.dev.now c.run_named-ran.new.dev) c.in-Err.is c.run_named-ran.ensures.cause in
    subst (λ (e : End). TellsFaults e old new) (sym (c.answer_of.ensures.end ∙ c.from.ensures))
    (cut_faults g.I.Source.left g.O.Sink.written g.E.Sink.written g.I.Source.faults g.O.Sink.faults g.E.Sink.faults c.args.dev.now c.run_named-ran.new.dev (g.F.Store.load_faults c.args.files.now) (g.F.Store.load_faults c.run_named-ran.new.files) (stored_of g.F.Store.files g.F.Store.created g.F.Store.loads g.F.Store.turned_away g.F.Store.write_faults c.args.files.now) (stored_of g.F.Store.files g.F.Store.created g.F.Store.loads g.F.Store.turned_away g.F.Store.write_faults c.run_named-ran.new.files) c.in-Err.stop c.run_named-ran.ensures.loads cause)

use Rattle.std.proofs.Common.{◌≡◌, ℕ, Err, ap, subst}
use Rattle.std.proofs.lemmas.Result.{err_from_is_err_and}
use Rattle.stored_files.specs.Stored.{Stored, stored_of}
use Rattle.session_files.specs.Inputs.{Bytes, IsFound, journal_limit}
use Rattle.session_files.specs.Steps.{IsLoaded}
use Rattle.session_words.specs.Read.{replay_line_seen}
use Rattle.session_files.specs.declared.load.SessionFile.TheVariants as which
use Rattle.session_files.proofs.Loading.{program_is}
use Rattle.session_replay.proofs.Repeating.{all_loads, both_loaded, journal_loads, no_journal, no_plan, plan_loads}
use Rattle.session_replay.proofs.replay.load_both.Goals as goal

pub returns-in_err-plan-clause-loaded : goal.returns-in_err-plan-clause-loaded
returns-in_err-plan-clause-loaded g c =
    let p = err_from_is_err_and c.from_residual.result c.from_residual.ensures.1 in
    rw (p.1, p.2) (no_plan (replay_line_seen c.args.line) (g.F.Store.files c.args.files.now) c.in_err-plan.field-0.0 c.in_err-plan.ensures.plan)

pub returns-in_err-plan-clause-loads : goal.returns-in_err-plan-clause-loads
returns-in_err-plan-clause-loads g c =
    let p = err_from_is_err_and c.from_residual.result c.from_residual.ensures.1 in
    let old = stored_of g.F.Store.files g.F.Store.created g.F.Store.loads g.F.Store.turned_away g.F.Store.write_faults c.args.files.now in
    let new = stored_of g.F.Store.files g.F.Store.created g.F.Store.loads g.F.Store.turned_away g.F.Store.write_faults c.load_plan.new.files in
    rw (p.1, p.2) (plan_loads (g.F.Store.files c.args.files.now) (replay_line_seen c.args.line) c.in_err-plan.field-0.0 old new c.in_err-plan.ensures.plan c.in_err-plan.ensures.loads)

pub returns-in_err-bytes-clause-loaded : goal.returns-in_err-bytes-clause-loaded
returns-in_err-bytes-clause-loaded g c =
    let p = err_from_is_err_and c.from_residual-in_err-bytes.result c.from_residual-in_err-bytes.ensures.1 in
    let same : g.F.Store.files c.load_plan.new.files ≡ g.F.Store.files c.args.files.now = ap (λ (s : Stored). s.files) c.in_ok-plan.ensures.loads in
    rw (p.1, p.2) (no_journal (replay_line_seen c.args.line) (g.F.Store.files c.args.files.now) c.in_ok-plan.plan c.in_err-bytes.field-0.0 c.in_ok-plan.ensures.plan
    (subst (λ f. IsLoaded {A = ℕ} f which.Journal c.args.line.journal.now (Err c.in_err-bytes.field-0.0)) same c.in_err-bytes.ensures.bytes))

pub returns-in_err-bytes-clause-loads : goal.returns-in_err-bytes-clause-loads
returns-in_err-bytes-clause-loads g c =
    let p = err_from_is_err_and c.from_residual-in_err-bytes.result c.from_residual-in_err-bytes.ensures.1 in
    let old = stored_of g.F.Store.files g.F.Store.created g.F.Store.loads g.F.Store.turned_away g.F.Store.write_faults c.args.files.now in
    let middle = stored_of g.F.Store.files g.F.Store.created g.F.Store.loads g.F.Store.turned_away g.F.Store.write_faults c.load_plan.new.files in
    let new = stored_of g.F.Store.files g.F.Store.created g.F.Store.loads g.F.Store.turned_away g.F.Store.write_faults c.load_file.new.files in
    rw (p.1, p.2) (journal_loads (g.F.Store.files c.load_plan.new.files) (replay_line_seen c.args.line) c.in_err-bytes.field-0.0 old middle new
    (program_is (g.F.Store.files c.args.files.now) c.args.line.program.now c.in_ok-plan.plan c.in_ok-plan.ensures.plan) c.in_err-bytes.ensures.bytes c.in_ok-plan.ensures.loads
    c.in_err-bytes.ensures.loads)

pub returns-clause-loaded : goal.returns-clause-loaded
returns-clause-loaded g c =
    let same : g.F.Store.files c.load_plan.new.files ≡ g.F.Store.files c.args.files.now = ap (λ (s : Stored). s.files) c.in_ok-plan.ensures.loads in
    both_loaded (replay_line_seen c.args.line) (g.F.Store.files c.args.files.now) c.in_ok-plan.plan c.in_ok-bytes.bytes.items c.in_ok-plan.ensures.plan
    (subst (λ f. IsFound f journal_limit c.args.line.journal.now (Bytes c.in_ok-bytes.bytes.items)) same c.in_ok-bytes.ensures.bytes)

pub returns-clause-loads : goal.returns-clause-loads
returns-clause-loads g c =
    let old = stored_of g.F.Store.files g.F.Store.created g.F.Store.loads g.F.Store.turned_away g.F.Store.write_faults c.args.files.now in
    let middle = stored_of g.F.Store.files g.F.Store.created g.F.Store.loads g.F.Store.turned_away g.F.Store.write_faults c.load_plan.new.files in
    let new = stored_of g.F.Store.files g.F.Store.created g.F.Store.loads g.F.Store.turned_away g.F.Store.write_faults c.load_file.new.files in
    all_loads (replay_line_seen c.args.line) old middle new c.in_ok-plan.ensures.loads c.in_ok-bytes.ensures.loads

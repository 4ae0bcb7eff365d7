use Rattle.std.proofs.Common.{◌≡◌, [], ◌∷◌, Some, Ok, Err, ap, subst, ◌∙◌}
use Rattle.std.proofs.lemmas.Result.{err_from_is_err_and}
use Rattle.elf_image.specs.declared.load_plan.Plan.{Plan}
use Rattle.session_words.specs.Read.{line_seen}
use Rattle.session_words.specs.Words.{texts}
use Rattle.session_files.specs.Inputs.{names_of}
use Rattle.session_files.specs.Saved.{after_loads}
use Rattle.session_files.specs.Steps.{IsPlanned, IsScheduledAs, IsTree, LoadsFile}
use Rattle.session_files.specs.declared.inputs.Inputs.{Inputs}
use Rattle.session_files.specs.declared.load.SessionFile.TheVariants as which
use Rattle.stored_files.specs.Stored.{Stored, stored_of}
use Rattle.session_files.proofs.AllInputs.{no_plan, no_schedule, no_tree}
use Rattle.session_files.proofs.Loading.{all_loaded, image_loads, program_is, program_loads, schedule_loads}
use Rattle.session_files.proofs.inputs.load_inputs.Goals as goal

pub returns-in_err-plan-clause-inputs : goal.returns-in_err-plan-clause-inputs
returns-in_err-plan-clause-inputs g c =
    let p = err_from_is_err_and c.from_residual.result c.from_residual.ensures.1 in
    let names = names_of (texts c.args.words.now) (line_seen c.args.line.now) in
    let reason = c.in_err-plan.field-0.0 in
    rw (p.1, p.2) (no_plan (g.F.Store.files c.args.files.now) names reason
    (subst (λ n. IsPlanned (g.F.Store.files c.args.files.now) n (Err reason)) c.word_at.ensures c.in_err-plan.ensures.plan))

pub returns-in_err-tree-clause-inputs : goal.returns-in_err-tree-clause-inputs
returns-in_err-tree-clause-inputs g c =
    let p = err_from_is_err_and c.from_residual-in_err-tree.result c.from_residual-in_err-tree.ensures.1 in
    let names = names_of (texts c.args.words.now) (line_seen c.args.line.now) in
    let reason = c.in_err-tree.field-0.0 in
    let same : g.F.Store.files c.load_plan.new.files ≡ g.F.Store.files c.args.files.now = ap (λ (s : Stored). s.files) c.in_ok-plan.ensures.loads in
    rw (p.1, p.2) (no_tree (g.F.Store.files c.args.files.now) names c.in_ok-plan.plan reason
    (subst (λ n. IsPlanned (g.F.Store.files c.args.files.now) n (Ok c.in_ok-plan.plan)) c.word_at.ensures c.in_ok-plan.ensures.plan)
    (subst (λ f. IsTree f names.image (Err reason)) same c.in_err-tree.ensures.tree))

pub returns-in_err-schedule-clause-inputs : goal.returns-in_err-schedule-clause-inputs
returns-in_err-schedule-clause-inputs g c =
    let p = err_from_is_err_and c.from_residual-in_err-schedule.result c.from_residual-in_err-schedule.ensures.1 in
    let names = names_of (texts c.args.words.now) (line_seen c.args.line.now) in
    let reason = c.in_err-schedule.field-0.0 in
    let same : g.F.Store.files c.load_plan.new.files ≡ g.F.Store.files c.args.files.now = ap (λ (s : Stored). s.files) c.in_ok-plan.ensures.loads in
    let same_too : g.F.Store.files c.first_tree.new.files ≡ g.F.Store.files c.load_plan.new.files = ap (λ (s : Stored). s.files) c.in_ok-tree.ensures.loads in
    rw (p.1, p.2) (no_schedule (g.F.Store.files c.args.files.now) names c.in_ok-plan.plan c.in_ok-tree.tree reason
    (subst (λ n. IsPlanned (g.F.Store.files c.args.files.now) n (Ok c.in_ok-plan.plan)) c.word_at.ensures c.in_ok-plan.ensures.plan)
    (subst (λ f. IsTree f names.image (Ok c.in_ok-tree.tree)) same c.in_ok-tree.ensures.tree)
    (subst (λ f. IsScheduledAs f names.schedule (Err reason)) (same_too ∙ same) c.in_err-schedule.ensures.scheduled))

pub returns-clause-inputs : goal.returns-clause-inputs
returns-clause-inputs g c =
    let names = names_of (texts c.args.words.now) (line_seen c.args.line.now) in
    let same : g.F.Store.files c.load_plan.new.files ≡ g.F.Store.files c.args.files.now = ap (λ (s : Stored). s.files) c.in_ok-plan.ensures.loads in
    let same_too : g.F.Store.files c.first_tree.new.files ≡ g.F.Store.files c.load_plan.new.files = ap (λ (s : Stored). s.files) c.in_ok-tree.ensures.loads in
    record {
      plan = subst (λ n. IsPlanned (g.F.Store.files c.args.files.now) n (Ok c.in_ok-plan.plan)) c.word_at.ensures c.in_ok-plan.ensures.plan;
      tree = (subst (λ f. IsTree f names.image (Ok c.in_ok-tree.tree)) same c.in_ok-tree.ensures.tree).0;
      schedule = subst (λ f. IsScheduledAs f names.schedule (Ok c.in_ok-schedule.schedule)) (same_too ∙ same) c.in_ok-schedule.ensures.scheduled;
    }

pub returns-clause-plan : goal.returns-clause-plan
returns-clause-plan g c = c.in_ok-plan.ensures.plan.valid

pub returns-clause-tree : goal.returns-clause-tree
returns-clause-tree g c = c.in_ok-tree.ensures.tree.1

pub returns-in_err-plan-clause-loads : goal.returns-in_err-plan-clause-loads
returns-in_err-plan-clause-loads g c =
    let p = err_from_is_err_and c.from_residual.result c.from_residual.ensures.1 in
    let names = names_of (texts c.args.words.now) (line_seen c.args.line.now) in
    let old = stored_of g.F.Store.files g.F.Store.created g.F.Store.loads g.F.Store.turned_away g.F.Store.write_faults c.args.files.now in
    let new = stored_of g.F.Store.files g.F.Store.created g.F.Store.loads g.F.Store.turned_away g.F.Store.write_faults c.load_plan.new.files in
    let reason = c.in_err-plan.field-0.0 in
    rw (p.1, p.2) (program_loads Inputs (g.F.Store.files c.args.files.now) names reason old new
    (subst (λ n. IsPlanned (g.F.Store.files c.args.files.now) n (Err reason)) c.word_at.ensures c.in_err-plan.ensures.plan)
    (subst (λ n. LoadsFile {T = Plan} which.Program (Some n) (Err reason) old new) c.word_at.ensures c.in_err-plan.ensures.loads))

pub returns-in_err-tree-clause-loads : goal.returns-in_err-tree-clause-loads
returns-in_err-tree-clause-loads g c =
    let p = err_from_is_err_and c.from_residual-in_err-tree.result c.from_residual-in_err-tree.ensures.1 in
    let names = names_of (texts c.args.words.now) (line_seen c.args.line.now) in
    let old = stored_of g.F.Store.files g.F.Store.created g.F.Store.loads g.F.Store.turned_away g.F.Store.write_faults c.args.files.now in
    let first = stored_of g.F.Store.files g.F.Store.created g.F.Store.loads g.F.Store.turned_away g.F.Store.write_faults c.load_plan.new.files in
    let new = stored_of g.F.Store.files g.F.Store.created g.F.Store.loads g.F.Store.turned_away g.F.Store.write_faults c.first_tree.new.files in
    let reason = c.in_err-tree.field-0.0 in
    let same : g.F.Store.files c.load_plan.new.files ≡ g.F.Store.files c.args.files.now = ap (λ (s : Stored). s.files) c.in_ok-plan.ensures.loads in
    rw (p.1, p.2) (image_loads Inputs (g.F.Store.files c.args.files.now) names reason old first new
    (program_is (g.F.Store.files c.args.files.now) names.program c.in_ok-plan.plan
    (subst (λ n. IsPlanned (g.F.Store.files c.args.files.now) n (Ok c.in_ok-plan.plan)) c.word_at.ensures c.in_ok-plan.ensures.plan))
    (subst (λ f. IsTree f names.image (Err reason)) same c.in_err-tree.ensures.tree)
    (subst (λ n. first ≡ after_loads old (n ∷ []) []) c.word_at.ensures c.in_ok-plan.ensures.loads) c.in_err-tree.ensures.loads)

pub returns-in_err-schedule-clause-loads : goal.returns-in_err-schedule-clause-loads
returns-in_err-schedule-clause-loads g c =
    let p = err_from_is_err_and c.from_residual-in_err-schedule.result c.from_residual-in_err-schedule.ensures.1 in
    let names = names_of (texts c.args.words.now) (line_seen c.args.line.now) in
    let old = stored_of g.F.Store.files g.F.Store.created g.F.Store.loads g.F.Store.turned_away g.F.Store.write_faults c.args.files.now in
    let first = stored_of g.F.Store.files g.F.Store.created g.F.Store.loads g.F.Store.turned_away g.F.Store.write_faults c.load_plan.new.files in
    let second = stored_of g.F.Store.files g.F.Store.created g.F.Store.loads g.F.Store.turned_away g.F.Store.write_faults c.first_tree.new.files in
    let new = stored_of g.F.Store.files g.F.Store.created g.F.Store.loads g.F.Store.turned_away g.F.Store.write_faults c.run_schedule.new.files in
    let reason = c.in_err-schedule.field-0.0 in
    let same : g.F.Store.files c.load_plan.new.files ≡ g.F.Store.files c.args.files.now = ap (λ (s : Stored). s.files) c.in_ok-plan.ensures.loads in
    let same_too : g.F.Store.files c.first_tree.new.files ≡ g.F.Store.files c.load_plan.new.files = ap (λ (s : Stored). s.files) c.in_ok-tree.ensures.loads in
    rw (p.1, p.2) (schedule_loads Inputs (g.F.Store.files c.args.files.now) names reason old first second new
    (program_is (g.F.Store.files c.args.files.now) names.program c.in_ok-plan.plan
    (subst (λ n. IsPlanned (g.F.Store.files c.args.files.now) n (Ok c.in_ok-plan.plan)) c.word_at.ensures c.in_ok-plan.ensures.plan))
    (c.in_ok-tree.tree, (subst (λ f. IsTree f names.image (Ok c.in_ok-tree.tree)) same c.in_ok-tree.ensures.tree).0)
    (subst (λ f. IsScheduledAs f names.schedule (Err reason)) (same_too ∙ same) c.in_err-schedule.ensures.scheduled)
    (subst (λ n. first ≡ after_loads old (n ∷ []) []) c.word_at.ensures c.in_ok-plan.ensures.loads) c.in_ok-tree.ensures.loads c.in_err-schedule.ensures.loads)

pub returns-clause-loads : goal.returns-clause-loads
returns-clause-loads g c =
    let names = names_of (texts c.args.words.now) (line_seen c.args.line.now) in
    let old = stored_of g.F.Store.files g.F.Store.created g.F.Store.loads g.F.Store.turned_away g.F.Store.write_faults c.args.files.now in
    let first = stored_of g.F.Store.files g.F.Store.created g.F.Store.loads g.F.Store.turned_away g.F.Store.write_faults c.load_plan.new.files in
    let second = stored_of g.F.Store.files g.F.Store.created g.F.Store.loads g.F.Store.turned_away g.F.Store.write_faults c.first_tree.new.files in
    let new = stored_of g.F.Store.files g.F.Store.created g.F.Store.loads g.F.Store.turned_away g.F.Store.write_faults c.run_schedule.new.files in
    all_loaded names old first second new
    (subst (λ n. first ≡ after_loads old (n ∷ []) []) c.word_at.ensures c.in_ok-plan.ensures.loads) c.in_ok-tree.ensures.loads c.in_ok-schedule.ensures.loads

use Rattle.std.proofs.lemmas.Result.{err_from_is_err_and}
use Rattle.stored_files.specs.Stored.{stored_of}
use Rattle.session_files.specs.Inputs.{names_of}
use Rattle.session_files.proofs.AllInputs.{in_order}
use Rattle.session_words.specs.Read.{line_seen}
use Rattle.o32_session.specs.Asked.{asked_of_schedule}
use Rattle.o32_session.specs.Words.{texts}
use Rattle.o32_session.proofs.Loading.{loads, not_loaded}
use Rattle.o32_session.proofs.Preparing.{prepared, unready_line}
use Rattle.o32_session.proofs.prepare.prepare_line.Goals as goal

pub returns-in_err-inputs-clause-prepared : goal.returns-in_err-inputs-clause-prepared
returns-in_err-inputs-clause-prepared g c =
    let p = err_from_is_err_and c.from_residual.result c.from_residual.ensures.1 in
    rw (p.1, p.2) (unready_line (texts c.args.words.now) (line_seen c.args.line) (g.F.Store.files c.args.files.now) c.in_err-inputs.field-0.0 c.in_err-inputs.ensures.inputs)

pub returns-clause-prepared : goal.returns-clause-prepared
returns-clause-prepared g c =
    prepared (texts c.args.words.now) (line_seen c.args.line) (g.F.Store.files c.args.files.now) c.in_ok-inputs.inputs (texts c.arguments.result.now) c.arguments.ensures.words
    c.in_ok-inputs.ensures.inputs c.machine_of_plan.result c.machine_of_plan.ensures.ready c.machine_of_plan.ensures.save c.machine_of_plan.ensures.trace c.machine_of_plan.ensures.native
    c.machine_of_plan.ensures.journal c.machine_of_plan.ensures.reason

pub returns-in_err-inputs-clause-loads : goal.returns-in_err-inputs-clause-loads
returns-in_err-inputs-clause-loads g c =
    let p = err_from_is_err_and c.from_residual.result c.from_residual.ensures.1 in
    let old = stored_of g.F.Store.files g.F.Store.created g.F.Store.loads g.F.Store.turned_away g.F.Store.write_faults c.args.files.now in
    let new = stored_of g.F.Store.files g.F.Store.created g.F.Store.loads g.F.Store.turned_away g.F.Store.write_faults c.load_inputs.new.files in
    rw (p.1, p.2) (not_loaded (names_of (texts c.args.words.now) (line_seen c.args.line)) c.in_err-inputs.field-0.0 old new c.in_err-inputs.ensures.loads)

pub returns-clause-loads : goal.returns-clause-loads
returns-clause-loads g c =
    let names = names_of (texts c.args.words.now) (line_seen c.args.line) in
    let inputs = c.in_ok-inputs.inputs in
    let old = stored_of g.F.Store.files g.F.Store.created g.F.Store.loads g.F.Store.turned_away g.F.Store.write_faults c.args.files.now in
    let new = stored_of g.F.Store.files g.F.Store.created g.F.Store.loads g.F.Store.turned_away g.F.Store.write_faults c.load_inputs.new.files in
    loads names (asked_of_schedule (texts c.arguments.result.now) (line_seen c.args.line) inputs.plan inputs.tree inputs.schedule) c.machine_of_plan.result old new
    (in_order (g.F.Store.files c.args.files.now) names inputs c.in_ok-inputs.ensures.inputs) c.in_ok-inputs.ensures.loads c.machine_of_plan.ensures.reason

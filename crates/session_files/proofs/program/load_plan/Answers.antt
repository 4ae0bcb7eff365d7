use Rattle.std.proofs.Common.{subst, sym}
use Rattle.std.proofs.lemmas.Result.{err_from_is_err_and}
use Rattle.session_files.specs.Inputs.{IsFound, Bytes, program_limit}
use Rattle.session_files.proofs.Programs.{planned, unplanned}
use Rattle.session_files.proofs.program.load_plan.Goals as goal

pub returns-clause-plan : goal.returns-clause-plan
returns-clause-plan g c =
    planned (g.F.Store.files c.args.files.now) c.args.name.now c.deref.result.now
    (subst (λ b. IsFound (g.F.Store.files c.args.files.now) program_limit c.args.name.now (Bytes b)) (sym c.deref.ensures.value)
    c.in_ok-bytes.ensures.bytes)
    c.plan_of_file.result c.plan_of_file.ensures.plan c.plan_of_file.ensures.reason

pub returns-in_err-bytes-clause-plan : goal.returns-in_err-bytes-clause-plan
returns-in_err-bytes-clause-plan g c =
    let p = err_from_is_err_and c.from_residual.result c.from_residual.ensures.1 in
    rw (p.1, p.2) (unplanned (g.F.Store.files c.args.files.now) c.args.name.now c.in_err-bytes.field-0.0 c.in_err-bytes.ensures.bytes)

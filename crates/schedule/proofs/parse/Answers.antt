use Rattle.std.proofs.lemmas.Result.{err_from_is_err_and}
use Rattle.schedule.proofs.FirstFault.{IsSchedule-given, IsFirstFault-given}
use Rattle.schedule.proofs.InRange.{in_range-whole, given-whole}
use Rattle.schedule.proofs.InTurn.{Gives-error, Gives-whole, in_order-whole}
use Rattle.schedule.proofs.parse.Goals as goal

pub returns-in_err-draft-clause-exact : goal.returns-in_err-draft-clause-exact
returns-in_err-draft-clause-exact c =
    let exit = err_from_is_err_and c.from_residual.result c.from_residual.ensures.1 in
    rw (exit.1, exit.2) (Gives-error c.args.text.now c.in_err-draft.field-0.0 c.in_err-draft.ensures)

pub returns-clause-exact : goal.returns-clause-exact
returns-clause-exact c =
    Gives-whole c.args.text.now c.in_ok-draft.draft c.finish.result c.in_ok-draft.ensures c.finish.ensures.ok c.finish.ensures.err

pub returns-clause-ordered : goal.returns-clause-ordered
returns-clause-ordered c =
    in_order-whole c.args.text.now c.in_ok-draft.draft c.finish.result c.in_ok-draft.ensures c.finish.ensures.ok

pub returns-in_err-draft-clause-refused : goal.returns-in_err-draft-clause-refused
returns-in_err-draft-clause-refused c = IsFirstFault-given c.args.text.now c.from_residual.result (returns-in_err-draft-clause-exact c)

pub returns-clause-accepted : goal.returns-clause-accepted
returns-clause-accepted c = IsSchedule-given c.args.text.now c.finish.result (returns-clause-exact c)

pub returns-clause-refused : goal.returns-clause-refused
returns-clause-refused c = IsFirstFault-given c.args.text.now c.finish.result (returns-clause-exact c)

pub returns-clause-ranges : goal.returns-clause-ranges
returns-clause-ranges c =
    in_range-whole c.args.text.now c.in_ok-draft.draft c.finish.result c.in_ok-draft.ensures c.finish.ensures.ok

pub returns-clause-given : goal.returns-clause-given
returns-clause-given c =
    given-whole c.args.text.now c.in_ok-draft.draft c.finish.result c.in_ok-draft.ensures c.finish.ensures.ok

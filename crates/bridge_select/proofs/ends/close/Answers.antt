use Rattle.bridge_limits.specs.Limits.{left_form}
use Rattle.bridge_select.proofs.Ending.{accepted_closed, due_closed}
use Rattle.bridge_select.proofs.ends.close.Goals as goal

pub returns-in-Due-clause-ends : goal.returns-in-Due-clause-ends
returns-in-Due-clause-ends c =
    due_closed c.store_empty.result (left_form c.args.at) c.args.wait.now c.args.cause c.args.clock c.args.space.now c.store_empty.new.space c.in-Due.is c.store_empty.ensures.ends

pub returns-in-Accepted-clause-ends : goal.returns-in-Accepted-clause-ends
returns-in-Accepted-clause-ends c =
    accepted_closed c.store_empty-in-Accepted.result (left_form c.args.at) c.args.wait.now c.args.cause c.args.clock c.args.space.now c.store_empty-in-Accepted.new.space c.in-Accepted.is c.store_empty-in-Accepted.ensures.ends

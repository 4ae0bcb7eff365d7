use Rattle.bridge_select.proofs.Told.{ready_told}
use Rattle.bridge_select.specs.inside.Requests.{asked_of}
use Rattle.bridge_select.proofs.telling.store_found.Goals as goal

pub returns-in-Value-clause-ends : goal.returns-in-Value-clause-ends
returns-in-Value-clause-ends c = λ words came found shows.
    ready_told c.store_ready.result c.args.space.now c.store_ready.new.space (asked_of c.args.asked) c.args.places c.args.mem.now words c.in-Value.number c.args.found came c.in-Value.is found shows c.store_ready.ensures.ends

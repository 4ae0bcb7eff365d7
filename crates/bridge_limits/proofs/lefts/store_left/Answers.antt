-- What host memory shows is what is stored.
use Rattle.std.proofs.Common.{◌∙◌, Some, None}
use Rattle.bridge_limits.proofs.LeftBytes.{left_stored, on_ok}
use Rattle.bridge_limits.proofs.lefts.store_left.Goals as goal

pub returns-in-None-clause-stored : goal.returns-in-None-clause-stored
returns-in-None-clause-stored c = λ left shows. left_stored c.args.mem.now c.args.place left None c.args.at c.args.space.now c.in-None.ensures shows

pub returns-in-Some-clause-stored : goal.returns-in-Some-clause-stored
returns-in-Some-clause-stored c = λ left shows.
    on_ok c.put_left.result (λ put. put ∙ left_stored c.args.mem.now c.args.place left (Some c.in-Some.left) c.args.at c.args.space.now c.in-Some.ensures shows) c.put_left.ensures.stored

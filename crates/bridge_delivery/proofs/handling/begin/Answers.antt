-- The mask and the alternate stack are found, and then the handler begins.
use Rattle.bridge_delivery.proofs.Keeping.{keeps_look, keeps_then, kept_then, told_then}
use Rattle.bridge_delivery.proofs.handling.begin.Goals as goal

pub returns-clause-kept : goal.returns-clause-kept
returns-clause-kept g c = λ left told.
    let blocked = c.in_ok-blocked.ensures.looks left told in
    let stack = c.in_ok-stack.ensures.looks left (told_then blocked.1.rest told) in
    kept_then c.begin_on.result c.begin_on.new.below.kernel.now c.begin_on.new.process.space.now.pages c.begin_on.new.below.log.now
    (keeps_then (keeps_look c.args.process.now.space.now.pages blocked.1) (keeps_look c.args.process.now.space.now.pages stack.1))
    (c.begin_on.ensures.kept left (told_then stack.1.rest (told_then blocked.1.rest told)))

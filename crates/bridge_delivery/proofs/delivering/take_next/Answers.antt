-- The next signal is found, and then delivered.
use Rattle.bridge_delivery.proofs.Keeping.{kept_then, told_then}
use Rattle.bridge_delivery.proofs.delivering.take_next.Goals as goal

pub returns-in-Some-clause-kept : goal.returns-in-Some-clause-kept
returns-in-Some-clause-kept g c = λ left told.
    let found = c.in_ok-next.ensures.looks left told in
    kept_then c.take_signal.result c.take_signal.new.below.kernel.now c.take_signal.new.process.space.now.pages c.take_signal.new.below.log.now
    (c.in_ok-next.ensures.kept c.args.process.now.space.now.pages left told) (c.take_signal.ensures.kept left (told_then found.0 told))

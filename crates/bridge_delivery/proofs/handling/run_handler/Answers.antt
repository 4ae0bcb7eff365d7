-- The mask is set, and the action may be reset.
use Rattle.bridge_delivery.proofs.Keeping.{keeps_act, keeps_then, told_then}
use Rattle.bridge_delivery.proofs.handling.run_handler.Goals as goal

pub returns-in_ok-reset-clause-kept : goal.returns-in_ok-reset-clause-kept
returns-in_ok-reset-clause-kept g c = λ pages left told.
    let masked = c.in_ok-set_mask.ensures.acts left told in
    keeps_then (keeps_act pages masked.1) (c.in_ok-reset.ensures.kept pages left (told_then masked.1.rest told))

pub returns-else-resethand-clause-kept : goal.returns-else-resethand-clause-kept
returns-else-resethand-clause-kept g c = λ pages left told. keeps_act pages (c.in_ok-set_mask.ensures.acts left told).1

-- A look, and then the mask.
use Rattle.std.proofs.Common.{◌∙◌, ap}
use Rattle.kernel_model.specs.SignalRows.{with_mask}
use Rattle.kernel_model.specs.State.{Kernel}
use Rattle.bridge_signal_state.proofs.Passed.{still_told}
use Rattle.bridge_signal_state.proofs.Moving.{acted_stop, moves_look, moves_then}
use Rattle.bridge_signal.proofs.suspending.sleep_with.Goals as goal

pub returns-clause-acts : goal.returns-clause-acts
returns-clause-acts g c = λ left told.
    let seen = c.in_ok-outcome.ensures.looks left told in
    let done = c.in_ok-set_mask.ensures.acts left (still_told seen.1 told) in
    ((seen.0, done.0 ∙ ap (λ (k : Kernel). with_mask k c.args.set) seen.1.same), moves_then (moves_look seen.1) done.1)

pub returns-in_err-set_mask-clause-acts : goal.returns-in_err-set_mask-clause-acts
returns-in_err-set_mask-clause-acts g c = λ left told.
    let seen = c.in_ok-outcome.ensures.looks left told in
    acted_stop _ c.from_residual-in_err-set_mask.result _ _ _ _ _ _ _ c.from_residual-in_err-set_mask.ensures.0
    (c.in_err-set_mask.ensures.acts left (still_told seen.1 told) ∙ seen.1.rest)

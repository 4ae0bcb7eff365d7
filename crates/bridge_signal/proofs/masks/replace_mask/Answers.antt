-- A look, and then the change.
use Rattle.std.proofs.Common.{◌∙◌, ap}
use Rattle.kernel_model.specs.SignalSets.{SignalSet}
use Rattle.kernel_model.specs.State.{Kernel}
use Rattle.bridge_signal_state.proofs.Passed.{still_told}
use Rattle.bridge_signal_state.proofs.Moving.{acted_stop, moves_look, moves_then}
use Rattle.bridge_signal.specs.inside.Asked.{mask_from}
use Rattle.bridge_signal.proofs.masks.replace_mask.Goals as goal

pub returns-clause-acts : goal.returns-clause-acts
returns-clause-acts g c = λ left told.
    let seen = c.in_ok-before.ensures.looks left told in
    let done = c.in_ok-set_from.ensures.acts left (still_told seen.1 told) in
    ((seen.0, done.0 ∙ ap (λ (k : Kernel). mask_from k c.in_ok-before.before c.args.change) seen.1.same ∙ ap (λ (s : SignalSet). mask_from c.args.below.now.kernel.now s c.args.change) seen.0), moves_then (moves_look seen.1) done.1)

pub returns-in_err-set_from-clause-acts : goal.returns-in_err-set_from-clause-acts
returns-in_err-set_from-clause-acts g c = λ left told.
    let seen = c.in_ok-before.ensures.looks left told in
    acted_stop _ c.from_residual-in_err-set_from.result _ _ _ _ _ _ _ c.from_residual-in_err-set_from.ensures.0
    (c.in_err-set_from.ensures.acts left (still_told seen.1 told) ∙ seen.1.rest)

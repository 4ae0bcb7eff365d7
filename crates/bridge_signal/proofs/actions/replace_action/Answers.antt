-- A look, and then the new action.
use Rattle.std.proofs.Common.{◌∙◌, ap}
use Rattle.kernel_model.specs.State.{Kernel}
use Rattle.bridge_signal_state.proofs.Passed.{still_told}
use Rattle.bridge_signal_state.proofs.Moving.{acted_stop, moves_look, moves_then}
use Rattle.bridge_signal.specs.inside.Asked.{action_set}
use Rattle.bridge_signal.proofs.actions.replace_action.Goals as goal

pub returns-clause-acts : goal.returns-clause-acts
returns-clause-acts g c = λ left told.
    let seen = c.in_ok-before.ensures.looks left told in
    let done = c.in_ok-set_new.ensures.acts left (still_told seen.1 told) in
    ((seen.0, done.0 ∙ ap (λ (k : Kernel). action_set k c.args.sig c.args.new) seen.1.same), moves_then (moves_look seen.1) done.1)

pub returns-in_err-set_new-clause-acts : goal.returns-in_err-set_new-clause-acts
returns-in_err-set_new-clause-acts g c = λ left told.
    let seen = c.in_ok-before.ensures.looks left told in
    acted_stop _ c.from_residual-in_err-set_new.result _ _ _ _ _ _ _ c.from_residual-in_err-set_new.ensures.0
    (c.in_err-set_new.ensures.acts left (still_told seen.1 told) ∙ seen.1.rest)

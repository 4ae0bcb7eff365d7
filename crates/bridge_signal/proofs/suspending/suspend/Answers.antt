-- A look at the mask, and then the wait.
use Rattle.std.proofs.Common.{◌∙◌, ap}
use Rattle.kernel_model.specs.SignalRows.{with_mask}
use Rattle.kernel_model.specs.SignalSets.{SignalSet}
use Rattle.kernel_model.specs.State.{Kernel}
use Rattle.o32_model.specs.declared.outcome.Outcome.{Outcome}
use Rattle.bridge_signal_state.proofs.Passed.{still_told}
use Rattle.bridge_signal_state.proofs.Moving.{acted_stop, moves_look, moves_then}
use Rattle.bridge_signal.specs.inside.Waiting.{asleep, masked}
use Rattle.bridge_signal.proofs.suspending.suspend.Goals as goal

pub returns-clause-acts : goal.returns-clause-acts
returns-clause-acts g c = λ left told.
    let seen = c.in_ok-before.ensures.looks left told in
    let done = c.in_ok-outcome.ensures.acts left (still_told seen.1 told) in
    ((c.masked.ensures ∙ ap (λ (o : Outcome). masked o c.in_ok-before.before) done.0.0 ∙ ap (λ (s : SignalSet). masked (asleep c.args.words.now) s) seen.0, done.0.1 ∙ ap (λ (k : Kernel). with_mask k c.args.set) seen.1.same), moves_then (moves_look seen.1) done.1)

pub returns-in_err-outcome-clause-acts : goal.returns-in_err-outcome-clause-acts
returns-in_err-outcome-clause-acts g c = λ left told.
    let seen = c.in_ok-before.ensures.looks left told in
    acted_stop _ c.from_residual-in_err-outcome.result _ _ _ _ _ _ _ c.from_residual-in_err-outcome.ensures.0
    (c.in_err-outcome.ensures.acts left (still_told seen.1 told) ∙ seen.1.rest)

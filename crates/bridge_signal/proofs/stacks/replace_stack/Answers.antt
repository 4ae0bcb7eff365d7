-- A look, and then the new stack.
use Rattle.std.proofs.Common.{◌∙◌, sym, ap}
use Rattle.kernel_model.specs.State.{Kernel}
use Rattle.kernel_model.specs.declared.signal.SigStack.{SigStack}
use Rattle.bridge_signal_state.proofs.Passed.{still_told}
use Rattle.bridge_signal_state.proofs.Moving.{acted_stop, moves_look, moves_then}
use Rattle.bridge_signal.proofs.Asking.{stack_from}
use Rattle.bridge_signal.specs.inside.Stacks.{set_from}
use Rattle.bridge_signal.proofs.stacks.replace_stack.Goals as goal

pub returns-clause-acts : goal.returns-clause-acts
returns-clause-acts g c = λ left told.
    let seen = c.in_ok-before.ensures.looks left told in
    let done = c.in_ok-told.ensures.acts left (still_told seen.1 told) in
    (sym (stack_from c.args.below.now.kernel.now c.args.sp c.args.new) ∙ ap (λ (s : SigStack). set_from c.args.below.now.kernel.now s c.args.sp c.args.new) (sym seen.0) ∙ ap (λ (k : Kernel). set_from k c.in_ok-before.before c.args.sp c.args.new) (sym seen.1.same) ∙ done.0, moves_then (moves_look seen.1) done.1)

pub returns-in_err-told-clause-acts : goal.returns-in_err-told-clause-acts
returns-in_err-told-clause-acts g c = λ left told.
    let seen = c.in_ok-before.ensures.looks left told in
    acted_stop _ c.from_residual-in_err-told.result _ _ _ _ _ _ _ c.from_residual-in_err-told.ensures.0
    (c.in_err-told.ensures.acts left (still_told seen.1 told) ∙ seen.1.rest)

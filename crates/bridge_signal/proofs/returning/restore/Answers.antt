-- The mask, and then the stack.
use Rattle.std.proofs.Common.{◌∙◌, sym, ap}
use Rattle.std.specs.Prelude.{Some}
use Rattle.kernel_model.specs.Came.{Did}
use Rattle.kernel_model.specs.SignalRows.{set_stack_to, with_mask}
use Rattle.kernel_model.specs.State.{Kernel}
use Rattle.kernel_model.specs.declared.signal.SigStack.{SigStack}
use Rattle.bridge_signal_state.proofs.Moving.{acted_stop, moves_then, told_after}
use Rattle.bridge_signal.proofs.Asking.{did_state}
use Rattle.bridge_signal.proofs.returning.restore.Goals as goal

pub returns-clause-acts : goal.returns-clause-acts
returns-clause-acts g c = λ left told.
    let masks = c.in_ok-set_mask.ensures.acts left told in
    let stacks = c.in_ok-replace_stack.ensures.acts left (told_after masks.1 told) in (
      sym (did_state c.replace_stack.new.below.kernel.now _) ∙ sym (ap (λ (d : Did Kernel SigStack). d.state) stacks.0)
          ∙ ap (λ (k : Kernel). (set_stack_to k (Some c.args.sp) (Some c.sig_stack.result)).state) masks.0
          ∙ ap (λ (s : SigStack). (set_stack_to (with_mask c.args.below.now.kernel.now c.args.back.mask) (Some c.args.sp) (Some s)).state) c.sig_stack.ensures,
      moves_then masks.1 stacks.1,
    )

pub returns-in_err-replace_stack-clause-acts : goal.returns-in_err-replace_stack-clause-acts
returns-in_err-replace_stack-clause-acts g c = λ left told.
    let masks = c.in_ok-set_mask.ensures.acts left told in
    acted_stop _ c.from_residual-in_err-replace_stack.result _ _ _ _ _ _ _ c.from_residual-in_err-replace_stack.ensures.0
    (c.in_err-replace_stack.ensures.acts left (told_after masks.1 told) ∙ masks.1.rest)

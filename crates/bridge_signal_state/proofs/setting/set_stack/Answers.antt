-- What the native call does.
use Rattle.std.proofs.Common.{◌∙◌, ℕ, List, [], ◌∷◌, ap, refl, subst, sym}
use Rattle.native_calls.specs.Table.{native_call}
use Rattle.native_calls.specs.SignalBytes.{stack_bytes}
use Rattle.bridge_signal_state.proofs.StateLooks.{reply_of, stack_act, stack_fine}
use Rattle.bridge_signal_state.specs.Setting.{stack_set}
use Rattle.bridge_signal_state.specs.inside.Shown.{is_fine}
use Rattle.bridge_signal_state.proofs.Moving.{acted_stop}
use Rattle.bridge_signal_state.specs.Acting.{IsAct}
use Rattle.bridge_signal_state.proofs.setting.set_stack.Goals as goal

pub returns-clause-acts : goal.returns-clause-acts
returns-clause-acts g c = λ left told.
    let act = λ (left : List ℕ). subst (λ (m : List ℕ). IsAct ((stack_set c.args.below.now.kernel.now c.args.stack).state) (reply_of stack_bytes (stack_bytes c.args.stack) (stack_set c.args.below.now.kernel.now c.args.stack).came) (stack_bytes c.args.stack) left (native_call 132 (65536 ∷ 0 ∷ 0 ∷ 0 ∷ 0 ∷ 0 ∷ []) c.args.below.now.kernel.now m left)) (sym c.in_ok-put_stack.ensures) (stack_act c.args.below.now.kernel.now left c.args.stack c.stack_fits.ensures) in
    let done = c.in_ok-reply.ensures.acts ((stack_set c.args.below.now.kernel.now c.args.stack).state) (reply_of stack_bytes (stack_bytes c.args.stack) (stack_set c.args.below.now.kernel.now c.args.stack).came) (stack_bytes c.args.stack) act left told in
    ((record { told = c.is_fine.ensures ∙ ap is_fine done.0.0.answered ∙ stack_fine (stack_bytes c.args.stack) (stack_set c.args.below.now.kernel.now c.args.stack).came; state = done.0.1 }), done.1)

pub returns-in_err-put_stack-clause-acts : goal.returns-in_err-put_stack-clause-acts
returns-in_err-put_stack-clause-acts g c = λ left told. acted_stop _ c.from_residual.result _ _ _ _ _ _ _ c.from_residual.ensures.0 refl

pub returns-in_err-reply-clause-acts : goal.returns-in_err-reply-clause-acts
returns-in_err-reply-clause-acts g c = λ left told.
    let act = λ (left : List ℕ). subst (λ (m : List ℕ). IsAct ((stack_set c.args.below.now.kernel.now c.args.stack).state) (reply_of stack_bytes (stack_bytes c.args.stack) (stack_set c.args.below.now.kernel.now c.args.stack).came) (stack_bytes c.args.stack) left (native_call 132 (65536 ∷ 0 ∷ 0 ∷ 0 ∷ 0 ∷ 0 ∷ []) c.args.below.now.kernel.now m left)) (sym c.in_ok-put_stack.ensures) (stack_act c.args.below.now.kernel.now left c.args.stack c.stack_fits.ensures) in
    acted_stop _ c.from_residual-in_err-reply.result _ _ _ _ _ _ _ c.from_residual-in_err-reply.ensures.0
    (c.in_err-reply.ensures.acts ((stack_set c.args.below.now.kernel.now c.args.stack).state) (reply_of stack_bytes (stack_bytes c.args.stack) (stack_set c.args.below.now.kernel.now c.args.stack).came) (stack_bytes c.args.stack) act left told)

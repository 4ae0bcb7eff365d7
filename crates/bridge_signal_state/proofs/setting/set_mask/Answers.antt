-- What the native call does.
use Rattle.std.proofs.Common.{ℕ, List, [], ◌∷◌, refl, subst, sym}
use Rattle.native_calls.specs.Table.{native_call}
use Rattle.kernel_model.specs.SignalRows.{with_mask}
use Rattle.native_calls.specs.SignalBytes.{set_bytes}
use Rattle.native_calls.specs.Step.{value}
use Rattle.bridge_signal_state.proofs.StateLooks.{mask_act}
use Rattle.bridge_signal_state.proofs.Moving.{acted_stop}
use Rattle.bridge_signal_state.specs.Acting.{IsAct}
use Rattle.bridge_signal_state.proofs.setting.set_mask.Goals as goal

pub returns-clause-acts : goal.returns-clause-acts
returns-clause-acts g c = λ left told.
    let act = λ (left : List ℕ). subst (λ (m : List ℕ). IsAct (with_mask c.args.below.now.kernel.now c.args.mask) (value 0) (set_bytes c.args.mask) left (native_call 135 (2 ∷ 65536 ∷ 0 ∷ 16 ∷ 0 ∷ 0 ∷ []) c.args.below.now.kernel.now m left)) (sym c.in_ok-put_set.ensures) (mask_act c.args.below.now.kernel.now left c.args.mask c.is_set.ensures) in
    let done = c.in_ok-act.ensures.acts (with_mask c.args.below.now.kernel.now c.args.mask) (value 0) (set_bytes c.args.mask) act left told in
    (done.0.1, done.1)

pub returns-in_err-put_set-clause-acts : goal.returns-in_err-put_set-clause-acts
returns-in_err-put_set-clause-acts g c = λ left told. acted_stop _ c.from_residual.result _ _ _ _ _ _ _ c.from_residual.ensures.0 refl

pub returns-in_err-act-clause-acts : goal.returns-in_err-act-clause-acts
returns-in_err-act-clause-acts g c = λ left told.
    let act = λ (left : List ℕ). subst (λ (m : List ℕ). IsAct (with_mask c.args.below.now.kernel.now c.args.mask) (value 0) (set_bytes c.args.mask) left (native_call 135 (2 ∷ 65536 ∷ 0 ∷ 16 ∷ 0 ∷ 0 ∷ []) c.args.below.now.kernel.now m left)) (sym c.in_ok-put_set.ensures) (mask_act c.args.below.now.kernel.now left c.args.mask c.is_set.ensures) in
    acted_stop _ c.from_residual-in_err-act.result _ _ _ _ _ _ _ c.from_residual-in_err-act.ensures.0
    (c.in_err-act.ensures.acts (with_mask c.args.below.now.kernel.now c.args.mask) (value 0) (set_bytes c.args.mask) act left told)

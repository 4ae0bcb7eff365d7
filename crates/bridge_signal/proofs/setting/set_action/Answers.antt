-- What the native call does.
use Rattle.std.proofs.Common.{ℕ, List, [], ◌∷◌, refl, subst, sym, arith}
use Rattle.native_calls.specs.SignalBytes.{action_bytes}
use Rattle.native_calls.specs.Step.{value}
use Rattle.native_calls.specs.Table.{native_call}
use Rattle.bridge_signal_state.proofs.Moving.{acted_stop}
use Rattle.bridge_signal_state.specs.Acting.{IsAct}
use Rattle.bridge_signal.proofs.NewActions.{set_act}
use Rattle.bridge_signal.specs.inside.Asked.{action_set_to}
use Rattle.bridge_signal.proofs.setting.set_action.Goals as goal

pub returns-clause-acts : goal.returns-clause-acts
returns-clause-acts g c = λ left told.
    let act = λ (left : List ℕ). subst (λ (m : List ℕ). IsAct (action_set_to c.args.below.now.kernel.now c.args.sig c.args.action) (value 0) (action_bytes c.args.action) left (native_call 134 (c.to_native.result ∷ 65536 ∷ 0 ∷ 16 ∷ 0 ∷ 0 ∷ []) c.args.below.now.kernel.now m left)) (sym c.in_ok-put_action.ensures) (set_act c.args.below.now.kernel.now left c.args.sig c.to_native.result c.args.action c.to_native.ensures c.requires.blockable (omega arith) c.is_set.ensures) in
    let done = c.in_ok-act.ensures.acts (action_set_to c.args.below.now.kernel.now c.args.sig c.args.action) (value 0) (action_bytes c.args.action) act left told in
    (done.0.1, done.1)

pub returns-in_err-put_action-clause-acts : goal.returns-in_err-put_action-clause-acts
returns-in_err-put_action-clause-acts g c = λ left told. acted_stop _ c.from_residual.result _ _ _ _ _ _ _ c.from_residual.ensures.0 refl

pub returns-in_err-act-clause-acts : goal.returns-in_err-act-clause-acts
returns-in_err-act-clause-acts g c = λ left told.
    let act = λ (left : List ℕ). subst (λ (m : List ℕ). IsAct (action_set_to c.args.below.now.kernel.now c.args.sig c.args.action) (value 0) (action_bytes c.args.action) left (native_call 134 (c.to_native.result ∷ 65536 ∷ 0 ∷ 16 ∷ 0 ∷ 0 ∷ []) c.args.below.now.kernel.now m left)) (sym c.in_ok-put_action.ensures) (set_act c.args.below.now.kernel.now left c.args.sig c.to_native.result c.args.action c.to_native.ensures c.requires.blockable (omega arith) c.is_set.ensures) in
    acted_stop _ c.from_residual-in_err-act.result _ _ _ _ _ _ _ c.from_residual-in_err-act.ensures.0
    (c.in_err-act.ensures.acts (action_set_to c.args.below.now.kernel.now c.args.sig c.args.action) (value 0) (action_bytes c.args.action) act left told)

-- What the native call does.
use Rattle.std.proofs.Common.{ℕ, List, [], ◌∷◌, refl, subst, sym, replicate}
use Rattle.native_calls.specs.Table.{native_call}
use Rattle.kernel_model.specs.SignalRows.{after_action, no_action, with_signals}
use Rattle.native_calls.specs.Step.{value}
use Rattle.bridge_signal_state.proofs.StateLooks.{default_act}
use Rattle.bridge_signal_state.proofs.Moving.{acted_stop}
use Rattle.bridge_signal_state.specs.Acting.{IsAct}
use Rattle.bridge_signal_state.proofs.setting.set_default.Goals as goal

pub returns-clause-acts : goal.returns-clause-acts
returns-clause-acts g c = λ left told.
    let act = λ (left : List ℕ). subst (λ (m : List ℕ). IsAct (with_signals c.args.below.now.kernel.now (after_action c.args.below.now.kernel.now.signals c.args.sig no_action)) (value 0) (replicate 32 0) left (native_call 134 (c.to_native.result ∷ 65536 ∷ 0 ∷ 16 ∷ 0 ∷ 0 ∷ []) c.args.below.now.kernel.now m left)) (sym c.in_ok-fresh_room.ensures) (default_act c.args.below.now.kernel.now left c.args.sig c.to_native.result c.to_native.ensures c.requires.blockable) in
    let done = c.in_ok-act.ensures.acts (with_signals c.args.below.now.kernel.now (after_action c.args.below.now.kernel.now.signals c.args.sig no_action)) (value 0) (replicate 32 0) act left told in
    (done.0.1, done.1)

pub returns-in_err-fresh_room-clause-acts : goal.returns-in_err-fresh_room-clause-acts
returns-in_err-fresh_room-clause-acts g c = λ left told. acted_stop _ c.from_residual.result _ _ _ _ _ _ _ c.from_residual.ensures.0 refl

pub returns-in_err-act-clause-acts : goal.returns-in_err-act-clause-acts
returns-in_err-act-clause-acts g c = λ left told.
    let act = λ (left : List ℕ). subst (λ (m : List ℕ). IsAct (with_signals c.args.below.now.kernel.now (after_action c.args.below.now.kernel.now.signals c.args.sig no_action)) (value 0) (replicate 32 0) left (native_call 134 (c.to_native.result ∷ 65536 ∷ 0 ∷ 16 ∷ 0 ∷ 0 ∷ []) c.args.below.now.kernel.now m left)) (sym c.in_ok-fresh_room.ensures) (default_act c.args.below.now.kernel.now left c.args.sig c.to_native.result c.to_native.ensures c.requires.blockable) in
    acted_stop _ c.from_residual-in_err-act.result _ _ _ _ _ _ _ c.from_residual-in_err-act.ensures.0
    (c.in_err-act.ensures.acts (with_signals c.args.below.now.kernel.now (after_action c.args.below.now.kernel.now.signals c.args.sig no_action)) (value 0) (replicate 32 0) act left told)

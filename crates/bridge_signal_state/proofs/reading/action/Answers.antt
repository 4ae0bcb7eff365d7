-- The reply and host memory tell what there is.
use Rattle.std.proofs.Common.{◌∙◌, ℕ, List, [], ◌∷◌, ap, refl, subst, sym}
use Rattle.native_calls.specs.Table.{native_call}
use Rattle.kernel_model.specs.SignalRows.{action_at}
use Rattle.native_calls.specs.SignalBytes.{action_bytes}
use Rattle.bridge_signal_state.proofs.Rooms.{action_told}
use Rattle.bridge_signal_state.proofs.StateLooks.{action_look, action_mask, action_small, filled_with, told_at}
use Rattle.bridge_log.proofs.Looking.{looked_stop}
use Rattle.bridge_log.specs.Looks.{IsLook}
use Rattle.bridge_signal_state.specs.inside.Shown.{action_shown}
use Rattle.bridge_signal_state.proofs.reading.action.Goals as goal

pub returns-clause-looks : goal.returns-clause-looks
returns-clause-looks g c = λ left told.
    let look = λ (left : List ℕ). subst (λ (m : List ℕ). IsLook c.args.below.now.kernel.now (told_at 32 (action_bytes (action_at c.args.below.now.kernel.now.signals c.args.sig))) (filled_with 32 (action_bytes (action_at c.args.below.now.kernel.now.signals c.args.sig))) left (native_call 134 (c.to_native.result ∷ 0 ∷ 65536 ∷ 16 ∷ 0 ∷ 0 ∷ []) c.args.below.now.kernel.now m left)) (sym c.in_ok-fresh_room.ensures) (action_look c.args.below.now.kernel.now left c.args.sig c.to_native.result c.to_native.ensures) in
    let seen = c.in_ok-look.ensures.looks (told_at 32 (action_bytes (action_at c.args.below.now.kernel.now.signals c.args.sig))) (filled_with 32 (action_bytes (action_at c.args.below.now.kernel.now.signals c.args.sig))) look left told in
    (c.action_shown.ensures ∙ ap action_shown seen.0.stored ∙ action_told (action_at c.args.below.now.kernel.now.signals c.args.sig) (action_small c.args.below.now.kernel.now.signals c.args.sig c.signals_fit.ensures.handlers) (action_mask c.args.below.now.kernel.now.signals c.args.sig c.signals_fit.ensures.sound.masks), seen.1)

pub returns-in_err-fresh_room-clause-looks : goal.returns-in_err-fresh_room-clause-looks
returns-in_err-fresh_room-clause-looks g c = λ left told. looked_stop _ c.from_residual.result _ _ _ _ _ _ _ c.from_residual.ensures.0 refl

pub returns-in_err-look-clause-looks : goal.returns-in_err-look-clause-looks
returns-in_err-look-clause-looks g c = λ left told.
    let look = λ (left : List ℕ). subst (λ (m : List ℕ). IsLook c.args.below.now.kernel.now (told_at 32 (action_bytes (action_at c.args.below.now.kernel.now.signals c.args.sig))) (filled_with 32 (action_bytes (action_at c.args.below.now.kernel.now.signals c.args.sig))) left (native_call 134 (c.to_native.result ∷ 0 ∷ 65536 ∷ 16 ∷ 0 ∷ 0 ∷ []) c.args.below.now.kernel.now m left)) (sym c.in_ok-fresh_room.ensures) (action_look c.args.below.now.kernel.now left c.args.sig c.to_native.result c.to_native.ensures) in
    looked_stop _ c.from_residual-in_err-look.result _ _ _ _ _ _ _ c.from_residual-in_err-look.ensures.0
    (c.in_err-look.ensures.looks (told_at 32 (action_bytes (action_at c.args.below.now.kernel.now.signals c.args.sig))) (filled_with 32 (action_bytes (action_at c.args.below.now.kernel.now.signals c.args.sig))) look left told)

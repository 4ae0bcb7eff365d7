-- The reply and host memory tell what there is.
use Rattle.std.proofs.Common.{◌∙◌, ℕ, List, [], ◌∷◌, ap, refl, subst, sym}
use Rattle.native_calls.specs.Table.{native_call}
use Rattle.native_calls.specs.SignalBytes.{set_bytes}
use Rattle.bridge_signal_state.proofs.Rooms.{set_told}
use Rattle.bridge_signal_state.proofs.StateLooks.{filled_with, mask_look, told_at}
use Rattle.bridge_log.proofs.Looking.{looked_stop}
use Rattle.bridge_log.specs.Looks.{IsLook}
use Rattle.bridge_signal_state.specs.inside.Shown.{set_shown}
use Rattle.bridge_signal_state.proofs.reading.mask.Goals as goal

pub returns-clause-looks : goal.returns-clause-looks
returns-clause-looks g c = λ left told.
    let look = λ (left : List ℕ). subst (λ (m : List ℕ). IsLook c.args.below.now.kernel.now (told_at 16 (set_bytes c.args.below.now.kernel.now.signals.mask)) (filled_with 16 (set_bytes c.args.below.now.kernel.now.signals.mask)) left (native_call 135 (0 ∷ 0 ∷ 65536 ∷ 16 ∷ 0 ∷ 0 ∷ []) c.args.below.now.kernel.now m left)) (sym c.in_ok-fresh_room.ensures) (mask_look c.args.below.now.kernel.now left) in
    let seen = c.in_ok-look.ensures.looks (told_at 16 (set_bytes c.args.below.now.kernel.now.signals.mask)) (filled_with 16 (set_bytes c.args.below.now.kernel.now.signals.mask)) look left told in
    (c.set_shown.ensures ∙ ap set_shown seen.0.stored ∙ set_told c.args.below.now.kernel.now.signals.mask c.signals_fit.ensures.sound.mask.0, seen.1)

pub returns-in_err-fresh_room-clause-looks : goal.returns-in_err-fresh_room-clause-looks
returns-in_err-fresh_room-clause-looks g c = λ left told. looked_stop _ c.from_residual.result _ _ _ _ _ _ _ c.from_residual.ensures.0 refl

pub returns-in_err-look-clause-looks : goal.returns-in_err-look-clause-looks
returns-in_err-look-clause-looks g c = λ left told.
    let look = λ (left : List ℕ). subst (λ (m : List ℕ). IsLook c.args.below.now.kernel.now (told_at 16 (set_bytes c.args.below.now.kernel.now.signals.mask)) (filled_with 16 (set_bytes c.args.below.now.kernel.now.signals.mask)) left (native_call 135 (0 ∷ 0 ∷ 65536 ∷ 16 ∷ 0 ∷ 0 ∷ []) c.args.below.now.kernel.now m left)) (sym c.in_ok-fresh_room.ensures) (mask_look c.args.below.now.kernel.now left) in
    looked_stop _ c.from_residual-in_err-look.result _ _ _ _ _ _ _ c.from_residual-in_err-look.ensures.0
    (c.in_err-look.ensures.looks (told_at 16 (set_bytes c.args.below.now.kernel.now.signals.mask)) (filled_with 16 (set_bytes c.args.below.now.kernel.now.signals.mask)) look left told)

-- The reply and host memory tell what there is.
use Rattle.std.proofs.Common.{◌∙◌, ℕ, List, [], ◌∷◌, ap, refl, subst, sym}
use Rattle.native_calls.specs.Table.{native_call}
use Rattle.bridge_timer.proofs.TimerLooks.{timer_look, shown_reply, shown_room, shown_told}
use Rattle.bridge_log.proofs.Looking.{looked_stop}
use Rattle.bridge_log.specs.Looks.{IsLook}
use Rattle.bridge_timer.specs.inside.Shown.{shown_in}
use Rattle.bridge_timer.proofs.looking.timer_shown.Goals as goal

pub returns-clause-looks : goal.returns-clause-looks
returns-clause-looks g c = λ left told.
    let look = λ (left : List ℕ). subst (λ (m : List ℕ). IsLook c.args.below.now.kernel.now (shown_reply c.args.which) (shown_room c.args.below.now.kernel.now c.args.which) left (native_call 102 (c.from.result ∷ 65536 ∷ 0 ∷ 0 ∷ 0 ∷ 0 ∷ []) c.args.below.now.kernel.now m left)) (sym c.in_ok-fresh_room.ensures) (timer_look c.args.below.now.kernel.now left c.from.result c.args.which c.from.ensures c.ranges.which.fits) in
    let seen = c.in_ok-reply.ensures.looks (shown_reply c.args.which) (shown_room c.args.below.now.kernel.now c.args.which) look left told in
    (c.shown_in.ensures ∙ ap (λ (m : List ℕ). shown_in m c.in_ok-reply.reply) seen.0.stored ∙ ap (shown_in (shown_room c.args.below.now.kernel.now c.args.which)) seen.0.answered ∙ shown_told c.args.below.now.kernel.now c.args.which, seen.1)

pub returns-in_err-fresh_room-clause-looks : goal.returns-in_err-fresh_room-clause-looks
returns-in_err-fresh_room-clause-looks g c = λ left told. looked_stop _ c.from_residual.result _ _ _ _ _ _ _ c.from_residual.ensures.0 refl

pub returns-in_err-reply-clause-looks : goal.returns-in_err-reply-clause-looks
returns-in_err-reply-clause-looks g c = λ left told.
    let look = λ (left : List ℕ). subst (λ (m : List ℕ). IsLook c.args.below.now.kernel.now (shown_reply c.args.which) (shown_room c.args.below.now.kernel.now c.args.which) left (native_call 102 (c.from.result ∷ 65536 ∷ 0 ∷ 0 ∷ 0 ∷ 0 ∷ []) c.args.below.now.kernel.now m left)) (sym c.in_ok-fresh_room.ensures) (timer_look c.args.below.now.kernel.now left c.from.result c.args.which c.from.ensures c.ranges.which.fits) in
    looked_stop _ c.from_residual-in_err-reply.result _ _ _ _ _ _ _ c.from_residual-in_err-reply.ensures.0
    (c.in_err-reply.ensures.looks (shown_reply c.args.which) (shown_room c.args.below.now.kernel.now c.args.which) look left told)

-- The reply and host memory tell what there is.
use Rattle.std.proofs.Common.{◌∙◌, ℕ, List, [], ◌∷◌, ap, refl, subst, sym}
use Rattle.bridge_wait.specs.inside.Shown.{resolution_of}
use Rattle.native_calls.specs.Table.{native_call}
use Rattle.bridge_wait.proofs.ClockLooks.{resolution_look, time_reply, time_room, time_told}
use Rattle.bridge_log.proofs.Looking.{looked_stop}
use Rattle.bridge_log.specs.Looks.{IsLook}
use Rattle.bridge_wait.specs.inside.Shown.{time_in}
use Rattle.bridge_wait.proofs.looking.clock_resolution.Goals as goal

pub returns-clause-looks : goal.returns-clause-looks
returns-clause-looks g c = λ left told.
    let there = resolution_of c.args.clock in
    let look = λ (left : List ℕ). subst (λ (m : List ℕ). IsLook c.args.below.now.kernel.now (time_reply there) (time_room there) left (native_call 114 (c.from.result ∷ 65536 ∷ 0 ∷ 0 ∷ 0 ∷ 0 ∷ []) c.args.below.now.kernel.now m left)) (sym c.in_ok-fresh_room.ensures) (resolution_look c.args.below.now.kernel.now left c.from.result c.args.clock c.from.ensures c.ranges.clock.fits) in
    let seen = c.in_ok-reply.ensures.looks (time_reply there) (time_room there) look left told in
    (c.time_in.ensures ∙ ap (λ (m : List ℕ). time_in m c.in_ok-reply.reply) seen.0.stored ∙ ap (time_in (time_room there)) seen.0.answered ∙ time_told there, seen.1)

pub returns-in_err-fresh_room-clause-looks : goal.returns-in_err-fresh_room-clause-looks
returns-in_err-fresh_room-clause-looks g c = λ left told. looked_stop _ c.from_residual.result _ _ _ _ _ _ _ c.from_residual.ensures.0 refl

pub returns-in_err-reply-clause-looks : goal.returns-in_err-reply-clause-looks
returns-in_err-reply-clause-looks g c = λ left told.
    let there = resolution_of c.args.clock in
    let look = λ (left : List ℕ). subst (λ (m : List ℕ). IsLook c.args.below.now.kernel.now (time_reply there) (time_room there) left (native_call 114 (c.from.result ∷ 65536 ∷ 0 ∷ 0 ∷ 0 ∷ 0 ∷ []) c.args.below.now.kernel.now m left)) (sym c.in_ok-fresh_room.ensures) (resolution_look c.args.below.now.kernel.now left c.from.result c.args.clock c.from.ensures c.ranges.clock.fits) in
    looked_stop _ c.from_residual-in_err-reply.result _ _ _ _ _ _ _ c.from_residual-in_err-reply.ensures.0
    (c.in_err-reply.ensures.looks (time_reply there) (time_room there) look left told)

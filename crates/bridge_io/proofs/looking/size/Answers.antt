-- The status that the call put into host memory tells the size.
use Rattle.std.proofs.Common.{◌≡◌, ◌∙◌, ap, length, refl}
use Rattle.std.proofs.lemmas.List.{length-replicate}
use Rattle.std.specs.Prelude.{ℕ, List}
use Rattle.kernel_model.specs.Descriptions.{opened}
use Rattle.bridge_log.proofs.Looking.{looked_stop}
use Rattle.bridge_io.proofs.LookMirrors.{size_found, size_look, size_memory, size_reply, status_there}
use Rattle.bridge_io.specs.inside.Rooms.{size_in}
use Rattle.bridge_io.proofs.looking.size.Goals as goal

pub returns-clause-looks : goal.returns-clause-looks
returns-clause-looks g c = λ left told.
    let files = c.args.below.now.kernel.now.files in
    let there = opened files c.args.fd in
    let room = c.fresh_room.new.mem in
    let long : length room ≡ 128 = ap length c.in_ok-fresh_room.ensures ∙ length-replicate {A = ℕ} 128 0 in
    let seen = c.in_ok-reply.ensures.looks (size_reply (status_there files there)) (size_memory room (status_there files there)) (λ left. size_look c.args.below.now.kernel.now room left c.from.result c.args.fd long c.from.ensures c.ranges.fd.fits) left told in
    (c.size_in.ensures ∙ ap (λ (m : List ℕ). size_in m c.in_ok-reply.reply) seen.0.stored ∙ ap (size_in (size_memory room (status_there files there))) seen.0.answered ∙ size_found files room there long, seen.1)

pub returns-in_err-fresh_room-clause-looks : goal.returns-in_err-fresh_room-clause-looks
returns-in_err-fresh_room-clause-looks g c = λ left told. looked_stop _ c.from_residual.result _ _ _ _ _ _ _ c.from_residual.ensures.0 refl

pub returns-in_err-reply-clause-looks : goal.returns-in_err-reply-clause-looks
returns-in_err-reply-clause-looks g c = λ left told.
    let files = c.args.below.now.kernel.now.files in
    let there = opened files c.args.fd in
    let room = c.fresh_room.new.mem in
    let long : length room ≡ 128 = ap length c.in_ok-fresh_room.ensures ∙ length-replicate {A = ℕ} 128 0 in
    looked_stop _ c.from_residual-in_err-reply.result _ _ _ _ _ _ _ c.from_residual-in_err-reply.ensures.0
    (c.in_err-reply.ensures.looks (size_reply (status_there files there)) (size_memory room (status_there files there)) (λ left. size_look c.args.below.now.kernel.now room left c.from.result c.args.fd long c.from.ensures c.ranges.fd.fits) left told)

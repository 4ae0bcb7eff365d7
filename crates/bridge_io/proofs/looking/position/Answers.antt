-- The reply tells the position.
use Rattle.std.proofs.Common.{◌∙◌, ap}
use Rattle.kernel_model.specs.Descriptions.{opened}
use Rattle.bridge_log.proofs.Looking.{looked_stop}
use Rattle.bridge_io.proofs.LookMirrors.{position_look, position_reply, position_told}
use Rattle.bridge_io.specs.inside.Rooms.{number_in}
use Rattle.bridge_io.proofs.looking.position.Goals as goal

pub returns-clause-looks : goal.returns-clause-looks
returns-clause-looks g c = λ left told.
    let there = opened c.args.below.now.kernel.now.files c.args.fd in
    let seen = c.in_ok-reply.ensures.looks (position_reply there) c.clear.new.self (λ left. position_look c.args.below.now.kernel.now c.clear.new.self left c.from.result c.args.fd c.from.ensures c.ranges.fd.fits) left told in
    (c.number_in.ensures ∙ ap number_in seen.0.answered ∙ position_told there, seen.1)

pub returns-in_err-reply-clause-looks : goal.returns-in_err-reply-clause-looks
returns-in_err-reply-clause-looks g c = λ left told.
    looked_stop _ c.from_residual.result _ _ _ _ _ _ _ c.from_residual.ensures.0
    (c.in_err-reply.ensures.looks (position_reply (opened c.args.below.now.kernel.now.files c.args.fd)) c.clear.new.self (λ left. position_look c.args.below.now.kernel.now c.clear.new.self left c.from.result c.args.fd c.from.ensures c.ranges.fd.fits) left told)

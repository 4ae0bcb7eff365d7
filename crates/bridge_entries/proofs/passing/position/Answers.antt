-- The reply tells the position.
use Rattle.std.proofs.Common.{◌∙◌, ap}
use Rattle.kernel_model.specs.Descriptions.{opened}
use Rattle.bridge_entries.proofs.Lookups.{position_quiet, position_reply, position_told}
use Rattle.bridge_entries.proofs.Quietly.{went_stop}
use Rattle.bridge_entries.specs.inside.Listed.{place_in}
use Rattle.bridge_entries.proofs.passing.position.Goals as goal

pub returns-clause-goes : goal.returns-clause-goes
returns-clause-goes g c = λ left told.
    let there = opened c.args.below.now.kernel.now.files c.args.fd in
    let seen = c.in_ok-reply.ensures.goes c.args.below.now.kernel.now (position_reply there) c.clear.new.self (λ left. position_quiet c.args.below.now.kernel.now c.clear.new.self left c.from.result c.args.fd c.from.ensures c.ranges.fd.fits) left told in
    (c.place_in.ensures ∙ ap place_in seen.0.answered ∙ position_told there, seen.1)

pub returns-in_err-reply-clause-goes : goal.returns-in_err-reply-clause-goes
returns-in_err-reply-clause-goes g c = λ left told.
    went_stop _ c.from_residual.result _ _ _ _ _ _ _ _ c.from_residual.ensures.0
    (c.in_err-reply.ensures.goes c.args.below.now.kernel.now (position_reply (opened c.args.below.now.kernel.now.files c.args.fd)) c.clear.new.self (λ left. position_quiet c.args.below.now.kernel.now c.clear.new.self left c.from.result c.args.fd c.from.ensures c.ranges.fd.fits) left told)

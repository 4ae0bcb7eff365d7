-- A sleep until second 2^31 tells whether it has come.
use Rattle.std.proofs.Common.{◌∙◌, ap, refl}
use Rattle.bridge_wait.proofs.ClockLooks.{late_look, late_reply, late_told}
use Rattle.bridge_log.proofs.Looking.{looked_stop}
use Rattle.bridge_wait.specs.inside.Shown.{is_over}
use Rattle.bridge_wait.proofs.looking.is_late.Goals as goal

pub returns-clause-looks : goal.returns-clause-looks
returns-clause-looks g c = λ left told.
    let seen = c.in_ok-reply.ensures.looks (late_reply c.args.below.now.kernel.now c.args.real) c.push_time.new.mem (λ left. late_look c.args.below.now.kernel.now c.push_time.new.mem left c.sleep_clock.result c.in_ok-place.place c.args.real c.sleep_clock.ensures c.in_ok-place.ensures) left told in
    (c.is_over.ensures ∙ ap is_over seen.0.answered ∙ late_told c.args.below.now.kernel.now c.args.real, seen.1)

pub returns-in_err-place-clause-looks : goal.returns-in_err-place-clause-looks
returns-in_err-place-clause-looks g c = λ left told. looked_stop _ c.from_residual.result _ _ _ _ _ _ _ c.from_residual.ensures.0 refl

pub returns-in_err-reply-clause-looks : goal.returns-in_err-reply-clause-looks
returns-in_err-reply-clause-looks g c = λ left told.
    looked_stop _ c.from_residual-in_err-reply.result _ _ _ _ _ _ _ c.from_residual-in_err-reply.ensures.0
    (c.in_err-reply.ensures.looks (late_reply c.args.below.now.kernel.now c.args.real) c.push_time.new.mem (λ left. late_look c.args.below.now.kernel.now c.push_time.new.mem left c.sleep_clock.result c.in_ok-place.place c.args.real c.sleep_clock.ensures c.in_ok-place.ensures) left told)

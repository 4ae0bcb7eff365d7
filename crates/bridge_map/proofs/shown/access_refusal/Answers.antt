-- What F_GETFL tells, which is quiet.
use Rattle.std.proofs.Common.{ap, ◌∙◌}
use Rattle.kernel_model.specs.Pipes.{nothing}
use Rattle.bridge_map.proofs.Looking.{getfl_quiet, getfl_tells}
use Rattle.bridge_map.proofs.Quietly.{looked_stop, quiet_called, silent_stopped}
use Rattle.bridge_map.specs.Shown.{access_error_told}
use Rattle.bridge_map.proofs.shown.access_refusal.Goals as goal

pub returns-in_err-reply-clause-looked : goal.returns-in_err-reply-clause-looked
returns-in_err-reply-clause-looked g c = λ left told.
    looked_stop _ c.from_residual.result _ _ _ _ _ _ _ c.from_residual.ensures.0
    (silent_stopped (getfl_quiet c.args.below.now.kernel.now c.clear.new.self left c.from.result c.args.fd c.from.ensures c.ranges.fd.fits) told (c.in_err-reply.ensures.row left told))

pub returns-clause-looked : goal.returns-clause-looked
returns-clause-looked g c = λ left told.
    let called = c.in_ok-reply.ensures.row left told in (
      c.access_error_told.ensures ∙ ap access_error_told called.answered
          ∙ getfl_tells c.args.below.now.kernel.now c.clear.new.self left c.from.result c.args.fd c.from.ensures c.ranges.fd.fits,
      quiet_called (getfl_quiet c.args.below.now.kernel.now c.clear.new.self left c.from.result c.args.fd c.from.ensures c.ranges.fd.fits) _ _ told called (c.in_ok-reply.ensures.kept left told nothing),
    )

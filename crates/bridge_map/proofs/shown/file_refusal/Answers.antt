-- What a read of one byte tells, which is quiet.
use Rattle.std.proofs.Common.{ℕ, length, ap, ◌∙◌}
use Rattle.std.proofs.lemmas.List.{length-replicate}
use Rattle.kernel_model.specs.Pipes.{nothing}
use Rattle.bridge_map.proofs.Looking.{pread_quiet, pread_tells}
use Rattle.bridge_map.proofs.Quietly.{looked_stop, quiet_called, silent_stopped}
use Rattle.bridge_map.specs.Shown.{file_error_told}
use Rattle.bridge_map.proofs.shown.file_refusal.Goals as goal

pub returns-in_err-reply-clause-looked : goal.returns-in_err-reply-clause-looked
returns-in_err-reply-clause-looked g c = λ left told description there may_read.
    let one = ap length c.in_ok-fresh_room.ensures ∙ length-replicate {A = ℕ} 1 0 in
    looked_stop _ c.from_residual-in_err-reply.result _ _ _ _ _ _ _ c.from_residual-in_err-reply.ensures.0
    (silent_stopped (pread_quiet c.args.below.now.kernel.now left c.fresh_room.new.mem c.from.result c.args.fd c.args.offset description c.from.ensures c.ranges.fd.fits c.requires one there may_read) told (c.in_err-reply.ensures.row left told))

pub returns-clause-looked : goal.returns-clause-looked
returns-clause-looked g c = λ left told description there may_read.
    let one = ap length c.in_ok-fresh_room.ensures ∙ length-replicate {A = ℕ} 1 0 in
    let called = c.in_ok-reply.ensures.row left told in (
      c.file_error_told.ensures ∙ ap file_error_told called.answered
          ∙ pread_tells c.args.below.now.kernel.now left c.fresh_room.new.mem c.from.result c.args.fd c.args.offset description c.from.ensures c.ranges.fd.fits c.requires one there may_read,
      quiet_called (pread_quiet c.args.below.now.kernel.now left c.fresh_room.new.mem c.from.result c.args.fd c.args.offset description c.from.ensures c.ranges.fd.fits c.requires one there may_read) _ _ told called (c.in_ok-reply.ensures.kept left told nothing),
    )

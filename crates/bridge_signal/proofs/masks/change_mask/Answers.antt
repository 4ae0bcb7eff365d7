use Rattle.std.proofs.Common.{◌∙◌, ap}
use Rattle.outside.specs.Streams.{contents}
use Rattle.bridge_signal_state.proofs.Moving.{moves_none}
use Rattle.bridge_signal.proofs.Asking.{mask_done}
use Rattle.bridge_signal.specs.inside.Asked.{mask_changed}
use Rattle.bridge_signal.proofs.masks.change_mask.Goals as goal

pub returns-in-Err-clause-acts : goal.returns-in-Err-clause-acts
returns-in-Err-clause-acts g c = λ left told.
    (ap (mask_changed c.args.below.now.kernel.now) c.in-Err.is, moves_none c.args.below.now.kernel.now (contents g.I.Source.left g.O.Sink.written g.E.Sink.written c.args.dev.now) left c.args.below.now.log.now)

pub returns-in_ok-before-in-Ok-clause-acts : goal.returns-in_ok-before-in-Ok-clause-acts
returns-in_ok-before-in-Ok-clause-acts g c = λ left told.
    let seen = c.in_ok-before-in-Ok.ensures.acts left told in
    (ap (mask_changed c.args.below.now.kernel.now) c.in-Ok.is ∙ mask_done c.args.below.now.kernel.now c.replace_mask.new.below.kernel.now c.in-Ok.change c.in_ok-before-in-Ok.before seen.0.0 seen.0.1, seen.1)

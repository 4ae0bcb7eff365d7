-- A signal that pends is taken.
use Rattle.std.proofs.Common.{◌∙◌, ap, sym}
use Rattle.bridge_acceptance.proofs.Rows.{took}
use Rattle.bridge_acceptance.specs.inside.Accepting.{did}
use Rattle.bridge_acceptance.proofs.accepting.take_signal.Goals as goal

pub returns-clause-acts : goal.returns-clause-acts
returns-clause-acts g c = λ none there left told.
    let done = c.in_ok-info.ensures.acts left told in
    (took c.args.below.now.kernel.now c.take.new.below.kernel.now c.args.sig none c.in_ok-info.info there done.0.0 done.0.1 ∙ ap (did c.take.new.below.kernel.now) (sym c.taken.ensures), done.1)

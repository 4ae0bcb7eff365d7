use Rattle.std.proofs.Common.{◌∙◌, sym, ap}
use Rattle.kernel_model.specs.Came.{Given}
use Rattle.kernel_model.specs.declared.signal.SigStack.{SigStack}
use Rattle.bridge_signal.proofs.Asking.{stack_taken}
use Rattle.bridge_signal.specs.inside.Told.{did}
use Rattle.bridge_signal.proofs.stacks.take.Goals as goal

pub returns-clause-acts : goal.returns-clause-acts
returns-clause-acts g c = λ left told.
    let done = c.in_ok-taken.ensures.acts left told in
    (stack_taken c.args.below.now.kernel.now c.set_stack.new.below.kernel.now c.args.shown c.args.new c.in_ok-taken.taken done.0 ∙ ap (λ (t : Given SigStack). did c.set_stack.new.below.kernel.now t) (sym c.told_if.ensures), done.1)

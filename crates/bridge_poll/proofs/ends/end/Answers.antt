-- By the cause
use Rattle.std.proofs.Common.{◌≡◌, sym, subst}
use Rattle.std.specs.Prelude.{IfOk}
use Rattle.kernel_model.specs.State.{Kernel}
use Rattle.o32_model.specs.WaitEnds.{ends_with}
use Rattle.o32_model.specs.declared.wait.Cause.{Cause}
use Rattle.bridge_poll.specs.inside.Ending.{ended_so}
use Rattle.bridge_poll.proofs.ends.end.Goals as goal

pub returns-in-Due-clause-ends : goal.returns-in-Due-clause-ends
returns-in-Due-clause-ends c =
    subst (λ (cause : Cause). IfOk c.tell_nothing.result (λ close. (kernel : Kernel) → ended_so c.args.wait.now cause c.args.stopped kernel c.args.space.now ≡ ends_with close kernel c.tell_nothing.new.space))
    (sym c.in-Due.is) c.tell_nothing.ensures.ends

pub returns-in-Accepted-clause-ends : goal.returns-in-Accepted-clause-ends
returns-in-Accepted-clause-ends c =
    subst (λ (cause : Cause). IfOk c.tell_nothing-in-Accepted.result (λ close. (kernel : Kernel) → ended_so c.args.wait.now cause c.args.stopped kernel c.args.space.now ≡ ends_with close kernel c.tell_nothing-in-Accepted.new.space))
    (sym c.in-Accepted.is) c.tell_nothing-in-Accepted.ensures.ends

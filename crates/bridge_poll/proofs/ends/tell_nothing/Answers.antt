-- No native entries are there.
use Rattle.std.proofs.Common.{◌∙◌, ap, refl, sym}
use Rattle.o32_model.specs.WaitEnds.{ends_with}
use Rattle.o32_model.specs.declared.wait.Close.{Close}
use Rattle.bridge_poll.proofs.Ending.{told_nothing}
use Rattle.bridge_poll.proofs.ends.tell_nothing.Goals as goal

pub returns-clause-ends : goal.returns-clause-ends
returns-clause-ends c = λ kernel.
    told_nothing c.args.wait.now c.args.space.now c.store_told.new.space kernel _ c.in_ok-stored.stored refl c.in_ok-stored.ensures.answer c.in_ok-stored.ensures.stored
    ∙ ap (λ (close : Close). ends_with close kernel c.store_told.new.space) (sym c.told_if.ensures)

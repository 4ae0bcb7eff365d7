-- The call is carried out again.
use Rattle.std.proofs.Common.{◌∙◌, ap, sym}
use Rattle.o32_model.specs.WaitEnds.{ends_with, wait_word}
use Rattle.o32_model.specs.declared.wait.Close.{Close}
use Rattle.bridge_acceptance.proofs.Closed.{end_keeps}
use Rattle.bridge_acceptance.proofs.Rows.{end_closed}
use Rattle.bridge_acceptance.proofs.ends.accept_again.Goals as goal

pub returns-clause-ends : goal.returns-clause-ends
returns-clause-ends g c = λ left told.
    let wait = c.args.wait.now in
    let seen = c.in_ok-came.ensures.acts left told in (
      seen.1.rest,
      end_closed c.args.below.now.kernel.now c.accept.new.below.kernel.now wait c.args.space.now c.tell.new.space (wait_word wait 0) (wait_word wait 1) (wait_word wait 2) (wait_word wait 3) c.in_ok-came.came c.in_ok-told.told seen.0 c.in_ok-told.ensures.ends
          ∙ ap (λ (close : Close). ends_with close c.accept.new.below.kernel.now c.tell.new.space) (sym c.close_of.ensures),
    )

pub returns-clause-kept : goal.returns-clause-kept
returns-clause-kept g c = λ left told.
    let seen = c.in_ok-came.ensures.acts left told in
    end_keeps c.args.space.now c.tell.new.space c.tell.new.log seen.1 c.tell.ensures.native c.in_ok-told.ensures.effects

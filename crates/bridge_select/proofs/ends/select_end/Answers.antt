use Rattle.std.proofs.Common.{◌∙◌, ap, sym}
use Rattle.o32_model.specs.TimeLeft.{LeftForm}
use Rattle.o32_model.specs.WaitEnds.{with_left}
use Rattle.bridge_limits.specs.Limits.{left_form}
use Rattle.bridge_select.specs.inside.Ending.{closing}
use Rattle.bridge_select.proofs.Ending.{if_ended, keeps_behind, select_ended_is}
use Rattle.bridge_select.proofs.ends.select_end.Goals as goal

pub returns-clause-ends : goal.returns-clause-ends
returns-clause-ends g c = λ left told.
    let wait = c.args.wait.now in
    let kernel = c.args.below.now.kernel.now in
    let space = c.args.space.now in
    let form = left_form c.time_place-at.result in
    let closes = c.end_limited.ensures.ends space c.in_ok-close.ensures.alike left told in (
      closes.0,
      if_ended c.end_limited.result _ _ c.end_limited.new.below.kernel.now c.end_limited.new.space
          (select_ended_is wait c.args.cause c.args.clock kernel space
          ∙ ap (λ (f : LeftForm). with_left f wait c.args.clock space (closing f wait c.args.cause c.args.clock kernel space)) (sym c.time_place-at.ensures)
          ∙ ap (with_left form wait c.args.clock space) (c.in_ok-close.ensures.ends kernel))
          closes.1,
    )

pub returns-clause-kept : goal.returns-clause-kept
returns-clause-kept g c = λ left told.
    keeps_behind c.end_limited.result c.args.below.now.kernel.now c.end_limited.new.below.kernel.now c.args.space.now.pages c.close.new.space.pages c.end_limited.new.space.pages left c.args.below.now.log.now c.close.new.log c.end_limited.new.below.log.now
    c.close.ensures.native c.in_ok-close.ensures.effects (c.end_limited.ensures.kept left told)

-- The handler's frame was written or not.
use Rattle.std.proofs.Common.{◌∙◌, ℕ, Bool, List, ap, sym, refl}
use Rattle.std.specs.Prelude.{if◌then◌else◌}
use Rattle.o32_turns.specs.Handling.{handling}
use Rattle.schedule.specs.declared.events.Due.{Due}
use Rattle.bridge_delivery.proofs.Carrying.{begins}
use Rattle.bridge_delivery.proofs.Keeping.{keeps_then, keeps_write}
use Rattle.bridge_delivery.proofs.handling.begin_on.Goals as goal

pub returns-in_ok-run_handler-clause-begun : goal.returns-in_ok-run_handler-clause-begun
returns-in_ok-run_handler-clause-begun g c = λ mask stack left told.
    let run = c.in_ok-run_handler.ensures.handling mask left told in
    let k = c.args.below.now.kernel.now in
    let written = c.in_ok-written.written in
    let frame = c.in_ok-written.ensures.entered in (
      run.0,
      λ (coming : List Due) (idle : ℕ).
          begins c.args.process.now.going.now c.args.process.now.cpu.now c.args.process.now.space.now k c.args.taken.now.info c.args.taken.now.action coming idle
          c.args.blocked c.frame_mask-kept.result c.args.stack written c.after_frame.new.going c.enter.new.cpu c.enter.new.space c.run_handler.new.below.kernel.now
          mask stack c.frame_mask-kept.ensures frame.0 frame.1 frame.2 c.in_ok-after_frame.ensures
          (run.1 ∙ ap (λ (b : Bool). if b then handling k c.args.taken.now.info.sig c.args.taken.now.action else k) (sym c.if-written.true)),
    )

pub returns-else-written-clause-begun : goal.returns-else-written-clause-begun
returns-else-written-clause-begun g c = λ mask stack left told.
    let k = c.args.below.now.kernel.now in
    let written = c.in_ok-written.written in
    let frame = c.in_ok-written.ensures.entered in (
      refl,
      λ (coming : List Due) (idle : ℕ).
          begins c.args.process.now.going.now c.args.process.now.cpu.now c.args.process.now.space.now k c.args.taken.now.info c.args.taken.now.action coming idle
          c.args.blocked c.frame_mask-kept.result c.args.stack written c.after_frame.new.going c.enter.new.cpu c.enter.new.space k
          mask stack c.frame_mask-kept.ensures frame.0 frame.1 frame.2 c.in_ok-after_frame.ensures
          (ap (λ (b : Bool). if b then handling k c.args.taken.now.info.sig c.args.taken.now.action else k) (sym c.if-written.false)),
    )

pub returns-in_ok-run_handler-clause-kept : goal.returns-in_ok-run_handler-clause-kept
returns-in_ok-run_handler-clause-kept g c = λ left told.
    keeps_then (keeps_write c.args.below.now.kernel.now c.args.process.now.space.now.pages c.enter.new.space.pages left c.args.below.now.log.now c.enter.new.log c.enter.ensures.native c.in_ok-written.ensures.effects)
    (c.in_ok-run_handler.ensures.kept c.enter.new.space.pages left told)

pub returns-else-written-clause-kept : goal.returns-else-written-clause-kept
returns-else-written-clause-kept g c = λ left told.
    keeps_write c.args.below.now.kernel.now c.args.process.now.space.now.pages c.enter.new.space.pages left c.args.below.now.log.now c.enter.new.log c.enter.ensures.native c.in_ok-written.ensures.effects

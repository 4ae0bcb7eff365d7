-- The wait ends, the handler is told of, and it begins.
use Rattle.std.proofs.Common.{◌∙◌, ℕ, List, ap, refl}
use Rattle.kernel_core.specs.declared.event.Delivery.TheVariants as deliveries
use Rattle.kernel_core.specs.declared.event.Event.TheVariants as events
use Rattle.o32_turns.specs.Closing.{whole_end}
use Rattle.o32_turns.specs.Going.{Standing, within_of}
use Rattle.o32_turns.specs.Handling.{begun, handled, wait_left_by}
use Rattle.o32_turns.specs.Machine.{Within, happens}
use Rattle.outside.specs.Streams.{contents}
use Rattle.schedule.specs.declared.events.Due.{Due}
use Rattle.bridge_delivery.proofs.Carrying.{carried_then}
use Rattle.bridge_delivery.proofs.Keeping.{kept_then, told_then}
use Rattle.bridge_delivery.proofs.handling.handle.Goals as goal

pub returns-clause-handled : goal.returns-clause-handled
returns-clause-handled g c = λ left told.
    let ended = c.in_ok-leave_wait.ensures.left left told in
    let info = c.args.taken.now.info in
    carried_then c.begin.result
    (λ (w : Within). happens (wait_left_by whole_end c.args.taken.now.action w.machine.wait w) (events.Signal info.sig deliveries.Handler))
    (λ (w : Within). begun w info c.args.taken.now.action)
    (λ (w : Within). handled whole_end w info c.args.taken.now.action)
    (within_of c.args.process.now.going.now c.args.process.now.cpu.now c.args.process.now.space.now c.args.below.now.kernel.now)
    (within_of c.tell.new.going c.leave_wait.new.process.cpu.now c.leave_wait.new.process.space.now c.leave_wait.new.below.kernel.now)
    (within_of c.begin.new.process.going.now c.begin.new.process.cpu.now c.begin.new.process.space.now c.begin.new.below.kernel.now)
    (contents g.I.Source.left g.O.Sink.written g.E.Sink.written c.args.dev.now)
    (contents g.I.Source.left g.O.Sink.written g.E.Sink.written c.leave_wait.new.dev)
    (contents g.I.Source.left g.O.Sink.written g.E.Sink.written c.begin.new.dev)
    left (λ w. refl) told (
      ended.0,
      λ (coming : List Due) (idle : ℕ).
          ap (λ (s : Standing). within_of s c.leave_wait.new.process.cpu.now c.leave_wait.new.process.space.now c.leave_wait.new.below.kernel.now coming idle) c.in_ok-tell.ensures
          ∙ ap (λ (w : Within). happens w (events.Signal info.sig deliveries.Handler)) (ended.1 coming idle),
    )
    c.begin.ensures.begun

pub returns-clause-kept : goal.returns-clause-kept
returns-clause-kept g c = λ left told.
    let ended = c.in_ok-leave_wait.ensures.left left told in
    kept_then c.begin.result c.begin.new.below.kernel.now c.begin.new.process.space.now.pages c.begin.new.below.log.now (c.in_ok-leave_wait.ensures.kept left told) (c.begin.ensures.kept left (told_then ended.0 told))

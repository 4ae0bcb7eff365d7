-- The mask is kept, and then the wait ends.
use Rattle.std.proofs.Common.{ℕ, List, ap, refl}
use Rattle.o32_model.specs.declared.wait.Cause.TheVariants.{Handler}
use Rattle.o32_turns.specs.Closing.{whole_end}
use Rattle.o32_turns.specs.Going.{Standing, within_of}
use Rattle.o32_turns.specs.Handling.{wait_left_by}
use Rattle.o32_turns.specs.Machine.{Within}
use Rattle.outside.specs.Streams.{contents}
use Rattle.schedule.specs.declared.events.Due.{Due}
use Rattle.bridge_delivery.specs.inside.Standings.{kept_of}
use Rattle.bridge_delivery.proofs.Carrying.{carried_then, wait_left}
use Rattle.bridge_ends.specs.Ended.{ended_wait}
use Rattle.bridge_delivery.proofs.handling.leave_wait.Goals as goal

pub returns-clause-left : goal.returns-clause-left
returns-clause-left g c = λ left told.
    let held = contents g.I.Source.left g.O.Sink.written g.E.Sink.written c.args.dev.now in
    carried_then c.end_wait.result
    (λ (w : Within). record w { saved = kept_of w.machine.wait w.saved })
    (λ (w : Within). ended_wait c.restart-restarts.result Handler w w.machine.wait)
    (λ (w : Within). wait_left_by whole_end c.args.action.now w.machine.wait w)
    (within_of c.args.process.now.going.now c.args.process.now.cpu.now c.args.process.now.space.now c.args.below.now.kernel.now)
    (within_of c.keep_mask.new.going c.args.process.now.cpu.now c.args.process.now.space.now c.args.below.now.kernel.now)
    (within_of c.end_wait.new.going c.end_wait.new.cpu c.end_wait.new.space c.end_wait.new.k)
    held held (contents g.I.Source.left g.O.Sink.written g.E.Sink.written c.end_wait.new.dev)
    left (λ w. wait_left c.args.action.now c.restart-restarts.result c.restart-restarts.ensures w.machine.wait w) told
    (refl, λ (coming : List Due) (idle : ℕ). ap (λ (s : Standing). within_of s c.args.process.now.cpu.now c.args.process.now.space.now c.args.below.now.kernel.now coming idle) c.keep_mask.ensures)
    c.end_wait.ensures.ends

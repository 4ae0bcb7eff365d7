-- The clock moves, and what was due by then is told.
use Rattle.std.proofs.Common.{◌∙◌, ap}
use Rattle.bridge_ends.proofs.Posts.{after_timer, waits_as}
use Rattle.kernel_core.specs.declared.signal.Sig.TheVariants as sigs
use Rattle.bridge_ends.specs.inside.Endings.{timer_told}
use Rattle.bridge_ends.proofs.posting.post_timer.Goals as goal

pub returns-clause-posts : goal.returns-clause-posts
returns-clause-posts c = λ processor coming idle.
    let memory = c.args.space.now in
    after_timer c.args.going.now c.tell_timer.new.going processor memory c.args.k.now c.advance.new.self c.args.clock coming idle c.waits_for-awaited.result
    (c.waits_for-awaited.ensures ∙ waits_as c.args.going.now processor memory (record c.args.k.now { clock = c.args.clock }) coming idle sigs.Alrm) c.in_ok-advance.ensures.row
    (c.in_ok-tell_timer.ensures ∙ ap (timer_told c.args.going.now c.args.clock) c.next_time-next.ensures)

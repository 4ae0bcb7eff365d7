use Rattle.std.proofs.Common.{sym}
use Rattle.native_kernel.proofs.SignalTaking.{if_none, not_taken, taken_is}
use Rattle.native_kernel.proofs.signal_waits.take_from.Goals as goal

pub returns-then-has : goal.returns-then-has
returns-then-has c =
    taken_is c.args.signals.now c.take.new.self c.args.set.now c.args.sig c.take.result (sym c.if-has.ensures)
    c.take.ensures.first c.take.ensures.rest (if_none c.take.result c.take.ensures.none)

pub returns-else-has : goal.returns-else-has
returns-else-has c = not_taken c.args.signals.now c.args.set.now c.args.sig (sym c.if-has.ensures)

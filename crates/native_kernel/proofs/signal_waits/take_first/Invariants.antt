use Rattle.std.proofs.Common.{◌≡◌, ◌-◌, ◌&&◌}
use Rattle.std.specs.Prelude.{find}
use Rattle.kernel_model.specs.SignalRows.{first_pending, pends}
use Rattle.kernel_model.specs.SignalSets.{has}
use Rattle.native_calls.specs.Signals.{native_order}
use Rattle.native_kernel.specs.inside.Signals.{order_from}
use Rattle.native_kernel.proofs.signal_waits.take_first.Given as goal

-- none is taken so far, and the first among those of the numbers to come is the first of all
abbrev pub invariant-loop-number : goal.invariant-loop-number
invariant-loop-number l = record {
  kept : l.signals ≡ l.initial.signals;
  first :
      find (λ sig. has l.set sig && pends l.initial.signals sig) (order_from l.number (129 - l.number))
      ≡ first_pending l.initial.signals native_order l.set;
}

use Rattle.std.proofs.Common.{◌≡◌, replicate}
use Rattle.kernel_model.specs.SignalRows.{no_action}
use Rattle.native_signal.proofs.signals.default_actions.Given as goal

-- the actions so far
abbrev pub invariant-loop-place : goal.invariant-loop-place
invariant-loop-place l = l.actions.items ≡ replicate l._place no_action

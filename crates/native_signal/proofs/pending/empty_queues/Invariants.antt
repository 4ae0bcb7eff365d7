use Rattle.std.proofs.Common.{◌≡◌, [], replicate}
use Rattle.native_signal.proofs.pending.empty_queues.Given as goal

-- the queues so far
abbrev pub invariant-loop-place : goal.invariant-loop-place
invariant-loop-place l = l.queues.items ≡ replicate l._place []

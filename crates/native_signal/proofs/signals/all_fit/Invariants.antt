use Rattle.std.proofs.Common.{ℕ, ◌<◌, ◌^◌, slice_index_or}
use Rattle.kernel_model.specs.declared.signal.Action.{Action}
use Rattle.native_signal.proofs.signals.all_fit.Given as goal

abbrev pub invariant-loop-action : goal.invariant-loop-action
invariant-loop-action l = (k : ℕ) (d : Action) → k < l.action-index → (slice_index_or l.actions k d).handler < 2 ^ 64

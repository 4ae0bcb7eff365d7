use Rattle.std.proofs.Common.{ℕ, ◌<◌, ◌^◌, slice_index_or}
use Rattle.kernel_model.specs.declared.limit.Limit.{Limit}
use Rattle.native_kernel.proofs.system.all_fit.Given as goal

abbrev pub invariant-loop-limit : goal.invariant-loop-limit
invariant-loop-limit l = (k : ℕ) (d : Limit) → k < l.limit-index
    → let limit = slice_index_or l.limits k d in (limit.soft < 2 ^ 64) × (limit.hard < 2 ^ 64)

use Rattle.std.proofs.Common.{ℕ, Result}
use Rattle.kernel_core.specs.PathWalk as walking
use Rattle.kernel_core.specs.declared.error.Errno.{Errno}
use Rattle.native_vfs.specs.Keyed.{number_at}
use Rattle.native_vfs.specs.inside.Walking.{walk_of, steps_left, IsUnderWay}
use Rattle.native_vfs.proofs.vfs.Vfs.walk.Given as goal

abbrev pub invariant-loop-walk : goal.invariant-loop-walk
invariant-loop-walk l = record {
  way : IsUnderWay l.self l.walk;
  same : (result : Result walking.Place Errno)
      → (count : ℕ) × walking.EndsAfter count l.self.nodes l.follow (walking.Goes (walk_of l.self l.walk)) result
      → walking.Walks l.self.nodes (number_at l.self l.from) l.path l.follow result;
}

abbrev pub decreases-loop-walk : goal.decreases-loop-walk
decreases-loop-walk l = steps_left l.walk

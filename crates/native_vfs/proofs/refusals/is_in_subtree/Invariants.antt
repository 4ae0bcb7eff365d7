use Rattle.std.proofs.Common.{◌≡◌, ◌-◌, IsSome}
use Rattle.slab.specs.Slab.{get as slab_get}
use Rattle.kernel_core.specs.NameCalls.{is_below, is_in_subtree}
use Rattle.native_vfs.specs.inside.Stored.{nodes_of, number_of_key}
use Rattle.native_vfs.proofs.refusals.is_in_subtree.Given as goal

abbrev pub invariant-loop-step : goal.invariant-loop-step
invariant-loop-step l = record {
  live : IsSome (slab_get l.inodes.table l.key);
  left : is_in_subtree (nodes_of l.inodes.table) (number_of_key l.inodes.table l.fn.above) (number_of_key l.inodes.table l.fn.dir)
      ≡ is_below (l._step-end - l._step) (nodes_of l.inodes.table) (number_of_key l.inodes.table l.fn.above) (number_of_key l.inodes.table l.key);
}

use Rattle.std.proofs.Common.{◌-◌}
use Rattle.kernel_core.specs.Nodes.{entries_in, listing_at}
use Rattle.native_vfs.specs.Keyed.{number_at}
use Rattle.native_files.proofs.NamesUp.{NoneUpTo}
use Rattle.native_files.proofs.location.name_in.Given as goal

abbrev pub invariant-loop-next : goal.invariant-loop-next
invariant-loop-next l = NoneUpTo l.number l.cookie (entries_in (listing_at l.vfs.nodes (number_at l.vfs l.parent)))

abbrev pub decreases-loop-next : goal.decreases-loop-next
decreases-loop-next l = 2147483648 - l.cookie

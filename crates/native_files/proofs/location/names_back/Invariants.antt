use Rattle.std.proofs.Common.{◌≡◌, ◌-◌, IsSome}
use Rattle.kernel_core.specs.Nodes.{listing_at}
use Rattle.kernel_core.specs.ValidTree.{node_limit}
use Rattle.kernel_model.specs.NodeRows.{names_to}
use Rattle.native_vfs.specs.Keyed.{IsLiveKey, number_at}
use Rattle.native_files.proofs.NamesUp.{names_before}
use Rattle.native_files.proofs.location.names_back.Given as goal

abbrev pub invariant-loop-step : goal.invariant-loop-step
invariant-loop-step l =
    IsLiveKey l.vfs l.at
    × IsSome (listing_at l.vfs.nodes (number_at l.vfs l.at))
    × (names_to node_limit l.vfs.nodes (number_at l.vfs l.key) ≡ names_before l.back.items (names_to (node_limit - l._step) l.vfs.nodes (number_at l.vfs l.at)))

use Rattle.std.proofs.Common.{◌≡◌, length, get_or, ap, ◌∙◌, arith}
use Rattle.std.specs.Prelude.{◌==◌}
use Rattle.std.proofs.lemmas.List.Sums.{sum_by_more_le_part, count_by-le-length}
use Rattle.kernel_core.specs.declared.tree.Node.{Node}
use Rattle.kernel_core.specs.declared.tree.DirEntry.{DirEntry}
use Rattle.kernel_core.specs.ValidTree.{entries_of, names_in}
use Rattle.fs_image.proofs.walk.count_names.Goals as goal

pub count_entries-requires : goal.count_entries-requires
count_entries-requires c = λ q.
    let nodes = c.args.nodes.now in
    let i = c.loop-node.node-index in
    let node = c.node-item.result in
    let sums = sum_by_more_le_part (λ (n : Node). names_in (entries_of n.kind) q) (λ (n : Node). length (entries_of n.kind)) nodes i node c.loop-node-test.true
    (λ n. count_by-le-length (λ (e : DirEntry). e.node == q) (entries_of n.kind)) in
    let len : length c.entries.result.now ≡ length (entries_of (get_or nodes i node).kind) = ap length c.entries.ensures ∙ ap (λ (n : Node). length (entries_of n.kind)) c.node-item.is in
    omega (arith, sums, len, c.loop-node.invariant q, c.requires)

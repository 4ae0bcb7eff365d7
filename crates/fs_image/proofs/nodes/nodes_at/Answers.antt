use Rattle.std.proofs.Common.{◌≡◌, ◌+◌, ◌-◌, [], ◌++◌, ◌∷◌, subst, arith, refl, sym, ap, ◌∙◌}
use Rattle.std.proofs.lemmas.Result.{err_from_is_err_and}
use Rattle.std.proofs.lemmas.List.Sums.{sum_by_push}
use Rattle.kernel_core.specs.ValidTree.{all_blocks, all_entries, blocks_of, entries_of}
use Rattle.kernel_core.specs.declared.tree.Node.{Node}
use Rattle.std.specs.Prelude.{length, Ok}
use Rattle.fs_image.specs.Reading.{node_at, many}
use Rattle.fs_image.proofs.Loops.{many-next, many-fails, many-done}
use Rattle.fs_image.specs.inside.Valid.{AreNodes}
use Rattle.fs_image.proofs.NodeLaws.{no_nodes, node_takes}
use Rattle.fs_image.proofs.nodes.nodes_at.Goals as goal

pub loop-init : goal.loop-init
loop-init c =
    let none : c.new-nodes.result.items ≡ [] = c.new-nodes.ensures.items in
    let whole : c.args.count - 0 ≡ c.args.count = omega arith in
    record {
      reads = rw none (ap (λ n. many node_at n [] c.args.file c.args.rest.now) whole);
      bytes = λ i. omega (arith, c.type_inv.rest i);
      nodes = subst AreNodes (sym none) no_nodes;
      blocks = rw none refl;
      entries = rw none refl;
    }

pub returns-in_err-node : goal.returns-in_err-node
returns-in_err-node c =
    let p = err_from_is_err_and c.from_residual.result c.from_residual.ensures.1 in
    rw (p.1, p.2) (many-fails node_at c.in_err-node.field-0.0 c.args.count c.loop.counter c.loop.nodes.items c.as_slice.result.now c.args.file c.loop.left.now _ c.loop-test.true c.as_slice.ensures.value c.in_err-node.ensures c.loop.invariant.reads)

pub loop-preserved : goal.loop-preserved
loop-preserved c =
    let node = c.in_ok-node.node in
    let before = c.loop.nodes.items in
    let got : node_at before c.args.file c.loop.left.now ≡ Ok (node, c.in_ok-node.after.now) = rw c.as_slice.ensures.value at c.in_ok-node.ensures in
    let taken = node_takes c.args.file before c.loop.left.now (node, c.in_ok-node.after.now) c.loop.invariant.nodes c.loop.invariant.bytes got in
    let pushed : c.push.new.self.items ≡ before ++ node ∷ [] = c.in_ok-push.ensures.items in
    record {
      reads = rw pushed (many-next node_at c.args.count c.loop.counter before c.as_slice.result.now c.args.file c.loop.left.now node c.in_ok-node.after.now _ c.loop-test.true c.as_slice.ensures.value c.in_ok-node.ensures c.loop.invariant.reads);
      bytes = taken.0.rest_fits;
      nodes = subst AreNodes (sym pushed) taken.1;
      blocks = c.totals_with-totals.ensures.blocks ∙ (ap (λ n. n + length (blocks_of node.kind)) c.loop.invariant.blocks ∙ (sym (sum_by_push (λ (n : Node). length (blocks_of n.kind)) before node) ∙ ap all_blocks (sym pushed)));
      entries = c.totals_with-totals.ensures.entries ∙ (ap (λ n. n + length (entries_of node.kind)) c.loop.invariant.entries ∙ (sym (sum_by_push (λ (n : Node). length (entries_of n.kind)) before node) ∙ ap all_entries (sym pushed)));
    }

pub returns : goal.returns
returns c = many-done node_at c.args.count c.loop.counter c.loop.nodes.items c.args.file c.loop.left.now _ c.loop-test.false c.loop.invariant.reads

use Rattle.std.proofs.Common.{◌∙◌, ap, sym, set, false, arith}
use Rattle.std.proofs.lemmas.List.{set-get_or}
use Rattle.number_pool.specs.inside.Tree.{leaves}
use Rattle.number_pool.proofs.Mending.{set_leaf-but_parent, mend-but_parent, leaf_at, leaves-set_leaf, leaves-set_inner, same_flag}
use Rattle.number_pool.proofs.tree.set_leaf.Goals as goal

pub returns-then-flags-node-clause-marked : goal.returns-then-flags-node-clause-marked
returns-then-flags-node-clause-marked c =
    let leaves_now = leaves c.args.size c.args.flags.now in
    let same = leaf_at c.args.size c.args.flags.now c.args.leaf ∙ same_flag _ _ c.if-flags-node.true in
    sym (set-get_or leaves_now c.args.leaf false) ∙ ap (set leaves_now c.args.leaf) same

pub loop-node-init : goal.loop-node-init
loop-node-init c = record {
  positive = omega arith;
  within = omega arith;
  mended = set_leaf-but_parent _ _ _ _ c.requires.tree;
  marked = leaves-set_leaf _ _ _ _;
}

pub loop-node-preserved : goal.loop-node-preserved
loop-node-preserved c = record {
  positive = omega arith;
  within = omega arith;
  mended = mend-but_parent _ _ _ _ (omega arith) (omega arith) c.loop-node.invariant.mended c.has_full_children.ensures;
  marked = leaves-set_inner _ _ _ _ (omega arith) ∙ c.loop-node.invariant.marked;
}

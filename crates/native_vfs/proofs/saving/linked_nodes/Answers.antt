use Rattle.std.proofs.Common.{subst, ◌∙◌}
use Rattle.native_vfs.proofs.trees.SavedNodes.{IsReadFrom, read-none, read-other, read-more, read-all}
use Rattle.native_vfs.proofs.saving.linked_nodes.Goals as goal

pub loop-key-init : goal.loop-key-init
loop-key-init c = (
  tt,
  tt,
  read-none c.args.table.now c.new-linked.result c.into_iter-key-iterator.result c.new-linked.ensures.ordered c.new-linked.ensures.empty
      (c.into_iter-key-iterator.ensures.into_iter_gives ∙ c.iter-key-items.ensures.rest),
)

pub loop-key-preserved-then-node-gt0 : goal.loop-key-preserved-then-node-gt0
loop-key-preserved-then-node-gt0 c = (
  tt,
  tt,
  read-more c.args.table.now c.loop-key.linked c.insert.new.self c.in-Some._key c.in-Some.node c.next.new.self
      (subst (IsReadFrom c.args.table.now c.loop-key.linked) c.in-Some.ensures.steps c.loop-key.invariant.2)
      c.if-node-gt0.true c.in_ok-insert.ensures.ordered c.in_ok-insert.ensures.updates.0,
)

pub loop-key-preserved : goal.loop-key-preserved
loop-key-preserved c = (
  tt,
  tt,
  read-other c.args.table.now c.loop-key.linked c.in-Some._key c.in-Some.node.now c.next.new.self
      (subst (IsReadFrom c.args.table.now c.loop-key.linked) c.in-Some.ensures.steps c.loop-key.invariant.2)
      c.if-node-gt0.false,
)

pub returns : goal.returns
returns c =
    read-all c.args.table.now c.requires.distinct c.loop-key.linked
    (subst (IsReadFrom c.args.table.now c.loop-key.linked) c.in-None.ensures.steps.0 c.loop-key.invariant.2)

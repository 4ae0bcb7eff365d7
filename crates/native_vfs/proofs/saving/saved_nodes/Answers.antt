use Rattle.std.proofs.Common.{List, [], ◌∷◌, ◌++◌, map, ap, ◌∙◌}
use Rattle.std.proofs.lemmas.List.Elements.{All-rest}
use Rattle.kernel_core.specs.declared.tree.Node.{Node}
use Rattle.native_vfs.specs.inside.Saving.{saved_of, HasTime}
use Rattle.native_vfs.proofs.trees.SavedNodes.{saved-next}
use Rattle.native_vfs.proofs.saving.saved_nodes.Goals as goal

pub loop-number-preserved : goal.loop-number-preserved
loop-number-preserved c = (
  tt,
  tt,
  ap (λ (ns : List Node). ns ++ map saved_of c.next.new.self)
      (c.in_ok-push.ensures.items ∙ ap (λ n. c.loop-number.nodes.items ++ n ∷ []) c.in_ok-saved_node.ensures)
      ∙ saved-next c.loop-number.nodes.items (map saved_of c.args.linked.now.entries) c.loop-number.number-iterator c.next.new.self (c.in-Some.number.now, c.in-Some.node.now)
      c.in-Some.ensures.steps c.loop-number.invariant.2,
  All-rest HasTime (c.in-Some.number.now, c.in-Some.node.now) c.next.new.self c.loop-number.number-iterator c.in-Some.ensures.steps c.loop-number.invariant.3,
)

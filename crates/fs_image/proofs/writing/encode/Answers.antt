use Rattle.std.proofs.Common.{List, ℕ, All, ap, subst, sym}
use Rattle.kernel_core.specs.declared.tree.Node.{Node}
use Rattle.fs_image.specs.Text.{tree_text, text_of}
use Rattle.fs_image.specs.inside.Writing.{CanBeWritten}
use Rattle.fs_image.proofs.Gains.{can_be_written, adds_ok, adds_err}
use Rattle.fs_image.proofs.writing.encode.Goals as goal

pub put_tree-requires-clause-written : goal.put_tree-requires-clause-written
put_tree-requires-clause-written c = subst (λ (ns : List Node). All CanBeWritten ns) (sym c.as_slice.ensures) (can_be_written c.args.tree.now c.requires)

abbrev texts : List Node → List ℕ
texts nodes = tree_text nodes

pub returns-clause-ok : goal.returns-clause-ok
unfolding text_of
returns-clause-ok c = adds_ok (tree_text c.as_slice.result.now) (tree_text c.args.tree.now.nodes) c.put_tree.result c.args.out.now.items c.put_tree.new.out.items (ap texts c.as_slice.ensures) c.put_tree.ensures

pub returns-clause-err : goal.returns-clause-err
unfolding text_of
returns-clause-err c = adds_err (tree_text c.as_slice.result.now) (tree_text c.args.tree.now.nodes) c.put_tree.result c.args.out.now.items c.put_tree.new.out.items (ap texts c.as_slice.ensures) c.put_tree.ensures

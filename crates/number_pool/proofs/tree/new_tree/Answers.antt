use Rattle.std.proofs.Common.{◌∙◌, ap}
use Rattle.number_pool.specs.inside.Tree.{leaves}
use Rattle.number_pool.proofs.Mending.{leaves-replicate}
use Rattle.number_pool.proofs.tree.new_tree.Goals as goal

pub returns-clause-free : goal.returns-clause-free
returns-clause-free c =
    ap (leaves c.args.size) (c.in_ok-flags.ensures.items_if_clones_equal (λ y h. h)) ∙ leaves-replicate c.args.size

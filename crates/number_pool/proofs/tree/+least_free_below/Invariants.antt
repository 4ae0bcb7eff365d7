use Rattle.number_pool.proofs.tree.+least_free_below.Given as goal

abbrev pub decreases-least_free_below : goal.decreases-least_free_below
decreases-least_free_below l = l.height

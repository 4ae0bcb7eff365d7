use Rattle.std.proofs.Common.{Result, Ok, ap, sym, subst, option_map}
use Rattle.kernel_core.specs.declared.tree.Tree.{Tree}
use Rattle.kernel_core.specs.ValidTree.{IsValidTree}
use Rattle.session_files.specs.Inputs.{IsOpened}
use Rattle.session_words.specs.Words.{texts, word_at}
use Rattle.session_files.specs.declared.refusal.Refusal.{Refusal}
use Rattle.session_files.proofs.Trees.{empty_tree_valid}
use Rattle.session_files.proofs.image.first_tree.Goals as goal

pub returns-in_ok-empty_tree-in-None-clause-tree : goal.returns-in_ok-empty_tree-in-None-clause-tree
returns-in_ok-empty_tree-in-None-clause-tree g c = (
  subst (λ i. IsOpened (g.F.Store.files c.args.files.now) (option_map (word_at (texts c.args.words.now)) i) (Ok c.in_ok-empty_tree-in-None.field-0))
      (sym c.in-None.is) (ap (λ t. let r : Result Tree Refusal = Ok t in r) c.in_ok-empty_tree-in-None.ensures),
  subst IsValidTree (sym c.in_ok-empty_tree-in-None.ensures) empty_tree_valid,
)

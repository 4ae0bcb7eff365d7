use Rattle.std.proofs.Common.{sym, ◌∙◌, arith}
use Rattle.std.proofs.lemmas.Result.{err_from_is_err_and}
use Rattle.fs_image.proofs.MeaningLaws.{fails_reading, means_failure, means_tree, nodes_short}
use Rattle.fs_image.proofs.NodeLaws.{reading_takes}
use Rattle.fs_image.proofs.decoding.decoded.Goals as goal

pub returns-in_err-tree : goal.returns-in_err-tree
returns-in_err-tree c =
    let p = err_from_is_err_and c.from_residual.result c.from_residual.ensures.1 in
    rw (p.1, p.2) (fails_reading c.in_err-tree.field-0.0 c.args.bytes.now c.in_err-tree.ensures)

pub naming_failure-requires-clause-read : goal.naming_failure-requires-clause-read
naming_failure-requires-clause-read c = (reading_takes c.args.bytes.now c.in_ok-tree.tree (λ i. omega (arith, c.type_inv.bytes i)) c.in_ok-tree.ensures).1

pub naming_failure-requires-clause-short : goal.naming_failure-requires-clause-short
naming_failure-requires-clause-short c =
    let e = nodes_short c.args.bytes.now c.in_ok-tree.tree (λ i. omega (arith, c.type_inv.bytes i)) c.in_ok-tree.ensures in
    omega (arith, e)

pub returns-in-Some : goal.returns-in-Some
returns-in-Some c = means_failure c.args.bytes.now c.in_ok-tree.tree c.in-Some.refusal c.in_ok-tree.ensures (sym c.in_ok-refusal.ensures ∙ c.in-Some.is)

pub returns-in-None : goal.returns-in-None
returns-in-None c = means_tree c.args.bytes.now c.in_ok-tree.tree c.in_ok-tree.ensures (sym c.in_ok-refusal.ensures ∙ c.in-None.is)

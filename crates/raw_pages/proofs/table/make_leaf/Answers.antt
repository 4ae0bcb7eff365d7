use Rattle.std.proofs.Common.{Some, ap, arith}
use Rattle.raw_pages.proofs.Tables.{fresh-leaf, none_of}
use Rattle.raw_pages.proofs.table.make_leaf.Goals as goal

pub returns-in_ok-new-clause-same : goal.returns-in_ok-new-clause-same
returns-in_ok-new-clause-same c =
    fresh-leaf _ _ 1024 _ _ (ap Some c.in_ok-new.ensures) (none_of _ c.if-is_none.ensures) (omega arith)

use Rattle.std.proofs.Common.{sym, ap}
use Rattle.native_vfs.proofs.additions.MadeNodes.{on-err}
use Rattle.native_vfs.proofs.tables.Moves.{insertion, same-slots}
use Rattle.native_vfs.proofs.steps.insert.Goals as goal

pub returns-clause-ok : goal.returns-clause-ok
returns-clause-ok c =
    insertion c.args.table.now c.insert.new.self c.in_ok-key.key c.args.node c.in_ok-key.ensures.was_vacant c.in_ok-key.ensures.updates c.requires.distinct c.requires.new c.requires.leads

pub returns-in_err-key-clause-err : goal.returns-in_err-key-clause-err
returns-in_err-key-clause-err c = on-err c.from_residual.result (same-slots c.args.table.now c.insert.new.self (ap (λ t. t.slots) (sym c.in_err-key.ensures.err)))

use Rattle.std.proofs.Common.{◌∙◌, eqb, sym, ap}
use Rattle.kernel_core.specs.NameCalls.{is_node}
use Rattle.native_vfs.specs.inside.Stored.{number_of_key}
use Rattle.native_vfs.proofs.tables.Reasons.{live-node}
use Rattle.native_vfs.proofs.removals.Stages.{named-node}
use Rattle.native_vfs.proofs.table.stands_for.Goals as goal

pub number-requires : goal.number-requires
number-requires c = record { live = live-node c.args.table.now c.args.at.now c.in-Some.found c.requires.agrees c.in-Some.is }

pub returns-in-Some : goal.returns-in-Some
returns-in-Some c =
    ap (λ n. eqb n c.number-own.result) c.number.ensures ∙ ap (eqb (number_of_key c.args.table.now c.in-Some.found)) c.number-own.ensures
    ∙ sym (ap (λ o. is_node o (number_of_key c.args.table.now c.args.node)) (named-node c.args.table.now c.args.at.now c.requires.agrees c.in-Some.found c.in-Some.is))

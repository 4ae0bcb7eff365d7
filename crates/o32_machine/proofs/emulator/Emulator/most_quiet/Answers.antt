-- Nothing is to be done, and nothing is due in any of these turns.
use Rattle.std.proofs.Common.{sym, ◌∙◌}
use Rattle.o32_machine.proofs.WholeTurns.{only_if}
use Rattle.o32_machine.proofs.emulator.Emulator.most_quiet.Goals as goal

pub returns-clause-quiet : goal.returns-clause-quiet
returns-clause-quiet c =
    only_if c.args.self.now c.self.inside.clock c.self.inside.quantum c.self.inside.turns c.self.inside.over c.self.inside.kept.native c.self.inside.kept.records c.self.inside.process c.self.view_is
    c.next_due.result c.next_due.ensures (sym c.goes.ensures ∙ c.if-not-goes.false) c.most_quiet.result c.most_quiet.ensures.early

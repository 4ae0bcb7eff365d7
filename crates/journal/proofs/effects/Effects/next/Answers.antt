use Rattle.std.proofs.Common.{sym, ◌∙◌}
use Rattle.journal.specs.Reading.{effect_at}
use Rattle.journal.specs.Seen.{effect_seen}
use Rattle.journal.proofs.Loops.{many-left, many-over, many-stuck}
use Rattle.journal.proofs.effects.Effects.next.Goals as goal

pub returns-then-self-eq0 : goal.returns-then-self-eq0
returns-then-self-eq0 c =
    let none = sym c.self.view_is ∙ many-over effect_at c.self.inside.count c.self.inside.file c.self.inside.rest.now c.if-self-eq0.true in
    (none, none)

pub invariant_of-self : goal.invariant_of-self
invariant_of-self c =
    (many-left effect_at c.self.inside.count c.self.inside.file c.self.inside.rest.now (effect_seen c.in-Ok.effect) c.in-Ok.rest.now c.if-self-eq0.false c.self.invariant c.in-Ok.ensures).1

pub returns-in-Ok : goal.returns-in-Ok
returns-in-Ok c =
    sym c.self.view_is ∙ (many-left effect_at c.self.inside.count c.self.inside.file c.self.inside.rest.now (effect_seen c.in-Ok.effect) c.in-Ok.rest.now c.if-self-eq0.false c.self.invariant c.in-Ok.ensures).0

pub returns-in-Err : goal.returns-in-Err
returns-in-Err c =
    absurd (many-stuck effect_at c.self.inside.count c.self.inside.file c.self.inside.rest.now c.in-Err.field-0.at c.if-self-eq0.false c.self.invariant c.in-Err.ensures)

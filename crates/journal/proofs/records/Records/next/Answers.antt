use Rattle.std.proofs.Common.{◌≡◌, ℕ, List, ap, sym, subst, ◌∙◌}
use Rattle.journal.specs.declared.turns.Front.{Front}
use Rattle.journal.specs.Form.{front_of}
use Rattle.journal.specs.Seen.{record_seen}
use Rattle.journal.specs.inside.Left.{all_or_none}
use Rattle.journal.proofs.Loops.{records-left, records-over, records-stuck}
use Rattle.journal.proofs.records.Records.next.Goals as goal

pub returns-then-self-eq0 : goal.returns-then-self-eq0
returns-then-self-eq0 c =
    let none = sym c.self.view_is ∙ records-over c.self.inside.before c.self.inside.file c.self.inside.rest.now c.self.inside.more c.if-self-eq0.true in
    (none, none)

pub invariant_of-self : goal.invariant_of-self
invariant_of-self c =
    let left = records-left c.self.inside.more c.self.inside.before c.self.inside.file c.self.inside.rest.now (record_seen c.in-Ok.entry) c.in-Ok.rest.now c.more_behind-self-inside.result c.if-self-eq0.false c.self.invariant c.in-Ok.ensures c.more_behind-self-inside.ensures in
    rw c.front_of-self-inside.ensures left.whole

pub returns-in-Ok : goal.returns-in-Ok
returns-in-Ok c =
    let left = records-left c.self.inside.more c.self.inside.before c.self.inside.file c.self.inside.rest.now (record_seen c.in-Ok.entry) c.in-Ok.rest.now c.more_behind-self-inside.result c.if-self-eq0.false c.self.invariant c.in-Ok.ensures c.more_behind-self-inside.ensures in
    rw c.front_of-self-inside.ensures (sym c.self.view_is ∙ left.all)

pub returns-in-Err : goal.returns-in-Err
returns-in-Err c =
    absurd (records-stuck c.self.inside.more c.self.inside.before c.self.inside.file c.self.inside.rest.now c.in-Err.field-0.at c.if-self-eq0.false c.self.invariant c.in-Err.ensures)

use Rattle.std.proofs.Common.{◌∙◌, List, ap, sym}
use Rattle.kernel_core.specs.declared.record.Record.{Record}
use Rattle.replay_core.specs.Whole.{last_behind}
use Rattle.replay_core.proofs.last.last_of.Goals as goal

pub loop-entry-preserved : goal.loop-entry-preserved
loop-entry-preserved c = sym (ap (λ (l : List Record). last_behind c.loop-entry.last l) c.in-Some.ensures) ∙ c.loop-entry.invariant

pub returns : goal.returns
returns c = sym (ap (λ (l : List Record). last_behind c.loop-entry.last l) (rw c.in_default.is at c.next.ensures).0) ∙ c.loop-entry.invariant

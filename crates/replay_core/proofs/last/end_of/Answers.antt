use Rattle.std.proofs.Common.{None, sym, subst}
use Rattle.journal.specs.Form.{none_before}
use Rattle.replay_core.specs.declared.last.Last.{Last}
use Rattle.replay_core.proofs.Ends.{IsEnd, ends}
use Rattle.replay_core.proofs.last.end_of.Goals as goal

pub unwrap-requires : goal.unwrap-requires
unwrap-requires c = (subst (λ (l : Last). IsEnd l) (sym c.last_of-last.ensures) (ends (record { turn = 0; finish = None }) none_before c.args.records.now c.requires)).finished

pub returns-clause-few : goal.returns-clause-few
returns-clause-few c = (subst (λ (l : Last). IsEnd l) (sym c.last_of-last.ensures) (ends (record { turn = 0; finish = None }) none_before c.args.records.now c.requires)).few

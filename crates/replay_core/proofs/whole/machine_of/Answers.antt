use Rattle.journal.specs.Form.{none_before}
use Rattle.replay_core.proofs.Ends.{all_formed}
use Rattle.replay_core.proofs.whole.machine_of.Goals as goal

pub new-requires : goal.new-requires
new-requires c = all_formed none_before c.args.journal.now.records c.requires.records

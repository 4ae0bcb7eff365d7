use Rattle.journal.specs.Seen.{record_seen}
use Rattle.replay_core.specs.Replay.{first_difference}
use Rattle.replay_core.proofs.Outputs.{counts_same, meets_counts}
use Rattle.replay_core.proofs.Parts.{waits, waits_none}
use Rattle.replay_core.proofs.machine.Machine.wait.Goals as goal

pub returns-in-Some-clause-came : goal.returns-in-Some-clause-came
returns-in-Some-clause-came c = λ held.
    waits c.args.self.now held c.words_of-words.result (record_seen c.in-Some.entry) c.take.new.self c.compare.result c.in-Some.ensures.taken c.words_of-words.ensures c.compare.ensures

pub returns-in-Some-clause-still : goal.returns-in-Some-clause-still
returns-in-Some-clause-still c = λ out err. meets_counts (first_difference c.in-Some.entry.words c.words_of-words.result) c.compare.result out err c.compare.ensures

pub returns-in-None-clause-came : goal.returns-in-None-clause-came
returns-in-None-clause-came c = λ held. waits_none c.args.self.now held c.take.new.self c.in-None.ensures.taken.0 c.in-None.ensures.taken.1

pub returns-in-None-clause-still : goal.returns-in-None-clause-still
returns-in-None-clause-still c = λ out err. counts_same out err

-- The replay of a run's records from where the program starts.
use Rattle.journal_laws.proofs.Runs.{journal_ends, journal_sent}
use Rattle.journal_laws.proofs.laws.a_journal_repeats_its_run.Goals as goal

pub returns : goal.returns
returns c = record { ends = journal_ends; sent = journal_sent }

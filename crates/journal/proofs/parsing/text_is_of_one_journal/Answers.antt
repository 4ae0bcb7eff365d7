use Rattle.journal.proofs.JournalLaws.{one_journal}
use Rattle.journal.proofs.parsing.text_is_of_one_journal.Goals as goal

pub returns : goal.returns
returns c = one_journal

use Rattle.journal.proofs.JournalLaws.{reading_again}
use Rattle.journal.proofs.parsing.text_is_accepted.Goals as goal

pub returns : goal.returns
returns c = reading_again

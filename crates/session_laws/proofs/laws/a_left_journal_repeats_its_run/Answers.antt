use Rattle.session_laws.proofs.Repeating.{answers, completes}
use Rattle.session_laws.proofs.Ran.{wrote}
use Rattle.session_laws.proofs.laws.a_left_journal_repeats_its_run.Goals as goal

pub returns : goal.returns
returns c = record {
  answer = λ left words line old new turns end host are has short answer. answers left c.text_is_accepted.ensures words line are short old new turns end host has answer;
  complete = λ left words line told are has short. completes left c.text_is_accepted.ensures words line are short told has;
  wrote = wrote;
}

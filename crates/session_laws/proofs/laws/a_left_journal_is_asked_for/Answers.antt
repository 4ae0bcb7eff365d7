use Rattle.session_laws.proofs.Asking.{asked_is, asked_too_long}
use Rattle.session_laws.proofs.laws.a_left_journal_is_asked_for.Goals as goal

pub returns : goal.returns
returns c = record {
  asked = λ left line told asked has short asks. asked_is left line told has c.text_is_accepted.ensures asked short asks;
  too_long = λ left line told asked has long asks. asked_too_long left line told has asked long asks;
}

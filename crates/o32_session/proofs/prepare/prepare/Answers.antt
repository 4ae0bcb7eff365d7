use Rattle.o32_session.specs.Words.{texts}
use Rattle.session_words.specs.Read.{line_seen}
use Rattle.session_words.proofs.Budgets.{budget_within}
use Rattle.session_files.proofs.Plain.{asked_plain}
use Rattle.o32_session.proofs.prepare.prepare.Goals as goal

pub prepare_line-requires-clause-bounded : goal.prepare_line-requires-clause-bounded
prepare_line-requires-clause-bounded g c = (budget_within (texts c.args.words.now) (line_seen c.in_ok-line.line) c.in_ok-line.ensures.line).1

pub prepare_line-requires-clause-some : goal.prepare_line-requires-clause-some
prepare_line-requires-clause-some g c = (budget_within (texts c.args.words.now) (line_seen c.in_ok-line.line) c.in_ok-line.ensures.line).0

pub prepare_line-requires-clause-words : goal.prepare_line-requires-clause-words
prepare_line-requires-clause-words g c = (asked_plain (texts c.args.words.now) (line_seen c.in_ok-line.line) c.in_ok-line.ensures.line).args

pub prepare_line-requires-clause-environment : goal.prepare_line-requires-clause-environment
prepare_line-requires-clause-environment g c = (asked_plain (texts c.args.words.now) (line_seen c.in_ok-line.line) c.in_ok-line.ensures.line).env

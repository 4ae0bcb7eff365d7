use Rattle.std.proofs.Common.{sym, ◌∙◌}
use Rattle.session_words.proofs.Counts.{is_count}
use Rattle.session_words.proofs.words.read_soak.Goals as goal

pub returns-in-Some-2-clause-counted : goal.returns-in-Some-2-clause-counted
returns-in-Some-2-clause-counted c = is_count c.word_at.result.now c.in-Some.field-0 (sym c.count.ensures ∙ c.in-Some.is)

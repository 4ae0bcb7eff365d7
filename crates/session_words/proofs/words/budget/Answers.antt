use Rattle.std.proofs.Common.{sym, ◌∙◌}
use Rattle.session_words.proofs.Numbers.{no_value}
use Rattle.session_words.proofs.words.budget.Goals as goal

pub returns-in_err-turns : goal.returns-in_err-turns
returns-in_err-turns c =
    rw c.from_residual.ensures (no_value c.args.word.now c.parse.result c.if-not-is_plain.ensures c.parse.ensures.value.0
    (sym c.ok.ensures.value ∙ c.in_err-turns.was))

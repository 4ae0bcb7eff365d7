use Rattle.std.proofs.Common.{sym, ◌∙◌}
use Rattle.session_words.proofs.Numbers.{no_count}
use Rattle.session_words.proofs.words.count.Goals as goal

pub returns-in_err-numbers : goal.returns-in_err-numbers
returns-in_err-numbers c =
    rw c.from_residual.ensures (no_count c.args.word.now c.parse.result c.if-not-is_plain.ensures c.parse.ensures.value.0
    (sym c.ok.ensures.value ∙ c.in_err-numbers.was))

use Rattle.std.proofs.Common.{not, ap, sym}
use Rattle.std.proofs.lemmas.Bool.{false_from_ne_true}
use Rattle.std.proofs.lemmas.Str.{IsUtf8-from_is_utf8, is_utf8-from_IsUtf8}
use Rattle.journal.proofs.parsing.utf8_text.Goals as goal

pub returns-in-Ok-clause-none : goal.returns-in-Ok-clause-none
returns-in-Ok-clause-none c = sym (ap not (is_utf8-from_IsUtf8 _ c.in-Ok.ensures.cases.1))

pub returns-in-Err-clause-none : goal.returns-in-Err-clause-none
returns-in-Err-clause-none c = sym (ap not (false_from_ne_true _ (λ e. c.in-Err.ensures.cases.0 (IsUtf8-from_is_utf8 _ e))))

-- Texts that a call lends.
use Rattle.std.specs.Borrow.{Bor}
use Rattle.std.specs.Prelude.{ℕ, List, Result, Ok, Err}
use Rattle.kernel_core.specs.declared.core_error.CoreError.{CoreError}

-- the text, where it is lent
abbrev pub text_told : Result (Bor (List ℕ)) CoreError → Result (List ℕ) CoreError
text_told (Ok text) = Ok text.now
text_told (Err error) = Err error

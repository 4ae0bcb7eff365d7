-- What the writing of a part of a journal adds.
use Rattle.std.specs.Prelude.{◌≡◌, ℕ, List, ◌++◌, Result, Ok, Err}
use Rattle.journal.specs.Adding.{AddsPrefix}

-- all of the text was added, or, where memory runs out, a prefix of it
abbrev pub Adds : {A E : Type 0} → List ℕ → Result A E → List ℕ → List ℕ → Type 0
Adds text (Ok done) old new = new ≡ old ++ text
Adds text (Err error) old new = AddsPrefix text old new

-- The words of a line that is being read.
use Rattle.std.specs.Prelude.{ℕ, List, [], Option, None, Some}
use denote.Ref.{Bor}
use Rattle.schedule.specs.Text.{words_of}

-- the words that are left, where some of a line may be
abbrev pub words_left : Option (Bor (List ℕ)) → List (List ℕ)
words_left None = []
words_left (Some rest) = words_of rest.now

-- Names on the way from the root.
use Rattle.std.specs.Borrow.{Bor}
use Rattle.std.specs.Prelude.{ℕ, List, [], ◌∷◌, Option, Some, None}

-- a slash and a name, where there is one
abbrev pub slash_before : Option (Bor (List ℕ)) → List ℕ
slash_before None = []
slash_before (Some name) = 47 ∷ name.now

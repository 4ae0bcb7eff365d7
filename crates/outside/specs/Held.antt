-- The files that an adapter made and holds open, the latest first. This project's own.
use Rattle.std.specs.Prelude.{◌≡◌, ◌≢◌, ℕ, List, ◌∷◌, ◌++◌, All, Option}

-- a file: its name, and what its handle holds, where that itself tells it
pub record HeldFile : Type 0 where
  pub name : List ℕ
  pub bytes : Option (List ℕ)

-- a file of this name was added in front
abbrev pub HoldsOneMore : List HeldFile → List HeldFile → List ℕ → Type 0
HoldsOneMore old new name = (bytes : Option (List ℕ)) × (new ≡ record { name = name; bytes = bytes } ∷ old)

-- the latest file of this name went from what P has first to what it has second, and no other file changed
abbrev pub ChangesHeld : List HeldFile → List HeldFile → List ℕ → (Option (List ℕ) → Option (List ℕ) → Type 0) → Type 0
ChangesHeld old new name P =
    (later earlier : List HeldFile) × (before after : Option (List ℕ))
    × (old ≡ later ++ record { name = name; bytes = before } ∷ earlier)
    × (new ≡ later ++ record { name = name; bytes = after } ∷ earlier)
    × All (λ file. file.name ≢ name) later
    × P before after

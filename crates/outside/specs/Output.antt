-- What is added to a text that may be told or not: what a sink has written, or the content of a file. This project's own.
use Rattle.std.specs.Prelude.{◌≡◌, ℕ, List, ◌++◌, Option, None, Some}

-- the text with more at its end, where it is told; a text that is not told stays so
abbrev pub with_text : Option (List ℕ) → List ℕ → Option (List ℕ)
with_text None more = None
with_text (Some text) more = Some (text ++ more)

-- exactly this was added
pub record GainsText (old new : Option (List ℕ)) (more : List ℕ) : Type 0 where
  pub after : new ≡ with_text old more

-- the text begins with `front`
pub record IsPrefix (front text : List ℕ) : Type 0 where
  pub rest : List ℕ
  pub whole : front ++ rest ≡ text

-- at least `low` and at most `high` was added: a text that begins with `low` and with which `high` begins
pub record GainsBetween (old new : Option (List ℕ)) (low high : List ℕ) : Type 0 where
  pub more : List ℕ
  pub at_least : IsPrefix low more
  pub at_most : IsPrefix more high
  pub gained : GainsText old new more

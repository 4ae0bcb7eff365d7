-- What a call adds to bytes that it writes to where memory runs out.
use Rattle.std.specs.Prelude.{◌≡◌, ℕ, List, ◌++◌}

-- a prefix of the text was added
pub record AddsPrefix (text old new : List ℕ) : Type 0 where
  pub added : List ℕ
  pub missing : List ℕ
  pub gained : new ≡ old ++ added
  pub parts : text ≡ added ++ missing

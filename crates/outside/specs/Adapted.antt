-- Adapters of real streams and files. This project's own.
use Rattle.std.specs.Prelude.{ℕ, List, Option}
use Rattle.std.specs.Io.KnownBytes.{Appends}
use Rattle.outside.specs.Output.{IsPrefix}
use Rattle.outside.specs.Held.{HeldFile}
use Rattle.outside.specs.Register.{Register}

-- the bytes that the reader has left or that the writer holds, where that itself tells them, and the count of faults
pub record Adapted : Type 0 where
  pub known : Option (List ℕ)
  pub faults : ℕ

-- the store over the host's files: the files that it made, what it keeps of its calls, and its two counts of faults
pub record DirFiles : Type 0 where
  pub held : List HeldFile
  pub register : Register
  pub load_faults : ℕ
  pub write_faults : ℕ

-- a prefix of the bytes was added to what the writer holds, where that itself tells it
abbrev pub AppendsPart : Option (List ℕ) → Option (List ℕ) → List ℕ → Type 0
AppendsPart old new bytes = (part : List ℕ) × IsPrefix part bytes × Appends old new part

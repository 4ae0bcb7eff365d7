-- Devices in memory as contracts see them. This project's own.
use Rattle.std.specs.Prelude.{ℕ, List}
use Rattle.outside.specs.Calls.{Calls}
use Rattle.outside.specs.Content.{FileBytes}
use Rattle.outside.specs.Register.{Register}

-- a stream: the bytes left of a source, or the bytes written to a sink
pub record Stream : Type 0 where
  pub bytes : List ℕ
  pub calls : Calls
  pub faults : ℕ

-- a store that never fails
pub record SureFiles : Type 0 where
  pub files : List FileBytes
  pub register : Register

-- a store that fails at the calls that it is told to
pub record MemFiles : Type 0 where
  pub files : List FileBytes
  pub register : Register
  pub calls : Calls
  pub load_faults : ℕ
  pub write_faults : ℕ

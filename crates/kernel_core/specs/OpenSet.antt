-- The flags of open(2) as a contract sees them.
use Rattle.std.specs.Prelude.{ℕ, Bool}
use Rattle.kernel_core.specs.Bits.{has}
use Rattle.kernel_core.specs.declared.open_flags.Access.{Access}

-- the access mode, and which flags are set, each by its name there without the prefix O_
pub record OpenSet : Type 0 where
  pub access : Access
  pub append : Bool
  pub dsync : Bool
  pub nonblock : Bool
  pub creat : Bool
  pub trunc : Bool
  pub excl : Bool
  pub noctty : Bool
  pub largefile : Bool
  pub sync : Bool
  pub directory : Bool
  pub nofollow : Bool
  pub cloexec : Bool

-- the set that the bits of `OpenBits` stand for; bits without a name say nothing
abbrev pub open_set : Access → ℕ → OpenSet
open_set access bits = record {
  access = access;
  append = has bits 1;
  dsync = has bits 2;
  nonblock = has bits 4;
  creat = has bits 8;
  trunc = has bits 16;
  excl = has bits 32;
  noctty = has bits 64;
  largefile = has bits 128;
  sync = has bits 256;
  directory = has bits 512;
  nofollow = has bits 1024;
  cloexec = has bits 2048;
}

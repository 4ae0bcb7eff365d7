-- The events of poll(2) as a contract sees them.
use Rattle.std.specs.Prelude.{ℕ, Bool}
use Rattle.kernel_core.specs.Bits.{has}

-- which events there are, each by its name there without the prefix POLL: `input` is POLLIN, `output` POLLOUT
pub record PollSet : Type 0 where
  pub input : Bool
  pub pri : Bool
  pub output : Bool
  pub err : Bool
  pub hup : Bool
  pub nval : Bool
  pub rdnorm : Bool
  pub rdband : Bool
  pub wrnorm : Bool
  pub wrband : Bool

-- the set that the bits of `EventBits` stand for; bits without a name say nothing
abbrev pub poll_set : ℕ → PollSet
poll_set bits = record {
  input = has bits 1;
  pri = has bits 2;
  output = has bits 4;
  err = has bits 8;
  hup = has bits 16;
  nval = has bits 32;
  rdnorm = has bits 64;
  rdband = has bits 128;
  wrnorm = has bits 256;
  wrband = has bits 512;
}

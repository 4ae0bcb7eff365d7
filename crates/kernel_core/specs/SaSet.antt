-- The flags of sigaction(2) as a contract sees them.
use Rattle.std.specs.Prelude.{ℕ, Bool}
use Rattle.kernel_core.specs.Bits.{has}

-- which flags are set, each by its name there without the prefix SA_
pub record SaSet : Type 0 where
  pub nocldstop : Bool
  pub siginfo : Bool
  pub nocldwait : Bool
  pub onstack : Bool
  pub restart : Bool
  pub nodefer : Bool
  pub resethand : Bool

-- the set that the bits of `SaBits` stand for; bits without a name say nothing
abbrev pub sa_set : ℕ → SaSet
sa_set bits = record {
  nocldstop = has bits 1;
  siginfo = has bits 2;
  nocldwait = has bits 4;
  onstack = has bits 8;
  restart = has bits 16;
  nodefer = has bits 32;
  resethand = has bits 64;
}

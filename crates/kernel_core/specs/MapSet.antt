-- The flags of mmap(2) as a contract sees them.
use Rattle.std.specs.Prelude.{ℕ, Bool}
use Rattle.kernel_core.specs.Bits.{has}
use Rattle.kernel_core.specs.declared.map_flags.MapKind.{MapKind}

-- the type, and which flags are set, each by its name there without the prefix MAP_
pub record MapSet : Type 0 where
  pub kind : MapKind
  pub fixed : Bool
  pub noreserve : Bool
  pub anonymous : Bool

-- the set that the bits of `MapBits` stand for; bits without a name say nothing
abbrev pub map_set : MapKind → ℕ → MapSet
map_set kind bits = record {
  kind = kind;
  fixed = has bits 1;
  noreserve = has bits 2;
  anonymous = has bits 4;
}

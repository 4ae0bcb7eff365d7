-- The bits in which `MapFlags` are kept.
use Rattle.std.specs.Prelude.{◌≡◌, ℕ, ◌+◌, ◌*◌, ◌/◌, ◌%◌, ◌<◌}
use Rattle.std.proofs.Common.{arith, sym, ◌∙◌, ap}
use Rattle.kernel_core.specs.Bits.{one_if}
use Rattle.kernel_core.specs.inside.BitLaws.{one_if-has, has_below, one_if-le, is_one}
use Rattle.kernel_core.specs.MapSet.{MapSet, map_set}
use Rattle.kernel_core.specs.declared.map_flags.MapKind.{MapKind}

-- the bits of a set
abbrev pub map_bits : MapSet → ℕ
map_bits set =
    one_if set.fixed
    + 2 * one_if set.noreserve
    + 4 * one_if set.anonymous

-- are those from which the set was read
pub map_bits_again : (kind : MapKind) (bits : ℕ) → bits < 8 → map_bits (map_set kind bits) ≡ bits
map_bits_again kind bits small = omega (arith, one_if-has)

pub map_bits_of : (kind : MapKind) (bits : ℕ) (set : MapSet) → bits < 8 → map_set kind bits ≡ set → map_bits set ≡ bits
map_bits_of kind bits set small is = ap map_bits (sym is) ∙ map_bits_again kind bits small

-- bits without a name say nothing
pub map_set_named : (kind : MapKind) (bits : ℕ) → map_set kind (bits % 8) ≡ map_set kind bits
map_set_named kind bits = λ i. record {
  kind = kind;
  fixed = has_below bits 8 1 (omega arith) i;
  noreserve = has_below bits 8 2 (omega arith) i;
  anonymous = has_below bits 8 4 (omega arith) i;
}

-- the set of a set's bits is the set
pub map_set_again : (set : MapSet) → map_set set.kind (map_bits set) ≡ set
map_set_again set = λ i. record {
  kind = set.kind;
  fixed = is_one set.fixed (map_bits set / 1 % 2) (omega (arith, one_if-le)) i;
  noreserve = is_one set.noreserve (map_bits set / 2 % 2) (omega (arith, one_if-le)) i;
  anonymous = is_one set.anonymous (map_bits set / 4 % 2) (omega (arith, one_if-le)) i;
}

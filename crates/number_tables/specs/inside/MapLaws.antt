-- Numbers and names are inverse, in each world.
use Rattle.std.specs.Prelude.{◌≡◌, ℕ, ◌/◌, ◌%◌, ◌≤◌, true, Some, refl}
use Rattle.std.proofs.Common.{arith}
use Rattle.kernel_core.specs.declared.map_flags.MapKind.{MapKind}
use Rattle.kernel_core.specs.declared.map_flags.MapKind.TheVariants.{Shared, Private}
use Rattle.kernel_core.specs.declared.map_flags.MapFlags.{MapFlags}
use Rattle.kernel_core.specs.inside.BitLaws.{one_if-le, is_one}
use Rattle.number_tables.specs.inside.FlagLaws.{stands_for-number, stands_for-value}
use Rattle.number_tables.specs.MapNumbers.{kind_number, kind_of, o32_map, o32_map_read, map_of_o32}

kind_number-le : (kind : MapKind) → kind_number kind ≤ 2
kind_number-le Shared = omega arith
kind_number-le Private = omega arith

kind_again : (kind : MapKind) (number : ℕ) → number % 16 ≡ kind_number kind → kind_of number ≡ kind
kind_again Shared number is = rw is refl
kind_again Private number is = rw is refl

pub o32_map_number : (number : ℕ) (flags : MapFlags) → map_of_o32 number ≡ Some flags → o32_map flags ≡ number
o32_map_number number flags at = stands_for-number o32_map (λ _. true) o32_map_read number flags at

o32_map_read_again : (flags : MapFlags) → o32_map_read (o32_map flags) ≡ flags
o32_map_read_again flags = λ i. record {
  kind = (kind_again flags.kind (o32_map flags) (omega (arith, one_if-le, kind_number-le))) i;
  fixed = (is_one flags.fixed (o32_map flags / 0x10 % 2) (omega (arith, one_if-le, kind_number-le))) i;
  noreserve = (is_one flags.noreserve (o32_map flags / 0x400 % 2) (omega (arith, one_if-le, kind_number-le))) i;
  anonymous = (is_one flags.anonymous (o32_map flags / 0x800 % 2) (omega (arith, one_if-le, kind_number-le))) i;
}

pub o32_map_found : (flags : MapFlags) → map_of_o32 (o32_map flags) ≡ Some flags
o32_map_found flags = stands_for-value o32_map (λ _. true) o32_map_read flags (o32_map_read_again flags) refl

-- The first word of a set of 32 bits, from that of the other world.
use Rattle.std.proofs.Common.{◌≡◌, ℕ, ◌+◌, ◌*◌, ◌%◌, ◌^◌, ◌<◌, List, length, get_or, ap, ◌∙◌, arith}
use Rattle.std.specs.Int.{bit_at}
use Rattle.std.specs.Prelude.{bit_and}
use Rattle.std.proofs.lemmas.Nat.Bits.{bit_at_cat_low, bit_at_cat_high, bit_at-lt, and_pow, bit_at_lowest}
use Rattle.signal_sets.specs.inside.Gathered.{gathered}
use Rattle.signal_sets.proofs.GatherLaws.{gathered_small, bit_at-gathered}

-- the gathered bits of 31 places, with bit 31 as it was
module _ (word : ℕ) (places : List ℕ) (count : length places ≡ 31) (half : ℕ) (is : half ≡ gathered word places + bit_and word (2 ^ 31)) where
  small : gathered word places < 2 ^ 31
  small = let e : gathered word places < 2 ^ length places = gathered_small word places in rw count at e

  parts : half ≡ bit_at word 31 * 2 ^ 31 + gathered word places
  parts = omega (arith, is, and_pow word 31)

  pub half_small : half < 2 ^ 32
  half_small = omega (arith, parts, small, bit_at-lt word 31)

  pub bit_at-half : (i : ℕ) → i < 31 → bit_at half i ≡ bit_at word (get_or places i 0)
  bit_at-half i below =
      ap (λ n. bit_at n i) parts
      ∙ bit_at_cat_low (bit_at word 31) 31 (gathered word places) i below
      ∙ bit_at-gathered word places i (omega arith)

  pub bit_at-half_top : bit_at half 31 ≡ bit_at word 31
  bit_at-half_top =
      let one : bit_at word 31 < 2 = bit_at-lt word 31 in
      let e : bit_at word 31 % 2 ≡ bit_at word 31 = omega arith in
      ap (λ n. bit_at n 31) parts
      ∙ bit_at_cat_high (bit_at word 31) 31 (gathered word places) 31 small (omega arith)
      ∙ bit_at_lowest (bit_at word 31)
      ∙ e

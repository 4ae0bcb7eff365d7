-- Ranges of pages, places, and their effects.
use Rattle.std.proofs.Common.{◌≡◌, ◌≤◌, ◌<◌, ◌+◌, ◌*◌, ◌↔◌, [], ℕ, Bool, true, false, IsTrue, Option, Some, None, refl, ap, arith, inl, inr}
use Rattle.std.proofs.lemmas.Bool.{cases_lt}
use Rattle.std.proofs.lemmas.Bool.Decides.{nat_tests}
use Rattle.std.specs.Prelude.{nat_le, if◌then◌else◌}
use Rattle.std.specs.FinMap.{len}
use Rattle.guest_space.proofs.MappingLemmas.{with_protection-none, len-with_zeros}
use Rattle.guest_space.proofs.Ranges.{absent-free, free-absent}
use Rattle.guest_space.specs.Mapping.{with_protection, with_zeros, absent_count, page_limit}
use Rattle.guest_space.specs.Bytes.{copied_out, with_bytes}
use Rattle.guest_space.specs.Memory.{Memory, Pages}
use Rattle.kernel_core.specs.declared.error.Errno.TheVariants.{ENOMEM}
use Rattle.kernel_model.specs.Came.{done, with_some}
use Rattle.o32_model.specs.Mappings.{mapped}
use Rattle.guest_space.specs.Places.{IsFree, IsGreatestPlace}
use Rattle.o32_model.proofs.MapLaws.{greatest_place_is}
use Rattle.o32_model.specs.Ranges.{is_free, greatest_place, page_size, with_new_pages}

-- where no page is protected all are as they were
pub protects : (pages : Pages) (first protection : ℕ) → with_protection pages first 0 protection ≡ pages
protects pages first protection = with_protection-none pages first protection

-- Mapping

pub at_most : (n : ℕ) → (131072 < n → ⊥) → n ≤ 131072
at_most n not_more =
    elim (cases_lt 131072 n) [
      | inl more ↦ absurd (not_more more)
      | inr few ↦ few
    ]

module _ (pages : Pages) (first count protection : ℕ) where
  pub map_fits : len (with_zeros pages first count protection) ≤ 131072 → with_new_pages pages first count protection ≡ Some (with_zeros pages first count protection)
  map_fits few =
      let fits : nat_le (len pages + absent_count pages first count) page_limit ≡ true = let e = len-with_zeros pages first count protection in grind (arith, nat_tests) in
      ap (λ b. if b then Some (with_zeros pages first count protection) else None) fits

  pub map_passes : page_limit < len (with_zeros pages first count protection) → with_new_pages pages first count protection ≡ None
  map_passes many =
      let passes : nat_le (len pages + absent_count pages first count) page_limit ≡ false = let e = len-with_zeros pages first count protection in grind (arith, nat_tests) in
      ap (λ b. if b then Some (with_zeros pages first count protection) else None) passes

pub ruleset mappings = (map_fits, map_passes)

-- Places

module _ (pages : Pages) (first count : ℕ) where
  pub free_tells : (told : Bool) → (IsTrue told ↔ IsFree pages first count) → told ≡ is_free pages first count
  free_tells true tells = let all = free-absent pages first count (tells.0 refl) in grind (arith, nat_tests)
  free_tells false tells = by_test (is_free pages first count) refl
    where
      by_test : (test : Bool) → is_free pages first count ≡ test → false ≡ test
      by_test false same = refl
      by_test true same = tells.1 (absent-free pages first count (grind (arith, nat_tests)))

-- there is one greatest place
pub place_tells : (pages : Pages) (count : ℕ) (told : Option ℕ) → IsGreatestPlace pages count told → told ≡ greatest_place pages count
place_tells pages count told is = by_both told (greatest_place pages count) is (greatest_place_is pages count)
  where
    by_both : (one other : Option ℕ) → IsGreatestPlace pages count one → IsGreatestPlace pages count other → one ≡ other
    by_both None None one other = refl
    by_both None (Some first) one other = absurd (one first other.0)
    by_both (Some first) None one other = absurd (other first one.0)
    by_both (Some first) (Some second) one other = ap Some (let low = one.1 second other.0 in let high = other.1 first one.0 in omega arith)

-- A mapping that begins with no byte
pub mapped_zeros : (memory : Memory) (after : Pages) (first count protection : ℕ) → with_new_pages memory.pages first count protection ≡ Some after
    → (mapped memory first count protection []).state ≡ record memory { pages = after }
unfolding copied_out with_bytes
mapped_zeros memory after first count protection answer =
    ap (λ (o : Option Pages). (with_some memory ENOMEM o (λ pages. done (copied_out (record memory { pages = pages }) (first * page_size) []) (first * page_size))).state) answer

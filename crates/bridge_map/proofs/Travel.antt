-- A range that gets another size, as its effects lead.
use Rattle.std.proofs.Common.{◌≡◌, ◌≤◌, ◌<◌, ◌+◌, ◌-◌, zero, suc, ℕ, Bool, true, false, cond, All, Option, Some, None, Ok, IsSome, is_some, refl, sym, ap, subst, ◌∙◌, arith}
use Rattle.std.proofs.lemmas.List.Elements.{All-append, All-nil}
use Rattle.std.specs.Cmp.{nat_cmp_total}
use Rattle.std.specs.FinMap.{get, insert, len, remove, len-insert, len-remove, empty_of_len, get-empty}
use Rattle.std.specs.Ordering.{nat_cmp}
use Rattle.guest_space.proofs.Ranges.{is-without, is_in-past, run-mapped, unmapped-more, without-none}
use Rattle.guest_space.proofs.Validity.{get-without}
use Rattle.guest_space.specs.Mapping.{mapped_run}
use Rattle.guest_space.specs.Memory.{IsPage, IsValid, MappedPage, Pages}
use Rattle.guest_space.specs.Places.{IsFree}
use Rattle.guest_space.specs.Remapping.{is_in, without}
use Rattle.mips_exec.specs.Processor.{Processor}
use Rattle.o32_model.proofs.MapLaws.{put_so}
use Rattle.o32_model.specs.Effects.{IsFormed, carried_all, carried_on}
use Rattle.o32_model.specs.Ranges.{with_page, with_pages_of}
use Rattle.bridge_map.proofs.Journal.{carried_on-append}
use Rattle.bridge_map.proofs.Pages.{page_put, page_formed}
use Rattle.bridge_map.specs.Rows.{IsWrittenOrZeros, on_pages, page_effects, pages_effects}

nowhere : (b : Bool) (o : Option MappedPage) → o ≡ None → cond b None o ≡ None
nowhere true o none = refl
nowhere false o none = none

some_of : (o : Option MappedPage) → IsSome o → (page : MappedPage) × (o ≡ Some page)
some_of None there = let f : false ≡ true = there in absurd (cc)
some_of (Some page) there = (page, refl)

-- a key that is there makes the map longer than nothing
some_length : (pages : Pages) (number : ℕ) → IsSome (get pages number) → 0 < len pages
some_length pages number there = by_length (len pages) refl
  where
    by_length : (n : ℕ) → len pages ≡ n → 0 < n
    by_length zero none =
        let missing : get pages number ≡ None = ap (λ (m : Pages). get m number) (empty_of_len pages none) ∙ get-empty nat_cmp number in
        let found = some_of (get pages number) there in
        absurd (cc)
    by_length (suc n) some = omega arith

-- each page that is taken away is one less
len_without : (pages : Pages) (first n : ℕ) → ((j : ℕ) → j < n → IsSome (get pages (first + j))) → len (without pages first n) + n ≡ len pages
len_without pages first zero there = let e = ap len (without-none pages first) in omega arith
len_without pages first (suc n) there =
    let before = len_without pages first n (λ j below. there j (omega arith)) in
    let rest = without pages first n in
    let at : get rest (first + n) ≡ get pages (first + n) =
    get-without pages first n (first + n) ∙ ap (λ b. cond b None (get pages (first + n))) (is_in-past first n (first + n) (omega arith)) in
    let found : is_some (get rest (first + n)) ≡ true = ap is_some at ∙ there n (omega arith) in
    let some = some_length rest (first + n) found in
    let one_less : len (remove rest (first + n)) ≡ len rest - 1 =
    len-remove nat_cmp_total rest (first + n) ∙ ap (λ b. cond b (len rest - 1) (len rest)) found in
    let more : suc n ≡ n + 1 = omega arith in
    let same : without pages first (suc n) ≡ remove rest (first + n) =
    ap (without pages first) more ∙ sym (is-without pages (remove rest (first + n)) first (n + 1) (unmapped-more pages rest first n (get-without pages first n))) in
    let length = ap len same in
    omega (arith, length, one_less, before, some)

module _ (before : Pages) (first at old : ℕ) (whole : mapped_run before first old ≡ old) (valid : IsValid before)
    (free : IsFree before at old) (inside : at + old ≤ 524280) (few : len before ≤ 131072) where
  base : Pages
  base = without before first old

  put : ℕ → Pages
  put count = with_pages_of base before first at count

  there : (j : ℕ) → j < old → IsSome (get before (first + j))
  there j below = run-mapped before old first j whole below

  free_next : (k : ℕ) → k < old → get (put k) (at + k) ≡ None
  unfolding put base
  free_next k below =
      put_so base before first at k (λ j under. there j (omega arith)) (at + k)
      ∙ ap (λ b. cond b (get before (first + (at + k - at))) (get base (at + k))) (is_in-past at k (at + k) (omega arith))
      ∙ get-without before first old (at + k)
      ∙ nowhere (is_in first old (at + k)) (get before (at + k)) (free k below)

  len_put : (k : ℕ) → k ≤ old → len (put k) ≡ len base + k
  unfolding put with_pages_of
  len_put zero below = omega arith
  len_put (suc k) below =
      let found = some_of (get before (first + k)) (there k (omega arith)) in
      let grows : len (insert (put k) (at + k) found.0) ≡ len (put k) + 1 =
      len-insert nat_cmp_total (put k) (at + k) found.0
      ∙ ap (λ o. cond (is_some o) (len (put k)) (len (put k) + 1)) (free_next k (omega arith)) in
      let same : len (with_page (put k) (at + k) (get before (first + k))) ≡ len (insert (put k) (at + k) found.0) =
      ap (λ o. len (with_page (put k) (at + k) o)) found.1 in
      same ∙ grows ∙ (let e = len_put k (omega arith) in omega arith)

  len_all : len base + old ≡ len before
  unfolding base
  len_all = len_without before first old there

  elsewhere : (k : ℕ) (page : MappedPage) → k < old → get before (first + k) ≡ Some page → IsPage (at + k) page
  unfolding IsValid
  elsewhere k page below found =
      let is = valid (first + k) page found in
      record { inside = omega arith; three_bits = is.three_bits; whole = is.whole; are_bytes = is.are_bytes }

  module _ (after : Pages) (stand : (k : ℕ) → k < old → get after (at + k) ≡ get before (first + k))
      (zeros : (k : ℕ) → k < old → IsWrittenOrZeros (get after (at + k))) where
    travel : (processor : Processor) (k : ℕ) → k ≤ old → carried_all (on_pages processor base) (pages_effects after at k) ≡ Ok (on_pages processor (put k))
    unfolding pages_effects put with_pages_of
    travel processor zero below = refl
    travel processor (suc k) below =
        let found = some_of (get before (first + k)) (there k (omega arith)) in
        let now : get after (at + k) ≡ Some found.0 = stand k (omega arith) ∙ found.1 in
        let is_zeros : IsWrittenOrZeros (Some found.0) = subst IsWrittenOrZeros now (zeros k (omega arith)) in
        let room : len (put k) < 131072 = let e = len_put k (omega arith) in let all = len_all in omega arith in
        carried_on-append (pages_effects after at k) (page_effects (at + k) (get after (at + k))) (Ok (on_pages processor base))
        ∙ ap (carried_on (page_effects (at + k) (get after (at + k)))) (travel processor k (omega arith))
        ∙ ap (λ o. carried_all (on_pages processor (put k)) (page_effects (at + k) o)) now
        ∙ page_put (put k) (at + k) found.0 (elsewhere k found.0 (omega arith) found.1) processor room is_zeros
        ∙ ap (λ o. Ok (on_pages processor (with_page (put k) (at + k) o))) (sym found.1)

    pub travel_formed : (k : ℕ) → k ≤ old → All IsFormed (pages_effects after at k)
    unfolding pages_effects
    travel_formed zero below = All-nil IsFormed
    travel_formed (suc k) below =
        let found = some_of (get before (first + k)) (there k (omega arith)) in
        let now : get after (at + k) ≡ Some found.0 = stand k (omega arith) ∙ found.1 in
        All-append IsFormed (pages_effects after at k) (page_effects (at + k) (get after (at + k))) (travel_formed k (omega arith))
        (subst (λ o. All IsFormed (page_effects (at + k) o)) (sym now) (page_formed before (at + k) found.0 (elsewhere k found.0 (omega arith) found.1)))

    pub len_arrived : len (with_pages_of (without before first old) before first at old) ≡ len before
    unfolding put base
    len_arrived = let e = len_put old (omega arith) in let all = len_all in omega arith

    pub arrives : (processor : Processor) → carried_all (on_pages processor (without before first old)) (pages_effects after at old)
        ≡ Ok (on_pages processor (with_pages_of (without before first old) before first at old))
    unfolding put base
    arrives processor = travel processor old (omega arith)

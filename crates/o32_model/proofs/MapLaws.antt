-- The greatest place, and a range that moves.
use Rattle.std.proofs.Common.{◌≡◌, ◌≤◌, ◌<◌, ◌+◌, ◌-◌, zero, suc, ℕ, Bool, true, false, cond, Option, Some, None, IsSome, refl, sym, ap, subst, ◌∙◌, arith, inl, inr}
use Rattle.std.specs.Prelude.{if◌then◌else◌}
use Rattle.std.proofs.lemmas.Bool.{cases_lt}
use Rattle.std.proofs.lemmas.Bool.Decides.{nat_tests, eqb_tells}
use Rattle.std.specs.Ordering.{nat_cmp, eq_by_cmp}
use Rattle.std.specs.Cmp.{nat_cmp_total}
use Rattle.std.specs.FinMap.{get, get-insert}
use Rattle.guest_space.proofs.Ranges.{absent-free, free-absent, is_in-last, is_in-other, is_in-none, eqb-eq_by_cmp, run-mapped}
use Rattle.guest_space.proofs.Validity.{get-without}
use Rattle.guest_space.specs.Mapping.{absent_count, mapped_run}
use Rattle.guest_space.specs.Memory.{MappedPage, Pages}
use Rattle.guest_space.specs.Places.{places_begin, places_end, IsFree, IsGreatestPlace}
use Rattle.guest_space.specs.Remapping.{is_in, without, AreMoved}
use Rattle.o32_model.specs.Ranges.{is_free, greatest_among, greatest_place, with_page, with_pages_of, moved}

-- The greatest place

module _ (pages : Pages) (count : ℕ) where
  is-free : (first : ℕ) → is_free pages first count ≡ true → IsFree pages first count
  is-free first free = absent-free pages first count (grind (arith, nat_tests))

  not-free : (first : ℕ) → is_free pages first count ≡ false → IsFree pages first count → ⊥
  not-free first taken free =
      let all : absent_count pages first count ≡ count = free-absent pages first count free in
      let same : is_free pages first count ≡ true = grind (arith, nat_tests) in
      absurd (cc)

  -- of the first places that are tried
  IsGreatestAmong : ℕ → Option ℕ → Type 0
  IsGreatestAmong tried None = (other : ℕ) → places_begin ≤ other → other < places_begin + tried → IsFree pages other count → ⊥
  IsGreatestAmong tried (Some first) =
      (places_begin ≤ first) × (first < places_begin + tried) × IsFree pages first count
      × ((other : ℕ) → places_begin ≤ other → other < places_begin + tried → IsFree pages other count → other ≤ first)

  more_tried : (tried : ℕ) (found : Option ℕ) → is_free pages (places_begin + tried) count ≡ false → IsGreatestAmong tried found → IsGreatestAmong (suc tried) found
  unfolding IsGreatestAmong
  more_tried tried None taken before = λ other from below free.
      elim (cases_lt other (places_begin + tried)) [
        | inl lower ↦ before other from lower free
        | inr here ↦ let at : other ≡ places_begin + tried = omega arith in not-free (places_begin + tried) taken (subst (λ n. IsFree pages n count) at free)
      ]
  more_tried tried (Some first) taken before = (
    before.0,
    omega (arith, before.1),
    before.2,
    λ other from below free.
        elim (cases_lt other (places_begin + tried)) [
          | inl lower ↦ before.3 other from lower free
          | inr here ↦ let at : other ≡ places_begin + tried = omega arith in absurd (not-free (places_begin + tried) taken (subst (λ n. IsFree pages n count) at free))
        ],
  )

  greatest_is : (tried : ℕ) → IsGreatestAmong tried (greatest_among pages count tried)
  unfolding greatest_among IsGreatestAmong
  greatest_is zero = λ other from below free. absurd (omega arith)
  greatest_is (suc tried) = by_test (is_free pages (places_begin + tried) count) refl (greatest_is tried)
    where
      by_test : (test : Bool) → is_free pages (places_begin + tried) count ≡ test → IsGreatestAmong tried (greatest_among pages count tried)
          → IsGreatestAmong (suc tried) (if test then Some (places_begin + tried) else greatest_among pages count tried)
      by_test true free before = (omega arith, omega arith, is-free (places_begin + tried) free, λ other from below others. omega arith)
      by_test false taken before = more_tried tried (greatest_among pages count tried) taken before

  as_place : (found : Option ℕ) → IsGreatestAmong (places_end + 1 - (places_begin + count)) found → IsGreatestPlace pages count found
  unfolding IsGreatestAmong
  as_place None none = λ other place. none other place.from_begin (let e = place.to_end in omega arith) place.free
  as_place (Some first) at = (
    record { from_begin = at.0; to_end = omega (arith, at.1, at.0); free = at.2 },
    λ other place. at.3 other place.from_begin (let e = place.to_end in omega arith) place.free,
  )

  pub greatest_place_is : IsGreatestPlace pages count (greatest_place pages count)
  unfolding greatest_place
  greatest_place_is = as_place _ (greatest_is _)

-- A range that moves

module _ (base old : Pages) (first to : ℕ) where
  -- what is found where so many pages were put
  abbrev pub PutSo : ℕ → Type 0
  PutSo count = (number : ℕ) → get (with_pages_of base old first to count) number
      ≡ cond (is_in to count number) (get old (first + (number - to))) (get base number)

  get-with_page : (pages : Pages) (at : ℕ) (page : Option MappedPage) (number : ℕ) → IsSome page
      → get (with_page pages at page) number ≡ cond (eq_by_cmp nat_cmp number at) page (get pages number)
  get-with_page pages at None number there = let f : false ≡ true = there in absurd (cc)
  get-with_page pages at (Some page) number there = get-insert nat_cmp_total pages at page number

  pub put_so : (count : ℕ) → ((k : ℕ) → k < count → IsSome (get old (first + k))) → PutSo count
  unfolding with_pages_of
  put_so zero there number = ap (λ b. cond b (get old (first + (number - to))) (get base number)) (sym (is_in-none to number))
  put_so (suc count) there number =
      let before = put_so count (λ k below. there k (omega arith)) in
      let more : suc count ≡ count + 1 = omega arith in
      get-with_page (with_pages_of base old first to count) (to + count) (get old (first + count)) number (there count (omega arith))
      ∙ ap (λ b. cond b (get old (first + count)) (get (with_pages_of base old first to count) number)) (sym (eqb-eq_by_cmp number (to + count)))
      ∙ elim (eqb_tells number (to + count)) [
        | inl same ↦
            let place : first + count ≡ first + (number - to) = let e = same.1 in omega arith in
            ap (λ b. cond b (get old (first + count)) (get (with_pages_of base old first to count) number)) same.0
            ∙ ap (get old) place
            ∙ ap (λ b. cond b (get old (first + (number - to))) (get base number)) (sym (is_in-last to count number same.1))
            ∙ ap (λ n. cond (is_in to n number) (get old (first + (number - to))) (get base number)) (sym more)
        | inr apart ↦
            ap (λ b. cond b (get old (first + count)) (get (with_pages_of base old first to count) number)) apart.0
            ∙ before number
            ∙ ap (λ b. cond b (get old (first + (number - to))) (get base number)) (sym (is_in-other to count number apart.1))
            ∙ ap (λ n. cond (is_in to n number) (get old (first + (number - to))) (get base number)) (sym more)
      ]

pub moved_is : (pages : Pages) (first to count : ℕ) → mapped_run pages first count ≡ count → AreMoved pages (moved pages first to count) first to count
moved_is pages first to count whole number =
    put_so (without pages first count) pages first to count (λ k below. run-mapped pages count first k whole below) number
    ∙ ap (cond (is_in to count number) (get pages (first + (number - to)))) (get-without pages first count number)

-- Ranges of pages that are taken away, that are free, and that move.
use Rattle.std.proofs.Common.{◌≡◌, ◌≢◌, ◌≤◌, ◌<◌, ◌+◌, ◌-◌, zero, suc, ℕ, Bool, true, false, cond, eqb, ltb, leb, ◌&&◌, Option, Some, None, IsSome, is_some, refl, sym, ap, ◌∙◌, arith, inl, inr, ◌⊎◌, ◌↔◌, not, IsTrue}
use Rattle.std.proofs.lemmas.Bool.{cases_lt}
use Rattle.std.proofs.lemmas.Bool.Decides.{nat_tests, eqb_tells}
use Rattle.std.specs.Option.{unwrap_or, option_map}
use Rattle.std.specs.Ordering.{nat_cmp, eq_by_cmp}
use Rattle.std.specs.Cmp.{nat_cmp_total}
use Rattle.std.specs.FinMap.{get, remove, get-insert, get-remove, same_map, nat_cmp-IsAntisymmetric}
use Rattle.raw_pages.specs.Pages.{pages_moved, IsLastMapped}
use Rattle.guest_space.specs.Memory.{MappedPage, Pages, IsValid}
use Rattle.guest_space.specs.Remapping.{is_in, without, AreMoved, protection_of}
use Rattle.guest_space.specs.Mapping.{mapped_run, absent_count}
use Rattle.guest_space.proofs.MappingLemmas.{absent_count-le, mapped_run-same, mapped_run-step}
use Rattle.guest_space.specs.Places.{IsFree}
use Rattle.guest_space.proofs.Validity.{get-without}

pub eqb-eq_by_cmp : (a b : ℕ) → eqb a b ≡ eq_by_cmp nat_cmp a b
eqb-eq_by_cmp a b = grind (arith, nat_tests)

pub is_in-last : (first done number : ℕ) → number ≡ first + done → is_in first (done + 1) number ≡ true
is_in-last first done number at = grind (arith, nat_tests)

pub is_in-past : (first done number : ℕ) → first + done ≤ number → is_in first done number ≡ false
is_in-past first done number past = grind (arith, nat_tests)

pub is_in-before : (first done number : ℕ) → number < first → is_in first done number ≡ false
is_in-before first done number before = grind (arith, nat_tests)

pub is_in-none : (first number : ℕ) → is_in first 0 number ≡ false
is_in-none first number = grind (arith, nat_tests)

pub is_in-other : (first done number : ℕ) → number ≢ first + done → is_in first (done + 1) number ≡ is_in first done number
is_in-other first done number apart =
    elim (cases_lt number (first + done)) [
      | inl below ↦
          let more : ltb number (first + (done + 1)) ≡ true = grind (arith, nat_tests) in
          let less : ltb number (first + done) ≡ true = grind (arith, nat_tests) in
          ap (λ b. leb first number && b) (more ∙ sym less)
      | inr past ↦
          let beyond : first + (done + 1) ≤ number = omega arith in
          let more : ltb number (first + (done + 1)) ≡ false = grind (arith, nat_tests) in
          let less : ltb number (first + done) ≡ false = grind (arith, nat_tests) in
          ap (λ b. leb first number && b) (more ∙ sym less)
    ]

-- one more page of a range is taken away
pub unmapped-more : (old pages : Pages) (first done : ℕ) → ((number : ℕ) → get pages number ≡ cond (is_in first done number) None (get old number))
    → (number : ℕ) → get (remove pages (first + done)) number ≡ cond (is_in first (done + 1) number) None (get old number)
unmapped-more old pages first done before number =
    get-remove nat_cmp_total pages (first + done) number
    ∙ ap (λ b. cond b None (get pages number)) (sym (eqb-eq_by_cmp number (first + done)))
    ∙ elim (eqb_tells number (first + done)) [
      | inl same ↦
          ap (λ b. cond b None (get pages number)) same.0
          ∙ ap (λ b. cond b None (get old number)) (sym (is_in-last first done number same.1))
      | inr apart ↦
          ap (λ b. cond b None (get pages number)) apart.0
          ∙ before number
          ∙ ap (λ b. cond b None (get old number)) (sym (is_in-other first done number apart.1))
    ]

-- pages that look like those without a range are those
pub is-without : (old pages : Pages) (first count : ℕ) → ((number : ℕ) → get pages number ≡ cond (is_in first count number) None (get old number)) → pages ≡ without old first count
is-without old pages first count looks =
    same_map nat_cmp_total nat_cmp-IsAntisymmetric _ _ (λ q. looks q ∙ sym (get-without old first count q))

-- where no page is taken away all are as they were
pub without-none : (pages : Pages) (first : ℕ) → without pages first 0 ≡ pages
without-none pages first =
    same_map nat_cmp_total nat_cmp-IsAntisymmetric _ _ (λ q.
    get-without pages first 0 q ∙ ap (λ b. cond b None (get pages q)) (is_in-none first q))

-- what is found after one page moved
get-moved : (pages : Pages) (from to : ℕ) (o : Option MappedPage) → get pages from ≡ o → get pages to ≡ None → (q : ℕ)
    → get (pages_moved pages from to o) q ≡ cond (eqb q to) o (cond (eqb q from) None (get pages q))
get-moved pages from to None there free q =
    elim (eqb_tells q to) [
      | inl same ↦
          ap (get pages) same.1 ∙ free ∙ ap (λ b. cond b None (cond (eqb q from) None (get pages q))) (sym same.0)
      | inr apart ↦ elim (eqb_tells q from) [
        | inl start ↦
            ap (get pages) start.1 ∙ there
            ∙ ap (λ b. cond b None (get pages q)) (sym start.0)
            ∙ ap (λ b. cond b None (cond (eqb q from) None (get pages q))) (sym apart.0)
        | inr other ↦
            ap (λ b. cond b None (get pages q)) (sym other.0)
            ∙ ap (λ b. cond b None (cond (eqb q from) None (get pages q))) (sym apart.0)
      ]
    ]
get-moved pages from to (Some page) there free q =
    get-insert nat_cmp_total (remove pages from) to page q
    ∙ (λ i. cond (sym (eqb-eq_by_cmp q to) i) (Some page) (get-remove nat_cmp_total pages from q i))
    ∙ ap (λ b. cond (eqb q to) (Some page) (cond b None (get pages q))) (sym (eqb-eq_by_cmp q from))

-- one more page of a range moves
module _ (old pages : Pages) (first to done : ℕ) (moved : AreMoved old pages first to done) (free : get old (to + done) ≡ None)
    (apart : (first + done < to) ⊎ (to + done < first)) where
  apart_numbers : first + done ≢ to + done
  apart_numbers same = elim apart [ inl low ↦ absurd (omega arith) | inr high ↦ absurd (omega arith) ]

  from_out : is_in to done (first + done) ≡ false
  from_out = elim apart [ inl low ↦ is_in-before to done (first + done) low | inr high ↦ is_in-past to done (first + done) (omega arith) ]

  to_out : is_in first done (to + done) ≡ false
  to_out = elim apart [ inl low ↦ is_in-past first done (to + done) (omega arith) | inr high ↦ is_in-before first done (to + done) high ]

  at_from : get pages (first + done) ≡ get old (first + done)
  at_from =
      moved (first + done)
      ∙ ap (λ b. cond b (get old (first + (first + done - to))) (cond (is_in first done (first + done)) None (get old (first + done)))) from_out
      ∙ ap (λ b. cond b None (get old (first + done))) (is_in-past first done (first + done) (omega arith))

  pub at_to : get pages (to + done) ≡ None
  at_to =
      moved (to + done)
      ∙ ap (λ b. cond b (get old (first + (to + done - to))) (cond (is_in first done (to + done)) None (get old (to + done)))) (is_in-past to done (to + done) (omega arith))
      ∙ ap (λ b. cond b None (get old (to + done))) to_out
      ∙ free

  pub moved-more : AreMoved old (pages_moved pages (first + done) (to + done) (get pages (first + done))) first to (done + 1)
  moved-more number =
      get-moved pages (first + done) (to + done) (get pages (first + done)) refl at_to number
      ∙ elim (eqb_tells number (to + done)) [
        | inl there ↦
            let place : first + done ≡ first + (number - to) = let e = there.1 in omega arith in
            ap (λ b. cond b (get pages (first + done)) (cond (eqb number (first + done)) None (get pages number))) there.0
            ∙ at_from
            ∙ ap (get old) place
            ∙ ap (λ b. cond b (get old (first + (number - to))) (cond (is_in first (done + 1) number) None (get old number))) (sym (is_in-last to done number there.1))
        | inr away ↦
            ap (λ b. cond b (get pages (first + done)) (cond (eqb number (first + done)) None (get pages number))) away.0
            ∙ elim (eqb_tells number (first + done)) [
              | inl start ↦
                  let out : is_in to (done + 1) number ≡ false =
                  is_in-other to done number away.1 ∙ ap (is_in to done) start.1 ∙ from_out in
                  ap (λ b. cond b None (get pages number)) start.0
                  ∙ ap (λ b. cond b None (get old number)) (sym (is_in-last first done number start.1))
                  ∙ ap (λ b. cond b (get old (first + (number - to))) (cond (is_in first (done + 1) number) None (get old number))) (sym out)
              | inr other ↦
                  ap (λ b. cond b None (get pages number)) other.0
                  ∙ moved number
                  ∙ (λ i. cond (sym (is_in-other to done number away.1) i) (get old (first + (number - to)))
                  (cond (sym (is_in-other first done number other.1) i) None (get old number)))
            ]
      ]

pub moved-none : (pages : Pages) (first to : ℕ) → AreMoved pages pages first to 0
moved-none pages first to number =
    (λ i. cond (sym (is_in-none to number) i) (get pages (first + (number - to))) (cond (sym (is_in-none first number) i) None (get pages number)))

-- a protection that was looked up
pub protection-looked : (o : Option MappedPage) → unwrap_or (option_map (λ p. p.protection) o) 0 ≡ protection_of o
protection-looked None = refl
protection-looked (Some page) = refl

pub protection-bits : (pages : Pages) (n : ℕ) (o : Option MappedPage) → IsValid pages → get pages n ≡ o → protection_of o ≤ 7
unfolding IsValid
protection-bits pages n None valid found = omega arith
protection-bits pages n (Some page) valid found = (valid n page found).three_bits

-- a page that is there is not free
pub not_free : (pages : Pages) (first count last : ℕ) → IsFree pages first count → first ≤ last → last < first + count → IsSome (get pages last) → ⊥
not_free pages first count last free from below there =
    let at : first + (last - first) ≡ last = omega arith in
    let missing : get pages last ≡ None = sym (ap (get pages) at) ∙ free (last - first) (omega arith) in
    nothing (get pages last) missing there
  where
    nothing : (o : Option MappedPage) → o ≡ None → IsSome o → ⊥
    nothing None e there = let f : false ≡ true = there in absurd (cc)
    nothing (Some x) e there = absurd (cc)

-- each page of a mapped run is mapped
pub run-mapped : (pages : Pages) (count first j : ℕ) → mapped_run pages first count ≡ count → j < count → IsSome (get pages (first + j))
unfolding mapped_run
run-mapped pages zero first j whole below = absurd (omega arith)
run-mapped pages (suc count) first j whole below =
    by_first (is_some (get pages first)) refl whole j below (λ same k under. run-mapped pages count (first + 1) k same under)
  where
    by_first : (b : Bool) → is_some (get pages first) ≡ b → cond b (mapped_run pages (first + 1) count + 1) 0 ≡ suc count → (j : ℕ) → j < suc count
        → (mapped_run pages (first + 1) count ≡ count → (k : ℕ) → k < count → IsSome (get pages (first + 1 + k))) → IsSome (get pages (first + j))
    by_first false missing run j below later = absurd (omega arith)
    by_first true there run zero below later = ap (λ n. is_some (get pages n)) (let e : first + 0 ≡ first = omega arith in e) ∙ there
    by_first true there run (suc j) below later =
        ap (λ n. is_some (get pages n)) (let e : first + suc j ≡ first + 1 + j = omega arith in e) ∙ later (omega arith) j (omega arith)

-- a mapped run and a free one lie apart
pub apart-runs : (pages : Pages) (first old to new : ℕ) → mapped_run pages first old ≡ old → IsFree pages to new → 0 < old → 0 < new → (first + old ≤ to) ⊎ (to + new ≤ first)
apart-runs pages first old to new mapped free some_old some_new =
    elim (cases_lt to (first + old)) [
      | inr past ↦ inl past
      | inl below ↦ elim (cases_lt first (to + new)) [
        | inr before ↦ inr before
        | inl overlap ↦ elim (cases_lt first to) [
          | inl later ↦
              let at : first + (to - first) ≡ to = omega arith in
              absurd (not_free pages to new to free (omega arith) (omega arith) (ap (λ n. is_some (get pages n)) (sym at) ∙ run-mapped pages old first (to - first) mapped (omega arith)))
          | inr earlier ↦
              let at : first + 0 ≡ first = omega arith in
              absurd (not_free pages to new first free earlier overlap (ap (λ n. is_some (get pages n)) (sym at) ∙ run-mapped pages old first 0 mapped some_old))
        ]
      ]
    ]

-- a range of absent pages is a free one
pub absent-free : (pages : Pages) (first count : ℕ) → absent_count pages first count ≡ count → IsFree pages first count
unfolding absent_count
absent-free pages first zero all k below = absurd (omega arith)
absent-free pages first (suc count) all k below = by_last (get pages (first + count)) refl (λ rest under. absent-free pages first count rest k under)
  where
    by_last : (o : Option MappedPage) → get pages (first + count) ≡ o → (absent_count pages first count ≡ count → k < count → get pages (first + k) ≡ None) → get pages (first + k) ≡ None
    by_last None last before =
        elim (cases_lt k count) [
          | inl earlier ↦
              let one : absent_count pages first count + cond (is_some (get pages (first + count))) 0 1 ≡ absent_count pages first count + 1 =
              ap (λ o. absent_count pages first count + cond (is_some o) 0 1) last in
              before (omega (arith, all, one)) earlier
          | inr here ↦ ap (λ n. get pages (first + n)) (let e : k ≡ count = omega arith in e) ∙ last
        ]
    by_last (Some page) last before =
        let none : absent_count pages first count + cond (is_some (get pages (first + count))) 0 1 ≡ absent_count pages first count + 0 =
        ap (λ o. absent_count pages first count + cond (is_some o) 0 1) last in
        absurd (omega (arith, all, none, absent_count-le pages first count))

pub free-absent : (pages : Pages) (first count : ℕ) → IsFree pages first count → absent_count pages first count ≡ count
unfolding absent_count
free-absent pages first zero free = refl
free-absent pages first (suc count) free =
    let one : absent_count pages first count + cond (is_some (get pages (first + count))) 0 1 ≡ absent_count pages first count + 1 =
    ap (λ o. absent_count pages first count + cond (is_some o) 0 1) (free count (omega arith)) in
    omega (arith, one, free-absent pages first count (λ k below. free k (omega arith)))

-- a free run below an end, near which a page is mapped, ends where that page lies
pub run-below : (pages : Pages) (first count last end : ℕ) → IsFree pages first count → first + count ≤ end → end - count ≤ last → IsSome (get pages last) → first + count ≤ last
run-below pages first count last end free to_end near there =
    elim (cases_lt last (first + count)) [
      | inl reaches ↦ absurd (not_free pages first count last free (omega arith) reaches there)
      | inr ends ↦ ends
    ]

-- a free run below a row of mapped pages ends where that row begins
pub run-below-row : (pages : Pages) (first count begin last : ℕ) → 0 < count → IsFree pages first count → first + count ≤ last
    → ((number : ℕ) → begin ≤ number → number < last → IsSome (get pages number)) → first + count ≤ begin
run-below-row pages first count begin last some free ends row =
    elim (cases_lt begin (first + count)) [
      | inr low ↦ low
      | inl reaches ↦ absurd (not_free pages first count (first + count - 1) free (omega arith) (omega arith) (row (first + count - 1) (omega arith) (omega arith)))
    ]

-- mapped pages at the begin of a range are passed over together
pub run-together : (pages : Pages) (step first count : ℕ) → step ≤ count → ((number : ℕ) → first ≤ number → number < first + step → IsSome (get pages number))
    → mapped_run pages first count ≡ mapped_run pages (first + step) (count - step) + step
run-together pages zero first count within row =
    let same = mapped_run-same pages {a = first} {b = first + 0} {m = count} {n = count - 0} (omega arith) (omega arith) in omega (arith, same)
run-together pages (suc step) first count within row =
    let one = mapped_run-step pages first count (row first (omega arith) (omega arith)) (omega arith) in
    let rest = run-together pages step (first + 1) (count - 1) (omega arith) (λ number from below. row number (omega arith) (omega arith)) in
    let same = mapped_run-same pages {a = first + 1 + step} {b = first + suc step} {m = count - 1 - step} {n = count - suc step} (omega arith) (omega arith) in
    omega (arith, one, rest, same)

-- a range with no last mapped page is a free one
pub free-told : (pages : Pages) (first count : ℕ) (o : Option ℕ) (free : Bool) → is_some o ≡ not free → IsLastMapped pages first (first + count) o
    → (IsTrue free ↔ IsFree pages first count)
free-told pages first count None false told it = absurd (cc)
free-told pages first count None true told it = (λ _ k below. it (first + k) (omega arith) (omega arith), λ _. refl)
free-told pages first count (Some last) true told it = absurd (cc)
free-told pages first count (Some last) false told it = (
  λ no. absurd (cc),
  λ free. absurd (not_free pages first count last free it.0 it.1 it.2),
)

-- Runs of mapped pages.
use Rattle.std.proofs.Common.{◌≡◌, ◌≤◌, ◌<◌, ◌+◌, ◌-◌, min, zero, suc, ℕ, Bool, true, false, cond, Option, Some, None, is_some, refl, sym, ap, ◌∙◌, arith, inl, inr}
use Rattle.std.proofs.lemmas.Bool.{cases_lt}
use Rattle.std.specs.FinMap.{get}
use Rattle.guest_space.proofs.MappingLemmas.{mapped_run-stop, mapped_run-zero}
use Rattle.guest_space.specs.Mapping.{mapped_run}
use Rattle.guest_space.specs.Memory.{MappedPage, Pages, IsValid}

in_user_space : (pages : Pages) (number : ℕ) (page : MappedPage) → IsValid pages → get pages number ≡ Some page → number < 524280
unfolding IsValid
in_user_space pages number page valid at = (valid number page at).inside

absent_past : (pages : Pages) (number : ℕ) → IsValid pages → 524280 ≤ number → is_some (get pages number) ≡ false
absent_past pages number valid past = by_page (get pages number) refl
  where
    by_page : (found : Option MappedPage) → get pages number ≡ found → is_some found ≡ false
    by_page None at = refl
    by_page (Some page) at = let inside = in_user_space pages number page valid at in absurd (omega (arith, inside, past))

pub none_past : (pages : Pages) (number : ℕ) → IsValid pages → 524280 ≤ number → get pages number ≡ None
none_past pages number valid past = by_page (get pages number) refl
  where
    by_page : (found : Option MappedPage) → get pages number ≡ found → get pages number ≡ None
    by_page None at = at
    by_page (Some page) at = let inside = in_user_space pages number page valid at in absurd (omega (arith, inside, past))

-- past user space no page is mapped
pub run_past : (pages : Pages) (first count : ℕ) → IsValid pages → 524280 ≤ first → mapped_run pages first count ≡ 0
run_past pages first count valid past = mapped_run-stop pages first count (absent_past pages first valid past)

-- a run up to the end of user space is the run of the whole range
pub run_inside : (pages : Pages) (count first : ℕ) → IsValid pages → first ≤ 524280 → mapped_run pages first (min count (524280 - first)) ≡ mapped_run pages first count
unfolding mapped_run
run_inside pages zero first valid inside = ap (mapped_run pages first) (let e : min 0 (524280 - first) ≡ 0 = omega arith in e) ∙ mapped_run-zero pages first
run_inside pages (suc count) first valid inside =
    elim (cases_lt first 524280) [
      | inl below ↦
          let less : min (suc count) (524280 - first) ≡ suc (min count (524280 - (first + 1))) = omega arith in
          ap (mapped_run pages first) less
          ∙ ap (λ n. cond (is_some (get pages first)) (n + 1) 0) (run_inside pages count (first + 1) valid (omega arith))
      | inr past ↦
          let none : min (suc count) (524280 - first) ≡ 0 = omega arith in
          ap (mapped_run pages first) none ∙ mapped_run-zero pages first ∙ sym (run_past pages first (suc count) valid past)
    ]

-- the pages before the first absent one are a run of their own
pub run_again : (pages : Pages) (count first : ℕ) → mapped_run pages first (mapped_run pages first count) ≡ mapped_run pages first count
unfolding mapped_run
run_again pages zero first = refl
run_again pages (suc count) first = by_first (is_some (get pages first)) refl (run_again pages count (first + 1))
  where
    by_first : (there : Bool) → is_some (get pages first) ≡ there
        → mapped_run pages (first + 1) (mapped_run pages (first + 1) count) ≡ mapped_run pages (first + 1) count
        → mapped_run pages first (cond there (mapped_run pages (first + 1) count + 1) 0) ≡ cond there (mapped_run pages (first + 1) count + 1) 0
    by_first false missing rest = mapped_run-zero pages first
    by_first true found rest =
        ap (mapped_run pages first) (let e : mapped_run pages (first + 1) count + 1 ≡ suc (mapped_run pages (first + 1) count) = omega arith in e)
        ∙ ap (λ b. cond b (mapped_run pages (first + 1) (mapped_run pages (first + 1) count) + 1) 0) found
        ∙ ap (λ n. n + 1) rest

-- a run ends in user space
pub run_ends : (pages : Pages) (count first : ℕ) → IsValid pages → first ≤ 524280 → first + mapped_run pages first count ≤ 524280
unfolding mapped_run
run_ends pages zero first valid inside = omega arith
run_ends pages (suc count) first valid inside = by_first (get pages first) refl (λ below. run_ends pages count (first + 1) valid below)
  where
    by_first : (found : Option MappedPage) → get pages first ≡ found → (first + 1 ≤ 524280 → first + 1 + mapped_run pages (first + 1) count ≤ 524280)
        → first + cond (is_some found) (mapped_run pages (first + 1) count + 1) 0 ≤ 524280
    by_first None at rest = omega arith
    by_first (Some page) at rest =
        let inside = in_user_space pages first page valid at in
        let below : first + 1 ≤ 524280 = omega (arith, inside) in
        omega (arith, rest below)

pub run_none : (pages : Pages) (first : ℕ) → mapped_run pages first 0 ≡ 0
run_none pages first = mapped_run-zero pages first

-- Ranges of pages.
use Rattle.std.proofs.Common.{◌≡◌, ◌≤◌, ◌<◌, ◌+◌, ◌-◌, zero, suc, ℕ, Bool, true, false, cond, Option, Some, None, is_some, refl, ap, ◌∙◌, arith, Bor}
use Rattle.std.proofs.lemmas.Bool.Decides.{nat_tests}
use Rattle.std.specs.Option.{option_copied}
use Rattle.std.specs.Ordering.{nat_cmp, eq_by_cmp}
use Rattle.std.specs.Cmp.{nat_cmp_total}
use Rattle.std.specs.FinMap.{get, insert, len, get-insert, len-insert}
use Rattle.raw_pages.specs.Pages.{IsLastMapped, pages_with_zeros}
use Rattle.guest_space.specs.Memory.{Pages}
use Rattle.guest_space.specs.Mapping.{zero_page, with_zeros, with_protection, pages_with_protection, absent_count, mapped_run}

-- a page past the range is as it was
pub get-with_zeros_past : (pages : Pages) (first count protection q : ℕ) → first + count ≤ q → get (with_zeros pages first count protection) q ≡ get pages q
unfolding with_zeros
get-with_zeros_past pages first zero protection q past = refl
get-with_zeros_past pages first (suc count) protection q past =
    let apart : eq_by_cmp nat_cmp q (first + count) ≡ false = grind (arith, nat_tests) in
    get-insert nat_cmp_total (with_zeros pages first count protection) (first + count) (zero_page protection) q
    ∙ ap (λ b. cond b (Some (zero_page protection)) (get (with_zeros pages first count protection) q)) apart
    ∙ get-with_zeros_past pages first count protection q (omega arith)

grown : (b : Bool) (n m k : ℕ) → n ≡ m + k → cond b n (n + 1) ≡ m + (k + cond b 0 1)
grown true n m k e = omega arith
grown false n m k e = omega arith

-- each number that had no page is one more
pub len-with_zeros : (pages : Pages) (first count protection : ℕ) → len (with_zeros pages first count protection) ≡ len pages + absent_count pages first count
unfolding with_zeros absent_count
len-with_zeros pages first zero protection = omega arith
len-with_zeros pages first (suc count) protection =
    len-insert nat_cmp_total (with_zeros pages first count protection) (first + count) (zero_page protection)
    ∙ ap (λ o. cond (is_some o) (len (with_zeros pages first count protection)) (len (with_zeros pages first count protection) + 1))
    (get-with_zeros_past pages first count protection (first + count) (omega arith))
    ∙ grown (is_some (get pages (first + count))) _ (len pages) (absent_count pages first count) (len-with_zeros pages first count protection)

pub mapped_run-same : (pages : Pages) {a b m n : ℕ} → a ≡ b → m ≡ n → mapped_run pages a m ≡ mapped_run pages b n
mapped_run-same pages p q = λ i. mapped_run pages (p i) (q i)

pub mapped_run-zero : (pages : Pages) (first : ℕ) → mapped_run pages first 0 ≡ 0
unfolding mapped_run
mapped_run-zero pages first = refl

mapped_run-suc : (pages : Pages) (first count : ℕ) → mapped_run pages first (suc count) ≡ cond (is_some (get pages first)) (mapped_run pages (first + 1) count + 1) 0
unfolding mapped_run
mapped_run-suc pages first count = refl

pub mapped_run-step : (pages : Pages) (first count : ℕ) → is_some (get pages first) ≡ true → 0 < count → mapped_run pages first count ≡ mapped_run pages (first + 1) (count - 1) + 1
mapped_run-step pages first count found more =
    mapped_run-same pages refl (let e : count ≡ suc (count - 1) = omega arith in e)
    ∙ mapped_run-suc pages first (count - 1)
    ∙ ap (λ b. cond b (mapped_run pages (first + 1) (count - 1) + 1) 0) found

pub mapped_run-stop : (pages : Pages) (first count : ℕ) → is_some (get pages first) ≡ false → mapped_run pages first count ≡ 0
mapped_run-stop pages first zero missing = mapped_run-zero pages first
mapped_run-stop pages first (suc count) missing =
    mapped_run-suc pages first count ∙ ap (λ b. cond b (mapped_run pages (first + 1) count + 1) 0) missing

module _ (pages : Pages) (first protection : ℕ) where
  pub with_zeros-none : with_zeros pages first 0 protection ≡ pages
  unfolding with_zeros
  with_zeros-none = refl

  -- one more page of zeros
  pub with_zeros-more : (n : ℕ) → with_zeros pages first (n + 1) protection ≡ insert (with_zeros pages first n protection) (first + n) (zero_page protection)
  unfolding with_zeros
  with_zeros-more n = let e : n + 1 ≡ suc n = omega arith in ap (λ k. with_zeros pages first k protection) e

  pub with_protection-none : with_protection pages first 0 protection ≡ pages
  unfolding with_protection
  with_protection-none = refl

  -- one more page with the protection
  pub with_protection-more : (n : ℕ) → with_protection pages first (n + 1) protection
      ≡ pages_with_protection (with_protection pages first n protection) (first + n) (get (with_protection pages first n protection) (first + n)) protection
  unfolding with_protection
  with_protection-more n = let e : n + 1 ≡ suc n = omega arith in ap (λ k. with_protection pages first k protection) e

pub absent_count-none : (pages : Pages) (first : ℕ) → absent_count pages first 0 ≡ 0
unfolding absent_count
absent_count-none pages first = refl

pub absent_count-more : (pages : Pages) (first n : ℕ) → absent_count pages first (n + 1) ≡ absent_count pages first n + cond (is_some (get pages (first + n))) 0 1
unfolding absent_count
absent_count-more pages first n = let e : n + 1 ≡ suc n = omega arith in ap (absent_count pages first) e

pub absent_count-le : (pages : Pages) (first n : ℕ) → absent_count pages first n ≤ n
unfolding absent_count
absent_count-le pages first zero = omega arith
absent_count-le pages first (suc n) = one_more (is_some (get pages (first + n))) _ _ (absent_count-le pages first n)
  where
    one_more : (b : Bool) (k m : ℕ) → k ≤ m → k + cond b 0 1 ≤ suc m
    one_more true k m h = omega arith
    one_more false k m h = omega arith

-- a borrowed value is there where the value is
pub is_some-copied : {X : Type 0} (o : Option (Bor X)) → is_some (option_copied o) ≡ is_some o
is_some-copied None = refl
is_some-copied (Some x) = refl

-- where none is mapped, each is absent
absent_count-all : (pages : Pages) (first n : ℕ) → ((q : ℕ) → first ≤ q → q < first + n → get pages q ≡ None) → absent_count pages first n ≡ n
unfolding absent_count
absent_count-all pages first zero none = refl
absent_count-all pages first (suc n) none =
    let less = absent_count-all pages first n (λ q low high. none q low (omega arith)) in
    let last = ap {B = ℕ} (λ o. cond (is_some o) 0 1) (none (first + n) (omega arith) (omega arith)) in
    omega (arith, less, last)

pub absent-told : (pages : Pages) (first n : ℕ) (o : Option ℕ) → is_some o ≡ false → IsLastMapped pages first (first + n) o → absent_count pages first n ≡ n
absent-told pages first n None missing none = absent_count-all pages first n none
absent-told pages first n (Some last) missing some = absurd (cc)

-- the same zeros as the store's own
pub same-zeros : (pages : Pages) (first n protection : ℕ) → pages_with_zeros pages first n protection ≡ with_zeros pages first n protection
unfolding pages_with_zeros with_zeros
same-zeros pages first zero protection = refl
same-zeros pages first (suc n) protection = ap (λ m. insert m (first + n) (zero_page protection)) (same-zeros pages first n protection)

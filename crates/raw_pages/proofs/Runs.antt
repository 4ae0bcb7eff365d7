-- Runs of pages of zeros, in the tables of a store and in its map.
use Rattle.std.proofs.Common.{◌≡◌, ◌≢◌, ◌≤◌, ◌+◌, ◌-◌, zero, suc, ℕ, Bool, true, false, cond, List, ◌++◌, Option, Some, is_some, length, take, drop, refl, sym, ap, subst, ◌∙◌, arith, inl, inr}
use Rattle.std.proofs.lemmas.Bool.{cases_lt}
use Rattle.std.proofs.lemmas.Bool.Decides.{nat_tests}
use Rattle.std.specs.Ordering.{nat_cmp, eq_by_cmp}
use Rattle.std.specs.Cmp.{nat_cmp_total}
use Rattle.std.specs.FinMap.{get, insert, len, get-insert, same_map, nat_cmp-IsAntisymmetric}
use Rattle.raw_pages.specs.Pages.{MappedPage, Pages, zero_page, pages_with_zeros}
use Rattle.raw_pages.specs.inside.Tables.{entry_of, map_of, IsStore, Fills, absent_among}
use Rattle.raw_pages.proofs.Tables.{len-inserted, len-map_of, get-map_of, now_after, long_after, found, counted_view, make_store}
use Rattle.raw_pages.proofs.Fills.{fills-none, fills-more, fills-from, absent_among-moved}

get-here : (pages : Pages) (n : ℕ) (x : MappedPage) → get (insert pages n x) n ≡ Some x
get-here pages n x =
    let same : eq_by_cmp nat_cmp n n ≡ true = grind (arith, nat_tests) in
    get-insert nat_cmp_total pages n x n ∙ ap (λ b. cond b (Some x) (get pages n)) same

get-there : (pages : Pages) (n : ℕ) (x : MappedPage) (q : ℕ) → q ≢ n → get (insert pages n x) q ≡ get pages q
get-there pages n x q apart =
    let other : eq_by_cmp nat_cmp q n ≡ false = grind (arith, nat_tests) in
    get-insert nat_cmp_total pages n x q ∙ ap (λ b. cond b (Some x) (get pages q)) other

grown : (b : Bool) (n m k : ℕ) → n ≡ m + k → cond b n (n + 1) ≡ m + (k + cond b 0 1)
grown true n m k e = omega arith
grown false n m k e = omega arith

module _ (pages : Pages) (first protection : ℕ) where
  pub with_zeros-none : pages_with_zeros pages first 0 protection ≡ pages
  unfolding pages_with_zeros
  with_zeros-none = refl

  with_zeros-suc : (n : ℕ) → pages_with_zeros pages first (suc n) protection ≡ insert (pages_with_zeros pages first n protection) (first + n) (zero_page protection)
  unfolding pages_with_zeros
  with_zeros-suc n = refl

  -- what is found in them
  pub fills-with_zeros : (n : ℕ) → Fills (get pages) (get (pages_with_zeros pages first n protection)) first (first + n) (zero_page protection)
  fills-with_zeros zero =
      let here : first ≡ first + 0 = omega arith in
      subst (λ k. Fills (get pages) (get (pages_with_zeros pages first 0 protection)) first k (zero_page protection)) here
      (subst (λ m. Fills (get pages) (get m) first first (zero_page protection)) (sym with_zeros-none) (fills-none (get pages) first (zero_page protection)))
  fills-with_zeros (suc n) =
      let next : first + n + 1 ≡ first + suc n = omega arith in
      let before = pages_with_zeros pages first n protection in
      subst (λ k. Fills (get pages) (get (pages_with_zeros pages first (suc n) protection)) first k (zero_page protection)) next
      (subst (λ m. Fills (get pages) (get m) first (first + n + 1) (zero_page protection)) (sym (with_zeros-suc n))
      (fills-more (get pages) (get before) (get (insert before (first + n) (zero_page protection))) first (first + n) (zero_page protection) (omega arith)
      (fills-with_zeros n) (get-here before (first + n) (zero_page protection)) (λ q apart. get-there before (first + n) (zero_page protection) q apart)))

  -- each number that had no page is one more
  pub len-with_zeros : (n : ℕ) → len (pages_with_zeros pages first n protection) ≡ len pages + absent_among (get pages) first n
  unfolding absent_among
  len-with_zeros zero = let none = ap len with_zeros-none in omega (arith, none)
  len-with_zeros (suc n) =
      let before = pages_with_zeros pages first n protection in
      let same : get before (first + n) ≡ get pages (first + n) = (fills-with_zeros n).past (first + n) (omega arith) in
      ap len (with_zeros-suc n)
      ∙ len-inserted before (first + n) (zero_page protection) (get pages (first + n)) same
      ∙ grown (is_some (get pages (first + n))) (len before) (len pages) (absent_among (get pages) first n) (len-with_zeros n)

  -- more of them
  pub with_zeros-join : (n k : ℕ) → pages_with_zeros (pages_with_zeros pages first n protection) (first + n) k protection ≡ pages_with_zeros pages first (n + k) protection
  unfolding pages_with_zeros
  with_zeros-join n zero = ap (λ k. pages_with_zeros pages first k protection) (let e : n ≡ n + 0 = omega arith in e)
  with_zeros-join n (suc k) =
      (λ i. insert (with_zeros-join n k i) (let e : first + n + k ≡ first + (n + k) = omega arith in e i) (zero_page protection))
      ∙ ap (λ j. pages_with_zeros pages first j protection) (let e : suc (n + k) ≡ n + suc k = omega arith in e)

-- where the same is filled, the same is found
fills-alike : {X : Type 0} (f g h : ℕ → Option X) (first end : ℕ) (x : X) → Fills f g first end x → Fills f h first end x → (q : ℕ) → g q ≡ h q
fills-alike f g h first end x left right q =
    elim (cases_lt q first) [
      | inl low ↦ left.below q low ∙ sym (right.below q low)
      | inr from ↦ elim (cases_lt q end) [
        | inl inside ↦ left.inside q from inside ∙ sym (right.inside q from inside)
        | inr past ↦ left.past q past ∙ sym (right.past q past)
      ]
    ]

-- The tables of a store, written as a slice: `before` stood in the vector, `old` is what the slice was, `after` what it is.
module _ (long : ℕ) (before old after : List (Option (List (Option MappedPage)))) (mapped : ℕ) (view : Pages)
    (store : IsStore before mapped) (is : map_of before ≡ view) (full : length before ≡ long) (same : old ≡ before) (kept : length after ≡ length old)
    (first end protection : ℕ) (order : first ≤ end) (fills : Fills (entry_of old) (entry_of after) first end (zero_page protection)) where
  run_map : map_of after ≡ pages_with_zeros view first (end - first) protection
  run_map =
      let runs : first + (end - first) ≡ end = omega arith in
      let seen = subst (λ k. Fills (get view) (get (pages_with_zeros view first (end - first) protection)) first k (zero_page protection)) runs (fills-with_zeros view first protection (end - first)) in
      let made = fills-from (get view) (entry_of old) (entry_of after) first end (zero_page protection) (λ q. sym (found long before old after mapped view store is full same kept q)) fills in
      same_map nat_cmp_total nat_cmp-IsAntisymmetric _ _ (λ q.
      get-map_of after (long_after long before old after mapped view store is full same kept) q
      ∙ fills-alike (get view) (entry_of after) (get (pages_with_zeros view first (end - first) protection)) first end (zero_page protection) made seen q)

  run_len : (fresh : ℕ) → fresh ≡ absent_among (entry_of old) first (end - first) → mapped + fresh ≡ len (pages_with_zeros view first (end - first) protection)
  run_len fresh counted =
      let grows = len-with_zeros view first protection (end - first) in
      let absent = absent_among-moved (get view) (entry_of old) first first (end - first) (λ k below. found long before old after mapped view store is full same kept (first + k)) in
      let size = counted_view long before old after mapped view store is full same kept in
      omega (arith, grows, absent, counted, size)

  pub store-run : (fresh : ℕ) → fresh ≡ absent_among (entry_of old) first (end - first) → IsStore (take long (after ++ drop (length after) before)) (mapped + fresh)
  store-run fresh counted =
      make_store long before old after mapped view store is full same kept (mapped + fresh) (pages_with_zeros view first (end - first) protection) run_map (run_len fresh counted)

  pub view-run : map_of (take long (after ++ drop (length after) before)) ≡ pages_with_zeros view first (end - first) protection
  view-run = ap map_of (now_after long before old after mapped view store is full same kept) ∙ run_map

  -- no count passes the number of places
  pub fits-run : (fresh : ℕ) → fresh ≡ absent_among (entry_of old) first (end - first) → mapped + fresh ≤ 1048576
  fits-run fresh counted =
      let bound = len-map_of after in
      let size = ap len run_map in
      let counts = run_len fresh counted in
      omega (arith, bound, size, counts)

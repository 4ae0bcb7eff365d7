-- Laws of prefixes, of fresh pages and of writes, for the proofs of crates above.
use Rattle.std.proofs.Common.{◌≡◌, ◌≤◌, ◌<◌, ◌+◌, ◌-◌, ◌/◌, ◌%◌, zero, suc, ℕ, Bool, true, false, cond, leb, List, [], ◌∷◌, Option, Some, None, refl, sym, ap, ◌∙◌, arith, inl, inr}
use Rattle.std.proofs.lemmas.Bool.{cases_lt}
use Rattle.std.proofs.lemmas.Bool.Decides.{nat_tests}
use Rattle.std.proofs.lemmas.Map.Lookups.{exact_unsigned}
use Rattle.std.proofs.lemmas.Map.Views.{tells_apart}
use Rattle.std.specs.Ordering.{nat_cmp, eq_by_cmp}
use Rattle.std.specs.Cmp.{nat_cmp_total}
use Rattle.std.specs.FinMap.{get, get-insert}
use Rattle.guest_space.specs.declared.access.Access.TheVariants.{Load, Store}
use Rattle.guest_space.specs.declared.access.Why.TheVariants.{Beyond}
use Rattle.guest_space.specs.Memory.{MappedPage, Pages}
use Rattle.guest_space.specs.Access.{Access, Denied, Why, refusal, page_refusal, first_denied, denied_or, bytes_before, readable_prefix, writable_prefix, user_end}
use Rattle.guest_space.specs.Bytes.{with_byte, with_bytes, pages_with_byte, page_with_byte}
use Rattle.guest_space.specs.Mapping.{with_zeros, zero_page}
use Rattle.guest_space.proofs.Prefixes.{first_denied-suc, first_denied-same, first_denied-zero, denied-stands}

module _ (access : Access) (pages : Pages) where
  le_go : (a n : ℕ) (o : Option Denied) → first_denied access pages a n ≡ o → bytes_before a n o ≤ n
  le_go a n None is = omega arith
  le_go a n (Some d) is = let below = (denied-stands access pages n a d is).below in omega arith

  -- a prefix is no longer than what was asked
  pub prefix-le : (a n : ℕ) → bytes_before a n (first_denied access pages a n) ≤ n
  prefix-le a n = le_go a n _ refl

  free_here : (a n : ℕ) (o : Option Why) → refusal access pages a ≡ o
      → (bytes_before (a + 1) n (first_denied access pages (a + 1) n) ≡ bytes_before (a + 1) n (first_denied access pages (a + 1) n) → first_denied access pages (a + 1) (bytes_before (a + 1) n (first_denied access pages (a + 1) n)) ≡ None)
      → first_denied access pages a (bytes_before a (suc n) (denied_or a o (first_denied access pages (a + 1) n))) ≡ None
  free_here a n (Some why) is later = first_denied-same access pages {b = a} {n = 0} refl (omega arith) ∙ first_denied-zero access pages a
  free_here a n None is later = free_rest a n (first_denied access pages (a + 1) n) is refl (later refl)
    where
      free_rest : (a n : ℕ) (o : Option Denied) → refusal access pages a ≡ None → first_denied access pages (a + 1) n ≡ o
          → first_denied access pages (a + 1) (bytes_before (a + 1) n o) ≡ None → first_denied access pages a (bytes_before a (suc n) o) ≡ None
      free_rest a n None free is later =
          first_denied-suc access pages a n ∙ ap (λ w. denied_or a w (first_denied access pages (a + 1) n)) free ∙ later
      free_rest a n (Some d) free is later =
          let from = (denied-stands access pages n (a + 1) d is).from in
          let one : d.addr - a ≡ suc (d.addr - (a + 1)) = omega arith in
          first_denied-same access pages refl one
          ∙ first_denied-suc access pages a (d.addr - (a + 1))
          ∙ ap (λ w. denied_or a w (first_denied access pages (a + 1) (d.addr - (a + 1)))) free
          ∙ later

  -- of the bytes of a prefix none is denied
  pub prefix-free : (n a : ℕ) → first_denied access pages a (bytes_before a n (first_denied access pages a n)) ≡ None
  prefix-free zero a =
      ap (λ o. first_denied access pages a (bytes_before a 0 o)) (first_denied-zero access pages a) ∙ first_denied-zero access pages a
  prefix-free (suc n) a =
      ap (λ o. first_denied access pages a (bytes_before a (suc n) o)) (first_denied-suc access pages a n)
      ∙ free_here a n (refusal access pages a) refl (λ _. prefix-free n (a + 1))

module _ (access : Access) (pages : Pages) where
  part_here : (a k m : ℕ) (o : Option Why) → refusal access pages a ≡ o → denied_or a o (first_denied access pages (a + 1) m) ≡ None
      → (first_denied access pages (a + 1) m ≡ None → first_denied access pages (a + 1) k ≡ None) → denied_or a o (first_denied access pages (a + 1) k) ≡ None
  part_here a k m (Some why) is none later = absurd (cc)
  part_here a k m None is none later = later none

  -- where none of some bytes is denied, none of the first ones is
  pub none_denied-part : (k m a : ℕ) → first_denied access pages a (k + m) ≡ None → first_denied access pages a k ≡ None
  none_denied-part zero m a none = first_denied-zero access pages a
  none_denied-part (suc k) m a none =
      let longer : suc k + m ≡ suc (k + m) = omega arith in
      first_denied-suc access pages a k
      ∙ part_here a k (k + m) (refusal access pages a) refl
      (sym (first_denied-suc access pages a (k + m)) ∙ first_denied-same access pages refl (sym longer) ∙ none)
      (none_denied-part k m (a + 1))

  -- of the first bytes of a prefix none is denied
  pub prefix-part : (n a k : ℕ) → k ≤ bytes_before a n (first_denied access pages a n) → first_denied access pages a k ≡ None
  prefix-part n a k within =
      let size = bytes_before a n (first_denied access pages a n) in
      let whole : k + (size - k) ≡ size = omega arith in
      none_denied-part k (size - k) a (first_denied-same access pages refl whole ∙ prefix-free access pages n a)

-- of the bytes of a readable prefix none is denied
pub readable_prefix-free : (pages : Pages) (n a : ℕ) → first_denied Load pages a (readable_prefix pages a n) ≡ None
unfolding readable_prefix
readable_prefix-free pages n a = prefix-free Load pages n a

pub readable_prefix-le : (pages : Pages) (n a : ℕ) → readable_prefix pages a n ≤ n
unfolding readable_prefix
readable_prefix-le pages n a = prefix-le Load pages a n

pub writable_prefix-free : (pages : Pages) (n a : ℕ) → first_denied Store pages a (writable_prefix pages a n) ≡ None
unfolding writable_prefix
writable_prefix-free pages n a = prefix-free Store pages n a

pub writable_prefix-le : (pages : Pages) (n a : ℕ) → writable_prefix pages a n ≤ n
unfolding writable_prefix
writable_prefix-le pages n a = prefix-le Store pages a n

module _ (pages : Pages) (first protection q : ℕ) where
  zeros_step : (count : ℕ) → get (with_zeros pages first (suc count) protection) q
      ≡ cond (eq_by_cmp nat_cmp q (first + count)) (Some (zero_page protection)) (get (with_zeros pages first count protection) q)
  unfolding with_zeros
  zeros_step count = get-insert nat_cmp_total (with_zeros pages first count protection) (first + count) (zero_page protection) q

  -- a page below the range is as it was
  pub get-with_zeros_below : (count : ℕ) → q < first → get (with_zeros pages first count protection) q ≡ get pages q
  unfolding with_zeros
  get-with_zeros_below zero below = refl
  get-with_zeros_below (suc count) below =
      let apart : eq_by_cmp nat_cmp q (first + count) ≡ false = grind (arith, nat_tests) in
      zeros_step count
      ∙ ap (λ b. cond b (Some (zero_page protection)) (get (with_zeros pages first count protection) q)) apart
      ∙ get-with_zeros_below count below

  -- a page of the range is one of zeros
  pub get-with_zeros_in : (count : ℕ) → first ≤ q → q < first + count → get (with_zeros pages first count protection) q ≡ Some (zero_page protection)
  get-with_zeros_in zero from below = absurd (omega arith)
  get-with_zeros_in (suc count) from below =
      zeros_step count
      ∙ elim (cases_lt q (first + count)) [
        | inl earlier ↦
            let apart : eq_by_cmp nat_cmp q (first + count) ≡ false = grind (arith, nat_tests) in
            ap (λ b. cond b (Some (zero_page protection)) (get (with_zeros pages first count protection) q)) apart
            ∙ get-with_zeros_in count from earlier
        | inr last ↦
            let here : eq_by_cmp nat_cmp q (first + count) ≡ true = grind (arith, nat_tests) in
            ap (λ b. cond b (Some (zero_page protection)) (get (with_zeros pages first count protection) q)) here
      ]

module _ (access : Access) where
  kept_at : (pages : Pages) (n q : ℕ) (page v : MappedPage) (b : Bool) → get pages n ≡ Some page → v.protection ≡ page.protection → eq_by_cmp nat_cmp q n ≡ b
      → page_refusal access (cond b (Some v) (get pages q)) ≡ page_refusal access (get pages q)
  kept_at pages n q page v true found same is =
      let at : n ≡ q = sym (tells_apart exact_unsigned q n is) in
      ap (λ p. page_refusal access (Some (record page { protection = p }))) same
      ∙ ap (page_refusal access) (sym found ∙ ap (get pages) at)
  kept_at pages n q page v false found same is = refl

  kept_go : (pages : Pages) (n p b q : ℕ) (o : Option MappedPage) → get pages n ≡ o → page_refusal access (get (pages_with_byte pages n o p b) q) ≡ page_refusal access (get pages q)
  kept_go pages n p b q None found = refl
  kept_go pages n p b q (Some page) found =
      ap (page_refusal access) (get-insert nat_cmp_total pages n (page_with_byte page p b) q)
      ∙ kept_at pages n q page (page_with_byte page p b) _ found refl refl

  refusal_by : (pages : Pages) (x : ℕ) (o : Option Why) → page_refusal access (get pages (x / 4096)) ≡ o → refusal access pages x ≡ cond (leb user_end x) (Some Beyond) o
  unfolding refusal
  refusal_by pages x o is = ap (cond (leb user_end x) (Some Beyond)) is

  -- a write changes no protection
  pub refusal-with_byte : (pages : Pages) (a b x : ℕ) → refusal access (with_byte pages a b) x ≡ refusal access pages x
  unfolding with_byte
  refusal-with_byte pages a b x =
      refusal_by (with_byte pages a b) x _ (kept_go pages (a / 4096) (a % 4096) b (x / 4096) _ refl) ∙ sym (refusal_by pages x _ refl)

  pub refusal-with_bytes : (bs : List ℕ) (pages : Pages) (a x : ℕ) → refusal access (with_bytes pages a bs) x ≡ refusal access pages x
  unfolding with_bytes
  refusal-with_bytes [] pages a x = refl
  refusal-with_bytes (b ∷ bs) pages a x = refusal-with_bytes bs (with_byte pages a b) (a + 1) x ∙ refusal-with_byte pages a b x

  -- so the same bytes are denied after it
  pub first_denied-with_bytes : (bs : List ℕ) (pages : Pages) (a n x : ℕ) → first_denied access (with_bytes pages a bs) x n ≡ first_denied access pages x n
  first_denied-with_bytes bs pages a zero x = first_denied-zero access (with_bytes pages a bs) x ∙ sym (first_denied-zero access pages x)
  first_denied-with_bytes bs pages a (suc n) x =
      first_denied-suc access (with_bytes pages a bs) x n
      ∙ (λ i. denied_or x (refusal-with_bytes bs pages a x i) (first_denied-with_bytes bs pages a n (x + 1) i))
      ∙ sym (first_denied-suc access pages x n)

-- The first byte that is denied, piece by piece.
use Rattle.std.proofs.Common.{Result, Ok, Err, IfOk, IfErr, IfNone, ◌≡◌, ◌≤◌, ◌<◌, ◌+◌, ◌-◌, ◌/◌, ◌%◌, zero, suc, ℕ, Option, Some, None, refl, sym, ap, ◌∙◌, arith, inl, inr}
use Rattle.std.specs.Result.{result_err}
use Rattle.std.proofs.lemmas.Bool.{cases_lt}
use Rattle.std.specs.FinMap.{get}
use Rattle.guest_space.specs.declared.access.Why.TheVariants.{Beyond}
use Rattle.guest_space.specs.Memory.{Pages}
use Rattle.guest_space.specs.Access.{Access, Denied, Why, refusal, page_refusal, first_denied, denied_or, user_end}
use Rattle.std.proofs.lemmas.Bool.Decides.{nat_tests}

-- from the end of user space on each byte is refused
pub refusal-beyond : (access : Access) (pages : Pages) (a : ℕ) → user_end ≤ a → refusal access pages a ≡ Some Beyond
unfolding refusal
refusal-beyond access pages a h = grind (arith, nat_tests)

-- below it the page says
pub refusal-page : (access : Access) (pages : Pages) (a : ℕ) → a < user_end → refusal access pages a ≡ page_refusal access (get pages (a / 4096))
unfolding refusal
refusal-page access pages a h = grind (arith, nat_tests)

pub below_end : (access : Access) (pages : Pages) (a : ℕ) → refusal access pages a ≡ None → a < user_end
unfolding refusal
below_end access pages a h = grind (arith, nat_tests)

-- a page that was found, or why none was
pub refusal_found : {P : Type 0} (Q : P → Type 0) (r : Result P Why) (o : Option Why)
    → IfOk r (λ p. (o ≡ None) × Q p) → IfErr r (λ why. o ≡ Some why) → result_err r ≡ o
refusal_found Q (Ok p) o allowed refused = sym allowed.0
refusal_found Q (Err why) o allowed refused = sym refused

pub inside-none : (access : Access) (pages : Pages) (a : ℕ) (o : Option Why) → o ≡ refusal access pages a → IfNone o (a < user_end)
inside-none access pages a None is = below_end access pages a (sym is)
inside-none access pages a (Some why) is = tt

-- the bytes of a page are refused alike
pub refusal-same_page : (access : Access) (pages : Pages) (a k : ℕ) → refusal access pages a ≡ None → a % 4096 + k < 4096 → refusal access pages (a + k) ≡ None
refusal-same_page access pages a k free room =
    let low = below_end access pages a free in
    let high : a + k < user_end = omega arith in
    let page : (a + k) / 4096 ≡ a / 4096 = omega arith in
    refusal-page access pages (a + k) high
    ∙ ap (λ n. page_refusal access (get pages n)) page
    ∙ sym (refusal-page access pages a low)
    ∙ free

module _ (access : Access) (pages : Pages) where
  pub first_denied-same : {a b m n : ℕ} → a ≡ b → m ≡ n → first_denied access pages a m ≡ first_denied access pages b n
  first_denied-same p q = λ i. first_denied access pages (p i) (q i)

  pub first_denied-suc : (a n : ℕ) → first_denied access pages a (suc n) ≡ denied_or a (refusal access pages a) (first_denied access pages (a + 1) n)
  unfolding first_denied
  first_denied-suc a n = refl

  -- of no bytes none is denied
  pub first_denied-zero : (a : ℕ) → first_denied access pages a 0 ≡ None
  unfolding first_denied
  first_denied-zero a = refl

  -- a byte that is refused is the first
  pub first_denied-here : (a n : ℕ) (why : Why) → refusal access pages a ≡ Some why → 0 < n → first_denied access pages a n ≡ Some (record { addr = a; why = why })
  first_denied-here a n why refused more =
      let e : n ≡ suc (n - 1) = omega arith in
      first_denied-same refl e ∙ first_denied-suc a (n - 1) ∙ ap (λ o. denied_or a o (first_denied access pages (a + 1) (n - 1))) refused

  -- bytes that may be used are passed over
  pub first_denied-skip : (k n a : ℕ) → ((j : ℕ) → j < k → refusal access pages (a + j) ≡ None) → first_denied access pages a (k + n) ≡ first_denied access pages (a + k) n
  first_denied-skip zero n a free = first_denied-same (omega arith) (omega arith)
  first_denied-skip (suc k) n a free =
      let one : refusal access pages a ≡ None = ap (refusal access pages) (omega arith) ∙ free 0 (omega arith) in
      let rest = first_denied-skip k n (a + 1) (λ j h. ap (refusal access pages) (omega arith) ∙ free (j + 1) (omega arith)) in
      first_denied-same refl (omega arith)
      ∙ first_denied-suc a (k + n)
      ∙ ap (λ o. denied_or a o (first_denied access pages (a + 1) (k + n))) one
      ∙ rest
      ∙ first_denied-same (omega arith) refl

  -- where the first byte of a page's piece may be used, each may
  pub first_denied-page : (a k n : ℕ) → refusal access pages a ≡ None → a % 4096 + k ≤ 4096 → first_denied access pages a (k + n) ≡ first_denied access pages (a + k) n
  first_denied-page a k n free room = first_denied-skip k n a (λ j h. refusal-same_page access pages a j free (omega arith))

  within_go : (n a : ℕ) (o : Option Why) → refusal access pages a ≡ o → denied_or a o (first_denied access pages (a + 1) n) ≡ None
      → (first_denied access pages (a + 1) n ≡ None → 0 < n → a + 1 + n ≤ user_end) → a + suc n ≤ user_end
  within_go n a (Some why) is none later = absurd (cc)
  within_go zero a None is none later = let low = below_end access pages a is in omega arith
  within_go (suc n) a None is none later = omega (arith, later none (omega arith))

  -- where none is denied, none lies past user space
  pub none_denied-within : (n a : ℕ) → first_denied access pages a n ≡ None → 0 < n → a + n ≤ user_end
  none_denied-within zero a none more = absurd (omega arith)
  none_denied-within (suc n) a none more =
      within_go n a (refusal access pages a) refl (sym (first_denied-suc a n) ∙ none) (none_denied-within n (a + 1))

  -- and none lies past 2 ^ 32
  pub none_denied-in_word : (n a : ℕ) → first_denied access pages a n ≡ None → a < 4294967296 → a + n ≤ 4294967296
  none_denied-in_word zero a none word = omega arith
  none_denied-in_word (suc n) a none word = omega (arith, none_denied-within (suc n) a none (omega arith))

  -- where the denied byte stands
  pub record Stands (a n : ℕ) (d : Denied) : Type 0 where
    pub from : a ≤ d.addr
    pub below : d.addr < a + n
    pub inside : a < d.addr → d.addr ≤ user_end

  one_on : (a b e : ℕ) → a < e → (a + 1 < b → b ≤ e) → a < b → b ≤ e
  one_on a b e low more h = elim (cases_lt (a + 1) b) [ inl later ↦ more later | inr here ↦ omega arith ]

  stands_go : (n a : ℕ) (d : Denied) (o : Option Why) → refusal access pages a ≡ o → denied_or a o (first_denied access pages (a + 1) n) ≡ Some d
      → (first_denied access pages (a + 1) n ≡ Some d → Stands (a + 1) n d) → Stands a (suc n) d
  stands_go n a d None is found later =
      let s = later found in
      let low = below_end access pages a is in
      let from = s.from in
      let below = s.below in
      record { from = omega arith; below = omega arith; inside = one_on a d.addr user_end low s.inside }
  stands_go n a d (Some why) is found later =
      let whole : record { addr = a; why = why } ≡ d = cc in
      let here : a ≡ d.addr = ap (λ (x : Denied). x.addr) whole in
      record { from = omega arith; below = omega arith; inside = λ h. absurd (omega arith) }

  pub denied-stands : (n a : ℕ) (d : Denied) → first_denied access pages a n ≡ Some d → Stands a n d
  denied-stands zero a d found = absurd (let e : None ≡ Some d = sym (first_denied-zero a) ∙ found in cc)
  denied-stands (suc n) a d found =
      stands_go n a d (refusal access pages a) refl (sym (first_denied-suc a n) ∙ found) (denied-stands n (a + 1) d)

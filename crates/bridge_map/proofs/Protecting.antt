-- Pages that are mapped with leave to write, written, and then get their protection: they are as if they had had it from the first.
use Rattle.std.proofs.Common.{◌≡◌, ◌≤◌, ◌<◌, ◌+◌, ◌*◌, ◌/◌, ◌%◌, ◌⊎◌, inl, inr, zero, suc, ℕ, Bool, true, false, cond, List, [], ◌∷◌, Option, Some, None, refl, sym, ap, ◌∙◌, arith}
use Rattle.std.proofs.lemmas.Bool.{cases_lt}
use Rattle.std.proofs.lemmas.Bool.Decides.{nat_tests}
use Rattle.std.proofs.lemmas.Map.Lookups.{exact_unsigned}
use Rattle.std.proofs.lemmas.Map.Views.{tells_apart}
use Rattle.std.specs.Prelude.{option_map}
use Rattle.std.specs.Ordering.{nat_cmp, eq_by_cmp}
use Rattle.std.specs.Cmp.{nat_cmp_total}
use Rattle.std.specs.FinMap.{get, insert, get-insert, same_map, nat_cmp-IsAntisymmetric}
use Rattle.guest_space.proofs.MappingLemmas.{get-with_zeros_past, with_protection-none}
use Rattle.guest_space.proofs.Uses.{get-with_zeros_below, get-with_zeros_in}
use Rattle.guest_space.proofs.Prefixes.{refusal-page}
use Rattle.guest_space.specs.Access.{page_refusal, refusal}
use Rattle.guest_space.specs.Bytes.{page_with_byte, pages_with_byte, with_byte, with_bytes}
use Rattle.guest_space.specs.Mapping.{pages_with_protection, with_protection, with_zeros}
use Rattle.guest_space.specs.Memory.{MappedPage, Pages}
use Rattle.guest_space.specs.declared.access.Access.TheVariants.{Store}

-- One page that is mapped becomes another, and where none is mapped nothing changes.

changed : Pages → ℕ → Option MappedPage → (MappedPage → MappedPage) → Pages
changed pages number None become = pages
changed pages number (Some page) become = insert pages number (become page)

same_key : (number q : ℕ) → eq_by_cmp nat_cmp q number ≡ true → number ≡ q
same_key number q is = sym (tells_apart exact_unsigned q number is)

changed_by : (pages : Pages) (number q : ℕ) (become : MappedPage → MappedPage) (found : Option MappedPage) → get pages number ≡ found
    → get (changed pages number found become) q ≡ cond (eq_by_cmp nat_cmp q number) (option_map become (get pages q)) (get pages q)
unfolding changed
changed_by pages number q become None found = by_key (eq_by_cmp nat_cmp q number) refl
  where
    by_key : (b : Bool) → eq_by_cmp nat_cmp q number ≡ b → get pages q ≡ cond b (option_map become (get pages q)) (get pages q)
    by_key false is = refl
    by_key true is =
        let none : get pages q ≡ None = ap (get pages) (sym (same_key number q is)) ∙ found in
        none ∙ ap (option_map become) (sym none)
changed_by pages number q become (Some page) found =
    get-insert nat_cmp_total pages number (become page) q ∙ by_key (eq_by_cmp nat_cmp q number) refl
  where
    by_key : (b : Bool) → eq_by_cmp nat_cmp q number ≡ b → cond b (Some (become page)) (get pages q) ≡ cond b (option_map become (get pages q)) (get pages q)
    by_key false is = refl
    by_key true is = ap (option_map become) (sym found ∙ ap (get pages) (same_key number q is))

get-changed : (pages : Pages) (number q : ℕ) (become : MappedPage → MappedPage)
    → get (changed pages number (get pages number) become) q ≡ cond (eq_by_cmp nat_cmp q number) (option_map become (get pages q)) (get pages q)
get-changed pages number q become = changed_by pages number q become (get pages number) refl

-- a write and a change of protection, in either order

module _ (protection place byte : ℕ) where
  guarded : MappedPage → MappedPage
  guarded page = record page { protection = protection }

  written : MappedPage → MappedPage
  written page = page_with_byte page place byte

  both_ways : (found : Option MappedPage) (here there : Bool)
      → cond here (option_map guarded (cond there (option_map written found) found)) (cond there (option_map written found) found)
      ≡ cond there (option_map written (cond here (option_map guarded found) found)) (cond here (option_map guarded found) found)
  unfolding guarded written
  both_ways None true true = refl
  both_ways None true false = refl
  both_ways None false true = refl
  both_ways None false false = refl
  both_ways (Some page) true true = refl
  both_ways (Some page) true false = refl
  both_ways (Some page) false true = refl
  both_ways (Some page) false false = refl

  swap : (pages : Pages) (number at : ℕ)
      → changed (changed pages at (get pages at) written) number (get (changed pages at (get pages at) written) number) guarded
      ≡ changed (changed pages number (get pages number) guarded) at (get (changed pages number (get pages number) guarded) at) written
  swap pages number at = same_map nat_cmp_total nat_cmp-IsAntisymmetric _ _ (λ q.
      get-changed (changed pages at (get pages at) written) number q guarded
      ∙ ap (λ (o : Option MappedPage). cond (eq_by_cmp nat_cmp q number) (option_map guarded o) o) (get-changed pages at q written)
      ∙ both_ways (get pages q) (eq_by_cmp nat_cmp q number) (eq_by_cmp nat_cmp q at)
      ∙ ap (λ (o : Option MappedPage). cond (eq_by_cmp nat_cmp q at) (option_map written o) o) (sym (get-changed pages number q guarded))
      ∙ sym (get-changed (changed pages number (get pages number) guarded) at q written))

  is_guarded : (pages : Pages) (number : ℕ) (found : Option MappedPage) → pages_with_protection pages number found protection ≡ changed pages number found guarded
  unfolding changed guarded
  is_guarded pages number None = refl
  is_guarded pages number (Some page) = refl

  is_written : (pages : Pages) (number : ℕ) (found : Option MappedPage) → pages_with_byte pages number found place byte ≡ changed pages number found written
  unfolding changed written
  is_written pages number None = refl
  is_written pages number (Some page) = refl

protect_at : Pages → ℕ → ℕ → Pages
protect_at pages number protection = pages_with_protection pages number (get pages number) protection

one_after_byte : (pages : Pages) (number address byte protection : ℕ)
    → protect_at (with_byte pages address byte) number protection ≡ with_byte (protect_at pages number protection) address byte
unfolding protect_at with_byte
one_after_byte pages number address byte protection =
    let at = address / 4096 in
    let place = address % 4096 in
    let put : with_byte pages address byte ≡ changed pages at (get pages at) (written protection place byte) = is_written protection place byte pages at (get pages at) in
    let kept : protect_at pages number protection ≡ changed pages number (get pages number) (guarded protection place byte) = is_guarded protection place byte pages number (get pages number) in
    is_guarded protection place byte (with_byte pages address byte) number (get (with_byte pages address byte) number)
    ∙ ap (λ (p : Pages). changed p number (get p number) (guarded protection place byte)) put
    ∙ swap protection place byte pages number at
    ∙ ap (λ (p : Pages). changed p at (get p at) (written protection place byte)) (sym kept)
    ∙ sym (is_written protection place byte (protect_at pages number protection) at (get (protect_at pages number protection) at))

protect_more : (pages : Pages) (first count protection : ℕ) → with_protection pages first (suc count) protection ≡ protect_at (with_protection pages first count protection) (first + count) protection
unfolding with_protection protect_at
protect_more pages first count protection = refl

after_byte : (pages : Pages) (first count protection address byte : ℕ)
    → with_protection (with_byte pages address byte) first count protection ≡ with_byte (with_protection pages first count protection) address byte
after_byte pages first zero protection address byte =
    with_protection-none (with_byte pages address byte) first protection ∙ ap (λ (p : Pages). with_byte p address byte) (sym (with_protection-none pages first protection))
after_byte pages first (suc count) protection address byte =
    protect_more (with_byte pages address byte) first count protection
    ∙ ap (λ (p : Pages). protect_at p (first + count) protection) (after_byte pages first count protection address byte)
    ∙ one_after_byte (with_protection pages first count protection) (first + count) address byte protection
    ∙ ap (λ (p : Pages). with_byte p address byte) (sym (protect_more pages first count protection))

pub after_bytes : (bytes : List ℕ) (pages : Pages) (first count protection address : ℕ)
    → with_protection (with_bytes pages address bytes) first count protection ≡ with_bytes (with_protection pages first count protection) address bytes
unfolding with_bytes
after_bytes [] pages first count protection address = refl
after_bytes (byte ∷ bytes) pages first count protection address =
    after_bytes bytes (with_byte pages address byte) first count protection (address + 1)
    ∙ ap (λ (p : Pages). with_bytes p (address + 1) bytes) (after_byte pages first count protection address byte)

-- pages of zeros that get another protection

guarded_at : ℕ → MappedPage → MappedPage
guarded_at protection page = record page { protection = protection }

module _ (pages : Pages) (first protection q : ℕ) where
  protected_step : (count : ℕ) → get (with_protection pages first (suc count) protection) q
      ≡ cond (eq_by_cmp nat_cmp q (first + count)) (option_map (guarded_at protection) (get (with_protection pages first count protection) q)) (get (with_protection pages first count protection) q)
  unfolding protect_at guarded guarded_at
  protected_step count =
      let before = with_protection pages first count protection in
      ap (λ (p : Pages). get p q) (protect_more pages first count protection ∙ is_guarded protection 0 0 before (first + count) (get before (first + count)))
      ∙ get-changed before (first + count) q (guarded protection 0 0)

  protected_outside : (count : ℕ) → (q < first) ⊎ (first + count ≤ q) → get (with_protection pages first count protection) q ≡ get pages q
  protected_outside zero outside = ap (λ (p : Pages). get p q) (with_protection-none pages first protection)
  protected_outside (suc count) outside =
      let apart : eq_by_cmp nat_cmp q (first + count) ≡ false = elim outside [ inl low ↦ grind (arith, nat_tests) | inr high ↦ grind (arith, nat_tests) ] in
      let still : (q < first) ⊎ (first + count ≤ q) = elim outside [ inl low ↦ inl low | inr high ↦ inr (omega arith) ] in
      protected_step count
      ∙ ap (λ b. cond b (option_map (guarded_at protection) (get (with_protection pages first count protection) q)) (get (with_protection pages first count protection) q)) apart
      ∙ protected_outside count still

  protected_inside : (count : ℕ) → first ≤ q → q < first + count → get (with_protection pages first count protection) q ≡ option_map (guarded_at protection) (get pages q)
  protected_inside zero from below = absurd (omega arith)
  protected_inside (suc count) from below =
      protected_step count
      ∙ elim (cases_lt q (first + count)) [
        | inl earlier ↦
            let apart : eq_by_cmp nat_cmp q (first + count) ≡ false = grind (arith, nat_tests) in
            ap (λ b. cond b (option_map (guarded_at protection) (get (with_protection pages first count protection) q)) (get (with_protection pages first count protection) q)) apart
            ∙ protected_inside count from earlier
        | inr last ↦
            let here : eq_by_cmp nat_cmp q (first + count) ≡ true = grind (arith, nat_tests) in
            ap (λ b. cond b (option_map (guarded_at protection) (get (with_protection pages first count protection) q)) (get (with_protection pages first count protection) q)) here
            ∙ ap (option_map (guarded_at protection)) (protected_outside count (inr last))
      ]

pub zeros_protected : (pages : Pages) (first count before protection : ℕ) → with_protection (with_zeros pages first count before) first count protection ≡ with_zeros pages first count protection
unfolding guarded_at
zeros_protected pages first count before protection = same_map nat_cmp_total nat_cmp-IsAntisymmetric _ _ at
  where
    at : (q : ℕ) → get (with_protection (with_zeros pages first count before) first count protection) q ≡ get (with_zeros pages first count protection) q
    at q = elim (cases_lt q first) [
      | inl low ↦
          protected_outside (with_zeros pages first count before) first protection q count (inl low)
          ∙ get-with_zeros_below pages first before q count low
          ∙ sym (get-with_zeros_below pages first protection q count low)
      | inr from ↦ elim (cases_lt q (first + count)) [
        | inl below ↦
            protected_inside (with_zeros pages first count before) first protection q count from below
            ∙ ap (option_map (guarded_at protection)) (get-with_zeros_in pages first before q count from below)
            ∙ sym (get-with_zeros_in pages first protection q count from below)
        | inr past ↦
            protected_outside (with_zeros pages first count before) first protection q count (inr past)
            ∙ get-with_zeros_past pages first count before q past
            ∙ sym (get-with_zeros_past pages first count protection q past)
      ]
    ]

-- so the bytes stand in pages of that protection
pub written_protected : (pages : Pages) (first count before protection address : ℕ) (bytes : List ℕ)
    → with_protection (with_bytes (with_zeros pages first count before) address bytes) first count protection ≡ with_bytes (with_zeros pages first count protection) address bytes
written_protected pages first count before protection address bytes =
    after_bytes bytes (with_zeros pages first count before) first count protection address
    ∙ ap (λ (p : Pages). with_bytes p address bytes) (zeros_protected pages first count before protection)

-- pages of zeros with leave to write can be stored to

pub zeros_storable : (pages : Pages) (first count j : ℕ) → first + count ≤ 524280 → j < count * 4096 → refusal Store (with_zeros pages first count 3) (first * 4096 + j) ≡ None
zeros_storable pages first count j inside within =
    let number : ℕ = (first * 4096 + j) / 4096 in
    refusal-page Store (with_zeros pages first count 3) (first * 4096 + j) (omega arith)
    ∙ ap (page_refusal Store) (get-with_zeros_in pages first 3 number count (omega arith) (omega arith))

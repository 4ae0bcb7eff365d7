-- Bytes that were stored can be loaded, and are read back.
use Rattle.std.proofs.Common.{◌≡◌, ◌≢◌, ℕ, zero, suc, ◌+◌, ◌/◌, ◌%◌, ◌<◌, Bool, true, false, cond, List, [], ◌∷◌, length, Option, Some, None, refl, sym, ap, ◌∙◌, arith}
use Rattle.std.proofs.lemmas.Bool.Decides.{nat_tests}
use Rattle.std.proofs.Math.ListN.{length-set}
use Rattle.std.proofs.lemmas.List.{get_or-set_other, get_or-set_same}
use Rattle.std.proofs.lemmas.Map.Lookups.{exact_unsigned}
use Rattle.std.proofs.lemmas.Map.Views.{tells_apart}
use Rattle.std.specs.Cmp.{nat_cmp_total}
use Rattle.std.specs.FinMap.{get, get-insert}
use Rattle.std.specs.Ordering.{eq_by_cmp, nat_cmp}
use Rattle.std.specs.Prelude.{if◌then◌else◌, nat_le}
use Rattle.guest_space.proofs.Prefixes.{first_denied-suc, first_denied-zero}
use Rattle.guest_space.proofs.Uses.{first_denied-with_bytes}
use Rattle.guest_space.specs.Access.{denied_or, first_denied, page_refusal, refusal, user_end}
use Rattle.guest_space.specs.Bytes.{byte_at, bytes_at, page_byte, page_with_byte, pages_with_byte, with_byte, with_bytes}
use Rattle.guest_space.specs.Memory.{IsValid, MappedPage, Pages}
use Rattle.guest_space.specs.declared.access.Access.TheVariants.{Load, Store}
use Rattle.guest_space.specs.declared.access.Denied.{Denied}
use Rattle.guest_space.specs.declared.access.Why.{Why}
use Rattle.guest_space.specs.declared.access.Why.TheVariants.{Beyond}

-- Of bytes none of which is denied, the first is not, and the others are not.

here_free : (a : ℕ) (here : Option Why) (later : Option Denied) → denied_or a here later ≡ None → here ≡ None
here_free a None later free = refl
here_free a (Some why) later free = absurd cc

later_free : (a : ℕ) (here : Option Why) (later : Option Denied) → denied_or a here later ≡ None → later ≡ None
later_free a None later free = free
later_free a (Some why) later free = absurd cc

-- What can be stored can be loaded.

allowed : (o : Option MappedPage) → page_refusal Store o ≡ None → page_refusal Load o ≡ None
allowed None free = absurd cc
allowed (Some page) free = grind (arith, nat_tests)

loads_one : (pages : Pages) (a : ℕ) → refusal Store pages a ≡ None → refusal Load pages a ≡ None
unfolding refusal
loads_one pages a free = grind (arith, nat_tests, allowed)

pub loads_all : (count : ℕ) (pages : Pages) (a : ℕ) → first_denied Store pages a count ≡ None → first_denied Load pages a count ≡ None
loads_all zero pages a free = first_denied-zero Load pages a
loads_all (suc count) pages a free =
    let both = sym (first_denied-suc Store pages a count) ∙ free in
    first_denied-suc Load pages a count
    ∙ ap (λ (o : Option Why). denied_or a o (first_denied Load pages (a + 1) count)) (loads_one pages a (here_free a _ _ both))
    ∙ loads_all count pages (a + 1) (later_free a _ _ both)

-- Each page has 4096 bytes.

abbrev pub AreWhole : Pages → Type 0
AreWhole pages = (number : ℕ) (page : MappedPage) → get pages number ≡ Some page → length page.bytes ≡ 4096

pub valid_whole : (pages : Pages) → IsValid pages → AreWhole pages
unfolding IsValid
valid_whole pages valid number page found = (valid number page found).whole

-- A byte that is put into a page

module _ (pages : Pages) (a b : ℕ) (page : MappedPage) (found : get pages (a / 4096) ≡ Some page) where
  page_at : (number : ℕ) → get (with_byte pages a b) number ≡ cond (eq_by_cmp nat_cmp number (a / 4096)) (Some (page_with_byte page (a % 4096) b)) (get pages number)
  unfolding with_byte
  page_at number =
      ap (λ (o : Option MappedPage). get (pages_with_byte pages (a / 4096) o (a % 4096) b) number) found
      ∙ get-insert nat_cmp_total pages (a / 4096) (page_with_byte page (a % 4096) b) number

  there : length page.bytes ≡ 4096 → byte_at (with_byte pages a b) a ≡ b
  unfolding byte_at
  there whole =
      let same : eq_by_cmp nat_cmp (a / 4096) (a / 4096) ≡ true = grind (arith, nat_tests) in
      ap (λ (o : Option MappedPage). page_byte o (a % 4096))
      (page_at (a / 4096) ∙ ap (λ (s : Bool). cond s (Some (page_with_byte page (a % 4096) b)) (get pages (a / 4096))) same)
      ∙ get_or-set_same page.bytes (a % 4096) b 0 (omega (arith, whole))

  other_by : (x : ℕ) (same : Bool) → x ≢ a → eq_by_cmp nat_cmp (x / 4096) (a / 4096) ≡ same
      → page_byte (cond same (Some (page_with_byte page (a % 4096) b)) (get pages (x / 4096))) (x % 4096) ≡ page_byte (get pages (x / 4096)) (x % 4096)
  other_by x false apart is = refl
  other_by x true apart is =
      let at : x / 4096 ≡ a / 4096 = tells_apart exact_unsigned (x / 4096) (a / 4096) is in
      let place : x % 4096 ≢ a % 4096 = λ same. apart (omega (arith, at, same)) in
      get_or-set_other page.bytes (a % 4096) (x % 4096) b 0 place
      ∙ ap (λ (o : Option MappedPage). page_byte o (x % 4096)) (sym found ∙ ap (get pages) (sym at))

  elsewhere : (x : ℕ) → x ≢ a → byte_at (with_byte pages a b) x ≡ byte_at pages x
  unfolding byte_at
  elsewhere x apart = ap (λ (o : Option MappedPage). page_byte o (x % 4096)) (page_at (x / 4096)) ∙ other_by x _ apart refl

  whole_by : (number : ℕ) (same : Bool) (other : MappedPage) → AreWhole pages
      → cond same (Some (page_with_byte page (a % 4096) b)) (get pages number) ≡ Some other → length other.bytes ≡ 4096
  whole_by number true other whole at =
      let same : page_with_byte page (a % 4096) b ≡ other = cc in
      ap (λ (p : MappedPage). length p.bytes) (sym same) ∙ length-set page.bytes (a % 4096) b ∙ whole (a / 4096) page found
  whole_by number false other whole at = whole number other at

  still_whole : AreWhole pages → AreWhole (with_byte pages a b)
  still_whole whole number other at = whole_by number _ other whole (sym (page_at number) ∙ at)

-- Many bytes that can be stored

page_there : (o : Option MappedPage) → page_refusal Store o ≡ None → (page : MappedPage) × (o ≡ Some page)
page_there None free = absurd cc
page_there (Some page) free = (page, refl)

not_beyond : (beyond : Bool) (here : Option Why) → (if beyond then Some Beyond else here) ≡ None → here ≡ None
not_beyond true here free = absurd cc
not_beyond false here free = free

stands : (pages : Pages) (a : ℕ) → refusal Store pages a ≡ None → (page : MappedPage) × (get pages (a / 4096) ≡ Some page)
unfolding refusal
stands pages a free = page_there (get pages (a / 4096)) (not_beyond (nat_le user_end a) _ free)

free_after : (pages : Pages) (a b count : ℕ) → first_denied Store pages (a + 1) count ≡ None → first_denied Store (with_byte pages a b) (a + 1) count ≡ None
unfolding with_bytes
free_after pages a b count free = first_denied-with_bytes Store (b ∷ []) pages a count (a + 1) ∙ free

before : (bytes : List ℕ) (pages : Pages) (a x : ℕ) → x < a → first_denied Store pages a (length bytes) ≡ None → byte_at (with_bytes pages a bytes) x ≡ byte_at pages x
unfolding with_bytes
before [] pages a x low free = refl
before (b ∷ bytes) pages a x low free =
    let both = sym (first_denied-suc Store pages a (length bytes)) ∙ free in
    let page = stands pages a (here_free a _ _ both) in
    before bytes (with_byte pages a b) (a + 1) x (omega (arith, low)) (free_after pages a b (length bytes) (later_free a _ _ both))
    ∙ elsewhere pages a b page.0 page.1 x (λ same. omega (arith, low, same))

pub read_back : (bytes : List ℕ) (pages : Pages) (a : ℕ) → AreWhole pages → first_denied Store pages a (length bytes) ≡ None
    → bytes_at (with_bytes pages a bytes) a (length bytes) ≡ bytes
unfolding bytes_at with_bytes
read_back [] pages a whole free = refl
read_back (b ∷ bytes) pages a whole free =
    let both = sym (first_denied-suc Store pages a (length bytes)) ∙ free in
    let page = stands pages a (here_free a _ _ both) in
    let later : first_denied Store (with_byte pages a b) (a + 1) (length bytes) ≡ None = free_after pages a b (length bytes) (later_free a (refusal Store pages a) (first_denied Store pages (a + 1) (length bytes)) both) in
    let first : byte_at (with_bytes (with_byte pages a b) (a + 1) bytes) a ≡ b =
    before bytes (with_byte pages a b) (a + 1) a (omega arith) later ∙ there pages a b page.0 page.1 (whole (a / 4096) page.0 page.1) in
    let rest : bytes_at (with_bytes (with_byte pages a b) (a + 1) bytes) (a + 1) (length bytes) ≡ bytes =
    read_back bytes (with_byte pages a b) (a + 1) (still_whole pages a b page.0 page.1 whole) later in
    λ i. first i ∷ rest i

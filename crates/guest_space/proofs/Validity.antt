-- What is built from valid pages is valid.
use Rattle.std.proofs.Common.{◌≡◌, ◌≤◌, ◌<◌, ◌+◌, ◌/◌, ◌%◌, zero, suc, ℕ, Bool, true, false, cond, List, [], ◌∷◌, Option, Some, None, set, get_or, take, replicate, not, ◌-◌, refl, sym, ap, ◌∙◌, subst, arith}
use Rattle.std.proofs.Math.ListN.{length-set, length-replicate}
use Rattle.std.proofs.lemmas.Map.Lookups.{exact_unsigned}
use Rattle.std.proofs.lemmas.Map.Views.{tells_apart}
use Rattle.std.specs.Ordering.{nat_cmp, eq_by_cmp}
use Rattle.std.specs.Cmp.{nat_cmp_total}
use Rattle.std.proofs.lemmas.Bool.Decides.{nat_tests}
use Rattle.std.specs.declared.cmp.Ordering.TheVariants.{Equal}
use Rattle.std.specs.FinMap.{get, insert, empty, get-insert, get-empty, get-retain_keys, nat_cmp-IsAntisymmetric}
use Rattle.guest_space.specs.Remapping.{is_in, without, AreMoved}
use Rattle.guest_space.specs.Memory.{MappedPage, Pages, IsPage, IsValid}
use Rattle.guest_space.specs.Bytes.{with_byte, with_bytes, page_with_byte, pages_with_byte}
use Rattle.raw_pages.specs.Pages.{zero_bytes}
use Rattle.guest_space.specs.Mapping.{zero_page, with_zeros, with_protection, pages_with_protection}

abbrev pub AreBytes : List ℕ → Type 0
AreBytes bs = (place : ℕ) → get_or bs place 0 < 256

pub valid-empty : IsValid empty
unfolding IsValid
valid-empty number page found = absurd (let none : get (empty {X = MappedPage} {R = nat_cmp}) number ≡ None = get-empty nat_cmp number in let e : None ≡ Some page = sym none ∙ found in cc)

insert_go : (pages : Pages) (k q : ℕ) (v page : MappedPage) (b : Bool) → IsValid pages → IsPage k v → eq_by_cmp nat_cmp q k ≡ b → cond b (Some v) (get pages q) ≡ Some page → IsPage q page
unfolding IsValid
insert_go pages k q v page true valid here same found =
    let at : k ≡ q = sym (tells_apart exact_unsigned q k same) in
    let what : v ≡ page = cc in
    subst (λ n. IsPage n page) at (subst (IsPage k) what here)
insert_go pages k q v page false valid here apart found = valid q page found

pub valid-insert : (pages : Pages) (k : ℕ) (v : MappedPage) → IsValid pages → IsPage k v → IsValid (insert pages k v)
unfolding IsValid
valid-insert pages k v valid here q page found =
    insert_go pages k q v page _ valid here refl (sym (get-insert nat_cmp_total pages k v q) ∙ found)

zeros_are_bytes : (n : ℕ) → AreBytes (replicate n 0)
zeros_are_bytes zero place = omega arith
zeros_are_bytes (suc n) zero = omega arith
zeros_are_bytes (suc n) (suc place) = zeros_are_bytes n place

set_are_bytes : (bs : List ℕ) (at b : ℕ) → AreBytes bs → b < 256 → AreBytes (set bs at b)
set_are_bytes [] at b bytes byte place = bytes place
set_are_bytes (x ∷ bs) zero b bytes byte zero = byte
set_are_bytes (x ∷ bs) zero b bytes byte (suc place) = bytes (suc place)
set_are_bytes (x ∷ bs) (suc at) b bytes byte zero = bytes zero
set_are_bytes (x ∷ bs) (suc at) b bytes byte (suc place) = set_are_bytes bs at b (λ k. bytes (suc k)) byte place

pub zero_page-valid : (number protection : ℕ) → number < 524280 → protection ≤ 7 → IsPage number (zero_page protection)
unfolding zero_bytes
zero_page-valid number protection inside bits =
    record { inside = inside; three_bits = bits; whole = length-replicate {A = ℕ} 4096 0; are_bytes = zeros_are_bytes 4096 }

pub valid-with_zeros : (pages : Pages) (first count protection : ℕ) → IsValid pages → first + count ≤ 524280 → protection ≤ 7 → IsValid (with_zeros pages first count protection)
unfolding with_zeros
valid-with_zeros pages first zero protection valid inside bits = valid
valid-with_zeros pages first (suc count) protection valid inside bits =
    valid-insert _ (first + count) (zero_page protection) (valid-with_zeros pages first count protection valid (omega arith) bits)
    (zero_page-valid (first + count) protection (omega arith) bits)

byte_go : (pages : Pages) (n p b : ℕ) (o : Option MappedPage) → IsValid pages → b < 256 → get pages n ≡ o → IsValid (pages_with_byte pages n o p b)
unfolding IsValid
byte_go pages n p b None valid byte found = valid
byte_go pages n p b (Some page) valid byte found =
    let old = valid n page found in
    valid-insert pages n (page_with_byte page p b) valid
    (record { inside = old.inside; three_bits = old.three_bits; whole = length-set page.bytes p b ∙ old.whole; are_bytes = set_are_bytes page.bytes p b old.are_bytes byte })

pub valid-with_bytes : (bs : List ℕ) (pages : Pages) (a : ℕ) → IsValid pages → AreBytes bs → IsValid (with_bytes pages a bs)
unfolding with_bytes with_byte
valid-with_bytes [] pages a valid bytes = valid
valid-with_bytes (b ∷ bs) pages a valid bytes =
    valid-with_bytes bs (with_byte pages a b) (a + 1) (byte_go pages (a / 4096) (a % 4096) b _ valid (bytes zero) refl) (λ k. bytes (suc k))

protection_go : (pages : Pages) (n protection : ℕ) (o : Option MappedPage) → IsValid pages → protection ≤ 7 → get pages n ≡ o → IsValid (pages_with_protection pages n o protection)
unfolding IsValid
protection_go pages n protection None valid bits found = valid
protection_go pages n protection (Some page) valid bits found =
    let old = valid n page found in
    valid-insert pages n (record page { protection = protection }) valid
    (record { inside = old.inside; three_bits = bits; whole = old.whole; are_bytes = old.are_bytes })

pub valid-with_protection : (pages : Pages) (first count protection : ℕ) → IsValid pages → protection ≤ 7 → IsValid (with_protection pages first count protection)
unfolding with_protection
valid-with_protection pages first zero protection valid bits = valid
valid-with_protection pages first (suc count) protection valid bits =
    protection_go _ (first + count) protection _ (valid-with_protection pages first count protection valid bits) bits refl

module _ (pages : Pages) (first count q : ℕ) where
  not_same : (q x : ℕ) → nat_cmp q x ≡ Equal → not (is_in first count x) ≡ not (is_in first count q)
  not_same q x tied = ap (λ n. not (is_in first count n)) (sym (nat_cmp-IsAntisymmetric q x tied))

  swapped : {A : Type 0} (b : Bool) (x y : A) → cond (not b) x y ≡ cond b y x
  swapped true x y = refl
  swapped false x y = refl

  -- what is found where a range was taken away
  pub get-without : get (without pages first count) q ≡ cond (is_in first count q) None (get pages q)
  unfolding without
  get-without =
      get-retain_keys pages (λ n. not (is_in first count n)) q (λ x tied. not_same q x tied) ∙ swapped (is_in first count q) (get pages q) None

without_go : (pages : Pages) (number : ℕ) (page : MappedPage) (b : Bool) → IsValid pages → cond b None (get pages number) ≡ Some page → IsPage number page
unfolding IsValid
without_go pages number page true valid found = absurd (cc)
without_go pages number page false valid found = valid number page found

pub valid-without : (pages : Pages) (first count : ℕ) → IsValid pages → IsValid (without pages first count)
unfolding IsValid
valid-without pages first count valid number page found =
    without_go pages number page (is_in first count number) valid (sym (get-without pages first count number) ∙ found)

moved_go : (pages : Pages) (first to number limit : ℕ) (page : MappedPage) (a b : Bool) → IsValid pages → (a ≡ true → number < 524280)
    → cond a (get pages (first + (number - to))) (cond b None (get pages number)) ≡ Some page → IsPage number page
unfolding IsValid
moved_go pages first to number limit page true b valid inside found =
    let old = valid (first + (number - to)) page found in
    record { inside = inside refl; three_bits = old.three_bits; whole = old.whole; are_bytes = old.are_bytes }
moved_go pages first to number limit page false true valid inside found = absurd (cc)
moved_go pages first to number limit page false false valid inside found = valid number page found

pub valid-moved : (before after : Pages) (first to count : ℕ) → IsValid before → AreMoved before after first to count → to + count ≤ 524280 → IsValid after
unfolding IsValid
valid-moved before after first to count valid moved room number page found =
    moved_go before first to number 0 page (is_in to count number) (is_in first count number) valid
    (λ inside. let below : number < to + count = grind (arith, nat_tests) in omega arith)
    (sym (moved number) ∙ found)

pub take_are_bytes : (k : ℕ) (bs : List ℕ) → AreBytes bs → AreBytes (take k bs)
take_are_bytes zero bs bytes place = omega arith
take_are_bytes (suc k) [] bytes place = omega arith
take_are_bytes (suc k) (b ∷ bs) bytes zero = bytes zero
take_are_bytes (suc k) (b ∷ bs) bytes (suc place) = take_are_bytes k bs (λ n. bytes (suc n)) place

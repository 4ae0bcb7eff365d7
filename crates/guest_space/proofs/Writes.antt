-- Writes of pieces: what is ready before and after, and pieces of two neighbouring pages.
use Rattle.std.proofs.Common.{◌≡◌, ◌≤◌, ◌<◌, ◌+◌, ◌-◌, ◌/◌, ◌%◌, zero, suc, ℕ, Bool, true, false, cond, List, [], ◌∷◌, ◌++◌, Option, Some, None, Ok, Err, Result, OnErr, length, take, drop, slice_range, refl, sym, ap, ◌∙◌, arith, ◌&&◌}
use Rattle.std.proofs.lemmas.Bool.Decides.{nat_tests}
use Rattle.std.proofs.lemmas.List.{length-take-le, length-drop, take_all, take-append-drop}
use Rattle.std.proofs.lemmas.Map.Lookups.{exact_unsigned}
use Rattle.std.proofs.lemmas.Map.Views.{tells_apart}
use Rattle.std.proofs.Math.Seq.{take-add}
use Rattle.std.specs.Ordering.{nat_cmp, eq_by_cmp}
use Rattle.std.specs.Cmp.{nat_cmp_total}
use Rattle.std.specs.FinMap.{get, insert, get-insert, same_map, nat_cmp-IsAntisymmetric}
use Rattle.raw_pages.specs.Pages.{zero_bytes, zero_page, pages_cleared, shown_bytes, with_piece, pages_with_piece, is_ready, is_writable, IsWriteAnswer}
use Rattle.raw_pages.specs.declared.write_error.WriteError.TheVariants as error
use Rattle.raw_pages.proofs.Puts.{get-insert_same, insert-insert}
use Rattle.raw_pages.proofs.Zeros.{zeros_range}
use Rattle.guest_space.specs.Memory.{MappedPage, Pages}
use Rattle.guest_space.specs.declared.access.Access.TheVariants.{Store}
use Rattle.guest_space.specs.declared.access.Why.TheVariants.{Forbidden}
use Rattle.guest_space.specs.Access.{refusal, page_refusal, first_denied}
use Rattle.guest_space.specs.inside.Pieces.{with_both}
use Rattle.guest_space.specs.Bytes.{bytes_at, with_byte, with_bytes, page_with_byte, pages_with_byte, are_ready}
use Rattle.guest_space.proofs.Prefixes.{refusal-page, first_denied-same, first_denied-page, first_denied-zero}
use Rattle.guest_space.proofs.ByteLemmas.{bytes_at-page, bytes_at-absent, with_bytes-append, with_bytes-page}

-- what a read of a page shows are the bytes there
pub shown-bytes_at : (pages : Pages) (a k : ℕ) (o : Option MappedPage) → get pages (a / 4096) ≡ o → a % 4096 + k ≤ 4096 → length (shown_bytes o) ≡ 4096
    → slice_range (shown_bytes o) (a % 4096) (a % 4096 + k) ≡ bytes_at pages a k
shown-bytes_at pages a k None missing room whole = zeros_range (a % 4096) k room ∙ sym (bytes_at-absent pages a k missing room)
shown-bytes_at pages a k (Some page) found room whole =
    let exact : a % 4096 + k - a % 4096 ≡ k = omega arith in
    ap (λ n. take n (drop (a % 4096) page.bytes)) exact ∙ sym (bytes_at-page pages a k page found room whole)

-- a write makes no page unready
ready_byte : (pages : Pages) (number place byte n : ℕ) (o : Option MappedPage) → is_ready (get pages n) ≡ true → is_ready (get (pages_with_byte pages number o place byte) n) ≡ true
ready_byte pages number place byte n None ready = ready
ready_byte pages number place byte n (Some page) ready =
    ap is_ready (get-insert nat_cmp_total pages number (page_with_byte page place byte) n) ∙ by_number (eq_by_cmp nat_cmp n number)
  where
    by_number : (b : Bool) → is_ready (cond b (Some (page_with_byte page place byte)) (get pages n)) ≡ true
    by_number true = refl
    by_number false = ready

pub ready-with_bytes : (bytes : List ℕ) (pages : Pages) (a n : ℕ) → is_ready (get pages n) ≡ true → is_ready (get (with_bytes pages a bytes) n) ≡ true
unfolding with_bytes with_byte
ready-with_bytes [] pages a n ready = ready
ready-with_bytes (byte ∷ bytes) pages a n ready =
    ready-with_bytes bytes (with_byte pages a byte) (a + 1) n (ready_byte pages (a / 4096) (a % 4096) byte n _ ready)

-- so one that is not ready after it was not ready before
pub unready-with_bytes : (bytes : List ℕ) (pages : Pages) (a n : ℕ) → is_ready (get (with_bytes pages a bytes) n) ≡ false → is_ready (get pages n) ≡ false
unready-with_bytes bytes pages a n unready = by_case (is_ready (get pages n)) refl
  where
    by_case : (b : Bool) → is_ready (get pages n) ≡ b → is_ready (get pages n) ≡ false
    by_case true is = absurd (let e : true ≡ false = sym (ready-with_bytes bytes pages a n is) ∙ unready in cc)
    by_case false is = is

not_both : (b : Bool) → b && false ≡ false
not_both true = refl
not_both false = refl

-- a byte whose page is not ready
pub are_ready-not : (pages : Pages) (j n a : ℕ) → j < n → is_ready (get pages ((a + j) / 4096)) ≡ false → are_ready pages a n ≡ false
unfolding are_ready
are_ready-not pages j zero a below unready = absurd (omega arith)
are_ready-not pages zero (suc n) a below unready =
    ap (λ b. b && are_ready pages (a + 1) n) (ap (λ k. is_ready (get pages (k / 4096))) (let e : a ≡ a + 0 = omega arith in e) ∙ unready)
are_ready-not pages (suc j) (suc n) a below unready =
    ap (λ b. is_ready (get pages (a / 4096)) && b)
    (are_ready-not pages j n (a + 1) (omega arith) (ap (λ k. is_ready (get pages (k / 4096))) (let e : a + 1 + j ≡ a + suc j = omega arith in e) ∙ unready))
    ∙ not_both (is_ready (get pages (a / 4096)))

-- what the answer of a write that tests the page tells
pub record Writable (o : Option MappedPage) : Type 0 where
  pub page : MappedPage
  pub found : o ≡ Some page
  pub allowed : is_writable page ≡ true

pub ok-writable : (o : Option MappedPage) → IsWriteAnswer o (Ok tt) → Writable o
ok-writable None answer = absurd (cc)
ok-writable (Some page) answer = record { page = page; found = refl; allowed = answer }

pub absent-none : (o : Option MappedPage) → IsWriteAnswer o (Err error.Absent) → o ≡ None
absent-none None answer = refl
absent-none (Some page) answer = absurd answer

pub forbidden-refusal : (o : Option MappedPage) → IsWriteAnswer o (Err error.Forbidden) → page_refusal Store o ≡ Some Forbidden
forbidden-refusal None answer = absurd (cc)
forbidden-refusal (Some page) answer = ap (λ b. cond b None (Some Forbidden)) answer

pub memory-writable : (o : Option MappedPage) → IsWriteAnswer o (Err error.NoMemory) → Writable o
memory-writable None answer = absurd (cc)
memory-writable (Some page) answer = record { page = page; found = refl; allowed = answer.0 }

pub memory-unready : (o : Option MappedPage) → IsWriteAnswer o (Err error.NoMemory) → is_ready o ≡ false
memory-unready None answer = absurd (cc)
memory-unready (Some page) answer = answer.1

-- where the page of a piece may be written none of its bytes is denied
pub writable-none : (pages : Pages) (a n : ℕ) → a < 0x7FFF_8000 → a % 4096 + n ≤ 4096 → Writable (get pages (a / 4096)) → first_denied Store pages a n ≡ None
writable-none pages a n low room w =
    let free : refusal Store pages a ≡ None =
    refusal-page Store pages a low ∙ ap (page_refusal Store) w.found ∙ ap (λ b. cond b None (Some Forbidden)) w.allowed in
    first_denied-same Store pages {a = a} {b = a} {m = n} {n = n + 0} refl (omega arith)
    ∙ first_denied-page Store pages a n 0 free room
    ∙ first_denied-zero Store pages (a + n)

-- what is found at another number than the one that was put
pub get-insert_other : (pages : Pages) (k q : ℕ) (v : MappedPage) → eq_by_cmp nat_cmp q k ≡ false → get (insert pages k v) q ≡ get pages q
get-insert_other pages k q v apart = get-insert nat_cmp_total pages k v q ∙ ap (λ b. cond b (Some v) (get pages q)) apart

pub get-other_piece : (pages : Pages) (n m p : ℕ) (piece : List ℕ) (o : Option MappedPage) → eq_by_cmp nat_cmp m n ≡ false → get (pages_with_piece pages n o p piece) m ≡ get pages m
get-other_piece pages n m p piece None apart = refl
get-other_piece pages n m p piece (Some page) apart = get-insert_other pages n m (with_piece page p piece) apart

-- two different keys may be put in either order
insert-swap : (pages : Pages) (k l : ℕ) (v w : MappedPage) → eq_by_cmp nat_cmp k l ≡ false → insert (insert pages k v) l w ≡ insert (insert pages l w) k v
insert-swap pages k l v w apart =
    same_map nat_cmp_total nat_cmp-IsAntisymmetric _ _ (λ q.
    get-insert nat_cmp_total (insert pages k v) l w q
    ∙ ap (cond (eq_by_cmp nat_cmp q l) (Some w)) (get-insert nat_cmp_total pages k v q)
    ∙ by_number q (eq_by_cmp nat_cmp q k) (eq_by_cmp nat_cmp q l) refl refl
    ∙ ap (cond (eq_by_cmp nat_cmp q k) (Some v)) (sym (get-insert nat_cmp_total pages l w q))
    ∙ sym (get-insert nat_cmp_total (insert pages l w) k v q))
  where
    by_number : (q : ℕ) (a b : Bool) → eq_by_cmp nat_cmp q k ≡ a → eq_by_cmp nat_cmp q l ≡ b
        → cond b (Some w) (cond a (Some v) (get pages q)) ≡ cond a (Some v) (cond b (Some w) (get pages q))
    by_number q true true at_k at_l =
        let first : k ≡ q = sym (tells_apart exact_unsigned q k at_k) in
        let e : true ≡ false = sym at_l ∙ ap (λ n. eq_by_cmp nat_cmp n l) (sym first) ∙ apart in
        absurd (cc)
    by_number q true false at_k at_l = refl
    by_number q false true at_k at_l = refl
    by_number q false false at_k at_l = refl

pub piece-swap : (pages : Pages) (n m p r : ℕ) (front back : List ℕ) (o u : Option MappedPage) → eq_by_cmp nat_cmp n m ≡ false
    → pages_with_piece (pages_with_piece pages n o p front) m u r back ≡ pages_with_piece (pages_with_piece pages m u r back) n o p front
piece-swap pages n m p r front back None None apart = refl
piece-swap pages n m p r front back None (Some y) apart = refl
piece-swap pages n m p r front back (Some x) None apart = refl
piece-swap pages n m p r front back (Some x) (Some y) apart = insert-swap pages n m (with_piece x p front) (with_piece y r back) apart

-- to put what is there changes nothing
pub insert-found : (pages : Pages) (k : ℕ) (v : MappedPage) → get pages k ≡ Some v → insert pages k v ≡ pages
insert-found pages k v found =
    same_map nat_cmp_total nat_cmp-IsAntisymmetric _ _ (λ q. get-insert nat_cmp_total pages k v q ∙ by_number q (eq_by_cmp nat_cmp q k) refl)
  where
    by_number : (q : ℕ) (b : Bool) → eq_by_cmp nat_cmp q k ≡ b → cond b (Some v) (get pages q) ≡ get pages q
    by_number q true at = sym found ∙ ap (get pages) (sym (tells_apart exact_unsigned q k at))
    by_number q false at = refl

-- a page that was not ready is as it was where the write of a piece is taken back
pub cleared-back : (pages : Pages) (n p : ℕ) (piece : List ℕ) (o : Option MappedPage) → get pages n ≡ o → is_ready o ≡ false → shown_bytes o ≡ zero_bytes
    → pages_cleared (pages_with_piece pages n o p piece) n (get (pages_with_piece pages n o p piece) n) ≡ pages
cleared-back pages n p piece None missing unready zeros = ap (pages_cleared pages n) missing
cleared-back pages n p piece (Some page) found unready zeros =
    let same : zero_page page.protection ≡ page = (λ i. record { protection = page.protection; ready = sym unready i; bytes = sym zeros i }) in
    ap (pages_cleared (insert pages n (with_piece page p piece)) n) (get-insert_same pages n (with_piece page p piece))
    ∙ insert-insert pages n (with_piece page p piece) (zero_page page.protection)
    ∙ insert-found pages n (zero_page page.protection) (found ∙ ap Some (sym same))

module _ (pages : Pages) (n : ℕ) where
  apart_next : eq_by_cmp nat_cmp (n + 1) n ≡ false
  apart_next = grind (arith, nat_tests)

  apart_before : eq_by_cmp nat_cmp n (n + 1) ≡ false
  apart_before = grind (arith, nat_tests)

  module _ (p : ℕ) (front back : List ℕ) where
    -- the next page is as it was where the first one is written
    pub next_kept : get (pages_with_piece pages n (get pages n) p front) (n + 1) ≡ get pages (n + 1)
    next_kept = get-other_piece pages n (n + 1) p front (get pages n) apart_next

    -- and the first one is as it was where the next one is written
    pub first_kept : get (pages_with_piece pages (n + 1) (get pages (n + 1)) 0 back) n ≡ get pages n
    first_kept = get-other_piece pages (n + 1) n 0 back (get pages (n + 1)) apart_before

    -- both orders of writing them give the same
    pub in_order : pages_with_piece (pages_with_piece pages n (get pages n) p front) (n + 1) (get (pages_with_piece pages n (get pages n) p front) (n + 1)) 0 back
        ≡ with_both pages n p front back
    in_order = ap (λ o. pages_with_piece (pages_with_piece pages n (get pages n) p front) (n + 1) o 0 back) next_kept

    pub other_order : pages_with_piece (pages_with_piece pages (n + 1) (get pages (n + 1)) 0 back) n (get (pages_with_piece pages (n + 1) (get pages (n + 1)) 0 back) n) p front
        ≡ with_both pages n p front back
    other_order =
        ap (λ o. pages_with_piece (pages_with_piece pages (n + 1) (get pages (n + 1)) 0 back) n o p front) first_kept
        ∙ sym (piece-swap pages n (n + 1) p 0 front back (get pages n) (get pages (n + 1)) apart_before)

-- bytes of two neighbouring pages are the end of one and the begin of the next
pub with_bytes-across : (pages : Pages) (a : ℕ) (front back : List ℕ) → a % 4096 + length front ≡ 4096 → 0 < length front → 0 < length back → length back ≤ 4096
    → with_bytes pages a (front ++ back) ≡ with_both pages (a / 4096) (a % 4096) front back
with_bytes-across pages a front back ends some_front some_back short =
    let front_room : a % 4096 + length front ≤ 4096 = omega arith in
    let number : (a + length front) / 4096 ≡ a / 4096 + 1 = omega arith in
    let place : (a + length front) % 4096 ≡ 0 = omega arith in
    let back_room : (a + length front) % 4096 + length back ≤ 4096 = omega arith in
    let first = pages_with_piece pages (a / 4096) (get pages (a / 4096)) (a % 4096) front in
    with_bytes-append front back pages a
    ∙ ap (λ m. with_bytes m (a + length front) back) (with_bytes-page front pages a (get pages (a / 4096)) refl some_front front_room)
    ∙ with_bytes-page back first (a + length front) (get first ((a + length front) / 4096)) refl some_back back_room
    ∙ (λ i. pages_with_piece first (number i) (get first (number i)) (place i) back)
    ∙ in_order pages (a / 4096) (a % 4096) front back

-- what is not known to be ready
pub unready_of : (b : Bool) → (b ≡ true → ⊥) → b ≡ false
unready_of true never = absurd (never refl)
unready_of false never = refl

-- one more part of a list
pub take-part : (xs : List ℕ) (d s : ℕ) → take (d + s) xs ≡ take d xs ++ take (d + s - d) (drop d xs)
take-part xs d s = let n : s ≡ d + s - d = omega arith in take-add d s xs ∙ ap (λ k. take d xs ++ take k (drop d xs)) n

-- what holds anyway holds of an error
pub on_err : {T E : Type 0} {P : Type 0} (r : Result T E) → P → OnErr r P
on_err (Ok x) p = tt
on_err (Err e) p = p

-- bytes that reach into the next page, parted at its begin
module _ (pages : Pages) (a : ℕ) (bytes : List ℕ) (across : 4096 < a % 4096 + length bytes) (short : length bytes ≤ 4) where
  pub across-pages : with_both pages (a / 4096) (a % 4096) (take (4096 - a % 4096) bytes) (take (length bytes - (4096 - a % 4096)) (drop (4096 - a % 4096) bytes))
      ≡ with_bytes pages a bytes
  across-pages =
      let size = 4096 - a % 4096 in
      let front_long : length (take size bytes) ≡ size = length-take-le size bytes (omega arith) in
      let back_long : length (drop size bytes) ≡ length bytes - size = length-drop size bytes in
      ap (with_both pages (a / 4096) (a % 4096) (take size bytes)) (take_all (length bytes - size) (drop size bytes) (omega arith))
      ∙ sym (with_bytes-across pages a (take size bytes) (drop size bytes) (omega arith) (omega arith) (omega arith) (omega arith))
      ∙ ap (with_bytes pages a) (take-append-drop size bytes)

  pub first_unready : is_ready (get pages (a / 4096)) ≡ false → are_ready pages a (length bytes) ≡ false
  first_unready unready =
      are_ready-not pages 0 (length bytes) a (omega arith) (ap (λ k. is_ready (get pages (k / 4096))) (let e : a + 0 ≡ a = omega arith in e) ∙ unready)

  pub next_unready : is_ready (get pages (a / 4096 + 1)) ≡ false → are_ready pages a (length bytes) ≡ false
  next_unready unready =
      let number : (a + (4096 - a % 4096)) / 4096 ≡ a / 4096 + 1 = omega arith in
      are_ready-not pages (4096 - a % 4096) (length bytes) a (omega arith) (ap (λ n. is_ready (get pages n)) number ∙ unready)

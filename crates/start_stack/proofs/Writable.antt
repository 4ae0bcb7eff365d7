-- Pages that may be stored to, through mapping and writing.
use Rattle.std.proofs.Common.{◌≡◌, ℕ, zero, suc, Bool, true, false, cond, List, [], ◌∷◌, Option, Some, None, refl, sym, ap, ◌∙◌, arith, inl, inr, ◌+◌, ◌*◌, ◌/◌, ◌%◌, ◌<◌, ◌≤◌}
use Rattle.std.specs.Prelude.{nat_le, if◌then◌else◌}
use Rattle.std.proofs.lemmas.Bool.{cases_eq}
use Rattle.std.proofs.lemmas.Bool.Decides.{nat_tests}
use Rattle.std.specs.Ordering.{nat_cmp, eq_by_cmp}
use Rattle.std.specs.Cmp.{nat_cmp_total}
use Rattle.std.specs.FinMap.{get, insert, get-insert}
use Rattle.guest_space.specs.declared.access.Access.TheVariants.{Store}
use Rattle.guest_space.specs.declared.access.Why.TheVariants.{Beyond, Forbidden}
use Rattle.guest_space.specs.Access.{allows, user_end, page_refusal, refusal, denied_or, first_denied}
use Rattle.guest_space.specs.Memory.{MappedPage, Pages, Memory}
use Rattle.guest_space.specs.Bytes.{page_with_byte, pages_with_byte, with_byte, with_bytes, copied_out}
use Rattle.guest_space.specs.Mapping.{zero_page, with_zeros}
use Rattle.start_stack.proofs.Maps.{get-insert_same, get-insert_other}

-- whether a page is there and may be stored to
abbrev pub is_writable : Option MappedPage → Bool
is_writable None = false
is_writable (Some page) = allows Store page.protection

-- inserting a writable page leaves each writable page writable
insert-writable : (pages : Pages) (k : ℕ) (page : MappedPage) (q : ℕ) → is_writable (Some page) ≡ true
    → is_writable (get pages q) ≡ true → is_writable (get (insert pages k page) q) ≡ true
insert-writable pages k page q new old =
    let same : (b : Bool) → is_writable (cond b (Some page) (get pages q)) ≡ true
    = λ b. elim b as (λ b. is_writable (cond b (Some page) (get pages q)) ≡ true) [ true ↦ new | false ↦ old ] in
    ap is_writable (get-insert nat_cmp_total pages k page q) ∙ same (eq_by_cmp nat_cmp q k)

-- mapped anew, writable pages stay so
pub with_zeros-writable : (pages : Pages) (first count q : ℕ) → is_writable (get pages q) ≡ true
    → is_writable (get (with_zeros pages first count 3) q) ≡ true
unfolding with_zeros
with_zeros-writable pages first zero q h = h
with_zeros-writable pages first (suc count) q h =
    insert-writable (with_zeros pages first count 3) (first + count) (zero_page 3) q refl (with_zeros-writable pages first count q h)

-- the pages of the range are writable
pub with_zeros-in : (pages : Pages) (first count q : ℕ) → first ≤ q → q < first + count
    → is_writable (get (with_zeros pages first count 3) q) ≡ true
unfolding with_zeros
with_zeros-in pages first zero q low high = absurd (omega arith)
with_zeros-in pages first (suc count) q low high =
    elim (cases_eq q (first + count)) [
      | inl e ↦ ap is_writable (get-insert_same (with_zeros pages first count 3) (first + count) (zero_page 3) q e)
      | inr ne ↦ ap is_writable (get-insert_other (with_zeros pages first count 3) (first + count) (zero_page 3) q ne)
          ∙ with_zeros-in pages first count q low (omega arith)
    ]

-- a byte written leaves writable pages so
pub with_byte-writable : (pages : Pages) (address byte q : ℕ) → is_writable (get pages q) ≡ true
    → is_writable (get (with_byte pages address byte) q) ≡ true
unfolding with_byte
with_byte-writable pages address byte q h =
    at-page (address / 4096) (get pages (address / 4096)) refl
  where
    at-page : (k : ℕ) (found : Option MappedPage) → get pages k ≡ found
        → is_writable (get (pages_with_byte pages k found (address % 4096) byte) q) ≡ true
    at-page k None e = h
    at-page k (Some page) e = elim (cases_eq q k) [
      | inl same ↦ ap is_writable (get-insert_same pages k (page_with_byte page (address % 4096) byte) q same)
          ∙ (sym (ap is_writable e) ∙ ap (λ n. is_writable (get pages n)) (sym same) ∙ h)
      | inr other ↦ ap is_writable (get-insert_other pages k (page_with_byte page (address % 4096) byte) q other) ∙ h
    ]

pub with_bytes-writable : (pages : Pages) (address : ℕ) (bytes : List ℕ) (q : ℕ) → is_writable (get pages q) ≡ true
    → is_writable (get (with_bytes pages address bytes) q) ≡ true
unfolding with_bytes
with_bytes-writable pages address [] q h = h
with_bytes-writable pages address (byte ∷ bytes) q h =
    with_bytes-writable (with_byte pages address byte) (address + 1) bytes q (with_byte-writable pages address byte q h)

-- a byte of a writable page in user space may be stored to
refusal-writable : (pages : Pages) (address : ℕ) → address < user_end → is_writable (get pages (address / 4096)) ≡ true
    → refusal Store pages address ≡ None
unfolding refusal
refusal-writable pages address below writable =
    let inside : nat_le user_end address ≡ false = grind (arith, nat_tests) in
    ap (λ b. if b then Some Beyond else page_refusal Store (get pages (address / 4096))) inside
    ∙ of-page (get pages (address / 4096)) writable
  where
    of-page : (found : Option MappedPage) → is_writable found ≡ true → page_refusal Store found ≡ None
    of-page None h = cc
    of-page (Some page) h = ap (λ b. if b then None else Some Forbidden) h

-- where each page is writable, no byte is denied
pub first_denied-writable : (pages : Pages) (address count : ℕ) → address + count ≤ user_end
    → ((q : ℕ) → address / 4096 ≤ q → q * 4096 < address + count → is_writable (get pages q) ≡ true)
    → first_denied Store pages address count ≡ None
unfolding first_denied
first_denied-writable pages address zero fits writable = refl
first_denied-writable pages address (suc count) fits writable =
    ap (λ why. denied_or address why (first_denied Store pages (address + 1) count))
    (refusal-writable pages address (omega arith) (writable (address / 4096) (omega arith) (omega arith)))
    ∙ first_denied-writable pages (address + 1) count (omega arith) (λ q low high. writable q (omega arith) (omega arith))

-- a write leaves writable pages so
pub copied_out-writable : (memory : Memory) (address : ℕ) (bytes : List ℕ) (q : ℕ) → is_writable (get memory.pages q) ≡ true
    → is_writable (get (copied_out memory address bytes).pages q) ≡ true
unfolding copied_out
copied_out-writable memory address bytes q h = with_bytes-writable memory.pages address bytes q h

-- no byte of a range of writable pages is denied
pub range-allowed : (pages : Pages) (first count address n : ℕ) → address + n ≤ user_end → first * 4096 ≤ address
    → address + n ≤ (first + count) * 4096 → ((q : ℕ) → first ≤ q → q < first + count → is_writable (get pages q) ≡ true)
    → first_denied Store pages address n ≡ None
range-allowed pages first count address n fits low high writable =
    first_denied-writable pages address n fits (λ q above below. writable q (omega arith) (omega arith))

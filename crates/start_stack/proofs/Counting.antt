-- How many pages there are.
use Rattle.std.proofs.Common.{◌≡◌, ℕ, zero, suc, Bool, true, false, cond, List, [], ◌∷◌, Option, Some, None, refl, sym, ap, ◌∙◌, subst, arith, ◌+◌, ◌-◌, ◌/◌, ◌%◌, ◌<◌, ◌≤◌, is_some, inl, inr}
use Rattle.std.specs.Prelude.{if◌then◌else◌}
use Rattle.std.proofs.lemmas.Bool.{cases_eq, true≢false}
use Rattle.start_stack.proofs.Maps.{get-remove_same, get-remove_other}
use Rattle.std.specs.Ordering.{nat_cmp}
use Rattle.std.specs.Cmp.{nat_cmp_total}
use Rattle.std.specs.FinMap.{get, insert, remove, len, empty, contains_key, len-insert, len-remove, len-empty, same_map, get-empty, nat_cmp-IsAntisymmetric}
use Rattle.guest_space.specs.Memory.{MappedPage, Pages, Memory}
use Rattle.guest_space.specs.Bytes.{page_with_byte, pages_with_byte, with_byte, with_bytes, copied_out}
use Rattle.guest_space.specs.Mapping.{zero_page, with_zeros, with_protection, pages_with_protection}
use Rattle.elf_image.specs.declared.load_plan.Segment.{Segment}
use Rattle.start_stack.specs.FirstMemory.{with_segment_bytes, with_protected, with_page_protections}
use Rattle.elf_image.specs.Span.{Span, touch, count_below}

-- an insertion adds a page at most
pub len-insert-le : (pages : Pages) (k : ℕ) (page : MappedPage) → len (insert pages k page) ≤ len pages + 1
len-insert-le pages k page =
    subst (λ n. n ≤ len pages + 1) (sym (len-insert nat_cmp_total pages k page)) (either (contains_key pages k))
  where
    either : (b : Bool) → cond b (len pages) (len pages + 1) ≤ len pages + 1
    either true = omega arith
    either false = omega arith

pub len-with_zeros : (pages : Pages) (first count protection : ℕ) → len (with_zeros pages first count protection) ≤ len pages + count
unfolding with_zeros
len-with_zeros pages first zero protection = omega arith
len-with_zeros pages first (suc count) protection =
    omega (arith, len-insert-le (with_zeros pages first count protection) (first + count) (zero_page protection), len-with_zeros pages first count protection)

-- the keys of the pages are below n, and the spans touch them
abbrev pub KeysBelow : List Span → ℕ → Pages → Type 0
KeysBelow spans n pages = (q : ℕ) → is_some (get pages q) ≡ true → (q < n) × (touch spans q ≡ true)

none-below : (spans : List Span) (pages : Pages) → KeysBelow spans 0 pages → len pages ≡ 0
none-below spans pages h =
    ap len (same_map nat_cmp_total nat_cmp-IsAntisymmetric pages empty
    (λ q. no-page (get pages q) (λ e. omega (arith, (h q e).0)) ∙ sym (get-empty nat_cmp q)))
    ∙ len-empty nat_cmp MappedPage
  where
    no-page : (found : Option MappedPage) → (is_some found ≡ true → ⊥) → found ≡ None
    no-page None k = refl
    no-page (Some page) k = absurd (k refl)

-- without the page n, the keys are below n
keys-removed : (spans : List Span) (n : ℕ) (pages : Pages) → KeysBelow spans (suc n) pages → KeysBelow spans n (remove pages n)
keys-removed spans n pages h q found = elim (cases_eq q n) [
  | inl same ↦ absurd (true≢false (sym found ∙ ap (λ k. is_some (get (remove pages n) k)) same ∙ ap is_some (get-remove_same pages n)))
  | inr other ↦
      let old = h q (sym (ap is_some (get-remove_other pages n q other)) ∙ found) in
      (omega (arith, old.0), old.1)
]

counted : (b : Bool) → b ≡ true → ◌≡◌ {A = ℕ} (if b then 1 else 0) 1
counted b e = ap (λ (c : Bool). let n : ℕ = if c then 1 else 0 in n) e

len-removed : (spans : List Span) (n : ℕ) (pages : Pages) → KeysBelow spans (suc n) pages
    → len (remove pages n) ≤ count_below (touch spans) n → len pages ≤ count_below (touch spans) n + (if touch spans n then 1 else 0)
len-removed spans n pages h rest = either (is_some (get pages n)) refl
  where
    either : (b : Bool) → is_some (get pages n) ≡ b → len pages ≤ count_below (touch spans) n + (if touch spans n then 1 else 0)
    either true e =
        let less = len-remove nat_cmp_total pages n ∙ ap (λ b. cond b (len pages - 1) (len pages)) e in
        omega (arith, less, counted (touch spans n) (h n e).1, rest)
    either false e =
        let same = len-remove nat_cmp_total pages n ∙ ap (λ b. cond b (len pages - 1) (len pages)) e in
        omega (arith, same, rest)

-- pages whose keys the spans touch are no more than the spans touch
pub len-below : (spans : List Span) (n : ℕ) (pages : Pages) → KeysBelow spans n pages → len pages ≤ count_below (touch spans) n
unfolding count_below
len-below spans zero pages h = omega (arith, none-below spans pages h)
len-below spans (suc n) pages h =
    len-removed spans n pages h (len-below spans n (remove pages n) (keys-removed spans n pages h))

-- a page that is there is put in its place
len-insert-there : (pages : Pages) (k : ℕ) (page : MappedPage) → is_some (get pages k) ≡ true → len (insert pages k page) ≡ len pages
len-insert-there pages k page there =
    len-insert nat_cmp_total pages k page ∙ ap (λ b. cond b (len pages) (len pages + 1)) there

with_byte-len : (pages : Pages) (address byte : ℕ) → len (with_byte pages address byte) ≡ len pages
unfolding with_byte
with_byte-len pages address byte = at-page (address / 4096) (get pages (address / 4096)) refl
  where
    at-page : (k : ℕ) (found : Option MappedPage) → get pages k ≡ found
        → len (pages_with_byte pages k found (address % 4096) byte) ≡ len pages
    at-page k None e = refl
    at-page k (Some page) e = len-insert-there pages k (page_with_byte page (address % 4096) byte) (ap is_some e)

with_bytes-len : (pages : Pages) (address : ℕ) (bytes : List ℕ) → len (with_bytes pages address bytes) ≡ len pages
unfolding with_bytes
with_bytes-len pages address [] = refl
with_bytes-len pages address (byte ∷ bytes) =
    with_bytes-len (with_byte pages address byte) (address + 1) bytes ∙ with_byte-len pages address byte

-- a write adds no page
pub copied_out-len : (memory : Memory) (address : ℕ) (bytes : List ℕ) → len (copied_out memory address bytes).pages ≡ len memory.pages
unfolding copied_out
copied_out-len memory address bytes = with_bytes-len memory.pages address bytes

-- nor do the writes of the segments
pub with_segment_bytes-len : (memory : Memory) (segments : List Segment) → len (with_segment_bytes memory segments).pages ≡ len memory.pages
with_segment_bytes-len memory [] = refl
with_segment_bytes-len memory (s ∷ segments) =
    with_segment_bytes-len (copied_out memory s.vaddr s.bytes) segments ∙ copied_out-len memory s.vaddr s.bytes

-- another protection adds no page
with_protected-len : (memory : Memory) (page protection : ℕ) → len (with_protected memory page 1 protection).pages ≡ len memory.pages
unfolding with_protection
with_protected-len memory page protection = at-page (page + 0) (get memory.pages (page + 0)) refl
  where
    at-page : (k : ℕ) (found : Option MappedPage) → get memory.pages k ≡ found
        → len (pages_with_protection memory.pages k found protection) ≡ len memory.pages
    at-page k None e = refl
    at-page k (Some page) e = len-insert-there memory.pages k (record page { protection = protection }) (ap is_some e)

pub with_page_protections-len : (memory : Memory) (f : ℕ → ℕ) (count : ℕ)
    → len (with_page_protections memory f count).pages ≡ len memory.pages
unfolding with_page_protections
with_page_protections-len memory f zero = refl
with_page_protections-len memory f (suc page) =
    with_protected-len (with_page_protections memory f page) page (f page) ∙ with_page_protections-len memory f page

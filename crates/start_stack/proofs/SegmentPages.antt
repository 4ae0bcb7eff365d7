-- The pages that the segments touch.
use Rattle.std.proofs.Common.{◌≡◌, ℕ, zero, suc, Bool, true, false, List, [], ◌∷◌, map, None, length, refl, sym, ap, ◌∙◌, subst, arith, ◌+◌, ◌<◌, ◌≤◌, get_or, is_some, inl, inr}
use Rattle.std.specs.Prelude.{◌||◌}
use Rattle.std.specs.FinMap.{get, len}
use Rattle.std.proofs.lemmas.Bool.{cases_eq}
use Rattle.std.proofs.lemmas.Bool.Decides.{nat_tests}
use Rattle.elf_image.specs.declared.load_plan.Segment.{Segment}
use Rattle.std.specs.List.{All}
use Rattle.elf_image.specs.Loading.{segment_span, IsValidSegment}
use Rattle.elf_image.specs.Span.{Span, overlaps, page_span, touch, pages_touched}
use Rattle.guest_space.specs.declared.access.Access.TheVariants.{Store}
use Rattle.guest_space.specs.Access.{first_denied}
use Rattle.guest_space.specs.Memory.{Pages, Memory}
use Rattle.guest_space.specs.Mapping.{zero_page, with_zeros}
use Rattle.start_stack.specs.FirstMemory.{first_page, end_page, page_count, with_pages, with_segment_pages, no_memory}
use Rattle.start_stack.proofs.Maps.{get-insert_other}
use Rattle.start_stack.proofs.Counting.{KeysBelow, len-below}
use Rattle.start_stack.proofs.Writable.{is_writable, with_zeros-writable, with_zeros-in, range-allowed}

-- pages stay writable when more segments are mapped
pub with_segment_pages-writable : (memory : Memory) (segments : List Segment) (q : ℕ) → is_writable (get memory.pages q) ≡ true
    → is_writable (get (with_segment_pages memory segments).pages q) ≡ true
with_segment_pages-writable memory [] q h = h
with_segment_pages-writable memory (s ∷ segments) q h =
    with_segment_pages-writable (with_pages memory (first_page s) (page_count s)) segments q
    (with_zeros-writable memory.pages (first_page s) (page_count s) q h)

-- each page of a segment is writable once all are mapped
pub segment-writable : (memory : Memory) (segments : List Segment) (i : ℕ) (d : Segment) (q : ℕ) → i < length segments
    → first_page (get_or segments i d) ≤ q → q < end_page (get_or segments i d)
    → is_writable (get (with_segment_pages memory segments).pages q) ≡ true
segment-writable memory [] i d q below low high = absurd (omega arith)
segment-writable memory (s ∷ segments) zero d q below low high =
    with_segment_pages-writable (with_pages memory (first_page s) (page_count s)) segments q
    (with_zeros-in memory.pages (first_page s) (page_count s) q low (omega arith))
segment-writable memory (s ∷ segments) (suc i) d q below low high =
    segment-writable (with_pages memory (first_page s) (page_count s)) segments i d q (omega arith) low high

-- a segment touches each of its pages
touches-overlaps : (s : Segment) (q : ℕ) → 0 < s.memsz → first_page s ≤ q → q < end_page s
    → overlaps (page_span q) (segment_span s) ≡ true
touches-overlaps s q some low high = grind (arith, nat_tests)

pub touch-at : (segments : List Segment) (i : ℕ) (d : Segment) (q : ℕ) → i < length segments → 0 < (get_or segments i d).memsz
    → first_page (get_or segments i d) ≤ q → q < end_page (get_or segments i d) → touch (map segment_span segments) q ≡ true
touch-at [] i d q below some low high = absurd (omega arith)
touch-at (s ∷ segments) zero d q below some low high =
    ap (λ b. b || touch (map segment_span segments) q) (touches-overlaps s q some low high)
touch-at (s ∷ segments) (suc i) d q below some low high =
    or-true (overlaps (page_span q) (segment_span s)) (touch-at segments i d q (omega arith) some low high)
  where
    or-true : (a : Bool) {b : Bool} → b ≡ true → (a || b) ≡ true
    or-true true h = refl
    or-true false h = h

-- mapping touched pages keeps the keys among those that are touched
pub with_zeros-keys : (spans : List Span) (n : ℕ) (pages : Pages) (first count : ℕ) → KeysBelow spans n pages
    → ((q : ℕ) → first ≤ q → q < first + count → (q < n) × (touch spans q ≡ true))
    → KeysBelow spans n (with_zeros pages first count 3)
unfolding with_zeros
with_zeros-keys spans n pages first zero keys touched = keys
with_zeros-keys spans n pages first (suc count) keys touched = λ q found. elim (cases_eq q (first + count)) [
  | inl same ↦ touched q (omega arith) (omega arith)
  | inr other ↦ with_zeros-keys spans n pages first count keys (λ q low high. touched q low (omega arith)) q
      (sym (ap is_some (get-insert_other (with_zeros pages first count 3) (first + count) (zero_page 3) q other)) ∙ found)
]

-- a segment of the list is valid
pub valid-at : (segments : List Segment) (i : ℕ) (s : Segment) → i < length segments → s ≡ get_or segments i s
    → All IsValidSegment segments → IsValidSegment s
valid-at segments i s below e valid = subst IsValidSegment (sym e) (valid i s below)

-- the keys after one more segment
pub segment-keys : (segments : List Segment) (i : ℕ) (s : Segment) (pages : Pages) → i < length segments
    → s ≡ get_or segments i s → All IsValidSegment segments
    → KeysBelow (map segment_span segments) 1048576 pages
    → KeysBelow (map segment_span segments) 1048576 (with_zeros pages (first_page s) (page_count s) 3)
segment-keys segments i s pages below e valid keys =
    let v : IsValidSegment s = valid-at segments i s below e valid in
    let top = v.high in
    with_zeros-keys (map segment_span segments) 1048576 pages (first_page s) (page_count s) keys
    (λ q low up. (
      omega arith,
      touch-at segments i s q below (subst (λ (t : Segment). 0 < t.memsz) e v.size)
          (subst (λ (t : Segment). first_page t ≤ q) e low) (subst (λ (t : Segment). q < end_page t) e (omega arith)),
    ))

-- pages whose keys the segments touch are few
pub keys-few : (segments : List Segment) (pages : Pages) → pages_touched (map segment_span segments) ≤ 120000
    → KeysBelow (map segment_span segments) 1048576 pages → len pages ≤ 120000
unfolding pages_touched
keys-few segments pages few keys = omega (arith, len-below (map segment_span segments) 1048576 pages keys, few)

-- a segment's bytes may be written where the pages that were mapped are writable
pub segment-allowed : (segments : List Segment) (i : ℕ) (s : Segment) (pages : Pages) → i < length segments
    → s ≡ get_or segments i s → All IsValidSegment segments
    → ((q : ℕ) → is_writable (get (with_segment_pages no_memory segments).pages q) ≡ true → is_writable (get pages q) ≡ true)
    → first_denied Store pages s.vaddr (length s.bytes) ≡ None
segment-allowed segments i s pages below e valid mapped =
    let v : IsValidSegment s = valid-at segments i s below e valid in
    let top = v.high in let inside = v.bytes in
    range-allowed pages (first_page s) (page_count s) s.vaddr (length s.bytes) (omega arith) (omega arith) (omega arith)
    (λ q low high. mapped q (segment-writable no_memory segments i s q below
    (subst (λ (t : Segment). first_page t ≤ q) e low) (subst (λ (t : Segment). q < end_page t) e (omega arith))))

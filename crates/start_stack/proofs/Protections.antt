-- Protections of pages, and the union of those of the segments.
use Rattle.std.proofs.Common.{◌≡◌, ℕ, zero, suc, Bool, true, false, List, [], ◌∷◌, Option, Some, None, length, refl, sym, ap, ◌∙◌, arith, ◌+◌, ◌<◌, ◌≤◌, get_or, is_some, add-zero, add-one, max}
use Rattle.std.specs.Prelude.{bit_or, if◌then◌else◌}
use Rattle.std.specs.List.{fold, All}
use Rattle.std.proofs.lemmas.Nat.{or_lt}
use Rattle.elf_image.specs.Loading.{IsValidSegment}
use Rattle.std.specs.FinMap.{get}
use Rattle.elf_image.specs.declared.load_plan.Segment.{Segment}
use Rattle.guest_space.specs.Memory.{MappedPage, Pages, Memory}
use Rattle.guest_space.specs.Mapping.{with_protection, pages_with_protection, mapped_run}
use Rattle.start_stack.specs.FirstMemory.{end_page, top_page, touches, united, with_page_protections, with_protected}

-- an absent page has no protection to change
pub with_protection-run : (pages : Pages) (page protection : ℕ)
    → with_protection pages page (mapped_run pages page 1) protection ≡ with_protection pages page 1 protection
unfolding with_protection mapped_run
with_protection-run pages page protection = at-page (get pages page) refl
  where
    at-page : (found : Option MappedPage) → get pages page ≡ found
        → with_protection pages page (if is_some found then mapped_run pages (page + 1) 0 + 1 else 0) protection
        ≡ with_protection pages page 1 protection
    at-page None e = sym (ap (λ q. pages_with_protection pages q (get pages q) protection) (add-zero page)
        ∙ ap (λ found. pages_with_protection pages page found protection) e)
    at-page (Some p) e = refl

pub with_page_protections-none : (memory : Memory) (f : ℕ → ℕ) → with_page_protections memory f 0 ≡ memory
unfolding with_page_protections
with_page_protections-none memory f = refl

pub with_page_protections-next : (memory : Memory) (f : ℕ → ℕ) (page : ℕ)
    → with_page_protections memory f (page + 1) ≡ with_protected (with_page_protections memory f page) page 1 (f page)
unfolding with_page_protections
with_page_protections-next memory f page = rw add-one refl

-- protections that agree on each page below the count give the same memory
pub with_page_protections-same : (memory : Memory) (f g : ℕ → ℕ) (count : ℕ) → ((q : ℕ) → q < count → f q ≡ g q)
    → with_page_protections memory f count ≡ with_page_protections memory g count
unfolding with_page_protections
with_page_protections-same memory f g zero same = refl
with_page_protections-same memory f g (suc page) same =
    ap (λ m. with_protected m page 1 (f page)) (with_page_protections-same memory f g page (λ q below. same q (omega arith)))
    ∙ ap (with_protected (with_page_protections memory g page) page 1) (same page (omega arith))

-- the top is not below what the fold began with
top-start : (top : ℕ) (segments : List Segment) → top ≤ fold (λ top s. max top (end_page s)) top segments
top-start top [] = omega arith
top-start top (s ∷ segments) = omega (arith, top-start (max top (end_page s)) segments)

-- the top is above each segment
top-from : (top : ℕ) (segments : List Segment) (i : ℕ) (d : Segment) → i < length segments
    → end_page (get_or segments i d) ≤ fold (λ top s. max top (end_page s)) top segments
top-from top [] i d below = absurd (omega arith)
top-from top (s ∷ segments) zero d below = omega (arith, top-start (max top (end_page s)) segments)
top-from top (s ∷ segments) (suc i) d below = top-from (max top (end_page s)) segments i d (omega arith)

pub top_page-at : (segments : List Segment) (i : ℕ) (d : Segment) → i < length segments
    → end_page (get_or segments i d) ≤ top_page segments
top_page-at segments i d below = top-from 0 segments i d below

-- the rest of a list of valid segments is valid
valid-rest : (s : Segment) (segments : List Segment) → All IsValidSegment (s ∷ segments) → All IsValidSegment segments
valid-rest s segments valid = λ k d below. valid (suc k) d (omega arith)

top-high : (top : ℕ) (segments : List Segment) → All IsValidSegment segments → top ≤ 0x7F7F0
    → fold (λ top s. max top (end_page s)) top segments ≤ 0x7F7F0
top-high top [] valid low = low
top-high top (s ∷ segments) valid low =
    let high = (valid 0 s (omega arith)).high in
    top-high (max top (end_page s)) segments (valid-rest s segments valid) (omega arith)

-- valid segments end below the stack
pub top_page-high : (segments : List Segment) → All IsValidSegment segments → top_page segments ≤ 0x7F7F0
top_page-high segments valid = top-high 0 segments valid (omega arith)

-- a union of protections is one
pub united-fits : (protection : ℕ) (segments : List Segment) (q : ℕ) → All IsValidSegment segments → protection ≤ 7
    → united protection segments q ≤ 7
united-fits protection [] q valid fits = fits
united-fits protection (s ∷ segments) q valid fits =
    united-fits (if touches s q then bit_or protection s.prot else protection) segments q (valid-rest s segments valid)
    (either (touches s q))
  where
    either : (b : Bool) → (if b then bit_or protection s.prot else protection) ≤ 7
    either true =
        let other = (valid 0 s (omega arith)).prot in
        omega (arith, or_lt 3 protection s.prot (omega arith) (omega arith))
    either false = fits

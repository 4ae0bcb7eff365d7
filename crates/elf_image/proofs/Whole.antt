-- The rules of a whole file, and what a plan keeps.
use Rattle.std.proofs.Common.{◌≡◌, ℕ, zero, suc, ◌+◌, ◌<◌, ◌≤◌, Bool, true, false, cond, ◌&&◌, ◌==◌, Some, None, List, [], ◌∷◌, ◌++◌, nat_lt, length, map, take, drop, get_or, refl, sym, ap, subst, ◌∙◌, append_assoc, All, arith}
use Rattle.std.specs.List.{list_any, filter}
use Rattle.std.proofs.lemmas.Bool.{true≢false}
use Rattle.std.proofs.lemmas.Bool.Decides.{nat_tests}
use Rattle.std.proofs.lemmas.List.{append-nil, get_or-map, length-map, get_or-take, length-take, length-take-le}
use Rattle.std.proofs.lemmas.List.Folds.{list_any_at}
use Rattle.elf_image.specs.Span.{Span, overlaps, pages_touched}
use Rattle.elf_image.specs.Fields.{program_headers, is_load, loads, span_of}
use Rattle.elf_image.specs.inside.Header.{AreInside}
use Rattle.elf_image.specs.Rules.{first_broken, header_rules, load_rules, loads_rules, whole_rules, rules, first_failure}
use Rattle.elf_image.specs.Loading.{protection_of, segment_of, segment_span, plan_of, IsValidSegment, IsValidPlan}
use Rattle.elf_image.specs.declared.program_header.ProgramHeader.{ProgramHeader}
use Rattle.elf_image.specs.declared.load_plan.Segment.{Segment}
use Rattle.elf_image.specs.declared.refusal.ElfRefusal.{ElfRefusal}
use Rattle.elf_image.specs.declared.refusal.ElfRefusal.TheVariants.{Interp, Pages}
use Rattle.elf_image.proofs.Judging.{broken-append-none, broken-append-some, Keeps, keeps}

-- the rules of the load headers
abbrev later : List ℕ → List (ElfRefusal × Bool)
later bytes = loads_rules (length bytes) [] (loads bytes) ++ whole_rules (loads bytes)

abbrev interp : List ℕ → List (ElfRefusal × Bool)
interp bytes = (Interp, list_any (λ h. h.kind == 3) (program_headers bytes)) ∷ []

regrouped : (bytes : List ℕ) → first_failure bytes ≡ first_broken (header_rules bytes ++ (interp bytes ++ later bytes))
unfolding rules
regrouped bytes =
    ap first_broken (append_assoc (header_rules bytes ++ interp bytes) (loads_rules (length bytes) [] (loads bytes)) (whole_rules (loads bytes)) ∙ append_assoc (header_rules bytes) (interp bytes) (later bytes))

pub failure-header : (bytes : List ℕ) (r : ElfRefusal) → first_broken (header_rules bytes) ≡ Some r → first_failure bytes ≡ Some r
failure-header bytes r h = regrouped bytes ∙ broken-append-some (header_rules bytes) (interp bytes ++ later bytes) r h

pub failure-interp : (bytes : List ℕ) → first_broken (header_rules bytes) ≡ None → list_any (λ h. h.kind == 3) (program_headers bytes) ≡ true → first_failure bytes ≡ Some Interp
failure-interp bytes none asks =
    regrouped bytes ∙ broken-append-none (header_rules bytes) (interp bytes ++ later bytes) none
    ∙ ap (λ (b : Bool). cond b (Some Interp) (first_broken (later bytes))) asks

pub failure-later : (bytes : List ℕ) → first_broken (header_rules bytes) ≡ None → list_any (λ h. h.kind == 3) (program_headers bytes) ≡ false → first_failure bytes ≡ first_broken (later bytes)
failure-later bytes none asks =
    regrouped bytes ∙ broken-append-none (header_rules bytes) (interp bytes ++ later bytes) none
    ∙ ap (λ (b : Bool). cond b (Some Interp) (first_broken (later bytes))) asks

-- where no rule of all is broken, none of a part is
none-left : (a b : List (ElfRefusal × Bool)) → first_broken (a ++ b) ≡ None → first_broken a ≡ None
none-left [] b h = refl
none-left (rule ∷ a) b h = split rule.1 h (λ g. none-left a b g)
  where
    split : (c : Bool) → cond c (Some rule.0) (first_broken (a ++ b)) ≡ None → (first_broken (a ++ b) ≡ None → first_broken a ≡ None) → cond c (Some rule.0) (first_broken a) ≡ None
    split true h ih = cc
    split false h ih = ih h

none-right : (a b : List (ElfRefusal × Bool)) → first_broken (a ++ b) ≡ None → first_broken b ≡ None
none-right a b h = sym (broken-append-none a b (none-left a b h)) ∙ h

none-later : (bytes : List ℕ) → first_failure bytes ≡ None → first_broken (later bytes) ≡ None
none-later bytes h = none-right (interp bytes) (later bytes) (none-right (header_rules bytes) (interp bytes ++ later bytes) (sym (regrouped bytes) ∙ h))

-- each load header keeps the rules, beside those before it
keeps-at : (size : ℕ) (spans : List Span) (hs : List ProgramHeader) → first_broken (loads_rules size spans hs) ≡ None → (k : ℕ) (d : ProgramHeader) → k < length hs → Keeps size (spans ++ map span_of (take k hs)) (get_or hs k d)
keeps-at size spans [] h k d l = absurd (omega arith)
keeps-at size spans (g ∷ hs) h zero d l =
    let e : spans ≡ spans ++ [] = sym (append-nil spans) in
    subst (λ (s : List Span). Keeps size s g) e (keeps size spans g (none-left (load_rules size spans g) (loads_rules size (spans ++ span_of g ∷ []) hs) h))
keeps-at size spans (g ∷ hs) h (suc k) d l =
    let ih = keeps-at size (spans ++ span_of g ∷ []) hs (none-right (load_rules size spans g) (loads_rules size (spans ++ span_of g ∷ []) hs) h) k d (omega arith) in
    subst (λ (s : List Span). Keeps size s (get_or hs k d)) (append_assoc spans (span_of g ∷ []) (map span_of (take k hs))) ih

-- what passes a filter passes its test
filter-passes : {X : Type 0} (p : X → Bool) (xs : List X) (k : ℕ) (d : X) → k < length (filter p xs) → p (get_or (filter p xs) k d) ≡ true
filter-passes {X} p [] k d l = absurd (omega arith)
filter-passes {X} p (x ∷ xs) k d l = split (p x) refl k l (λ j m. filter-passes p xs j d m)
  where
    split : (b : Bool) → p x ≡ b → (k : ℕ) → k < length (cond b (x ∷ filter p xs) (filter p xs)) → ((j : ℕ) → j < length (filter p xs) → p (get_or (filter p xs) j d) ≡ true) → p (get_or (cond b (x ∷ filter p xs) (filter p xs)) k d) ≡ true
    split true e zero l ih = e
    split true e (suc k) l ih = ih k (omega arith)
    split false e k l ih = ih k l

-- each load header has a memory size
pub loads-some : (hs : List ProgramHeader) → All (λ h. 0 < h.memsz) (filter is_load hs)
loads-some hs k d l = let passes = filter-passes is_load hs k d l in grind (arith, nat_tests)

-- the load headers' rules, by the headers that the code has read
pub failure-is : (bytes : List ℕ) (n : ℕ) (hs xs : List ProgramHeader) → first_broken (header_rules bytes) ≡ None → hs ≡ program_headers bytes → list_any (λ h. h.kind == 3) hs ≡ false → xs ≡ filter is_load hs → n ≡ length bytes → first_broken (loads_rules n [] xs ++ whole_rules xs) ≡ first_failure bytes
failure-is bytes n hs xs none table asks kept size =
    let is : xs ≡ loads bytes = kept ∙ ap (filter is_load) table in
    let none_asks : list_any (λ h. h.kind == 3) (program_headers bytes) ≡ false = ap (list_any (λ (h : ProgramHeader). h.kind == 3)) (sym table) ∙ asks in
    ap (λ (m : ℕ). first_broken (loads_rules m [] xs ++ whole_rules xs)) size
    ∙ ap (λ (ys : List ProgramHeader). first_broken (loads_rules (length bytes) [] ys ++ whole_rules ys)) is
    ∙ sym (failure-later bytes none none_asks)

abbrev empty_header : ProgramHeader
empty_header = record { kind = 0; offset = 0; vaddr = 0; filesz = 0; memsz = 0; flags = 0 }

-- what each load header of a file keeps that breaks no rule
loads-keep : (bytes : List ℕ) → first_failure bytes ≡ None → (k : ℕ) (d : ProgramHeader) → k < length (loads bytes) → Keeps (length bytes) (map span_of (take k (loads bytes))) (get_or (loads bytes) k d)
loads-keep bytes h = keeps-at (length bytes) [] (loads bytes) (none-left (loads_rules (length bytes) [] (loads bytes)) (whole_rules (loads bytes)) (none-later bytes h))

pub are-inside : (bytes : List ℕ) → first_failure bytes ≡ None → AreInside (length bytes) (loads bytes)
are-inside bytes h = record {
  inside = λ k d l. (loads-keep bytes h k d l).inside;
  below = λ k d l. let kept = loads-keep bytes h k d l in omega (arith, kept.sizes, kept.high);
}

whole-keeps : (hs : List ProgramHeader) → first_broken (whole_rules hs) ≡ None → (0 < length hs) × (pages_touched (map span_of hs) ≤ 120000)
whole-keeps [] h = cc
whole-keeps (g ∷ hs) h = split (nat_lt 120000 (pages_touched (map span_of (g ∷ hs)))) refl h
  where
    split : (b : Bool) → nat_lt 120000 (pages_touched (map span_of (g ∷ hs))) ≡ b → cond b (Some Pages) None ≡ None → (0 < length (g ∷ hs)) × (pages_touched (map span_of (g ∷ hs)) ≤ 120000)
    split true e n = cc
    split false e n = (omega arith, grind (arith, nat_tests))

protection-le : (flags : ℕ) → protection_of flags ≤ 7
protection-le flags = omega arith

-- the segment of a header that keeps the rules
segment-valid : (bytes : List ℕ) (spans : List Span) (h : ProgramHeader) → Keeps (length bytes) spans h → 0 < h.memsz → IsValidSegment (segment_of bytes h)
segment-valid bytes spans h kept some =
    let n = length-take h.filesz (drop h.offset bytes) in
    record {
      size = some;
      bytes = omega (arith, n, kept.sizes);
      prot = protection-le h.flags;
      low = kept.low;
      high = kept.high;
    }

spans-same : (bytes : List ℕ) (hs : List ProgramHeader) → map segment_span (map (segment_of bytes) hs) ≡ map span_of hs
spans-same bytes [] = refl
spans-same bytes (h ∷ hs) = ap (λ (r : List Span). span_of h ∷ r) (spans-same bytes hs)

-- a span that overlaps none of a list does not overlap one of it
apart-at : (s : Span) (spans : List Span) (i : ℕ) (d : Span) → list_any (overlaps s) spans ≡ false → i < length spans → overlaps s (get_or spans i d) ≡ false
apart-at s spans i d none l = split (overlaps s (get_or spans i d)) refl
  where
    split : (b : Bool) → overlaps s (get_or spans i d) ≡ b → b ≡ false
    split true e = absurd (true≢false (sym (list_any_at (overlaps s) spans i d l e) ∙ none))
    split false e = refl

and-swap : (a b : Bool) → (a && b) ≡ (b && a)
and-swap true true = refl
and-swap true false = refl
and-swap false true = refl
and-swap false false = refl

-- two headers of the table
headers-apart : (bytes : List ℕ) → first_failure bytes ≡ None → (i j : ℕ) (d : ProgramHeader) → i < j → j < length (loads bytes) → overlaps (span_of (get_or (loads bytes) i d)) (span_of (get_or (loads bytes) j d)) ≡ false
headers-apart bytes h i j d before l =
    let hs = loads bytes in
    let kept = loads-keep bytes h j d l in
    let n : length (map span_of (take j hs)) ≡ j = length-map (take j hs) span_of ∙ length-take-le j hs (omega arith) in
    let at = apart-at (span_of (get_or hs j d)) (map span_of (take j hs)) i (span_of d) kept.free (omega (arith, n)) in
    let m : length (take j hs) ≡ j = length-take-le j hs (omega arith) in
    let is : get_or (map span_of (take j hs)) i (span_of d) ≡ span_of (get_or hs i d) =
    get_or-map span_of (take j hs) i d (span_of d) (omega (arith, m)) ∙ ap span_of (get_or-take j hs i d before) in
    and-swap (nat_lt (get_or hs i d).vaddr ((get_or hs j d).vaddr + (get_or hs j d).memsz)) (nat_lt (get_or hs j d).vaddr ((get_or hs i d).vaddr + (get_or hs i d).memsz))
    ∙ ap (overlaps (span_of (get_or hs j d))) (sym is) ∙ at

-- the plan of a file that breaks no rule
pub valid : (bytes : List ℕ) → first_failure bytes ≡ None → IsValidPlan (plan_of bytes)
valid bytes h =
    let hs = loads bytes in
    let d = empty_header in
    let f = segment_of bytes in
    let whole = whole-keeps hs (none-right (loads_rules (length bytes) [] hs) (whole_rules hs) (none-later bytes h)) in
    let n : length (map f hs) ≡ length hs = length-map hs f in
    record {
      some = omega (arith, n, whole.0);
      each = λ k e l.
          let m : k < length hs = omega (arith, n) in
          subst IsValidSegment (sym (get_or-map f hs k d e m)) (segment-valid bytes (map span_of (take k hs)) (get_or hs k d) (loads-keep bytes h k d m) (loads-some (program_headers bytes) k d m));
      apart = λ i j e before l.
          let m : j < length hs = omega (arith, n) in
          let first = get_or-map f hs i d e (omega arith) in
          let second = get_or-map f hs j d e m in
          ap (λ (s : Segment). overlaps (segment_span s) (segment_span (get_or (map f hs) j e))) first
          ∙ ap (λ (s : Segment). overlaps (segment_span (f (get_or hs i d))) (segment_span s)) second
          ∙ headers-apart bytes h i j d before m;
      pages = let same = ap pages_touched (spans-same bytes hs) in omega (arith, same, whole.1);
    }

-- How many pages the taken parts touch, gone through in order.
use Rattle.std.proofs.Common.{◌≡◌, ℕ, zero, suc, ◌+◌, ◌-◌, ◌*◌, ◌/◌, ◌<◌, ◌≤◌, max, Bool, true, false, cond, List, [], ◌∷◌, length, refl, sym, ap, ◌∙◌, arith}
use Rattle.std.specs.List.{AllByRecursion}
use Rattle.std.proofs.lemmas.Bool.{true≢false}
use Rattle.std.proofs.lemmas.Bool.Decides.{nat_tests}
use Rattle.elf_image.specs.Span.{Span, overlaps, page_span, touch, count_below, pages_touched}
use Rattle.elf_image.specs.inside.Taken.{entry_spans, AreApart, SameSpans}

-- one number more
count-suc : (test : ℕ → Bool) (n : ℕ) → count_below test (suc n) ≡ count_below test n + cond (test n) 1 0
unfolding count_below
count-suc test n = refl

count-zero : (test : ℕ → Bool) → count_below test 0 ≡ 0
unfolding count_below
count-zero test = refl

-- a stretch of numbers that all pass
count-all : (test : ℕ → Bool) (a k : ℕ) → ((n : ℕ) → a ≤ n → n < a + k → test n ≡ true) → count_below test (a + k) ≡ count_below test a + k
count-all test a zero h = let e : a + 0 ≡ a = omega arith in ap (count_below test) e ∙ omega arith
count-all test a (suc k) h =
    let e : a + suc k ≡ suc (a + k) = omega arith in
    let ih = count-all test a k (λ n low high. h n low (omega arith)) in
    let t = h (a + k) (omega arith) (omega arith) in
    ap (count_below test) e ∙ count-suc test (a + k) ∙ (rw (t, ih) (omega arith))

-- a stretch of numbers on which two tests agree
count-same : (test other : ℕ → Bool) (a k : ℕ) → ((n : ℕ) → a ≤ n → n < a + k → test n ≡ other n) → count_below test (a + k) + count_below other a ≡ count_below other (a + k) + count_below test a
count-same test other a zero h =
    let e : a + 0 ≡ a = omega arith in
    let f = ap (count_below test) e in
    let g = ap (count_below other) e in
    omega (arith, f, g)
count-same test other a (suc k) h =
    let e : a + suc k ≡ suc (a + k) = omega arith in
    let ih = count-same test other a k (λ n low high. h n low (omega arith)) in
    let t = ap {B = ℕ} (λ (b : Bool). cond b 1 0) (h (a + k) (omega arith) (omega arith)) in
    let f = ap (count_below test) e ∙ count-suc test (a + k) in
    let g = ap (count_below other) e ∙ count-suc other (a + k) in
    omega (arith, ih, t, f, g)

-- a stretch of numbers of which none passes
count-none : (test : ℕ → Bool) (a k : ℕ) → ((n : ℕ) → a ≤ n → n < a + k → test n ≡ false) → count_below test (a + k) ≡ count_below test a
count-none test a zero h = let e : a + 0 ≡ a = omega arith in ap (count_below test) e
count-none test a (suc k) h =
    let e : a + suc k ≡ suc (a + k) = omega arith in
    let ih = count-none test a k (λ n low high. h n low (omega arith)) in
    let t = h (a + k) (omega arith) (omega arith) in
    ap (count_below test) e ∙ count-suc test (a + k) ∙ (rw (t, ih) (omega arith))

-- no more pass than there are
count-le : (test : ℕ → Bool) (n : ℕ) → count_below test n ≤ n
count-le test zero = let z = count-zero test in omega (arith, z)
count-le test (suc n) =
    let ih = count-le test n in
    let s = count-suc test n in
    let c : cond (test n) 1 0 ≤ 1 = elim (test n) as (λ b. cond b 1 0 ≤ 1) [ true ↦ omega arith | false ↦ omega arith ] in
    omega (arith, ih, s, c)

-- pages before all parts
touch-before : (n : ℕ) (es : List (ℕ × ℕ)) → AllByRecursion (λ e. n * 4096 + 4096 ≤ e.0) es → touch (entry_spans es) n ≡ false
touch-before n [] h = refl
touch-before n (e ∷ es) h =
    let ih = touch-before n es h.1 in
    let here = h.0 in
    grind (arith, nat_tests)

-- how many pages the parts touch from the page `next` on
abbrev pub pages_from : ℕ → List (ℕ × ℕ) → ℕ
pages_from next [] = 0
pages_from next (e ∷ es) = ((e.1 - 1) / 4096 + 1 - max (e.0 / 4096) next) + pages_from ((e.1 - 1) / 4096 + 1) es

-- what is known where the pages before `next` have been counted
abbrev pub Near : ℕ → List (ℕ × ℕ) → Type 0
Near next es = AllByRecursion (λ e. next * 4096 ≤ e.0 + 4095) es

all-map : {X : Type 0} (P Q : X → Type 0) → ((x : X) → P x → Q x) → (xs : List X) → AllByRecursion P xs → AllByRecursion Q xs
all-map P Q f [] h = tt
all-map P Q f (x ∷ xs) h = (f x h.0, all-map P Q f xs h.1)

-- after a part the others are near
pub near-after : (e : ℕ × ℕ) (es : List (ℕ × ℕ)) → e.0 < e.1 → AllByRecursion (λ f. e.1 ≤ f.0) es → Near ((e.1 - 1) / 4096 + 1) es
near-after e es some h = all-map (λ f. e.1 ≤ f.0) (λ f. ((e.1 - 1) / 4096 + 1) * 4096 ≤ f.0 + 4095) (λ f g. omega arith) es h

-- at first all are near
pub near-start : (es : List (ℕ × ℕ)) → Near 0 es
near-start [] = tt
near-start (e ∷ es) = (omega arith, near-start es)

-- the count of the pages from `next` on
pages-count : (next top : ℕ) (es : List (ℕ × ℕ)) → AreApart es → Near next es → 0x7F7F0000 ≤ top * 4096 → next ≤ top → count_below (touch (entry_spans es)) top ≡ count_below (touch (entry_spans es)) next + pages_from next es
pages-count next top [] apart near high fits =
    let e : top ≡ next + (top - next) = omega arith in
    ap (count_below (touch [])) e ∙ count-none (touch []) next (top - next) (λ n l h. refl) ∙ omega arith
pages-count next top (e ∷ es) apart near high fits =
    let first = e.0 / 4096 in
    let after = (e.1 - 1) / 4096 + 1 in
    let from = max first next in
    let all = touch (entry_spans (e ∷ es)) in
    let others = touch (entry_spans es) in
    let some : e.0 < e.1 = apart.0 in
    let low : e.1 ≤ 0x7F7F0000 = apart.1 in
    let close : next * 4096 ≤ e.0 + 4095 = near.0 in
    let ordered : from ≤ after = omega arith in
    let below : after ≤ top = omega arith in
    let ih = pages-count after top es apart.3 (near-after e es some apart.2) high below in
    let before : count_below all (next + (from - next)) ≡ count_below all next = count-none all next (from - next) (λ n l h. let p : n * 4096 + 4096 ≤ e.0 = omega arith in touch-before n (e ∷ es) (p, all-map (λ f. e.1 ≤ f.0) (λ f. n * 4096 + 4096 ≤ f.0) (λ f g. omega arith) es apart.2)) in
    let in_it : count_below all (from + (after - from)) ≡ count_below all from + (after - from) = count-all all from (after - from) (λ n l h. let p : n * 4096 < e.1 = omega arith in let q : e.0 < n * 4096 + 4096 = omega arith in grind (arith, nat_tests)) in
    let past : count_below all (after + (top - after)) + count_below others after ≡ count_below others (after + (top - after)) + count_below all after = count-same all others after (top - after) (λ n l h. let p : e.1 ≤ n * 4096 = omega arith in grind (arith, nat_tests)) in
    let e1 : next + (from - next) ≡ from = omega arith in
    let e2 : from + (after - from) ≡ after = omega arith in
    let e3 : after + (top - after) ≡ top = omega arith in
    let f1 = ap (count_below all) e1 in
    let f2 = ap (count_below all) e2 in
    let f3 = ap (count_below all) e3 in
    let f4 = ap (count_below others) e3 in
    omega (arith, ih, before, in_it, past, f1, f2, f3, f4)

-- the count of all pages
pub pages-all : (es : List (ℕ × ℕ)) → AreApart es → pages_touched (entry_spans es) ≡ pages_from 0 es
unfolding pages_touched
pages-all es apart =
    let near = near-start es in
    let z = count-zero (touch (entry_spans es)) in
    let c = pages-count 0 1048576 es apart near (omega arith) (omega arith) in
    omega (arith, z, c)

pub pages-le : (spans : List Span) → pages_touched spans ≤ 1048576
unfolding pages_touched
pages-le spans = count-le (touch spans) 1048576

-- the same spans touch as many pages
pub pages-same : (spans : List Span) (es : List (ℕ × ℕ)) → SameSpans spans es → pages_touched spans ≡ pages_touched (entry_spans es)
unfolding pages_touched
pages-same spans es same =
    let z = count-zero (touch (entry_spans es)) in
    let y = count-zero (touch spans) in
    let c = count-same (touch spans) (touch (entry_spans es)) 0 1048576 (λ n l h. same (overlaps (page_span n))) in
    omega (arith, z, y, c)

-- no part is left, as `pop_first` says it
pub pages-none : (next : ℕ) (es : List (ℕ × ℕ)) → (0 < length es → false ≡ true) → pages_from next es ≡ 0
pages-none next [] h = refl
pages-none next (e ∷ es) h = absurd (true≢false (sym (h (omega arith))))

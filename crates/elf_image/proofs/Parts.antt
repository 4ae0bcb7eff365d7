-- The parts of memory that are taken: which of them a new part meets, and how they stay apart.
use Rattle.std.proofs.Common.{◌≡◌, ℕ, ◌<◌, ◌≤◌, Bool, true, false, cond, ◌&&◌, ◌||◌, List, [], ◌∷◌, ◌++◌, ◌⊎◌, nat_lt, inl, inr, refl, sym, ap, ◌∙◌, arith}
use Rattle.std.specs.List.{list_any, filter, AllByRecursion}
use Rattle.std.specs.Ordering.{nat_cmp, match_ordering, MatchOrdering}
use Rattle.std.specs.declared.cmp.Ordering.{Ordering}
use Rattle.std.specs.declared.cmp.Ordering.TheVariants.{Less, Equal, Greater}
use Rattle.std.specs.BTreeMap.{insert_entry}
use Rattle.std.specs.BTreeMap.Range.{range_contains}
use Rattle.std.specs.declared.ops.Bound.TheVariants.{Excluded, Unbounded}
use Rattle.std.proofs.lemmas.Bool.Decides.{nat_tests}
use Rattle.std.proofs.lemmas.Bool.{true≢false}
use Rattle.std.proofs.lemmas.List.Folds.{list_any-append}
use Rattle.elf_image.specs.Span.{Span, overlaps}
use Rattle.elf_image.specs.inside.Taken.{entry_spans, AreApart, SameSpans}

-- the entries that begin before a place, as `range` finds them
abbrev pub before_end : ℕ → List (ℕ × ℕ) → List (ℕ × ℕ)
before_end end es = filter (λ e. range_contains nat_cmp Unbounded (Excluded end) e.0) es

-- a part meets some part where one of those that begin before its end ends behind its start
pub meets-filter : (start end : ℕ) (es : List (ℕ × ℕ)) → list_any (overlaps (record { start = start; end = end })) (entry_spans es) ≡ list_any (λ e. nat_lt start e.1) (before_end end es)
meets-filter start end [] = refl
meets-filter start end (e ∷ es) =
    let ih = meets-filter start end es in
    step (range_contains nat_cmp Unbounded (Excluded end) e.0) (nat_lt e.0 end) (nat_lt start e.1) e _ (before_end end es) (grind (arith, nat_tests)) refl ih
  where
    step : (c b a : Bool) (e : ℕ × ℕ) (r : Bool) (fs : List (ℕ × ℕ)) → c ≡ b → nat_lt start e.1 ≡ a → r ≡ list_any (λ f. nat_lt start f.1) fs → ((a && b) || r) ≡ list_any (λ f. nat_lt start f.1) (cond c (e ∷ fs) fs)
    step c true true e r fs p q ih = rw (p, q) refl
    step c true false e r fs p q ih = rw (p, q) ih
    step c false true e r fs p q ih = rw p ih
    step c false false e r fs p q ih = rw p ih

-- what holds of all holds of the last
all-last : {X : Type 0} (P : X → Type 0) (t : List X) (l : X) → AllByRecursion P (t ++ l ∷ []) → P l
all-last P [] l h = h.0
all-last P (f ∷ t) l h = all-last P t l h.1

apart-last : (t : List (ℕ × ℕ)) (l : ℕ × ℕ) → AreApart (t ++ l ∷ []) → l.0 < l.1
apart-last [] l h = h.0
apart-last (f ∷ t) l h = apart-last t l h.3

-- of parts that are apart the last reaches farthest
pub reach-last : (start : ℕ) (t : List (ℕ × ℕ)) (l : ℕ × ℕ) → AreApart (t ++ l ∷ []) → list_any (λ e. nat_lt start e.1) (t ++ l ∷ []) ≡ nat_lt start l.1
reach-last start [] l h = grind (arith, nat_tests)
reach-last start (f ∷ t) l h =
    let ih = reach-last start t l h.3 in
    let before : f.1 ≤ l.0 = all-last (λ g. f.1 ≤ g.0) t l h.2 in
    let some = apart-last t l h.3 in
    rw ih (grind (arith, nat_tests))

all-filter : {X : Type 0} (P : X → Type 0) (p : X → Bool) (xs : List X) → AllByRecursion P xs → AllByRecursion P (filter p xs)
all-filter P p [] h = tt
all-filter P p (x ∷ xs) h =
    elim (p x) as (λ b. AllByRecursion P (cond b (x ∷ filter p xs) (filter p xs))) [ true ↦ (h.0, all-filter P p xs h.1) | false ↦ all-filter P p xs h.1 ]

pub apart-filter : (p : ℕ × ℕ → Bool) (es : List (ℕ × ℕ)) → AreApart es → AreApart (filter p es)
apart-filter p [] h = tt
apart-filter p (e ∷ es) h =
    elim (p e) as (λ b. AreApart (cond b (e ∷ filter p es) (filter p es))) [ true ↦ (h.0, h.1, all-filter (λ f. e.1 ≤ f.0) p es h.2, apart-filter p es h.3) | false ↦ apart-filter p es h.3 ]

-- ---- one part more
neither : (a r : Bool) → (a || r) ≡ false → (a ≡ false) × (r ≡ false)
neither true r h = absurd (true≢false h)
neither false r h = (refl, h)

-- a part that does not meet another ends before it or begins behind it
free-head : (k v a b : ℕ) → k < v → a < b → (nat_lt k b && nat_lt a v) ≡ false → (v ≤ a) ⊎ (b ≤ k)
free-head k v a b some full none = grind (arith, nat_tests)

less : (k m : ℕ) → k < m → nat_cmp k m ≡ Less
less k m h = grind (arith, nat_tests)

greater : (k m : ℕ) → m < k → nat_cmp k m ≡ Greater
greater k m h = grind (arith, nat_tests)

all-map : {X : Type 0} (P Q : X → Type 0) → ((x : X) → P x → Q x) → (xs : List X) → AllByRecursion P xs → AllByRecursion Q xs
all-map P Q f [] h = tt
all-map P Q f (x ∷ xs) h = (f x h.0, all-map P Q f xs h.1)

nat_cmp_tells : (k m : ℕ) → MatchOrdering (nat_cmp k m) (k < m) (m ≡ k) (m < k)
nat_cmp_tells k m = grind (arith, nat_tests)

-- what the entry goes before
abbrev inserted : (Ordering) → ℕ → ℕ → ℕ × ℕ → List (ℕ × ℕ) → List (ℕ × ℕ)
inserted o k v e es = match_ordering o ((k, v) ∷ e ∷ es) ((e.0, v) ∷ es) (e ∷ insert_entry nat_cmp es k v)

all-insert : (P : ℕ × ℕ → Type 0) (k v : ℕ) (es : List (ℕ × ℕ)) → ((j : ℕ) → j ≡ k → P (j, v)) → AllByRecursion P es → AllByRecursion P (insert_entry nat_cmp es k v)
all-insert P k v [] p h = (p k refl, tt)
all-insert P k v (e ∷ es) p h = split (nat_cmp k e.0) (nat_cmp_tells k e.0) (all-insert P k v es p h.1)
  where
    split : (o : Ordering) → MatchOrdering o (k < e.0) (e.0 ≡ k) (e.0 < k) → AllByRecursion P (insert_entry nat_cmp es k v) → AllByRecursion P (inserted o k v e es)
    split Less t ih = (p k refl, h)
    split Equal t ih = (p e.0 t, h.1)
    split Greater t ih = (h.0, ih)

pub apart-insert : (k v : ℕ) (es : List (ℕ × ℕ)) → k < v → v ≤ 0x7F7F0000 → list_any (overlaps (record { start = k; end = v })) (entry_spans es) ≡ false → AreApart es → AreApart (insert_entry nat_cmp es k v)
apart-insert k v [] some high none h = (some, high, tt, tt)
apart-insert k v (e ∷ es) some high none h =
    let free = neither (nat_lt k e.1 && nat_lt e.0 v) _ none in
    elim (free-head k v e.0 e.1 some h.0 free.0) [
      | inl before ↦ front (nat_cmp k e.0) (less k e.0 (omega arith)) before
      | inr behind ↦ back (nat_cmp k e.0) (greater k e.0 (omega arith)) behind (apart-insert k v es some high free.1 h.3)
    ]
  where
    front : (o : Ordering) → o ≡ Less → v ≤ e.0 → AreApart (inserted o k v e es)
    front o is before = rw is (some, high, (before, all-map (λ f. e.1 ≤ f.0) (λ f. v ≤ f.0) (λ f g. omega arith) es h.2), h)

    back : (o : Ordering) → o ≡ Greater → e.1 ≤ k → AreApart (insert_entry nat_cmp es k v) → AreApart (inserted o k v e es)
    back o is behind ih = rw is (h.0, h.1, all-insert (λ f. e.1 ≤ f.0) k v es (λ j q. omega arith) h.2, ih)

or-last : (a b c : Bool) → (c || (a || b)) ≡ ((a || b) || c)
or-last true b true = refl
or-last true b false = refl
or-last false true true = refl
or-last false true false = refl
or-last false false true = refl
or-last false false false = refl

or-assoc : (a b c : Bool) → (a || (b || c)) ≡ ((a || b) || c)
or-assoc true b c = refl
or-assoc false b c = refl

or-false : (a : Bool) → (a || false) ≡ a
or-false true = refl
or-false false = refl

-- the spans of the parts, and the new one
pub any-insert : (test : Span → Bool) (k v : ℕ) (es : List (ℕ × ℕ)) → k < v → list_any (overlaps (record { start = k; end = v })) (entry_spans es) ≡ false → AreApart es → list_any test (entry_spans (insert_entry nat_cmp es k v)) ≡ (list_any test (entry_spans es) || test (record { start = k; end = v }))
any-insert test k v [] some none h = or-false _
any-insert test k v (e ∷ es) some none h =
    let free = neither (nat_lt k e.1 && nat_lt e.0 v) _ none in
    elim (free-head k v e.0 e.1 some h.0 free.0) [
      | inl before ↦ front (nat_cmp k e.0) (less k e.0 (omega arith))
      | inr behind ↦ back (nat_cmp k e.0) (greater k e.0 (omega arith)) (any-insert test k v es some free.1 h.3)
    ]
  where
    front : (o : Ordering) → o ≡ Less → list_any test (entry_spans (inserted o k v e es)) ≡ (list_any test (entry_spans (e ∷ es)) || test (record { start = k; end = v }))
    front o is = rw is (or-last (test (record { start = e.0; end = e.1 })) _ _)

    back : (o : Ordering) → o ≡ Greater → list_any test (entry_spans (insert_entry nat_cmp es k v)) ≡ (list_any test (entry_spans es) || test (record { start = k; end = v })) → list_any test (entry_spans (inserted o k v e es)) ≡ (list_any test (entry_spans (e ∷ es)) || test (record { start = k; end = v }))
    back o is ih = rw is (ap (λ (b : Bool). test (record { start = e.0; end = e.1 }) || b) ih ∙ or-assoc (test (record { start = e.0; end = e.1 })) _ _)

-- one span more on both sides
pub same-insert : (spans : List Span) (k v : ℕ) (es : List (ℕ × ℕ)) → k < v → list_any (overlaps (record { start = k; end = v })) (entry_spans es) ≡ false → AreApart es → SameSpans spans es → SameSpans (spans ++ record { start = k; end = v } ∷ []) (insert_entry nat_cmp es k v)
same-insert spans k v es some none h same test =
    list_any-append test spans (record { start = k; end = v } ∷ [])
    ∙ ap (λ (b : Bool). list_any test spans || b) (or-false (test (record { start = k; end = v })))
    ∙ ap (λ (b : Bool). b || test (record { start = k; end = v })) (same test)
    ∙ sym (any-insert test k v es some none h)

-- The memory that is taken, as a map from the start of each part to its end.
use Rattle.std.specs.Prelude.{◌≡◌, ℕ, ◌<◌, ◌≤◌, Bool, List, [], ◌∷◌, map}
use Rattle.std.specs.List.{list_any, AllByRecursion}
use Rattle.elf_image.specs.Span.{Span}

-- the spans of a map from starts to ends
abbrev pub entry_spans : List (ℕ × ℕ) → List Span
entry_spans es = map (λ e. record { start = e.0; end = e.1 }) es

-- entries in order: none is empty, each lies below the stack, and each ends where the next begins, or before
abbrev pub AreApart : List (ℕ × ℕ) → Type 0
AreApart [] = Unit {0}
AreApart (e ∷ es) = (e.0 < e.1) × (e.1 ≤ 0x7F7F0000) × AllByRecursion (λ f. e.1 ≤ f.0) es × AreApart es

-- the same spans, as far as a test of some span can tell
abbrev pub SameSpans : List Span → List (ℕ × ℕ) → Type 0
SameSpans spans es = (test : Span → Bool) → list_any test spans ≡ list_any test (entry_spans es)

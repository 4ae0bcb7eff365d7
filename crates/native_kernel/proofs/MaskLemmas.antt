-- Sets of signals, word by word.
use Rattle.std.proofs.Common.{◌≡◌, ℕ, List, [], ◌∷◌, length, get_or, refl, arith}
use Rattle.std.specs.Prelude.{bit_or}
use Rattle.kernel_model.specs.SignalSets.{union}

abbrev either_at : List ℕ → List ℕ → ℕ → ℕ
either_at set other place = bit_or (get_or set place 0) (get_or other place 0)

joined : (a b c d : ℕ) (other : List ℕ) → length other ≡ 4
    → bit_or a (get_or other 0 0) ∷ bit_or b (get_or other 1 0) ∷ bit_or c (get_or other 2 0) ∷ bit_or d (get_or other 3 0) ∷ []
    ≡ union (a ∷ b ∷ c ∷ d ∷ []) other
joined a b c d [] count = absurd (omega arith)
joined a b c d (e ∷ []) count = absurd (omega arith)
joined a b c d (e ∷ f ∷ []) count = absurd (omega arith)
joined a b c d (e ∷ f ∷ g ∷ []) count = absurd (omega arith)
joined a b c d (e ∷ f ∷ g ∷ h ∷ []) count = refl
joined a b c d (e ∷ f ∷ g ∷ h ∷ i ∷ more) count = absurd (omega arith)

pub union_words : (set other : List ℕ) → length set ≡ 4 → length other ≡ 4
    → either_at set other 0 ∷ either_at set other 1 ∷ either_at set other 2 ∷ either_at set other 3 ∷ [] ≡ union set other
union_words [] other count counted = absurd (omega arith)
union_words (a ∷ []) other count counted = absurd (omega arith)
union_words (a ∷ b ∷ []) other count counted = absurd (omega arith)
union_words (a ∷ b ∷ c ∷ []) other count counted = absurd (omega arith)
union_words (a ∷ b ∷ c ∷ d ∷ []) other count counted = joined a b c d other counted
union_words (a ∷ b ∷ c ∷ d ∷ e ∷ more) other count counted = absurd (omega arith)

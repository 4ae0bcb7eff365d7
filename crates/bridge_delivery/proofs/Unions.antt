-- The signals of either of two sets, word by word.
use Rattle.std.proofs.Common.{◌≡◌, ℕ, List, [], ◌∷◌, length, get_or, refl, arith}
use Rattle.std.specs.Prelude.{bit_or}
use Rattle.kernel_model.specs.SignalSets.{union}

abbrev either_at : List ℕ → List ℕ → ℕ → ℕ
either_at left right place = bit_or (get_or left place 0) (get_or right place 0)

with_first : (a b c d : ℕ) (right : List ℕ) → length right ≡ 4
    → bit_or a (get_or right 0 0) ∷ bit_or b (get_or right 1 0) ∷ bit_or c (get_or right 2 0) ∷ bit_or d (get_or right 3 0) ∷ []
    ≡ union (a ∷ b ∷ c ∷ d ∷ []) right
with_first a b c d [] count = absurd (omega arith)
with_first a b c d (e ∷ []) count = absurd (omega arith)
with_first a b c d (e ∷ f ∷ []) count = absurd (omega arith)
with_first a b c d (e ∷ f ∷ g ∷ []) count = absurd (omega arith)
with_first a b c d (e ∷ f ∷ g ∷ h ∷ []) count = refl
with_first a b c d (e ∷ f ∷ g ∷ h ∷ i ∷ more) count = absurd (omega arith)

pub union_words : (left right : List ℕ) → length left ≡ 4 → length right ≡ 4
    → either_at left right 0 ∷ either_at left right 1 ∷ either_at left right 2 ∷ either_at left right 3 ∷ [] ≡ union left right
union_words [] right count counted = absurd (omega arith)
union_words (a ∷ []) right count counted = absurd (omega arith)
union_words (a ∷ b ∷ []) right count counted = absurd (omega arith)
union_words (a ∷ b ∷ c ∷ []) right count counted = absurd (omega arith)
union_words (a ∷ b ∷ c ∷ d ∷ []) right count counted = with_first a b c d right counted
union_words (a ∷ b ∷ c ∷ d ∷ e ∷ more) right count counted = absurd (omega arith)

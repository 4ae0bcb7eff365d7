-- The signals of a set that a mask does not block, word by word.
use Rattle.std.proofs.Common.{◌≡◌, ℕ, ◌-◌, Bool, List, [], ◌∷◌, length, get_or, refl, ap, ◌∙◌, arith}
use Rattle.std.specs.List.{list_any}
use Rattle.std.specs.Prelude.{◌==◌, bit_and, not}
use Rattle.kernel_model.specs.SignalRows.{is_deliverable, pending_set}
use Rattle.kernel_model.specs.SignalSets.{without}
use Rattle.kernel_model.specs.State.{Signals}

abbrev free : ℕ → ℕ → ℕ
free word other = word - bit_and word other

abbrev free_at : List ℕ → List ℕ → ℕ → ℕ
free_at set mask place = free (get_or set place 0) (get_or mask place 0)

masked : (a b c d : ℕ) (mask : List ℕ) → length mask ≡ 4
    → free a (get_or mask 0 0) ∷ free b (get_or mask 1 0) ∷ free c (get_or mask 2 0) ∷ free d (get_or mask 3 0) ∷ []
    ≡ without (a ∷ b ∷ c ∷ d ∷ []) mask
masked a b c d [] count = absurd (omega arith)
masked a b c d (e ∷ []) count = absurd (omega arith)
masked a b c d (e ∷ f ∷ []) count = absurd (omega arith)
masked a b c d (e ∷ f ∷ g ∷ []) count = absurd (omega arith)
masked a b c d (e ∷ f ∷ g ∷ h ∷ []) count = refl
masked a b c d (e ∷ f ∷ g ∷ h ∷ i ∷ more) count = absurd (omega arith)

pub without_words : (set mask : List ℕ) → length set ≡ 4 → length mask ≡ 4
    → free_at set mask 0 ∷ free_at set mask 1 ∷ free_at set mask 2 ∷ free_at set mask 3 ∷ [] ≡ without set mask
without_words [] mask count counted = absurd (omega arith)
without_words (a ∷ []) mask count counted = absurd (omega arith)
without_words (a ∷ b ∷ []) mask count counted = absurd (omega arith)
without_words (a ∷ b ∷ c ∷ []) mask count counted = absurd (omega arith)
without_words (a ∷ b ∷ c ∷ d ∷ []) mask count counted = masked a b c d mask counted
without_words (a ∷ b ∷ c ∷ d ∷ e ∷ more) mask count counted = absurd (omega arith)

abbrev has_any : List ℕ → Bool
has_any set = list_any (λ word. not (word == 0)) set

-- whether one is left is whether a signal is deliverable
pub any_unblocked : (signals : Signals) (pending mask left : List ℕ) (result : Bool) → pending ≡ pending_set signals → mask ≡ signals.mask
    → left ≡ without pending mask → result ≡ has_any left → result ≡ is_deliverable signals
any_unblocked signals pending mask left result pends masks leaves tells =
    tells ∙ ap (λ (set : List ℕ). has_any set)
    (leaves ∙ ap (λ (set : List ℕ). without set mask) pends ∙ ap (λ (set : List ℕ). without (pending_set signals) set) masks)

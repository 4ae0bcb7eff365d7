-- The set of what pends has the signals that pend.
use Rattle.std.proofs.Common.{◌≡◌, ℕ, zero, suc, ◌+◌, ◌-◌, ◌*◌, ◌/◌, ◌%◌, ◌^◌, ◌<◌, ◌≤◌, List, [], ◌∷◌, length, take, drop, get_or, length-take, refl, ap, ◌∙◌, arith}
use Rattle.std.specs.Prelude.{◌==◌, not}
use Rattle.std.specs.Int.{bit_at}
use Rattle.std.proofs.lemmas.List.{get_or-take, get_or-drop}
use Rattle.std.proofs.lemmas.Nat.Bits.{bit_at-zero, bit_at_lowest, bit_at-suc}
use Rattle.kernel_core.specs.NameCalls.{is_empty_list}
use Rattle.kernel_core.specs.declared.signal.Sig.{Sig}
use Rattle.kernel_model.proofs.Posting.{place_below}
use Rattle.kernel_model.specs.Shared.{Info}
use Rattle.kernel_model.specs.SignalRows.{bits_of, pending_set, pends}
use Rattle.kernel_model.specs.SignalSets.{has, place}
use Rattle.kernel_model.specs.State.{Signals}
use Rattle.native_signal.proofs.BitLaws.{bits_below}

test_bits : (queues : List (List Info)) (i : ℕ) → (bit_at (bits_of queues) i == 1) ≡ not (is_empty_list (get_or queues i []))
test_bits [] i = ap (λ (n : ℕ). n == 1) (bit_at-zero i)
test_bits ([] ∷ queues) zero =
    let even : (0 + 2 * bits_of queues) % 2 ≡ 0 = omega arith in
    ap (λ (n : ℕ). n == 1) (bit_at_lowest (0 + 2 * bits_of queues) ∙ even)
test_bits ((info ∷ infos) ∷ queues) zero =
    let odd : (1 + 2 * bits_of queues) % 2 ≡ 1 = omega arith in
    ap (λ (n : ℕ). n == 1) (bit_at_lowest (1 + 2 * bits_of queues) ∙ odd)
test_bits ([] ∷ queues) (suc i) =
    let half : (0 + 2 * bits_of queues) / 2 ≡ bits_of queues = omega arith in
    ap (λ (n : ℕ). n == 1) (bit_at-suc (0 + 2 * bits_of queues) i ∙ ap (λ (n : ℕ). bit_at n i) half) ∙ test_bits queues i
test_bits ((info ∷ infos) ∷ queues) (suc i) =
    let half : (1 + 2 * bits_of queues) / 2 ≡ bits_of queues = omega arith in
    ap (λ (n : ℕ). n == 1) (bit_at-suc (1 + 2 * bits_of queues) i ∙ ap (λ (n : ℕ). bit_at n i) half) ∙ test_bits queues i

-- the 32 lists of a word
abbrev part : List (List Info) → ℕ → List (List Info)
part pending from = take 32 (drop from pending)

word_at : (signals : Signals) (k : ℕ) → k < 4 → get_or (pending_set signals) k 0 ≡ bits_of (part signals.pending (32 * k))
word_at signals zero small = refl
word_at signals (suc zero) small = refl
word_at signals (suc (suc zero)) small = refl
word_at signals (suc (suc (suc zero))) small = refl
word_at signals (suc (suc (suc (suc k)))) small = absurd (omega arith)

pub has_pending : (signals : Signals) (signal : Sig) → has (pending_set signals) signal ≡ pends signals signal
has_pending signals signal =
    let low = place_below signal in
    let k = place signal / 32 in
    let i = place signal % 32 in
    let at : 32 * k + i ≡ place signal = omega arith in
    let there : get_or (part signals.pending (32 * k)) i [] ≡ get_or signals.pending (place signal) [] =
    get_or-take 32 (drop (32 * k) signals.pending) i [] (omega arith)
    ∙ get_or-drop (32 * k) signals.pending i []
    ∙ ap (λ (n : ℕ). get_or signals.pending n []) at in
    ap (λ (w : ℕ). bit_at w i == 1) (word_at signals k (omega (arith, low)))
    ∙ test_bits (part signals.pending (32 * k)) i
    ∙ ap (λ (infos : List Info). not (is_empty_list infos)) there

-- its words have 32 bits
pub word_small : (signals : Signals) (k : ℕ) → k < 4 → get_or (pending_set signals) k 0 < 2 ^ 32
word_small signals k few =
    let few_lists : length (part signals.pending (32 * k)) ≤ 32 = omega (arith, length-take 32 (drop (32 * k) signals.pending)) in
    omega (arith, word_at signals k few, bits_below 32 (part signals.pending (32 * k)) few_lists)

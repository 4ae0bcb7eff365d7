-- The bytes of chance, round and round.
use Rattle.std.proofs.Common.{◌≡◌, ℕ, zero, suc, ◌+◌, ◌%◌, List, [], ◌∷◌, ◌++◌, length, get_or, refl, sym, ap, ◌∙◌, arith, add-zero, add-one}
use Rattle.kernel_model.specs.System.{round}

abbrev byte_at : List ℕ → ℕ → ℕ
byte_at bytes place = get_or bytes (place % length bytes) 0

round-suc : (bytes : List ℕ) (at count : ℕ) → round bytes at (suc count) ≡ round bytes at count ++ byte_at bytes (at + count) ∷ []
unfolding round
round-suc bytes at zero = ap (λ (n : ℕ). byte_at bytes n ∷ []) (sym (add-zero at))
round-suc bytes at (suc count) =
    let further : at + 1 + count ≡ at + suc count = omega arith in
    ap (λ (t : List ℕ). byte_at bytes at ∷ t) (round-suc bytes (at + 1) count)
    ∙ ap (λ (n : ℕ). byte_at bytes at ∷ (round bytes (at + 1) count ++ byte_at bytes n ∷ [])) further

-- one byte more
pub round-more : (bytes : List ℕ) (at count more : ℕ) → more ≡ count + 1
    → round bytes at more ≡ round bytes at count ++ byte_at bytes (at + count) ∷ []
round-more bytes at count more e = ap (λ (n : ℕ). round bytes at n) (e ∙ add-one count) ∙ round-suc bytes at count

pub length-round : (bytes : List ℕ) (at count : ℕ) → length (round bytes at count) ≡ count
unfolding round
length-round bytes at zero = refl
length-round bytes at (suc count) = ap (λ (n : ℕ). suc n) (length-round bytes (at + 1) count)

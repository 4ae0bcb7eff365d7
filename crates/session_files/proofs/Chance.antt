-- The bytes of chance that the first stack takes, from the first on.
use Rattle.std.proofs.Common.{◌≡◌, ℕ, zero, suc, ◌+◌, ◌%◌, List, [], ◌∷◌, ◌++◌, length, get_or, sym, ap, ◌∙◌, arith, add-zero, add-one}
use Rattle.kernel_model.specs.System.{round}

abbrev byte_at : List ℕ → ℕ → ℕ
byte_at bytes place = get_or bytes (place % length bytes) 0

round_suc : (bytes : List ℕ) (at count : ℕ) → round bytes at (suc count) ≡ round bytes at count ++ byte_at bytes (at + count) ∷ []
unfolding round
round_suc bytes at zero = ap (λ (n : ℕ). byte_at bytes n ∷ []) (sym (add-zero at))
round_suc bytes at (suc count) =
    let further : at + 1 + count ≡ at + suc count = omega arith in
    ap (λ (t : List ℕ). byte_at bytes at ∷ t) (round_suc bytes (at + 1) count)
    ∙ ap (λ (n : ℕ). byte_at bytes at ∷ (round bytes (at + 1) count ++ byte_at bytes n ∷ [])) further

-- one byte more
pub round_more : (bytes : List ℕ) (count more : ℕ) → more ≡ count + 1 → round bytes 0 more ≡ round bytes 0 count ++ get_or bytes (count % length bytes) 0 ∷ []
round_more bytes count more e =
    let same : 0 + count ≡ count = omega arith in
    ap (λ (n : ℕ). round bytes 0 n) (e ∙ add-one count)
    ∙ (round_suc bytes 0 count ∙ ap (λ (n : ℕ). round bytes 0 count ++ get_or bytes (n % length bytes) 0 ∷ []) same)

-- A number that is none of a list's has no call there.
use Rattle.std.proofs.Common.{◌≡◌, ℕ, false, List, [], ◌∷◌, None, refl}
use Rattle.std.specs.Prelude.{⊤, ◌==◌}
use Rattle.number_tables.specs.Numbered.{numbered}
use Rattle.o32_calls.specs.Numbers.{o32_number}
use Rattle.o32_calls.specs.declared.o32_call.O32Call.{O32Call}

-- a number is that of no call of a list
abbrev pub IsOther : ℕ → List O32Call → Type 0
IsOther number [] = ⊤
IsOther number (call ∷ rest) = (number == o32_number call) ≡ false × IsOther number rest

pub no_call : (number : ℕ) (calls : List O32Call) → IsOther number calls → None ≡ numbered o32_number calls number
no_call number [] other = refl
no_call number (call ∷ rest) other = rw other.0 (no_call number rest other.1)

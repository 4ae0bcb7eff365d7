-- What a reader in code gives, beside what the reading means.
use Rattle.std.specs.Prelude.{◌≡◌, ℕ, Option, Some, None, Result, Ok, Err, List}
use Rattle.journal.specs.declared.refusal.BadField.{BadField}
use Rattle.journal.specs.Reading.{◌>>=◌}

-- an answer, seen by `view`, is what is meant
abbrev pub ReadsBy : {A B : Type 0} → (A → B) → Result A BadField → Result B ℕ → Type 0
ReadsBy view (Ok value) meant = meant ≡ Ok (view value)
ReadsBy view (Err error) meant = meant ≡ Err error.at

abbrev pub fault_of : {A : Type 0} → Result A BadField → Option ℕ
fault_of (Ok value) = None
fault_of (Err error) = Some error.at

-- what is left behind what was read
abbrev pub behind : {A : Type 0} → Result (A × List ℕ) ℕ → Result (List ℕ) ℕ
behind read = read >>= λ found. Ok found.1

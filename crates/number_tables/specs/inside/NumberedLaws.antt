-- A number that a value is found by is the value's number.
use Rattle.std.specs.Prelude.{◌≡◌, ℕ, Bool, true, false, ◌==◌, Option, Some, None, List, [], ◌∷◌, if◌then◌else◌, refl}
use Rattle.std.proofs.Common.{sym, ◌∙◌, ap}
use Rattle.std.proofs.lemmas.Bool.{eqb-true}
use Rattle.number_tables.specs.Numbered.{numbered_or, numbered}

number_at : {A : Type 0} (number_of : A → ℕ) (first : A) (number : ℕ) (value : A) (after : Option A) → (after ≡ Some value → number_of value ≡ number) → (b : Bool) → (number == number_of first) ≡ b → (if b then Some first else after) ≡ Some value → number_of value ≡ number
number_at number_of first number value after again true is found =
    let at : first ≡ value = cc in let same : number ≡ number_of first = eqb-true number (number_of first) is in
    ap number_of (sym at) ∙ sym same
number_at number_of first number value after again false is found = again found

-- a number that a value is found by is the value's number
pub numbered_or_number : {A : Type 0} (number_of : A → ℕ) (values : List A) (otherwise : Option A) (number : ℕ) (value : A) → (otherwise ≡ Some value → number_of value ≡ number) → numbered_or number_of values otherwise number ≡ Some value → number_of value ≡ number
numbered_or_number number_of [] otherwise number value last found = last found
numbered_or_number number_of (first ∷ rest) otherwise number value last found =
    number_at number_of first number value (numbered_or number_of rest otherwise number)
    (numbered_or_number number_of rest otherwise number value last) (number == number_of first) refl found

pub numbered_number : {A : Type 0} (number_of : A → ℕ) (values : List A) (number : ℕ) (value : A) → numbered number_of values number ≡ Some value → number_of value ≡ number
numbered_number number_of values number value found = numbered_or_number number_of values None number value (λ none. cc) found

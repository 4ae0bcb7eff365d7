-- What a number stands for, and the number of what is stood for, are inverse.
use Rattle.std.specs.Prelude.{◌≡◌, ℕ, Bool, true, false, IsTrue, ◌==◌, ◌&&◌, Some, None, if◌then◌else◌, refl}
use Rattle.std.proofs.Common.{sym, ◌∙◌, ap}
use Rattle.std.proofs.lemmas.Bool.{eqb-true, eq-eqb}
use Rattle.number_tables.specs.Flags.{stands_for}

number_at : {A : Type 0} (number_of : A → ℕ) (number : ℕ) (found value : A) (same listed : Bool) → (number_of found == number) ≡ same → (if same && listed then Some found else None) ≡ Some value → number_of value ≡ number
number_at number_of number found value true true is at =
    let e : found ≡ value = cc in ap number_of (sym e) ∙ eqb-true (number_of found) number is
number_at number_of number found value true false is at = cc
number_at number_of number found value false listed is at = cc

-- a number that stands for a value is the value's number
pub stands_for-number : {A : Type 0} (number_of : A → ℕ) (is_listed : A → Bool) (read : ℕ → A) (number : ℕ) (value : A) → stands_for number_of is_listed read number ≡ Some value → number_of value ≡ number
stands_for-number number_of is_listed read number value at =
    number_at number_of number (read number) value (number_of (read number) == number) (is_listed (read number)) refl at

-- a value's number stands for it, where it is listed and read again from the number
pub stands_for-value : {A : Type 0} (number_of : A → ℕ) (is_listed : A → Bool) (read : ℕ → A) (value : A) → read (number_of value) ≡ value → IsTrue (is_listed value) → stands_for number_of is_listed read (number_of value) ≡ Some value
stands_for-value number_of is_listed read value again listed =
    let same : (number_of value == number_of value) ≡ true = eq-eqb _ _ refl in
    rw again (rw (same, listed) refl)

listed_at : {A : Type 0} (is_listed : A → Bool) (found value : A) (same listed : Bool) → is_listed found ≡ listed → (if same && listed then Some found else None) ≡ Some value → IsTrue (is_listed value)
listed_at is_listed found value true true is at = let e : found ≡ value = cc in ap is_listed (sym e) ∙ is
listed_at is_listed found value true false is at = cc
listed_at is_listed found value false listed is at = cc

-- what a number stands for is listed
pub stands_for-listed : {A : Type 0} (number_of : A → ℕ) (is_listed : A → Bool) (read : ℕ → A) (number : ℕ) (value : A) → stands_for number_of is_listed read number ≡ Some value → IsTrue (is_listed value)
stands_for-listed number_of is_listed read number value at =
    listed_at is_listed (read number) value (number_of (read number) == number) (is_listed (read number)) refl at

read_at : {A : Type 0} (found value : A) (same : Bool) → (if same then Some found else None) ≡ Some value → found ≡ value
read_at found value true at = cc
read_at found value false at = cc

-- what a number stands for is what it is read as
pub stands_for-read : {A : Type 0} (number_of : A → ℕ) (is_listed : A → Bool) (read : ℕ → A) (number : ℕ) (value : A) → stands_for number_of is_listed read number ≡ Some value → read number ≡ value
stands_for-read number_of is_listed read number value at =
    read_at (read number) value (number_of (read number) == number && is_listed (read number)) at

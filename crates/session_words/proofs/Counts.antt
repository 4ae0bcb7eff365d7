-- The count of numbers that the words of a soak give is 1 at least and at most the greatest.
use Rattle.std.proofs.Common.{◌≡◌, ℕ, ◌<◌, Bool, true, false, List, Option, Some, None, refl, subst, arith}
use Rattle.std.proofs.lemmas.Bool.Decides.{nat_tests}
use Rattle.std.specs.Prelude.{⊤, nat_le, if◌then◌else◌}
use Rattle.std.specs.Str.Parse.{digits_value}
use Rattle.session_words.specs.Words.{count_of, greatest_count, is_plain_number, up_to_greatest_count}
use Rattle.session_words.specs.Read.{IsCount}
use Rattle.session_words.proofs.Budgets.{not_zero}

abbrev Fits : Option ℕ → Type 0
Fits None = ⊤
Fits (Some n) = IsCount n

up_fits : (n : ℕ) (test : Bool) → 0 < n → nat_le n greatest_count ≡ test → Fits (if test then Some n else None)
up_fits n true some is = (omega arith, grind (arith, nat_tests))
up_fits n false some is = tt

number_fits : (text : List ℕ) (test : Bool) → is_plain_number text ≡ test → Fits (if test then up_to_greatest_count (digits_value 10 text) else None)
number_fits text true plain = up_fits (digits_value 10 text) (nat_le (digits_value 10 text) greatest_count) (not_zero text plain) refl
number_fits text false plain = tt

pub is_count : (text : List ℕ) (count : ℕ) → count_of text ≡ Some count → IsCount count
is_count text count is = subst Fits is (number_fits text (is_plain_number text) refl)

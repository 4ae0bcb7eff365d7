-- A plain decimal number that `parse` refuses is above every budget, and above every count of a soak.
use Rattle.std.proofs.Common.{◌≡◌, ℕ, ◌<◌, ◌^◌, List, [], ◌∷◌, true, Bool, length, Option, None, Result, Ok, Err, nat_lt, get_or, arith, rules, sym, subst, ap, ◌∙◌, cond}
use Rattle.std.proofs.lemmas.Bool.{and_parts, ltb-true}
use Rattle.std.proofs.lemmas.Grind.{common_steps}
use Rattle.std.proofs.lemmas.Str.Parse.{without_leading_plus_none}
use Rattle.std.specs.List.{list_all}
use Rattle.std.specs.Char.{is_ascii_digit, digit_value}
use Rattle.std.specs.Result.{result_ok}
use Rattle.std.specs.Str.Parse.{digits_value, AllDigits, IsNumeral, ParsesUnsigned, without_leading_plus}
use Rattle.session_words.specs.Words.{budget_of, count_of, is_plain_number, up_to_greatest, up_to_greatest_count}

digit_below : (c : ℕ) → is_ascii_digit c ≡ true → digit_value c < 10
digit_below c is_digit = grind (arith, common_steps)

all_digits : (text : List ℕ) → list_all is_ascii_digit text ≡ true → AllDigits 10 text
all_digits [] _ = search rules
all_digits (c ∷ cs) digits =
    let parts : (is_ascii_digit c ≡ true) × (list_all is_ascii_digit cs ≡ true) = and_parts _ _ digits in
    (digit_below c parts.0, all_digits cs parts.1)

above : (n : ℕ) → (n < 2 ^ 64 → ⊥) → up_to_greatest n ≡ None
above n large = grind (arith, common_steps)

above_counts : (n : ℕ) → (n < 2 ^ 32 → ⊥) → up_to_greatest_count n ≡ None
above_counts n large = grind (arith, common_steps)

nonempty : (text : List ℕ) → 48 < get_or text 0 0 → 0 < length text
nonempty [] first = absurd (omega arith)
nonempty (c ∷ cs) first = omega arith

-- a number of so many bits is looked for, and what it may be at most
unparsed : (bits : ℕ) (up_to : ℕ → Option ℕ) (text : List ℕ) → ((n : ℕ) → (n < 2 ^ bits → ⊥) → up_to n ≡ None) → true ≡ is_plain_number text →
    ((IsNumeral 10 (without_leading_plus text) × (digits_value 10 (without_leading_plus text) < 2 ^ bits)) → ⊥) →
    None ≡ cond (is_plain_number text) (up_to (digits_value 10 text)) None
unparsed bits up_to text greater plain refused =
    let parts : (nat_lt 48 (get_or text 0 0) ≡ true) × (list_all is_ascii_digit text ≡ true) = and_parts _ _ (sym plain) in
    let first : 48 < get_or text 0 0 = ltb-true _ _ parts.0 in
    let same : without_leading_plus text ≡ text = without_leading_plus_none text (λ e. omega arith) in
    let some_digit : 0 < length text = nonempty text first in
    let large : digits_value 10 text < 2 ^ bits → ⊥ =
    λ small. refused (subst (λ t. IsNumeral 10 t × (digits_value 10 t < 2 ^ bits)) (sym same)
    ((some_digit, all_digits text parts.1), small)) in
    sym (ap (λ (b : Bool). cond b (up_to (digits_value 10 text)) None) (sym plain) ∙ greater _ large)

pub no_value : {E : Type 0} (text : List ℕ) (parsed : Result ℕ E) → true ≡ is_plain_number text → ParsesUnsigned 64 10 text parsed →
    result_ok parsed ≡ None → None ≡ budget_of text
no_value text (Ok n) plain parses none = absurd cc
no_value text (Err error) plain parses none = unparsed 64 up_to_greatest text above plain parses

pub no_count : {E : Type 0} (text : List ℕ) (parsed : Result ℕ E) → true ≡ is_plain_number text → ParsesUnsigned 32 10 text parsed →
    result_ok parsed ≡ None → None ≡ count_of text
no_count text (Ok n) plain parses none = absurd cc
no_count text (Err error) plain parses none = unparsed 32 up_to_greatest_count text above_counts plain parses

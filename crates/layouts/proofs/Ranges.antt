-- The range of a field, and what is put into one and read again.
use Rattle.std.proofs.Common.{◌≡◌, ℕ, ◌+◌, ◌-◌, ◌/◌, ◌^◌, ◌<◌, ◌≤◌, ◌*◌, zero, suc, Bool, true, false, List, ◌++◌, length, take, drop, get_or, nat_lt, ℤ, pos, ◌+ℤ◌, ◌≤ℤ◌, ◌<ℤ◌, refl, sym, ap, ◌∙◌, arith, append_assoc, lit<, length-append, length-take}
use Rattle.std.specs.Prelude.{negsuc, ◌-ℤ◌}
use Rattle.std.proofs.Math.Nat.{pow-le-pow_right}
use Rattle.std.proofs.lemmas.Int.{ints}
use Rattle.std.proofs.lemmas.Bool.{ltb-true, ltb-false, lt-ltb}
use Rattle.std.proofs.lemmas.Bool.Decides.{nat_tests}
use Rattle.std.proofs.Math.Seq.{drop-append_seam}
use Rattle.std.proofs.lemmas.List.{get_or-append_right, get_or-drop, get_or-take, get_or_append_left}
use Rattle.std.proofs.Common.{◌⊎◌, inl, inr, if◌then◌else◌}
use Rattle.byteorder.specs.Numbers.{big_number-reads_back, little_number-reads_back, length-bytes_high_first, length-bytes_low_first}
use Rattle.layouts.specs.declared.field.Field.{Field}
use Rattle.layouts.specs.declared.field.Fit.{Fit}
use Rattle.layouts.specs.declared.field.Fit.TheVariants.{Fits, TooWide}
use Rattle.layouts.specs.Number.{half, is_in_range, value_of, number_for, unsigned, bytes_of, IsPlaced, field_value, with_value, fit_of, after_put}

-- a value of the range lies between the limits of both kinds
pub record Bounds (width : ℕ) (value : ℤ) : Type 0 where
  pub low : pos 0 ≤ℤ (value +ℤ pos (256 ^ width))
  pub high : value <ℤ pos (256 ^ width)

pub range-bounds : (signed : Bool) (width : ℕ) (value : ℤ) → is_in_range signed width value ≡ true → Bounds width value
range-bounds true width (pos n) within =
    let below : n < 256 ^ width / 2 = ltb-true n (256 ^ width / 2) within in
    record { low = omega (arith, ints); high = omega (arith, ints) }
range-bounds true width (negsuc n) within =
    let below : n < 256 ^ width / 2 = ltb-true n (256 ^ width / 2) within in
    record { low = omega (arith, ints); high = omega (arith, ints) }
range-bounds false width (pos n) within =
    let below : n < 256 ^ width = ltb-true n (256 ^ width) within in
    record { low = omega (arith, ints); high = omega (arith, ints) }
range-bounds false width (negsuc n) within = cc

-- eight bytes at most hold 64 bits
pub limit-le : (width : ℕ) → width ≤ 8 → 256 ^ width ≤ 18446744073709551616
limit-le width few = pow-le-pow_right (lit< tt) few

-- the number of a value of the range is below the limit
pub number_for-lt : (signed : Bool) (width : ℕ) (value : ℤ) → is_in_range signed width value ≡ true → number_for width value < 256 ^ width
number_for-lt true width (pos n) within =
    let below : n < 256 ^ width / 2 = ltb-true n (256 ^ width / 2) within in omega arith
number_for-lt true width (negsuc n) within =
    let below : n < 256 ^ width / 2 = ltb-true n (256 ^ width / 2) within in omega arith
number_for-lt false width (pos n) within = ltb-true n (256 ^ width) within
number_for-lt false width (negsuc n) within = cc

-- the number of a value of the range is that value
pub value_of-number_for : (signed : Bool) (width : ℕ) (value : ℤ) → is_in_range signed width value ≡ true → value_of signed width (number_for width value) ≡ value
value_of-number_for true width (pos n) within = rw within refl
value_of-number_for true width (negsuc n) within =
    let below : n < 256 ^ width / 2 = ltb-true n (256 ^ width / 2) within in
    let high : nat_lt (256 ^ width - suc n) (half width) ≡ false = grind (arith, nat_tests) in
    rw high (omega (arith, ints))
value_of-number_for false width (pos n) within = refl
value_of-number_for false width (negsuc n) within = cc

-- what was written reads back
unsigned-bytes_of : (big : Bool) (width number : ℕ) (rest : List ℕ) → number < 256 ^ width → unsigned big width (bytes_of big width number ++ rest) ≡ number
unsigned-bytes_of true width number rest fits = big_number-reads_back width number rest fits
unsigned-bytes_of false width number rest fits = little_number-reads_back width number rest fits

pub length-bytes_of : (big : Bool) (width number : ℕ) → length (bytes_of big width number) ≡ width
length-bytes_of true width number = length-bytes_high_first width number
length-bytes_of false width number = length-bytes_low_first 0 width number

-- what follows a front of this length
drop-front : (n : ℕ) (front rest : List ℕ) → length front ≡ n → drop n (front ++ rest) ≡ rest
drop-front n front rest is = rw (← is) (drop-append_seam front rest)

length-front : (n : ℕ) (bytes : List ℕ) → n ≤ length bytes → length (take n bytes) ≡ n
length-front n bytes within = omega (arith, length-take n bytes)

pub with_value-value : (big : Bool) (field : Field) (value : ℤ) (bytes : List ℕ) → IsPlaced (length bytes) field → is_in_range field.signed field.width value ≡ true → field_value big field (with_value big field value bytes) ≡ value
with_value-value big field value bytes placed within =
    let offset = field.offset in
    let middle = bytes_of big field.width (number_for field.width value) in
    let rest = drop (field.offset + field.width) bytes in
    let inside : field.offset + field.width ≤ length bytes = placed.inside in
    let front : length (take offset bytes) ≡ offset = length-front offset bytes (omega arith) in
    let after : drop offset (take offset bytes ++ (middle ++ rest)) ≡ middle ++ rest = drop-front offset (take offset bytes) (middle ++ rest) front in
    let grouped : (take offset bytes ++ middle) ++ rest ≡ take offset bytes ++ (middle ++ rest) = append_assoc (take offset bytes) middle rest in
    ap (λ (list : List ℕ). value_of field.signed field.width (unsigned big field.width (drop offset list))) grouped
    ∙ ap (λ (list : List ℕ). value_of field.signed field.width (unsigned big field.width list)) after
    ∙ ap (value_of field.signed field.width) (unsigned-bytes_of big field.width (number_for field.width value) rest (number_for-lt field.signed field.width value within))
    ∙ value_of-number_for field.signed field.width value within

pub with_value-others : (big : Bool) (field : Field) (value : ℤ) (bytes : List ℕ) → IsPlaced (length bytes) field → (place : ℕ) → (place < field.offset) ⊎ (field.offset + field.width ≤ place) → get_or (with_value big field value bytes) place 0 ≡ get_or bytes place 0
with_value-others big field value bytes placed place (inl before) =
    let middle = bytes_of big field.width (number_for field.width value) in
    let rest = drop (field.offset + field.width) bytes in
    let inside : field.offset + field.width ≤ length bytes = placed.inside in
    let front : length (take field.offset bytes) ≡ field.offset = length-front field.offset bytes (omega arith) in
    let lengths : length (take field.offset bytes ++ middle) ≡ length (take field.offset bytes) + length middle = length-append _ _ in
    get_or_append_left (take field.offset bytes ++ middle) rest 0 place (omega arith)
    ∙ get_or_append_left (take field.offset bytes) middle 0 place (omega arith)
    ∙ get_or-take field.offset bytes place 0 before
with_value-others big field value bytes placed place (inr after) =
    let middle = bytes_of big field.width (number_for field.width value) in
    let rest = drop (field.offset + field.width) bytes in
    let inside : field.offset + field.width ≤ length bytes = placed.inside in
    let front : length (take field.offset bytes) ≡ field.offset = length-front field.offset bytes (omega arith) in
    let width : length middle ≡ field.width = length-bytes_of big field.width (number_for field.width value) in
    let lengths : length (take field.offset bytes ++ middle) ≡ length (take field.offset bytes) + length middle = length-append _ _ in
    let together : length (take field.offset bytes ++ middle) ≡ field.offset + field.width = omega arith in
    let place_is : (field.offset + field.width) + (place - (field.offset + field.width)) ≡ place = omega arith in
    get_or-append_right (take field.offset bytes ++ middle) rest (field.offset + field.width) place 0 together after
    ∙ get_or-drop (field.offset + field.width) bytes (place - (field.offset + field.width)) 0
    ∙ ap (λ (at : ℕ). get_or bytes at 0) place_is

value_after : (big : Bool) (field : Field) (value : ℤ) (bytes : List ℕ) → IsPlaced (length bytes) field → (b : Bool) → is_in_range field.signed field.width value ≡ b → (if b then Fits else TooWide) ≡ Fits → field_value big field (if b then with_value big field value bytes else bytes) ≡ value
value_after big field value bytes placed true is fit = with_value-value big field value bytes placed is
value_after big field value bytes placed false is fit = cc

-- after a put that fits the field has the value
pub after_put-value : (big : Bool) (field : Field) (value : ℤ) (bytes : List ℕ) → IsPlaced (length bytes) field → fit_of field value ≡ Fits → field_value big field (after_put big field value bytes) ≡ value
after_put-value big field value bytes placed fit =
    value_after big field value bytes placed (is_in_range field.signed field.width value) refl fit

others_after : (big : Bool) (field : Field) (value : ℤ) (bytes : List ℕ) → IsPlaced (length bytes) field → (place : ℕ) → (place < field.offset) ⊎ (field.offset + field.width ≤ place) → (b : Bool) → get_or (if b then with_value big field value bytes else bytes) place 0 ≡ get_or bytes place 0
others_after big field value bytes placed place outside true = with_value-others big field value bytes placed place outside
others_after big field value bytes placed place outside false = refl

-- a put leaves every byte outside the field
pub after_put-others : (big : Bool) (field : Field) (value : ℤ) (bytes : List ℕ) → IsPlaced (length bytes) field → (place : ℕ) → (place < field.offset) ⊎ (field.offset + field.width ≤ place) → get_or (after_put big field value bytes) place 0 ≡ get_or bytes place 0
after_put-others big field value bytes placed place outside =
    others_after big field value bytes placed place outside (is_in_range field.signed field.width value)

-- the same, of what a call left that was given an equal value
pub left-value : (big : Bool) (field : Field) (value given : ℤ) (bytes left : List ℕ) (fit : Fit) → given ≡ value → IsPlaced (length bytes) field → left ≡ after_put big field given bytes → fit ≡ fit_of field given → fit ≡ Fits → field_value big field left ≡ value
left-value big field value given bytes left fit same placed is fit_is fits =
    ap (field_value big field) is ∙ after_put-value big field given bytes placed (sym fit_is ∙ fits) ∙ same

pub left-others : (big : Bool) (field : Field) (given : ℤ) (bytes left : List ℕ) → IsPlaced (length bytes) field → left ≡ after_put big field given bytes → (place : ℕ) → (place < field.offset) ⊎ (field.offset + field.width ≤ place) → get_or left place 0 ≡ get_or bytes place 0
left-others big field given bytes left placed is place outside =
    ap (λ (list : List ℕ). get_or list place 0) is ∙ after_put-others big field given bytes placed place outside

-- a power is not 0
pub one-le : (width : ℕ) → 1 ≤ 256 ^ width
one-le width =
    let none : 0 ≤ width = omega arith in
    pow-le-pow_right (lit< tt) none

-- what a number stands for is in the range
pub is_in_range-value_of : (signed : Bool) (width number : ℕ) → 1 ≤ width → number < 256 ^ width → is_in_range signed width (value_of signed width number) ≡ true
is_in_range-value_of false width number some fits = lt-ltb number (256 ^ width) fits
is_in_range-value_of true zero number some fits = absurd (omega arith)
is_in_range-value_of true (suc less) number some fits =
    let even : 256 ^ suc less ≡ 2 * (128 * 256 ^ less) = omega arith in
    elim (nat_lt number (half (suc less))) as (λ b. nat_lt number (half (suc less)) ≡ b → is_in_range true (suc less) (if b then pos number else pos number -ℤ pos (256 ^ suc less)) ≡ true) [
      | true ↦ λ low. low
      | false ↦ λ high.
          let above : 256 ^ suc less / 2 ≤ number = ltb-false number (256 ^ suc less / 2) high in
          let negative : pos number -ℤ pos (256 ^ suc less) ≡ negsuc (256 ^ suc less - suc number) = omega (arith, ints) in
          let below : 256 ^ suc less - suc number < 256 ^ suc less / 2 = omega arith in
          rw negative (lt-ltb (256 ^ suc less - suc number) (256 ^ suc less / 2) below)
    ] refl

-- the same of what was written without a look at the range
pub written-value : (big : Bool) (field : Field) (value given : ℤ) (bytes left : List ℕ) → given ≡ value → IsPlaced (length bytes) field → left ≡ with_value big field given bytes → is_in_range field.signed field.width given ≡ true → field_value big field left ≡ value
written-value big field value given bytes left same placed is within =
    ap (field_value big field) is ∙ with_value-value big field given bytes placed within ∙ same

pub written-others : (big : Bool) (field : Field) (given : ℤ) (bytes left : List ℕ) → IsPlaced (length bytes) field → left ≡ with_value big field given bytes → (place : ℕ) → (place < field.offset) ⊎ (field.offset + field.width ≤ place) → get_or left place 0 ≡ get_or bytes place 0
written-others big field given bytes left placed is place outside =
    ap (λ (list : List ℕ). get_or list place 0) is ∙ with_value-others big field given bytes placed place outside

-- A number of some bytes, and a field of a structure.
use Rattle.std.specs.Prelude.{◌≡◌, ℕ, ◌+◌, ◌/◌, ◌-◌, ◌^◌, ◌≤◌, suc, Bool, true, false, List, ◌++◌, take, drop, slice_index, slice_index_or, ◌<◌, ◌⊎◌, nat_lt, ℤ, pos, negsuc, ◌-ℤ◌, unsigned_abs, if◌then◌else◌}
use Rattle.std.specs.Int.{int_rem_euclid}
use Rattle.byteorder.specs.Endian.{big_number, little_number, big_bytes, little_bytes}
use Rattle.layouts.specs.declared.field.Field.{Field}
use Rattle.layouts.specs.declared.field.Fit.{Fit}
use Rattle.layouts.specs.declared.field.Fit.TheVariants.{Fits, TooWide}

-- the number in the first bytes, as many as its width: the sum of each byte times a power of 256,
-- the first counting most (big) or least
abbrev pub unsigned : Bool → ℕ → List ℕ → ℕ
unsigned true width bytes = big_number width bytes
unsigned false width bytes = little_number width bytes

-- the bytes of a number
abbrev pub bytes_of : Bool → ℕ → ℕ → List ℕ
bytes_of true width number = big_bytes width number
bytes_of false width number = little_bytes width number

-- half of the numbers of this width: where the top bit alone is set
abbrev pub half : ℕ → ℕ
half width = 256 ^ width / 2

-- what a number is as a value: a signed one is less by 256 to its width where its top bit is set
abbrev pub value_of : Bool → ℕ → ℕ → ℤ
value_of true width number = if nat_lt number (half width) then pos number else pos number -ℤ pos (256 ^ width)
value_of false width number = pos number

-- the number that stands for a value: two's complement below 0
abbrev pub number_for : ℕ → ℤ → ℕ
number_for width (pos n) = n
number_for width (negsuc n) = 256 ^ width - suc n

-- the low bits of a value, as many as a number of this width has: the value modulo 256 to the width
abbrev pub low_number : ℕ → ℤ → ℕ
low_number width value = unsigned_abs (int_rem_euclid value (pos (256 ^ width)))

-- whether a value is in the range of a number of this width
abbrev pub is_in_range : Bool → ℕ → ℤ → Bool
is_in_range true width (pos n) = nat_lt n (half width)
is_in_range true width (negsuc n) = nat_lt n (half width)
is_in_range false width (pos n) = nat_lt n (256 ^ width)
is_in_range false width (negsuc n) = false

-- a field of a table by its place there
abbrev pub no_field : Field
no_field = record { offset = 0; width = 0; signed = false }

abbrev pub field_at : List Field → ℕ → Field
field_at fields place = slice_index_or fields place no_field

-- a field has 1 to 8 bytes, and they lie inside the structure
pub record IsPlaced (size : ℕ) (field : Field) : Type 0 where
  pub some : 1 ≤ field.width
  pub few : field.width ≤ 8
  pub inside : field.offset + field.width ≤ size

-- the value of a field
abbrev pub field_value : Bool → Field → List ℕ → ℤ
field_value big field bytes = value_of field.signed field.width (unsigned big field.width (drop field.offset bytes))

-- the bytes with a value in a field, and every other byte as it was
abbrev pub with_value : Bool → Field → ℤ → List ℕ → List ℕ
with_value big field value bytes =
    take field.offset bytes ++ bytes_of big field.width (number_for field.width value) ++ drop (field.offset + field.width) bytes

-- what a put answers and leaves
abbrev pub fit_of : Field → ℤ → Fit
fit_of field value = if is_in_range field.signed field.width value then Fits else TooWide

abbrev pub after_put : Bool → Field → ℤ → List ℕ → List ℕ
after_put big field value bytes =
    if is_in_range field.signed field.width value then with_value big field value bytes else bytes

-- what a field holds of a value that may be too wide for it: the low bits
abbrev pub low_value : Field → ℤ → ℤ
low_value field value = value_of field.signed field.width (low_number field.width value)

-- each byte outside a field is as it was
abbrev pub EachByteOutside : Field → List ℕ → List ℕ → Type 0
EachByteOutside field old new =
    (place : ℕ) → (place < field.offset) ⊎ (field.offset + field.width ≤ place) → slice_index new place ≡ slice_index old place

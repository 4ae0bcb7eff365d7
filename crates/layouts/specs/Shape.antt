-- The parts of a table of fields, and the bytes of a record.
use Rattle.std.specs.Prelude.{ℕ, ◌+◌, ◌≤◌, zero, suc, ◌⊎◌, Bool, true, false, ◌&&◌, if◌then◌else◌, List, [], ◌∷◌, ◌++◌, map, replicate, All, AllPairs, ℤ}
use Rattle.layouts.specs.Number.{IsPlaced, is_in_range, field_value, with_value}
use Rattle.layouts.specs.declared.field.Fit.{Fit}
use Rattle.layouts.specs.declared.field.Fit.TheVariants.{Fits, TooWide}
use Rattle.layouts.specs.declared.field.Field.{Field}
use Rattle.layouts.specs.declared.field.Layout.{Layout}

-- a structure's size in bytes, whether the first byte of a number counts most, and its fields
pub record Shape : Type 0 where
  pub size : ℕ
  pub big : Bool
  pub fields : List Field

abbrev pub shape : Layout → Shape
shape layout = record { size = layout.size; big = layout.big; fields = layout.fields.now }

-- a field of 1, 2, 4 or 8 bytes from a place on
abbrev pub byte : ℕ → Field
byte offset = record { offset = offset; width = 1; signed = false }

abbrev pub short : ℕ → Field
short offset = record { offset = offset; width = 2; signed = false }

abbrev pub word : ℕ → Field
word offset = record { offset = offset; width = 4; signed = false }

abbrev pub double : ℕ → Field
double offset = record { offset = offset; width = 8; signed = false }

-- the same, whose value may be below 0
abbrev pub signed : Field → Field
signed field = record field { signed = true }

-- this many fields of one kind, each where the one before ends
abbrev pub row : (ℕ → Field) → ℕ → ℕ → List Field
row kind zero offset = []
row kind (suc n) offset = kind offset ∷ row kind n (offset + (kind offset).width)

-- a text of 65 bytes, as eight numbers of 8 bytes and one of 1
abbrev pub text : ℕ → List Field
text offset = row double 8 offset ++ byte (offset + 64) ∷ []

-- the fields of a structure that lies inside another, from a place on
abbrev pub moved : ℕ → List Field → List Field
moved by fields = map (λ (field : Field). record field { offset = field.offset + by }) fields

-- two fields share no byte
abbrev pub AreApart : Field → Field → Type 0
AreApart one other = (one.offset + one.width ≤ other.offset) ⊎ (other.offset + other.width ≤ one.offset)

-- each field lies inside the structure, and no two share a byte
pub record IsSound (shape : Shape) : Type 0 where
  pub placed : All (IsPlaced shape.size) shape.fields
  pub apart : AllPairs AreApart shape.fields

-- some bytes with a value in each field, in order
abbrev pub with_values : Bool → List Field → List ℤ → List ℕ → List ℕ
with_values big [] values bytes = bytes
with_values big (field ∷ fields) [] bytes = bytes
with_values big (field ∷ fields) (value ∷ values) bytes = with_values big fields values (with_value big field value bytes)

-- the bytes of a record: each field's value in its place, and 0 elsewhere
abbrev pub record_bytes : Shape → List ℤ → List ℕ
record_bytes shape values = with_values shape.big shape.fields values (replicate shape.size 0)

-- the values that some bytes have in the fields of a structure
abbrev pub record_values : Shape → List ℕ → List ℤ
record_values shape bytes = map (λ (field : Field). field_value shape.big field bytes) shape.fields

-- whether each value is in its field's range
abbrev pub are_in_range : List Field → List ℤ → Bool
are_in_range [] values = true
are_in_range (field ∷ fields) [] = true
are_in_range (field ∷ fields) (value ∷ values) = is_in_range field.signed field.width value && are_in_range fields values

-- what a put of a whole record answers and leaves
abbrev pub record_fit : Shape → List ℤ → Fit
record_fit shape values = if are_in_range shape.fields values then Fits else TooWide

abbrev pub after_put_record : Shape → List ℤ → List ℕ → List ℕ
after_put_record shape values bytes = if are_in_range shape.fields values then record_bytes shape values else bytes

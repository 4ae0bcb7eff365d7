-- What is put into the fields of a structure reads back.
use Rattle.std.proofs.Common.{◌≡◌, ℕ, zero, suc, ◌+◌, ◌-◌, ◌*◌, ◌^◌, ◌<◌, ◌≤◌, Bool, true, false, List, [], ◌∷◌, ◌++◌, length, map, take, drop, get_or, ℤ, refl, sym, ap, subst, ◌∙◌, arith, ◌⊎◌, inl, inr, All, AllPairs, length-append, length-take, length-drop, add-one, drop-cons, pos}
use Rattle.std.specs.Prelude.{◌&&◌, replicate}
use Rattle.std.proofs.lemmas.List.{get_or-drop, length-replicate, at_drop_all, ext_get_or, get_or-map, length-map}
use Rattle.byteorder.specs.Endian.{big_from, little_from}
use Rattle.layouts.specs.declared.field.Field.{Field}
use Rattle.layouts.specs.Number.{IsPlaced, is_in_range, unsigned, bytes_of, value_of, number_for, field_value, with_value, no_field}
use Rattle.layouts.specs.Shape.{Shape, AreApart, IsSound, with_values, are_in_range, record_bytes, record_values}
use Rattle.layouts.proofs.Ranges.{with_value-value, with_value-others, length-bytes_of}

big_from-same : (n i : ℕ) (xs ys : List ℕ) → ((k : ℕ) → i ≤ k → k < i + n → get_or xs k 0 ≡ get_or ys k 0) → big_from i n xs ≡ big_from i n ys
big_from-same zero i xs ys same = refl
big_from-same (suc n) i xs ys same =
    let head : get_or xs i 0 ≡ get_or ys i 0 = same i (omega arith) (omega arith) in
    let more : big_from (suc i) n xs ≡ big_from (suc i) n ys = big_from-same n (suc i) xs ys (λ k low high. same k (omega arith) (omega arith)) in
    cc

little_from-same : (n i : ℕ) (xs ys : List ℕ) → ((k : ℕ) → i ≤ k → k < i + n → get_or xs k 0 ≡ get_or ys k 0) → little_from i n xs ≡ little_from i n ys
little_from-same zero i xs ys same = refl
little_from-same (suc n) i xs ys same =
    let head : get_or xs i 0 ≡ get_or ys i 0 = same i (omega arith) (omega arith) in
    let more : little_from (suc i) n xs ≡ little_from (suc i) n ys = little_from-same n (suc i) xs ys (λ k low high. same k (omega arith) (omega arith)) in
    cc

unsigned-same : (big : Bool) (width : ℕ) (xs ys : List ℕ) → ((k : ℕ) → k < width → get_or xs k 0 ≡ get_or ys k 0) → unsigned big width xs ≡ unsigned big width ys
unsigned-same true width xs ys same = big_from-same width 0 xs ys (λ k low high. same k (omega arith))
unsigned-same false width xs ys same = little_from-same width 0 xs ys (λ k low high. same k (omega arith))

-- a field's value is that of its own bytes
pub field_value-same : (big : Bool) (field : Field) (xs ys : List ℕ) → ((k : ℕ) → field.offset ≤ k → k < field.offset + field.width → get_or xs k 0 ≡ get_or ys k 0) → field_value big field xs ≡ field_value big field ys
field_value-same big field xs ys same =
    ap (value_of field.signed field.width) (unsigned-same big field.width (drop field.offset xs) (drop field.offset ys) (λ k below.
    get_or-drop field.offset xs k 0 ∙ same (field.offset + k) (omega arith) (omega arith) ∙ sym (get_or-drop field.offset ys k 0)))

outside : (field other : Field) → AreApart field other → (k : ℕ) → other.offset ≤ k → k < other.offset + other.width → (k < field.offset) ⊎ (field.offset + field.width ≤ k)
outside field other (inl before) k low high = inr (omega arith)
outside field other (inr behind) k low high = inl (omega arith)

field_value-apart : (big : Bool) (field other : Field) (value : ℤ) (bytes : List ℕ) → IsPlaced (length bytes) field → AreApart field other → field_value big other (with_value big field value bytes) ≡ field_value big other bytes
field_value-apart big field other value bytes placed apart =
    field_value-same big other (with_value big field value bytes) bytes (λ k low high.
    with_value-others big field value bytes placed k (outside field other apart k low high))

pub length-with_value : (big : Bool) (field : Field) (value : ℤ) (bytes : List ℕ) → IsPlaced (length bytes) field → length (with_value big field value bytes) ≡ length bytes
length-with_value big field value bytes placed =
    let middle = bytes_of big field.width (number_for field.width value) in
    let rest = drop (field.offset + field.width) bytes in
    let inside : field.offset + field.width ≤ length bytes = placed.inside in
    let front : length (take field.offset bytes) ≡ field.offset = omega (arith, length-take field.offset bytes) in
    let width : length middle ≡ field.width = length-bytes_of big field.width (number_for field.width value) in
    let before : length (take field.offset bytes ++ middle) ≡ length (take field.offset bytes) + length middle = length-append _ _ in
    let whole : length ((take field.offset bytes ++ middle) ++ rest) ≡ length (take field.offset bytes ++ middle) + length rest = length-append _ _ in
    omega (arith, length-drop (field.offset + field.width) bytes)

placed_in : (size : ℕ) (bytes : List ℕ) (field : Field) → length bytes ≡ size → IsPlaced size field → IsPlaced (length bytes) field
placed_in size bytes field whole placed = rw whole placed

head_of : (P : Field → Type 0) (field : Field) (fields : List Field) → All P (field ∷ fields) → P field
head_of P field fields all = all 0 no_field (omega arith)

tail_of : (P : Field → Type 0) (field : Field) (fields : List Field) → All P (field ∷ fields) → All P fields
tail_of P field fields all = λ k d below. all (suc k) d (omega arith)

-- values in other fields leave a field as it is
with_values-kept : (big : Bool) (size : ℕ) (other : Field) (fields : List Field) (values : List ℤ) (bytes : List ℕ) → length bytes ≡ size → All (IsPlaced size) fields → All (AreApart other) fields → field_value big other (with_values big fields values bytes) ≡ field_value big other bytes
with_values-kept big size other [] values bytes whole placed apart = refl
with_values-kept big size other (field ∷ fields) [] bytes whole placed apart = refl
with_values-kept big size other (field ∷ fields) (value ∷ values) bytes whole placed apart =
    let here = placed_in size bytes field whole (head_of (IsPlaced size) field fields placed) in
    let longer : length (with_value big field value bytes) ≡ size = length-with_value big field value bytes here ∙ whole in
    with_values-kept big size other fields values (with_value big field value bytes) longer (tail_of (IsPlaced size) field fields placed) (tail_of (AreApart other) field fields apart)
    ∙ field_value-apart big field other value bytes here (swapped other field (head_of (AreApart other) field fields apart))
  where
    swapped : (one other : Field) → AreApart one other → AreApart other one
    swapped one other (inl before) = inr before
    swapped one other (inr behind) = inl behind

both : (a b : Bool) → (a && b) ≡ true → (a ≡ true) × (b ≡ true)
both true b holds = (refl, holds)
both false b holds = cc

-- the fields have the values that were put into them
values-read_back : (big : Bool) (size : ℕ) (fields : List Field) (values : List ℤ) (bytes : List ℕ) → length bytes ≡ size → All (IsPlaced size) fields → AllPairs AreApart fields → length values ≡ length fields → are_in_range fields values ≡ true → map (λ (field : Field). field_value big field (with_values big fields values bytes)) fields ≡ values
values-read_back big size [] [] bytes whole placed apart count within = refl
values-read_back big size [] (value ∷ values) bytes whole placed apart count within = absurd (omega arith)
values-read_back big size (field ∷ fields) [] bytes whole placed apart count within = absurd (omega arith)
values-read_back big size (field ∷ fields) (value ∷ values) bytes whole placed apart count within =
    let here = placed_in size bytes field whole (head_of (IsPlaced size) field fields placed) in
    let longer : length (with_value big field value bytes) ≡ size = length-with_value big field value bytes here ∙ whole in
    let parts = both (is_in_range field.signed field.width value) (are_in_range fields values) within in
    let others : All (AreApart field) fields = λ k d below. apart 0 (suc k) d (omega arith) (omega arith) in
    let further : AllPairs AreApart fields = λ i j d before below. apart (suc i) (suc j) d (omega arith) (omega arith) in
    let first : field_value big field (with_values big fields values (with_value big field value bytes)) ≡ value =
    with_values-kept big size field fields values (with_value big field value bytes) longer (tail_of (IsPlaced size) field fields placed) others
    ∙ with_value-value big field value bytes here parts.0 in
    let more : map (λ (field' : Field). field_value big field' (with_values big fields values (with_value big field value bytes))) fields ≡ values =
    values-read_back big size fields values (with_value big field value bytes) longer (tail_of (IsPlaced size) field fields placed) further (omega arith) parts.1 in
    cc

-- reading back the bytes of a record gives the record
pub record_bytes-read_back : (shape : Shape) (values : List ℤ) → IsSound shape → length values ≡ length shape.fields → are_in_range shape.fields values ≡ true → record_values shape (record_bytes shape values) ≡ values
record_bytes-read_back shape values sound count within =
    values-read_back shape.big shape.size shape.fields values (replicate shape.size 0) (length-replicate {A = ℕ} shape.size 0) sound.placed sound.apart count within

-- one field more of a record that is looked at, written or read
passed-one : (a b : Bool) → a ≡ true → (a && b) ≡ b
passed-one true b holds = refl
passed-one false b holds = cc

failed-one : (a b : Bool) → a ≡ false → (a && b) ≡ false
failed-one true b holds = cc
failed-one false b holds = refl

pub are_in_range-step : (fields : List Field) (values : List ℤ) (place : ℕ) → place < length fields → place < length values → are_in_range (drop place fields) (drop place values) ≡ (is_in_range (get_or fields place no_field).signed (get_or fields place no_field).width (get_or values place (pos 0)) && are_in_range (drop (place + 1) fields) (drop (place + 1) values))
are_in_range-step fields values place below within =
    rw (add-one, drop-cons fields place no_field below, drop-cons values place (pos 0) within) refl

pub are_in_range-passed : (fields : List Field) (values : List ℤ) (place : ℕ) (whole : Bool) → place < length fields → place < length values → is_in_range (get_or fields place no_field).signed (get_or fields place no_field).width (get_or values place (pos 0)) ≡ true → are_in_range (drop place fields) (drop place values) ≡ whole → are_in_range (drop (place + 1) fields) (drop (place + 1) values) ≡ whole
are_in_range-passed fields values place whole below within passed so_far =
    sym (passed-one _ (are_in_range (drop (place + 1) fields) (drop (place + 1) values)) passed) ∙ sym (are_in_range-step fields values place below within) ∙ so_far

pub are_in_range-failed : (fields : List Field) (values : List ℤ) (place : ℕ) (whole : Bool) → place < length fields → place < length values → is_in_range (get_or fields place no_field).signed (get_or fields place no_field).width (get_or values place (pos 0)) ≡ false → are_in_range (drop place fields) (drop place values) ≡ whole → false ≡ whole
are_in_range-failed fields values place whole below within failed so_far =
    sym (failed-one _ (are_in_range (drop (place + 1) fields) (drop (place + 1) values)) failed) ∙ sym (are_in_range-step fields values place below within) ∙ so_far

pub are_in_range-parts : (fields : List Field) (values : List ℤ) (place : ℕ) → place < length fields → place < length values → are_in_range (drop place fields) (drop place values) ≡ true → (is_in_range (get_or fields place no_field).signed (get_or fields place no_field).width (get_or values place (pos 0)) ≡ true) × (are_in_range (drop (place + 1) fields) (drop (place + 1) values) ≡ true)
are_in_range-parts fields values place below within holds =
    both _ (are_in_range (drop (place + 1) fields) (drop (place + 1) values)) (sym (are_in_range-step fields values place below within) ∙ holds)

pub with_values-step : (big : Bool) (fields : List Field) (values : List ℤ) (place : ℕ) (bytes : List ℕ) → place < length fields → place < length values → with_values big (drop (place + 1) fields) (drop (place + 1) values) (with_value big (get_or fields place no_field) (get_or values place (pos 0)) bytes) ≡ with_values big (drop place fields) (drop place values) bytes
with_values-step big fields values place bytes below within =
    rw (add-one, drop-cons fields place no_field below, drop-cons values place (pos 0) within) refl

pub with_values-end : (big : Bool) (fields : List Field) (values : List ℤ) (place : ℕ) (bytes : List ℕ) → length fields ≤ place → with_values big (drop place fields) values bytes ≡ bytes
with_values-end big fields values place bytes past =
    at_drop_all (λ (left : List Field). with_values big left values bytes) fields place past

pub record_values-each : (shape : Shape) (bytes : List ℕ) (values : List ℤ) → length values ≡ length shape.fields → ((k : ℕ) → k < length values → get_or values k (pos 0) ≡ field_value shape.big (get_or shape.fields k no_field) bytes) → values ≡ record_values shape bytes
record_values-each shape bytes values count each =
    let value : Field → ℤ = λ (field : Field). field_value shape.big field bytes in
    ext_get_or (pos 0) values (map value shape.fields) (count ∙ sym (length-map shape.fields value)) (λ k below.
    each k below ∙ sym (get_or-map value shape.fields k no_field (pos 0) (omega arith)))

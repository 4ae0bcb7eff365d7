-- The size in a native status is read back, as far as its field holds it.
use Rattle.std.proofs.Common.{◌≡◌, ℕ, suc, ◌+◌, ◌/◌, ◌<◌, ◌≤◌, ◌%◌, ◌^◌, ◌⊎◌, List, [], ◌∷◌, ◌++◌, length, take, drop, All, Some, refl, ap, ◌∙◌, inl, inr, arith, append_assoc, append-nil, length-take, length-drop, lit≤, true, false, ℤ, pos}
use Rattle.std.proofs.lemmas.Bool.Decides.{nat_tests}
use Rattle.std.proofs.lemmas.List.{length-replicate}
use Rattle.std.proofs.Math.Seq.{drop-append_seam}
use Rattle.std.specs.Prelude.{replicate, option_map}
use Rattle.byteorder.specs.Endian.{little_number}
use Rattle.byteorder.specs.Numbers.{little_from-bytes, little_from-take}
use Rattle.host_mem.specs.Memory.{bytes_at, written, is_inside, first_address}
use Rattle.kernel_model.specs.ContentRows.{Status, status_owner, status_group, status_block_size}
use Rattle.kernel_core.specs.LoadedTree.{whole_seconds}
use Rattle.layouts.specs.Native.{little_endian}
use Rattle.layouts.specs.Number.{IsPlaced, bytes_of, field_value, with_value, no_field}
use Rattle.layouts.specs.Shape.{AreApart, IsSound, with_values, word, double, signed}
use Rattle.layouts.specs.declared.field.Field.{Field}
use Rattle.layouts.proofs.Ranges.{with_value-others}
use Rattle.layouts.proofs.RecordLaws.{field_value-same, length-with_value}
use Rattle.layouts.proofs.SoundTables.{sound_from_test}
use Rattle.native_calls.specs.Status.{status_bytes, part_of_second}
use Rattle.bridge_io.specs.inside.Rooms.{low_size}

-- A field keeps its value while others are written.

placed_in : (size : ℕ) (bytes : List ℕ) (field : Field) → length bytes ≡ size → IsPlaced size field → IsPlaced (length bytes) field
placed_in size bytes field whole placed = rw whole placed

head_of : (P : Field → Type 0) (field : Field) (fields : List Field) → All P (field ∷ fields) → P field
head_of P field fields all = all 0 no_field (omega arith)

tail_of : (P : Field → Type 0) (field : Field) (fields : List Field) → All P (field ∷ fields) → All P fields
tail_of P field fields all = λ k d below. all (suc k) d (omega arith)

length-with_values : (size : ℕ) (fields : List Field) (values : List ℤ) (bytes : List ℕ) → length bytes ≡ size → All (IsPlaced size) fields → length (with_values false fields values bytes) ≡ size
length-with_values size [] values bytes whole placed = whole
length-with_values size (field ∷ fields) [] bytes whole placed = whole
length-with_values size (field ∷ fields) (value ∷ values) bytes whole placed =
    length-with_values size fields values (with_value false field value bytes)
    (length-with_value false field value bytes (placed_in size bytes field whole (head_of (IsPlaced size) field fields placed)) ∙ whole) (tail_of (IsPlaced size) field fields placed)

outside : (field other : Field) → AreApart other field → (k : ℕ) → other.offset ≤ k → k < other.offset + other.width → (k < field.offset) ⊎ (field.offset + field.width ≤ k)
outside field other (inl before) k low high = inl (omega arith)
outside field other (inr behind) k low high = inr (omega arith)

kept : (size : ℕ) (other : Field) (fields : List Field) (values : List ℤ) (bytes : List ℕ) → length bytes ≡ size → All (IsPlaced size) fields → All (AreApart other) fields → field_value false other (with_values false fields values bytes) ≡ field_value false other bytes
kept size other [] values bytes whole placed apart = refl
kept size other (field ∷ fields) [] bytes whole placed apart = refl
kept size other (field ∷ fields) (value ∷ values) bytes whole placed apart =
    let here = placed_in size bytes field whole (head_of (IsPlaced size) field fields placed) in
    kept size other fields values (with_value false field value bytes) (length-with_value false field value bytes here ∙ whole) (tail_of (IsPlaced size) field fields placed) (tail_of (AreApart other) field fields apart)
    ∙ field_value-same false other (with_value false field value bytes) bytes (λ k low high.
    with_value-others false field value bytes here k (outside field other (head_of (AreApart other) field fields apart) k low high))

-- A number of 8 bytes is read back as its low 64 bits.

drop_front : (n : ℕ) (front rest : List ℕ) → length front ≡ n → drop n (front ++ rest) ≡ rest
drop_front n front rest is = rw (← is) (drop-append_seam front rest)

low_read : (offset number : ℕ) (bytes : List ℕ) → offset + 8 ≤ length bytes → field_value false (double offset) (with_value false (double offset) (pos number) bytes) ≡ pos (number % 2 ^ 64)
low_read offset number bytes inside =
    let front : length (take offset bytes) ≡ offset = omega (arith, length-take offset bytes) in
    let middle = bytes_of false 8 number in
    let rest = drop (offset + 8) bytes in
    let after : drop offset ((take offset bytes ++ middle) ++ rest) ≡ middle ++ rest = ap (drop offset) (append_assoc (take offset bytes) middle rest) ∙ drop_front offset (take offset bytes) (middle ++ rest) front in
    ap (λ (list : List ℕ). pos (little_number 8 list)) after ∙ ap pos (little_from-bytes 8 0 number rest ∙ whole number) where
      whole : (number : ℕ) → number / 256 ^ 0 % 256 ^ 8 ≡ number % 2 ^ 64
      whole number = omega arith

-- The size

size_field : Field
size_field = double 48

first_fields : List Field
first_fields = double 0 ∷ double 8 ∷ word 16 ∷ word 20 ∷ word 24 ∷ word 28 ∷ double 32 ∷ []

last_fields : List Field
last_fields = signed (double 72) ∷ double 80 ∷ signed (double 88) ∷ double 96 ∷ signed (double 104) ∷ double 112 ∷ word 56 ∷ double 64 ∷ []

abbrev first_values : Status → List ℤ
first_values status = pos status.device ∷ pos status.number ∷ pos status.mode ∷ pos status.links ∷ pos status_owner ∷ pos status_group ∷ pos status.terminal_device ∷ []

abbrev last_values : Status → List ℤ
last_values status =
    whole_seconds status.access ∷ part_of_second status.access
    ∷ whole_seconds status.modified ∷ part_of_second status.modified
    ∷ whole_seconds status.changed ∷ part_of_second status.changed
    ∷ pos status_block_size ∷ pos status.sectors ∷ []

abbrev before_size : Status → List ℕ
before_size status = with_values false first_fields (first_values status) (replicate 128 0)

split : (status : Status) → status_bytes status ≡ with_values false last_fields (last_values status) (with_value false size_field (pos status.size) (before_size status))
unfolding first_fields last_fields size_field
split status = refl

first_sound : IsSound (little_endian 128 first_fields)
unfolding first_fields
first_sound = sound_from_test (little_endian 128 first_fields) refl

last_sound : IsSound (little_endian 128 (size_field ∷ last_fields))
unfolding last_fields size_field
last_sound = sound_from_test (little_endian 128 (size_field ∷ last_fields)) refl

length-before : (status : Status) → length (before_size status) ≡ 128
length-before status = length-with_values 128 first_fields (first_values status) (replicate 128 0) (length-replicate {A = ℕ} 128 0) first_sound.placed

length-sized : (status : Status) → length (with_value false size_field (pos status.size) (before_size status)) ≡ 128
unfolding size_field
length-sized status = length-with_value false (double 48) (pos status.size) (before_size status) (placed_in 128 (before_size status) (double 48) (length-before status) (record { some = lit≤ tt; few = lit≤ tt; inside = lit≤ tt })) ∙ length-before status

pub length-status : (status : Status) → length (status_bytes status) ≡ 128
length-status status =
    ap length (split status)
    ∙ length-with_values 128 last_fields (last_values status) _ (length-sized status) (tail_of (IsPlaced 128) size_field last_fields last_sound.placed)

size_read : (status : Status) → field_value false size_field (status_bytes status) ≡ pos (low_size status)
unfolding size_field
size_read status =
    let apart : All (AreApart size_field) last_fields = λ k d below. last_sound.apart 0 (suc k) d (omega arith) (omega arith) in
    ap (field_value false size_field) (split status)
    ∙ kept 128 size_field last_fields (last_values status) _ (length-sized status) (tail_of (IsPlaced 128) size_field last_fields last_sound.placed) apart
    ∙ low_read 48 status.size (before_size status) (omega (arith, length-before status))

pos_is : (m n : ℕ) → pos m ≡ pos n → m ≡ n
pos_is m n same = cc

size_number : (status : Status) → little_number 8 (drop 48 (status_bytes status)) ≡ low_size status
unfolding size_field
size_number status = pos_is _ _ (size_read status)

-- Host memory of just a status

written_whole : (room bytes : List ℕ) → length room ≡ 128 → length bytes ≡ 128 → written room first_address bytes ≡ bytes
written_whole room bytes is long =
    let inside : is_inside room first_address (length bytes) ≡ true = grind (arith, nat_tests) in
    let none : length (drop (length bytes) room) ≡ 0 = omega (arith, length-drop (length bytes) room) in
    let nothing : drop (length bytes) room ≡ [] = empty _ none in
    rw inside (ap (λ (list : List ℕ). bytes ++ list) (starts (length bytes) ∙ nothing) ∙ append-nil bytes) where
      empty : (list : List ℕ) → length list ≡ 0 → list ≡ []
      empty [] none = refl
      empty (byte ∷ list) none = absurd (omega arith)

      starts : (n : ℕ) → drop (0 + n) room ≡ drop n room
      starts n = let same : 0 + n ≡ n = omega arith in ap (λ (k : ℕ). drop k room) same

bytes_there : (memory : List ℕ) → length memory ≡ 128 → bytes_at memory 65584 8 ≡ Some (take 8 (drop 48 memory))
bytes_there memory long =
    let inside : is_inside memory 65584 8 ≡ true = grind (arith, nat_tests) in rw inside refl

pub size_told : (status : Status) (room : List ℕ) → length room ≡ 128 → option_map (little_number 8) (bytes_at (written room first_address (status_bytes status)) 65584 8) ≡ Some (low_size status)
size_told status room long =
    ap (λ (memory : List ℕ). option_map (little_number 8) (bytes_at memory 65584 8)) (written_whole room (status_bytes status) long (length-status status))
    ∙ ap (option_map (little_number 8)) (bytes_there (status_bytes status) (length-status status))
    ∙ ap Some (little_from-take 0 8 8 (drop 48 (status_bytes status)) (lit≤ tt) ∙ size_number status)

-- A native status as a structure of the program has the bytes that the program's own has.
use Rattle.std.proofs.Common.{◌≡◌, ℕ, suc, ◌+◌, ◌-◌, ◌*◌, ◌/◌, ◌≤◌, ◌<◌, ◌^◌, ◌%◌, List, [], ◌∷◌, ◌++◌, length, take, drop, refl, sym, ap, ◌∙◌, arith, add-one, drop-cons}
use Rattle.std.proofs.lemmas.Int.{ints}
use Rattle.std.proofs.lemmas.List.{at_drop_all, length-drop, take_all}
use Rattle.std.specs.Prelude.{ℤ, pos, negsuc, ◌-ℤ◌, ◌≤ℤ◌, ◌<ℤ◌, neg_ℤ, Bool, true, false, nat_lt, replicate, if◌then◌else◌}
use Rattle.byteorder.specs.Endian.{little_number}
use Rattle.byteorder.specs.Numbers.{little_from-bytes}
use Rattle.kernel_core.specs.FileSystem.{IsTime}
use Rattle.kernel_core.specs.LoadedTree.{whole_seconds}
use Rattle.kernel_model.specs.ContentRows.{Status}
use Rattle.layouts.specs.Native as native
use Rattle.layouts.specs.Number.{bytes_of, field_at, no_field, number_for, with_value}
use Rattle.layouts.specs.O32 as o32
use Rattle.layouts.specs.Shape.{with_values}
use Rattle.layouts.specs.declared.field.Field.{Field}
use Rattle.native_calls.specs.Status as native_status
use Rattle.o32_model.specs.Narrow.{low_word}
use Rattle.o32_model.specs.Status as o32_status
use Rattle.o32_model.specs.Status.{part_of_second}
use Rattle.bridge_status.specs.inside.Statuses.{low_bytes, shown, with_low_bytes}

-- some bytes with the low ones of a native number, which begins at a place, in a field
abbrev pub with_low_bytes_at : Field → ℕ → List ℕ → List ℕ → List ℕ
with_low_bytes_at field from status bytes = take field.offset bytes ++ low_bytes field (drop from status) ++ drop (field.offset + field.width) bytes

-- the part of a list from a place on is all that is there
pub whole_rest : (from : ℕ) (bytes : List ℕ) → take (length bytes - from) (drop from bytes) ≡ drop from bytes
whole_rest from bytes = take_all (length bytes - from) (drop from bytes) (omega (arith, length-drop from bytes))

-- one field more
pub low_step : (fields natives : List Field) (place : ℕ) (status bytes : List ℕ) → place < length fields → place < length natives
    → with_low_bytes (drop (place + 1) fields) (drop (place + 1) natives) status
    (with_low_bytes_at (field_at fields place) (field_at natives place).offset status bytes)
    ≡ with_low_bytes (drop place fields) (drop place natives) status bytes
low_step fields natives place status bytes below within =
    rw (add-one, drop-cons fields place no_field below, drop-cons natives place no_field within) refl

pub low_end : (fields natives : List Field) (place : ℕ) (status bytes : List ℕ) → length fields ≤ place → with_low_bytes (drop place fields) natives status bytes ≡ bytes
low_end fields natives place status bytes past = at_drop_all (λ (left : List Field). with_low_bytes left natives status bytes) fields place past

-- The fields one by one

-- each field has the bytes of its value
abbrev AreShown : List Field → List Field → List ℤ → List ℕ → Type 0
AreShown [] natives values status = Unit {0}
AreShown (field ∷ fields) [] values status = Unit {0}
AreShown (field ∷ fields) (twin ∷ natives) [] status = Unit {0}
AreShown (field ∷ fields) (twin ∷ natives) (value ∷ values) status =
    (low_bytes field (drop twin.offset status) ≡ bytes_of true field.width (number_for field.width value)) × AreShown fields natives values status

shown_all : (fields natives : List Field) (values : List ℤ) (status bytes : List ℕ) → length natives ≡ length fields → length values ≡ length fields → AreShown fields natives values status
    → with_low_bytes fields natives status bytes ≡ with_values true fields values bytes
shown_all [] natives values status bytes twins one_each are = refl
shown_all (field ∷ fields) [] values status bytes twins one_each are = absurd (omega arith)
shown_all (field ∷ fields) (twin ∷ natives) [] status bytes twins one_each are = absurd (omega arith)
shown_all (field ∷ fields) (twin ∷ natives) (value ∷ values) status bytes twins one_each are =
    ap (λ (part : List ℕ). with_low_bytes fields natives status (take field.offset bytes ++ part ++ drop (field.offset + field.width) bytes)) are.0
    ∙ shown_all fields natives values status (with_value true field value bytes) (omega arith) (omega arith) are.1

-- Numbers: the low bytes of one of four and of one of eight bytes

byte4_0 : (n : ℕ) → n % 2 ^ 32 % 256 ≡ n % 256
byte4_0 n = omega arith

byte4_1 : (n : ℕ) → n % 2 ^ 32 / 256 ^ 1 % 256 ≡ n / 256 ^ 1 % 256
byte4_1 n = omega arith

byte4_2 : (n : ℕ) → n % 2 ^ 32 / 256 ^ 2 % 256 ≡ n / 256 ^ 2 % 256
byte4_2 n = omega arith

byte4_3 : (n : ℕ) → n % 2 ^ 32 / 256 ^ 3 % 256 ≡ n / 256 ^ 3 % 256
byte4_3 n = omega arith

four_low : (n : ℕ) → bytes_of true 4 (n % 2 ^ 32) ≡ bytes_of true 4 n
four_low n = λ i. byte4_3 n i ∷ byte4_2 n i ∷ byte4_1 n i ∷ byte4_0 n i ∷ []

byte8_0 : (n : ℕ) → n % 2 ^ 64 % 256 ≡ n % 256
byte8_0 n = omega arith

byte8_1 : (n : ℕ) → n % 2 ^ 64 / 256 ^ 1 % 256 ≡ n / 256 ^ 1 % 256
byte8_1 n = omega arith

byte8_2 : (n : ℕ) → n % 2 ^ 64 / 256 ^ 2 % 256 ≡ n / 256 ^ 2 % 256
byte8_2 n = omega arith

byte8_3 : (n : ℕ) → n % 2 ^ 64 / 256 ^ 3 % 256 ≡ n / 256 ^ 3 % 256
byte8_3 n = omega arith

byte8_4 : (n : ℕ) → n % 2 ^ 64 / 256 ^ 4 % 256 ≡ n / 256 ^ 4 % 256
byte8_4 n = omega arith

byte8_5 : (n : ℕ) → n % 2 ^ 64 / 256 ^ 5 % 256 ≡ n / 256 ^ 5 % 256
byte8_5 n = omega arith

byte8_6 : (n : ℕ) → n % 2 ^ 64 / 256 ^ 6 % 256 ≡ n / 256 ^ 6 % 256
byte8_6 n = omega arith

byte8_7 : (n : ℕ) → n % 2 ^ 64 / 256 ^ 7 % 256 ≡ n / 256 ^ 7 % 256
byte8_7 n = omega arith

eight_low : (n : ℕ) → bytes_of true 8 (n % 2 ^ 64) ≡ bytes_of true 8 n
eight_low n = λ i. byte8_7 n i ∷ byte8_6 n i ∷ byte8_5 n i ∷ byte8_4 n i ∷ byte8_3 n i ∷ byte8_2 n i ∷ byte8_1 n i ∷ byte8_0 n i ∷ []

low4 : (n : ℕ) → n / 256 ^ 0 % 256 ^ 4 ≡ n % 2 ^ 32
low4 n = omega arith

low8 : (n : ℕ) → n / 256 ^ 0 % 256 ^ 8 ≡ n % 2 ^ 64
low8 n = omega arith

number4 : (n : ℕ) → little_number 4 (bytes_of false 4 n) ≡ n % 2 ^ 32
number4 n = little_from-bytes 4 0 n [] ∙ low4 n

pub number8 : (n : ℕ) → little_number 8 (bytes_of false 8 n) ≡ n % 2 ^ 64
number8 n = little_from-bytes 8 0 n [] ∙ low8 n

word_shown : (n : ℕ) → bytes_of true 4 (little_number 4 (bytes_of false 4 n)) ≡ bytes_of true 4 n
word_shown n = ap (bytes_of true 4) (number4 n) ∙ four_low n

double_shown : (n : ℕ) → bytes_of true 8 (little_number 8 (bytes_of false 8 n)) ≡ bytes_of true 8 n
double_shown n = ap (bytes_of true 8) (number8 n) ∙ eight_low n

-- Times: the low 32 bits of whole seconds of 64, and the nanoseconds past them

number_back : (m : ℕ) (low : Bool) → m < 2 ^ 32 → nat_lt m (2 ^ 31) ≡ low → number_for 4 (if low then pos m else pos m -ℤ pos (2 ^ 32)) ≡ m
number_back m true fits is = refl
number_back m false fits is =
    let negative : pos m -ℤ pos (2 ^ 32) ≡ negsuc (2 ^ 32 - suc m) = omega (arith, ints) in
    ap (number_for 4) negative ∙ omega arith

-- seconds that 64 bits hold
abbrev AreSeconds : ℤ → Type 0
AreSeconds seconds = (neg_ℤ (pos (2 ^ 63)) ≤ℤ seconds) × (seconds <ℤ pos (2 ^ 63))

low_seconds : (seconds : ℤ) → AreSeconds seconds → number_for 4 (low_word seconds) ≡ number_for 8 seconds % 2 ^ 32
low_seconds (pos n) fits = number_back (n % 2 ^ 32) (nat_lt (n % 2 ^ 32) (2 ^ 31)) (omega arith) refl
low_seconds (negsuc n) fits =
    let lower = fits.0 in
    let below : n < 2 ^ 63 = omega (arith, ints) in
    let low : 2 ^ 32 - 1 - n % 2 ^ 32 < 2 ^ 32 = omega arith in
    number_back (2 ^ 32 - 1 - n % 2 ^ 32) (nat_lt (2 ^ 32 - 1 - n % 2 ^ 32) (2 ^ 31)) low refl ∙ omega arith

seconds_of : (time : ℤ) → IsTime time → AreSeconds (whole_seconds time)
seconds_of (pos n) is = (omega (arith, ints), let upper = is.1 in let below : n < 2 ^ 63 * 1_000_000_000 = omega (arith, ints) in omega (arith, ints))
seconds_of (negsuc n) is = (let lower = is.0 in let below : n < 2 ^ 63 * 1_000_000_000 = omega (arith, ints) in omega (arith, ints), omega (arith, ints))

seconds_shown : (time : ℤ) → IsTime time → bytes_of true 4 (little_number 4 (bytes_of false 4 (number_for 8 (whole_seconds time)))) ≡ bytes_of true 4 (number_for 4 (low_word (whole_seconds time)))
seconds_shown time is = ap (bytes_of true 4) (number4 (number_for 8 (whole_seconds time)) ∙ sym (low_seconds (whole_seconds time) (seconds_of time is)))

part_same : (time : ℤ) → number_for 8 (part_of_second time) ≡ number_for 4 (part_of_second time)
part_same (pos n) = refl
part_same (negsuc n) = refl

part_shown : (time : ℤ) → bytes_of true 4 (little_number 4 (bytes_of false 4 (number_for 8 (part_of_second time)))) ≡ bytes_of true 4 (number_for 4 (part_of_second time))
part_shown time = word_shown (number_for 8 (part_of_second time)) ∙ ap (bytes_of true 4) (part_same time)

-- The structures

-- times that a file system keeps
pub record AreTimes (s : Status) : Type 0 where
  pub access : IsTime s.access
  pub modified : IsTime s.modified
  pub changed : IsTime s.changed

wide_are : (s : Status) → AreTimes s → AreShown o32.stat64.fields native.stat.fields (o32_status.status_values s) (native_status.status_bytes s)
wide_are s times = (
  word_shown s.device,
  (
    double_shown s.number,
    (
      word_shown s.mode,
      (
        word_shown s.links,
        (
          refl,
          (
            refl,
            (
              word_shown s.terminal_device,
              (
                double_shown s.size,
                (
                  seconds_shown s.access times.access,
                  (
                    part_shown s.access,
                    (
                      seconds_shown s.modified times.modified,
                      (
                        part_shown s.modified,
                        (seconds_shown s.changed times.changed, (part_shown s.changed, (refl, (double_shown s.sectors, tt)))),
                      ),
                    ),
                  ),
                ),
              ),
            ),
          ),
        ),
      ),
    ),
  ),
)

old_are : (s : Status) → AreTimes s → AreShown o32.stat.fields native.stat.fields (o32_status.status_values s) (native_status.status_bytes s)
old_are s times = (
  word_shown s.device,
  (
    word_shown s.number,
    (
      word_shown s.mode,
      (
        word_shown s.links,
        (
          refl,
          (
            refl,
            (
              word_shown s.terminal_device,
              (
                word_shown s.size,
                (
                  seconds_shown s.access times.access,
                  (
                    part_shown s.access,
                    (
                      seconds_shown s.modified times.modified,
                      (
                        part_shown s.modified,
                        (seconds_shown s.changed times.changed, (part_shown s.changed, (refl, (word_shown s.sectors, tt)))),
                      ),
                    ),
                  ),
                ),
              ),
            ),
          ),
        ),
      ),
    ),
  ),
)

pub wide_same : (s : Status) → AreTimes s → shown o32.stat64 (native_status.status_bytes s) ≡ o32_status.status64_bytes s
unfolding shown
wide_same s times = shown_all o32.stat64.fields native.stat.fields (o32_status.status_values s) (native_status.status_bytes s) (replicate 104 0) refl refl (wide_are s times)

pub old_same : (s : Status) → AreTimes s → shown o32.stat (native_status.status_bytes s) ≡ o32_status.status_bytes s
unfolding shown
old_same s times = shown_all o32.stat.fields native.stat.fields (o32_status.status_values s) (native_status.status_bytes s) (replicate 144 0) refl refl (old_are s times)

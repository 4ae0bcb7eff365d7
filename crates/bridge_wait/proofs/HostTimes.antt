-- Times in host memory.
use Rattle.std.proofs.Common.{◌≡◌, ℕ, ℤ, pos, negsuc, ◌<◌, Bool, true, List, [], ◌∷◌, ◌++◌, length, take, Some, None, Ok, refl, sym, ap, ◌∙◌, subst, arith, if◌then◌else◌}
use Rattle.std.specs.Prelude.{IsTrue}
use lib.Signed.{mag}
use Rattle.std.proofs.Math.Seq.{take-length}
use Rattle.std.proofs.lemmas.Bool.Decides.{nat_tests}
use Rattle.std.proofs.lemmas.Int.{ints}
use Rattle.host_mem.specs.Memory.{bytes_at, end_address, is_inside, padded}
use Rattle.kernel_model.specs.declared.time.TimeSpec.{TimeSpec}
use Rattle.layouts.specs.Native.{time}
use Rattle.layouts.specs.Number.{is_in_range}
use Rattle.layouts.specs.Shape.{Shape, IsSound, after_put_record, are_in_range, record_bytes, record_values}
use Rattle.native_calls.specs.HostBytes.{given, read_as}
use Rattle.native_calls.specs.Times.{time_at, time_in, time_of}

in_range : (z : ℤ) → mag z < 9223372036854775808 → is_in_range true 8 z ≡ true
in_range (pos n) fits = let small : n < 9223372036854775808 = omega (arith, ints, fits) in grind (arith, nat_tests)
in_range (negsuc n) fits = let small : n < 9223372036854775808 = omega (arith, ints, fits) in grind (arith, nat_tests)

abbrev ReadsBack : Type 0
ReadsBack = (shape : Shape) (values : List ℤ) → IsSound shape → length values ≡ length shape.fields → IsTrue (are_in_range shape.fields values) → record_values shape (record_bytes shape values) ≡ values

abbrev pub told : ℤ → ℤ → TimeSpec
told seconds nanoseconds = record { seconds = seconds; nanoseconds = nanoseconds }

-- what was written of a time is that time
pub time_written : (shape : Shape) (old bytes : List ℕ) (first second seconds nanoseconds : ℤ) → shape ≡ time → IsSound shape → first ≡ seconds → second ≡ nanoseconds
    → mag seconds < 9223372036854775808 → mag nanoseconds < 9223372036854775808 → ReadsBack → bytes ≡ after_put_record shape (first ∷ second ∷ []) old
    → time_in bytes ≡ told seconds nanoseconds
time_written shape old bytes first second seconds nanoseconds same sound one other seconds_fit nanoseconds_fit reads written =
    let values : List ℤ = seconds ∷ nanoseconds ∷ [] in
    let fits : are_in_range time.fields values ≡ true = rw (in_range seconds seconds_fit, in_range nanoseconds nanoseconds_fit) refl in
    let here : IsSound time = subst IsSound same sound in
    let put : bytes ≡ record_bytes time values =
    written ∙ ap (λ (s : Shape). after_put_record s (first ∷ second ∷ []) old) same
    ∙ ap (λ (z : ℤ). after_put_record time (z ∷ second ∷ []) old) one ∙ ap (λ (z : ℤ). after_put_record time (seconds ∷ z ∷ []) old) other
    ∙ ap (λ (b : Bool). if b then record_bytes time values else old) fits in
    ap time_in put ∙ ap time_of (reads time values here refl fits)

inside : (native : List ℕ) → length native ≡ 16 → is_inside native 65536 16 ≡ true
inside native whole = grind (arith, nat_tests)

-- a time that was pushed onto empty host memory
pub time_pushed : (memory native : List ℕ) (place : ℕ) (value : TimeSpec) → length native ≡ 16 → memory ≡ padded [] ++ native → place ≡ end_address (padded []) → time_in native ≡ value
    → time_at memory place ≡ Ok value
time_pushed memory native place value whole pushed at is =
    let there : bytes_at native 65536 16 ≡ Some native =
    ap (λ (b : Bool). if b then Some (take 16 native) else None) (inside native whole)
    ∙ ap (λ (n : ℕ). Some (take n native)) (sym whole) ∙ ap (λ (t : List ℕ). Some t) (take-length native) in
    ap (λ (m : List ℕ). time_at m place) pushed ∙ ap (λ (n : ℕ). time_at native n) at
    ∙ ap (λ o. read_as time_in (given o)) there ∙ ap (λ (t : TimeSpec). Ok t) is

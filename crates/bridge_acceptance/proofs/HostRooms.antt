-- What is put into host memory for the call: a set, and a time behind it.
use Rattle.std.proofs.Common.{◌≡◌, ℕ, ◌+◌, ◌-◌, ◌%◌, ℤ, pos, negsuc, ◌<◌, Bool, true, List, [], ◌∷◌, ◌++◌, length, take, drop, replicate, Option, Some, None, Ok, refl, sym, ap, ◌∙◌, subst, arith, append-nil, length-append, if◌then◌else◌}
use Rattle.std.specs.Prelude.{IsTrue, Err, OnOk, Result}
use lib.Signed.{mag}
use Rattle.std.proofs.Math.Seq.{take-append_seam, take-length}
use Rattle.std.proofs.lemmas.Bool.Decides.{nat_tests}
use Rattle.std.proofs.lemmas.Int.{ints}
use Rattle.std.proofs.lemmas.List.{drop_at}
use Rattle.host_mem.specs.Memory.{bytes_at, end_address, is_inside, padded}
use Rattle.kernel_core.specs.declared.core_error.NoMemory.{NoMemory}
use Rattle.kernel_model.specs.Always.{IsSet}
use Rattle.kernel_model.specs.SignalSets.{SignalSet}
use Rattle.kernel_model.specs.declared.time.TimeSpec.{TimeSpec}
use Rattle.layouts.specs.Native.{time}
use Rattle.layouts.specs.Number.{is_in_range}
use Rattle.layouts.specs.Shape.{Shape, IsSound, after_put_record, are_in_range, record_bytes, record_values}
use Rattle.native_calls.specs.HostBytes.{given, read_as, unless_null}
use Rattle.native_calls.specs.SignalBytes.{set_at, set_bytes, set_in}
use Rattle.native_calls.specs.Times.{time_at, time_in, time_of}
use Rattle.bridge_signal_state.proofs.Rooms.{length-set_bytes, own_bytes, set_back}

in_range : (z : ℤ) → mag z < 9223372036854775808 → is_in_range true 8 z ≡ true
in_range (pos n) fits = let small : n < 9223372036854775808 = omega (arith, ints, fits) in grind (arith, nat_tests)
in_range (negsuc n) fits = let small : n < 9223372036854775808 = omega (arith, ints, fits) in grind (arith, nat_tests)

abbrev ReadsBack : Type 0
ReadsBack = (shape : Shape) (values : List ℤ) → IsSound shape → length values ≡ length shape.fields → IsTrue (are_in_range shape.fields values) → record_values shape (record_bytes shape values) ≡ values

abbrev pub told : ℤ → ℤ → TimeSpec
told seconds nanoseconds = record { seconds = seconds; nanoseconds = nanoseconds }

-- what was written of a time is that time
pub time_written : (shape : Shape) (old bytes : List ℕ) (first second seconds nanoseconds : ℤ) → shape ≡ time → IsSound shape → first ≡ seconds → second ≡ nanoseconds
    → mag seconds < 9223372036854775808 → mag nanoseconds < 9223372036854775808 → ReadsBack → bytes ≡ after_put_record shape (first ∷ second ∷ []) old
    → time_in bytes ≡ told seconds nanoseconds
time_written shape old bytes first second seconds nanoseconds same sound one other seconds_fit nanoseconds_fit reads written =
    let values : List ℤ = seconds ∷ nanoseconds ∷ [] in
    let fits : are_in_range time.fields values ≡ true = rw (in_range seconds seconds_fit, in_range nanoseconds nanoseconds_fit) refl in
    let here : IsSound time = subst IsSound same sound in
    let put : bytes ≡ record_bytes time values =
    written ∙ ap (λ (s : Shape). after_put_record s (first ∷ second ∷ []) old) same
    ∙ ap (λ (z : ℤ). after_put_record time (z ∷ second ∷ []) old) one ∙ ap (λ (z : ℤ). after_put_record time (seconds ∷ z ∷ []) old) other
    ∙ ap (λ (b : Bool). if b then record_bytes time values else old) fits in
    ap time_in put ∙ ap time_of (reads time values here refl fits)

-- a set alone
pub set_alone : (memory : List ℕ) (set : SignalSet) → memory ≡ set_bytes set → IsSet set → set_at memory 65536 ≡ Ok set
set_alone memory set put is =
    ap (λ (m : List ℕ). set_at m 65536) put
    ∙ ap (λ (found : Option (List ℕ)). read_as set_in (given found)) (own_bytes 16 (set_bytes set) (length-set_bytes set))
    ∙ ap (λ (s : SignalSet). Ok s) (set_back set is)

-- and one that stands there with something behind it
pub set_before : (memory old : List ℕ) (set : SignalSet) → bytes_at memory 65536 16 ≡ Some old → old ≡ set_bytes set → IsSet set → set_at memory 65536 ≡ Ok set
set_before memory old set there put is =
    ap (λ (found : Option (List ℕ)). read_as set_in (given found)) (there ∙ ap (λ (l : List ℕ). Some l) put)
    ∙ ap (λ (s : SignalSet). Ok s) (set_back set is)

pub length_put : (memory : List ℕ) (set : SignalSet) → memory ≡ set_bytes set → length memory ≡ 16
length_put memory set put = ap (λ (m : List ℕ). length m) put ∙ length-set_bytes set

-- What is pushed behind 16 bytes

no_padding : (old : List ℕ) → length old ≡ 16 → padded old ≡ old
no_padding old whole = ap (λ (n : ℕ). old ++ replicate ((8 - n % 8) % 8) 0) whole ∙ append-nil old

inside_first : (old native : List ℕ) → length old ≡ 16 → is_inside (old ++ native) 65536 16 ≡ true
inside_first old native whole =
    let all : length (old ++ native) ≡ length old + length native = length-append old native in
    grind (arith, nat_tests)

pub first_there : (memory old native : List ℕ) → length old ≡ 16 → memory ≡ padded old ++ native → bytes_at memory 65536 16 ≡ Some old
first_there memory old native whole put =
    ap (λ (m : List ℕ). bytes_at m 65536 16) (put ∙ ap (λ (m : List ℕ). m ++ native) (no_padding old whole))
    ∙ ap (λ (b : Bool). if b then Some (take 16 (old ++ native)) else None) (inside_first old native whole)
    ∙ ap (λ (n : ℕ). Some (take n (old ++ native))) (sym whole) ∙ ap (λ (l : List ℕ). Some l) (take-append_seam old native)

inside_second : (old native : List ℕ) → length old ≡ 16 → length native ≡ 16 → is_inside (old ++ native) 65552 16 ≡ true
inside_second old native whole sized =
    let all : length (old ++ native) ≡ length old + length native = length-append old native in
    grind (arith, nat_tests)

second_bytes : (old native : List ℕ) → length old ≡ 16 → length native ≡ 16 → bytes_at (old ++ native) 65552 16 ≡ Some native
second_bytes old native whole sized =
    ap (λ (b : Bool). if b then Some (take 16 (drop 16 (old ++ native))) else None) (inside_second old native whole sized)
    ∙ ap (λ (l : List ℕ). Some (take 16 l)) (drop_at old native 16 whole)
    ∙ ap (λ (n : ℕ). Some (take n native)) (sym sized) ∙ ap (λ (l : List ℕ). Some l) (take-length native)

end_is : (old : List ℕ) → length old ≡ 16 → end_address (padded old) ≡ 65552
end_is old whole = ap end_address (no_padding old whole) ∙ ap (λ (n : ℕ). 65536 + n) whole

pub time_pushed : (memory old native : List ℕ) (place : ℕ) (value : TimeSpec) → length old ≡ 16 → length native ≡ 16 → memory ≡ padded old ++ native → place ≡ end_address (padded old) → time_in native ≡ value
    → unless_null place (time_at memory place) ≡ Some (Ok value)
time_pushed memory old native place value whole sized put at is =
    ap (λ (n : ℕ). unless_null n (time_at memory n)) (at ∙ end_is old whole)
    ∙ ap (λ (m : List ℕ). unless_null 65552 (time_at m 65552)) (put ∙ ap (λ (m : List ℕ). m ++ native) (no_padding old whole))
    ∙ ap (λ (found : Option (List ℕ)). unless_null 65552 (read_as time_in (given found))) (second_bytes old native whole sized)
    ∙ ap (λ (t : TimeSpec). Some (Ok t)) is

pub put_behind : (result : Result ℕ NoMemory) (memory old : List ℕ) (set : SignalSet) → old ≡ set_bytes set → IsSet set → OnOk result (bytes_at memory 65536 16 ≡ Some old) → OnOk result (set_at memory 65536 ≡ Ok set)
put_behind (Ok place) memory old set put is there = set_before memory old set there put is
put_behind (Err error) memory old set put is there = tt

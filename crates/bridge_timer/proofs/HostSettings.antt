-- Settings in host memory.
use Rattle.std.proofs.Common.{◌≡◌, ℕ, ℤ, pos, negsuc, ◌<◌, Bool, true, List, [], ◌∷◌, ◌++◌, length, take, Some, None, Ok, refl, sym, ap, ◌∙◌, subst, arith, if◌then◌else◌}
use Rattle.std.specs.Prelude.{IsTrue}
use lib.Signed.{mag}
use Rattle.std.proofs.Math.Seq.{take-length}
use Rattle.std.proofs.lemmas.Bool.Decides.{nat_tests}
use Rattle.std.proofs.lemmas.Int.{ints}
use Rattle.host_mem.specs.Memory.{bytes_at, end_address, is_inside, padded}
use Rattle.kernel_model.specs.Clock.{TimerSetting}
use Rattle.layouts.specs.Native.{itimerval}
use Rattle.layouts.specs.Number.{is_in_range}
use Rattle.layouts.specs.Shape.{Shape, IsSound, after_put_record, are_in_range, record_bytes, record_values}
use Rattle.native_calls.specs.Clocks.{setting_at, setting_in, setting_of}
use Rattle.native_calls.specs.HostBytes.{given, read_as, unless_null}

in_range : (z : ℤ) → mag z < 9223372036854775808 → is_in_range true 8 z ≡ true
in_range (pos n) fits = let small : n < 9223372036854775808 = omega (arith, ints, fits) in grind (arith, nat_tests)
in_range (negsuc n) fits = let small : n < 9223372036854775808 = omega (arith, ints, fits) in grind (arith, nat_tests)

abbrev ReadsBack : Type 0
ReadsBack = (shape : Shape) (values : List ℤ) → IsSound shape → length values ≡ length shape.fields → IsTrue (are_in_range shape.fields values) → record_values shape (record_bytes shape values) ≡ values

abbrev pub told : ℤ → ℤ → ℤ → ℤ → TimerSetting
told first second third fourth =
    record { value = record { seconds = third; microseconds = fourth }; period = record { seconds = first; microseconds = second } }

-- what was written of a setting is that setting
pub setting_written : (shape : Shape) (old bytes : List ℕ) (given : List ℤ) (first second third fourth : ℤ) → shape ≡ itimerval → IsSound shape → given ≡ first ∷ second ∷ third ∷ fourth ∷ []
    → mag first < 9223372036854775808 → mag second < 9223372036854775808 → mag third < 9223372036854775808 → mag fourth < 9223372036854775808
    → ReadsBack → bytes ≡ after_put_record shape given old → setting_in bytes ≡ told first second third fourth
setting_written shape old bytes given first second third fourth same sound are one two three four reads written =
    let values : List ℤ = first ∷ second ∷ third ∷ fourth ∷ [] in
    let fits : are_in_range itimerval.fields values ≡ true = rw (in_range first one, in_range second two, in_range third three, in_range fourth four) refl in
    let here : IsSound itimerval = subst IsSound same sound in
    let put : bytes ≡ record_bytes itimerval values =
    written ∙ ap (λ (s : Shape). after_put_record s given old) same ∙ ap (λ (v : List ℤ). after_put_record itimerval v old) are
    ∙ ap (λ (b : Bool). if b then record_bytes itimerval values else old) fits in
    ap setting_in put ∙ ap setting_of (reads itimerval values here refl fits)

inside : (native : List ℕ) → length native ≡ 32 → is_inside native 65536 32 ≡ true
inside native whole = grind (arith, nat_tests)

-- a setting that was pushed onto empty host memory
pub setting_pushed : (memory native : List ℕ) (place : ℕ) (value : TimerSetting) → length native ≡ 32 → memory ≡ padded [] ++ native → place ≡ end_address (padded []) → setting_in native ≡ value
    → unless_null place (setting_at memory place) ≡ Some (Ok value)
setting_pushed memory native place value whole pushed at is =
    let there : bytes_at native 65536 32 ≡ Some native =
    ap (λ (b : Bool). if b then Some (take 32 native) else None) (inside native whole)
    ∙ ap (λ (n : ℕ). Some (take n native)) (sym whole) ∙ ap (λ (t : List ℕ). Some t) (take-length native) in
    ap (λ (m : List ℕ). unless_null place (setting_at m place)) pushed ∙ ap (λ (n : ℕ). unless_null n (setting_at native n)) at
    ∙ ap (λ o. Some (read_as setting_in (given o))) there ∙ ap (λ (t : TimerSetting). Some (Ok t)) is

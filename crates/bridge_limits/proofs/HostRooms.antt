-- What is put into host memory for a call: how long it may wait, and a mask behind that.
use Rattle.std.proofs.Common.{◌≡◌, ℕ, ◌+◌, ◌-◌, ◌*◌, ◌/◌, ◌%◌, ◌<◌, ◌^◌, ◌≤◌, ℤ, pos, Bool, true, false, List, [], ◌∷◌, ◌++◌, length, take, drop, Option, Some, None, Ok, Err, Result, OnOk, IfOk, refl, sym, ap, ◌∙◌, arith, append_assoc, length-append}
use Rattle.std.specs.Prelude.{◌==◌, if◌then◌else◌}
use Rattle.std.proofs.lemmas.Bool.Decides.{nat_tests}
use Rattle.std.proofs.lemmas.Int.{ints}
use Rattle.std.proofs.lemmas.List.{drop_at, take_at}
use Rattle.host_mem.specs.Memory.{bytes_at, end_address, first_address, is_inside}
use Rattle.kernel_core.specs.declared.core_error.NoMemory.{NoMemory}
use Rattle.kernel_model.specs.Always.{IsSet}
use Rattle.kernel_model.specs.Clock.{given_some, length_of, second, then_checked}
use Rattle.kernel_model.specs.SignalSets.{SignalSet}
use Rattle.layouts.proofs.RecordLaws.{record_bytes-read_back}
use Rattle.layouts.proofs.SoundTables.{sound_from_test}
use Rattle.layouts.specs.Native as native
use Rattle.layouts.specs.Number.{is_in_range}
use Rattle.layouts.specs.Shape.{are_in_range, record_values}
use Rattle.native_calls.specs.HostBytes.{given, read_as, unless_null}
use Rattle.native_calls.specs.Polls.{wait_at}
use Rattle.native_calls.specs.SignalBytes.{set_at, set_bytes, set_in}
use Rattle.native_calls.specs.Times.{time_bytes, time_in, time_of}
use Rattle.bridge_signal_state.proofs.Rooms.{length-set_bytes, set_back}
use Rattle.bridge_limits.specs.Limits.{given_mask}
use Rattle.bridge_limits.specs.declared.masks.OwnMask.{OwnMask}
use Rattle.bridge_limits.specs.declared.masks.OwnMask.TheVariants as masks
use Rattle.bridge_limits.specs.inside.Rooms.{mask_room}

-- Bytes with something before and behind them

placed_inside : (before bytes behind : List ℕ) (count : ℕ) → length bytes ≡ count → is_inside (before ++ (bytes ++ behind)) (end_address before) count ≡ true
placed_inside before bytes behind count sized =
    let all : length (before ++ (bytes ++ behind)) ≡ length before + (length bytes + length behind) = length-append before (bytes ++ behind) ∙ ap (λ (n : ℕ). length before + n) (length-append bytes behind) in
    grind (arith, nat_tests)

placed_place : (n : ℕ) → first_address + n - first_address ≡ n
placed_place n = omega arith

pub placed : (before bytes behind : List ℕ) (count : ℕ) → length bytes ≡ count → bytes_at (before ++ (bytes ++ behind)) (end_address before) count ≡ Some bytes
placed before bytes behind count sized =
    let memory = before ++ (bytes ++ behind) in
    ap (λ (b : Bool). if b then Some (take count (drop (end_address before - first_address) memory)) else None) (placed_inside before bytes behind count sized)
    ∙ ap (λ (n : ℕ). Some (take count (drop n memory))) (placed_place (length before))
    ∙ ap (λ (l : List ℕ). Some (take count l)) (drop_at before (bytes ++ behind) (length before) refl)
    ∙ ap (λ (l : List ℕ). Some l) (take_at bytes behind count sized)

-- A length of time

range_of : (n : ℕ) → n < 2 ^ 63 → is_in_range true 8 (pos n) ≡ true
range_of n small = grind (arith, nat_tests)

abbrev values : ℕ → List ℤ
values wait = pos (wait / second) ∷ pos (wait % second) ∷ []

values_fit : (wait : ℕ) → wait < 2 ^ 64 → are_in_range native.time.fields (values wait) ≡ true
values_fit wait small =
    let seconds : wait / second < 2 ^ 63 = omega arith in
    let nanoseconds : wait % second < 2 ^ 63 = omega arith in
    rw (range_of (wait / second) seconds, range_of (wait % second) nanoseconds) refl

values_back : (wait : ℕ) → wait < 2 ^ 64 → record_values native.time (time_bytes wait) ≡ values wait
values_back wait small = record_bytes-read_back native.time (values wait) (sound_from_test native.time refl) refl (values_fit wait small)

part : (wait : ℕ) → wait % second < second
part wait = omega arith

whole : (wait : ℕ) → wait / second * second + wait % second ≡ wait
whole wait = omega arith

length_by_parts : (seconds nanoseconds : ℕ) → nanoseconds < second → length_of (record { seconds = pos seconds; nanoseconds = pos nanoseconds }) ≡ Ok (seconds * second + nanoseconds)
length_by_parts seconds nanoseconds small = grind (arith, nat_tests, ints)

pub wait_back : (wait : ℕ) → wait < 2 ^ 64 → length_of (time_in (time_bytes wait)) ≡ Ok wait
wait_back wait small =
    ap (λ (v : List ℤ). length_of (time_of v)) (values_back wait small)
    ∙ length_by_parts (wait / second) (wait % second) (part wait)
    ∙ ap (λ (n : ℕ). Ok n) (whole wait)

time_there : (bytes behind : List ℕ) (wait : ℕ) → length bytes ≡ 16 → length_of (time_in bytes) ≡ Ok wait → wait_at (bytes ++ behind) 65536 ≡ Ok (Some wait)
time_there bytes behind wait sized is =
    ap (λ (found : Option (List ℕ)). given_some (then_checked length_of (read_as time_in (given found)))) (placed [] bytes behind 16 sized)
    ∙ ap given_some is

pub time_pushed : (result : Result ℕ NoMemory) (memory old bytes : List ℕ) (asked : Option ℕ) (wait : ℕ) → asked ≡ Some wait → old ≡ [] → length bytes ≡ 16 → length_of (time_in bytes) ≡ Ok wait
    → OnOk result (memory ≡ old ++ bytes) → IfOk result (λ place. place ≡ end_address old)
    → IfOk result (λ place. (behind : List ℕ) → wait_at (memory ++ behind) place ≡ Ok asked)
time_pushed (Ok place) memory old bytes asked wait is_some empty sized is put at = λ behind.
    ap (λ (n : ℕ). wait_at (memory ++ behind) n) (at ∙ ap end_address empty)
    ∙ ap (λ (m : List ℕ). wait_at (m ++ behind) 65536) (put ∙ ap (λ (m : List ℕ). m ++ bytes) empty)
    ∙ time_there bytes behind wait sized is
    ∙ ap (λ (a : Option ℕ). Ok a) (sym is_some)
time_pushed (Err error) memory old bytes asked wait is_some empty sized is put at = tt

-- A mask behind it

not_null : (n : ℕ) → (first_address + n == 0) ≡ false
not_null n = grind (arith, nat_tests)

set_there : (old behind : List ℕ) (set : SignalSet) → IsSet set → unless_null (end_address old) (set_at ((old ++ set_bytes set) ++ behind) (end_address old)) ≡ Some (Ok set)
set_there old behind set is =
    ap (λ (null : Bool). if null then None else Some (set_at ((old ++ set_bytes set) ++ behind) (end_address old))) (not_null (length old))
    ∙ ap (λ (m : List ℕ). Some (set_at m (end_address old))) (append_assoc old (set_bytes set) behind)
    ∙ ap (λ (found : Option (List ℕ)). Some (read_as set_in (given found))) (placed old (set_bytes set) behind 16 (length-set_bytes set))
    ∙ ap (λ (s : SignalSet). Some (Ok s)) (set_back set is)

pub set_pushed : (result : Result ℕ NoMemory) (memory old bytes : List ℕ) (mask : OwnMask) (set : SignalSet) → mask ≡ masks.Set set → bytes ≡ set_bytes set → IsSet set
    → OnOk result (memory ≡ old ++ bytes) → IfOk result (λ place. place ≡ end_address old)
    → IfOk result (λ place. (behind : List ℕ) → unless_null place (set_at (memory ++ behind) place) ≡ given_mask mask)
set_pushed (Ok place) memory old bytes mask set is_set same is put at = λ behind.
    ap (λ (n : ℕ). unless_null n (set_at (memory ++ behind) n)) at
    ∙ ap (λ (m : List ℕ). unless_null (end_address old) (set_at (m ++ behind) (end_address old))) (put ∙ ap (λ (b : List ℕ). old ++ b) same)
    ∙ set_there old behind set is
    ∙ ap given_mask (sym is_set)
set_pushed (Err error) memory old bytes mask set is_set same is put at = tt

-- Both

pub mask_size : (mask : OwnMask) → (length (mask_room mask) % 8 ≡ 0) × (length (mask_room mask) ≤ 16)
mask_size masks.None = (refl, omega arith)
mask_size masks.Unreadable = (refl, omega arith)
mask_size (masks.Set set) = let sized = length-set_bytes set in (omega (arith, sized), omega (arith, sized))

pub time_first : (memory old room : List ℕ) (place : ℕ) (wait : Option ℕ) → memory ≡ old ++ room → ((behind : List ℕ) → wait_at (old ++ behind) place ≡ Ok wait) → (behind : List ℕ) → wait_at (memory ++ behind) place ≡ Ok wait
time_first memory old room place wait put is behind =
    ap (λ (m : List ℕ). wait_at (m ++ behind) place) put ∙ ap (λ (m : List ℕ). wait_at m place) (append_assoc old room behind) ∙ is (room ++ behind)

pub both_aligned : (memory old room : List ℕ) → memory ≡ old ++ room → length old % 8 ≡ 0 → length room % 8 ≡ 0 → length memory % 8 ≡ 0
both_aligned memory old room put one other =
    let all : length memory ≡ length old + length room = ap (λ (m : List ℕ). length m) put ∙ length-append old room in
    omega arith

pub both_few : (memory old room : List ℕ) → memory ≡ old ++ room → length old ≤ 16 → length room ≤ 16 → length memory ≤ 32
both_few memory old room put one other =
    let all : length memory ≡ length old + length room = ap (λ (m : List ℕ). length m) put ∙ length-append old room in
    omega arith

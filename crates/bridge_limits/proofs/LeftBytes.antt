-- The time that is left, as it is shown.
use Rattle.std.proofs.Common.{◌≡◌, ◌≢◌, ℕ, suc, ◌+◌, ◌*◌, ◌-◌, ◌/◌, ◌%◌, ◌<◌, Bool, true, false, List, [], ◌∷◌, Option, Some, None, Ok, Err, Result, OnOk, refl, sym, ap, ◌∙◌, arith}
use Rattle.std.specs.Prelude.{◌==◌, nat_lt, pos, negsuc, ◌-ℤ◌, option_map, if◌then◌else◌}
use Rattle.std.proofs.lemmas.Bool.Decides.{nat_tests}
use Rattle.std.proofs.lemmas.Int.{ints}
use Rattle.guest_space.specs.Memory.{Memory}
use Rattle.host_mem.specs.Memory.{bytes_at}
use Rattle.kernel_core.specs.declared.core_error.NoMemory.{NoMemory}
use Rattle.kernel_model.specs.Clock.{in_microseconds, left_until}
use Rattle.layouts.specs.Number.{number_for, value_of}
use Rattle.native_calls.specs.Times.{time_bytes}
use Rattle.o32_model.specs.GuestBytes.{with_stored}
use Rattle.o32_model.specs.TimeLeft.{with_left_of}
use Rattle.o32_model.specs.Times.{seconds_field}
use Rattle.o32_model.specs.declared.wait.Wait.{Wait}
use Rattle.bridge_limits.specs.Limits.{ShowsLeft, left_bytes, left_form}
use Rattle.bridge_limits.specs.declared.lefts.Left.{Left}
use Rattle.bridge_limits.specs.declared.times.TimeForm.{TimeForm}
use Rattle.bridge_limits.specs.declared.times.TimeForm.TheVariants as forms
use Rattle.bridge_limits.specs.declared.times.TimePlace.{TimePlace}
use Rattle.bridge_limits.specs.inside.Lefts.{bytes_of, left_at, left_in, left_of, with_remaining}

-- The bytes of a time

-- the four bytes of a number's low 32 bits, and others behind them
abbrev digits : ℕ → List ℕ → List ℕ
digits number rest = number / 16777216 % 256 ∷ number / 65536 % 256 ∷ number / 256 % 256 ∷ number % 256 ∷ rest

number_back : (number : ℕ) → number < 4294967296 → number_for 4 (value_of true 4 number) ≡ number
number_back number small = by (nat_lt number 2147483648) refl where
  by : (b : Bool) → nat_lt number 2147483648 ≡ b → number_for 4 (if b then pos number else pos number -ℤ pos 4294967296) ≡ number
  by true low = refl
  by false high =
      let negative : pos number -ℤ pos 4294967296 ≡ negsuc (4294967296 - suc number) = omega (arith, ints) in
      ap (number_for 4) negative ∙ (let back : 4294967296 - suc (4294967296 - suc number) ≡ number = omega arith in back)

seconds_low : (time : ℕ) → number_for 4 (seconds_field time) ≡ time / 1000000000 % 4294967296
seconds_low time =
    let small : time / 1000000000 % 4294967296 < 4294967296 = omega arith in number_back (time / 1000000000 % 4294967296) small

microseconds_same : (time : ℕ) → in_microseconds time % 1000000 ≡ time % 1000000000 / 1000
microseconds_same time = omega arith

pub bytes_shown : (form : TimeForm) (time : ℕ) → bytes_of form (left_of time) ≡ left_bytes form time
bytes_shown forms.Nanoseconds time = sym (ap (λ (n : ℕ). digits n (digits (time % 1000000000) [])) (seconds_low time))
bytes_shown forms.Microseconds time =
    sym (ap (λ (n : ℕ). digits n (digits (in_microseconds time % 1000000) [])) (seconds_low time)
    ∙ ap (λ (n : ℕ). digits (time / 1000000000 % 4294967296) (digits n [])) (microseconds_same time))

-- What host memory shows

abbrev low_sum : ℕ → ℕ
low_sum number = number % 256 + 256 * (number / 256 % 256 + 256 * (number / 65536 % 256 + 256 * (number / 16777216 % 256 + 256 * 0)))

low_word : (number : ℕ) → low_sum number ≡ number % 4294967296
low_word number = omega arith

part_fits : (time : ℕ) → time % 1000000000 % 4294967296 ≡ time % 1000000000
part_fits time = omega arith

abbrev shown : ℕ → ℕ → Left
shown seconds nanoseconds = record { seconds = seconds; nanoseconds = nanoseconds }

shown_time : (time : ℕ) → left_in (time_bytes time) ≡ left_of time
shown_time time =
    ap (λ (n : ℕ). shown n (low_sum (time % 1000000000))) (low_word (time / 1000000000))
    ∙ ap (shown (time / 1000000000 % 4294967296)) (low_word (time % 1000000000) ∙ part_fits time)

null_or : (place : ℕ) (there : Option Left) (null : Bool) → (place == 0) ≡ null → place ≢ 0 → (if null then None else there) ≡ there
null_or place there true is not = let zero_there : place ≡ 0 = grind (arith, nat_tests) in absurd (not zero_there)
null_or place there false is not = refl

pub shows : (memory : List ℕ) (place : ℕ) (left : Option ℕ) → ShowsLeft memory place left → left_at memory place ≡ option_map left_of left
shows memory place None null = ap (λ (n : ℕ). left_at memory n) null
shows memory place (Some time) is =
    null_or place (option_map left_in (bytes_at memory place 16)) (place == 0) refl is.0
    ∙ ap (λ (found : Option (List ℕ)). option_map left_in found) is.1
    ∙ ap (λ (l : Left). Some l) (shown_time time)

-- What is stored of it

abbrev with_left_shown : TimePlace → Memory → Option Left → Memory
with_left_shown at memory None = memory
with_left_shown at memory (Some left) = with_stored memory at.address (bytes_of at.form left)

shown_stored : (at : TimePlace) (memory : Memory) (left : Option ℕ) → with_left_shown at memory (option_map left_of left) ≡ with_left_of (left_form at) memory left memory
shown_stored at memory None = refl
shown_stored at memory (Some time) = ap (λ (bytes : List ℕ). with_stored memory at.address bytes) (bytes_shown at.form time)

pub left_stored : (host : List ℕ) (place : ℕ) (left : Option ℕ) (there : Option Left) (at : TimePlace) (memory : Memory) → there ≡ left_at host place → ShowsLeft host place left
    → with_left_shown at memory there ≡ with_left_of (left_form at) memory left memory
left_stored host place left there at memory is shown =
    ap (with_left_shown at memory) (is ∙ shows host place left shown) ∙ shown_stored at memory left

pub on_ok : {P Q : Type 0} (result : Result (Unit {0}) NoMemory) → (P → Q) → OnOk result P → OnOk result Q
on_ok (Ok value) so p = so p
on_ok (Err error) so p = tt

-- at the end of a wait

pub remaining_stored : (at : TimePlace) (wait : Wait) (clock : ℕ) (memory : Memory) (left : ℕ) → (at.address == 0) ≡ false → left ≡ left_until clock wait.deadline
    → with_stored memory at.address (bytes_of at.form (left_of left)) ≡ with_remaining (left_form at) wait clock memory
remaining_stored at wait clock memory left some is =
    ap (λ (bytes : List ℕ). with_stored memory at.address bytes) (bytes_shown at.form left ∙ ap (left_bytes at.form) is)
    ∙ sym (ap (λ (null : Bool). if null then memory else with_stored memory at.address (left_bytes at.form (left_until clock wait.deadline))) some)

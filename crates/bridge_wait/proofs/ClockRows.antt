-- The rows of the clocks, by what is shown.
use Rattle.std.proofs.Common.{◌≡◌, ℕ, suc, ◌/◌, ◌%◌, ◌-◌, ◌<◌, Bool, true, false, List, [], ◌∷◌, ◌++◌, replicate, Option, Some, None, Ok, Err, refl, ap, ◌∙◌, arith, if◌then◌else◌}
use Rattle.std.specs.Prelude.{nat_lt, ◌==◌, pos, negsuc, ◌-ℤ◌, option_map}
use Rattle.std.proofs.lemmas.Bool.Decides.{nat_tests}
use Rattle.std.proofs.lemmas.Int.{ints}
use Rattle.byteorder.specs.Endian.{big_bytes}
use Rattle.kernel_core.specs.declared.error.Errno.{Errno}
use Rattle.kernel_core.specs.declared.error.Errno.TheVariants.{EINVAL, EOVERFLOW}
use Rattle.kernel_model.specs.Came.{Came, Done, Refused, Did, came_as, done, refused_if, told_as, with_some}
use Rattle.kernel_model.specs.Clock.{clock_time, in_microseconds, read_clock, resolution}
use Rattle.kernel_model.specs.State.{Kernel}
use Rattle.layouts.specs.Number.{bytes_of, number_for, value_of}
use Rattle.o32_model.specs.Clocks as o32
use Rattle.o32_model.specs.Clocks.{is_late}
use Rattle.o32_model.specs.Narrow.{narrowed}
use Rattle.o32_model.specs.Results.{piece_unless_null, stores_pieces, stores_result}
use Rattle.o32_model.specs.Small as small
use Rattle.o32_model.specs.Step as o32_step
use Rattle.o32_model.specs.Step.{Guest, O32Step, value}
use Rattle.o32_model.specs.Times as times
use Rattle.o32_model.specs.Times.{seconds_field}
use Rattle.bridge_log.specs.Storing.{ended, fails, stores}
use Rattle.bridge_wait.specs.inside.Endings.{day_ending, pieces_ending, resolution_ending, seconds_ending, time_ending}
use Rattle.bridge_wait.specs.inside.Shown.{resolution_of, shown_of, spec_bytes, time_of, val_bytes}

-- The bytes of a time

-- the four bytes of a number's low 32 bits, and others behind them
abbrev digits : ℕ → List ℕ → List ℕ
digits number rest = number / 16777216 % 256 ∷ number / 65536 % 256 ∷ number / 256 % 256 ∷ number % 256 ∷ rest

number_back : (number : ℕ) → number < 4294967296 → number_for 4 (value_of true 4 number) ≡ number
number_back number small = by (nat_lt number 2147483648) refl where
  by : (b : Bool) → nat_lt number 2147483648 ≡ b → number_for 4 (if b then pos number else pos number -ℤ pos 4294967296) ≡ number
  by true low = refl
  by false high =
      let negative : pos number -ℤ pos 4294967296 ≡ negsuc (4294967296 - suc number) = omega (arith, ints) in
      ap (number_for 4) negative ∙ (let back : 4294967296 - suc (4294967296 - suc number) ≡ number = omega arith in back)

seconds_low : (time : ℕ) → number_for 4 (seconds_field time) ≡ time / 1000000000 % 4294967296
seconds_low time =
    let small : time / 1000000000 % 4294967296 < 4294967296 = omega arith in number_back (time / 1000000000 % 4294967296) small

pub spec_again : (time : ℕ) → times.spec_bytes time ≡ spec_bytes (time_of time)
spec_again time = ap (λ (n : ℕ). digits n (digits (time % 1000000000) [])) (seconds_low time)

microseconds_again : (time : ℕ) → in_microseconds time % 1000000 ≡ time % 1000000000 / 1000
microseconds_again time = omega arith

val_again : (time : ℕ) → times.val_bytes time ≡ val_bytes (time_of time)
val_again time =
    ap (λ (n : ℕ). digits n (digits (in_microseconds time % 1000000) [])) (seconds_low time)
    ∙ ap (λ (n : ℕ). digits (time / 1000000000 % 4294967296) (digits n [])) (microseconds_again time)

-- The rows

abbrev with_came : Kernel → Came ℕ → Did Kernel ℕ
with_came kernel came = record { state = kernel; came = came }

abbrev late_or : ℕ → Bool → Came ℕ
late_or time late = if late then Refused EOVERFLOW else Done time

-- what the kernel shows of a clock
abbrev showing : Kernel → Option ℕ → Did Kernel ℕ
showing kernel there = narrowed is_late (with_some kernel EINVAL there (λ time. done kernel time))

pub gettime_ended : (quanta : ℕ) (kernel : Kernel) (guest : Guest) (clock address : ℕ) (left : List ℕ)
    → o32.clock_gettime_row quanta kernel guest clock address left ≡ ended kernel guest.processor left (time_ending guest.memory address (shown_of (clock_time kernel quanta clock)))
unfolding o32.clock_gettime_row read_clock
gettime_ended quanta kernel guest clock address left = by (clock_time kernel quanta clock) where
  late : (time : ℕ) (is : Bool) → o32_step.stores guest address (told_as times.spec_bytes (with_came kernel (late_or time is))) left
      ≡ ended kernel guest.processor left (time_ending guest.memory address (if is then Err EOVERFLOW else Ok (time_of time)))
  late time true = refl
  late time false = ap (λ (bytes : List ℕ). ended kernel guest.processor left (stores guest.memory address bytes 0)) (spec_again time)

  by : (there : Option ℕ) → o32_step.stores guest address (told_as times.spec_bytes (showing kernel there)) left ≡ ended kernel guest.processor left (time_ending guest.memory address (shown_of there))
  by None = refl
  by (Some time) = late time (is_late time)

pub getres_ended : (kernel : Kernel) (guest : Guest) (clock address : ℕ) (left : List ℕ)
    → o32.clock_getres_row kernel guest clock address left ≡ ended kernel guest.processor left (resolution_ending guest.memory address (option_map time_of (resolution_of clock)))
unfolding o32.clock_getres_row resolution
getres_ended kernel guest clock address left = by (nat_lt 7 clock) where
  by : (none : Bool) → small.stores_unless_null guest address (told_as times.spec_bytes (refused_if none EINVAL kernel (done kernel 1))) left
      ≡ ended kernel guest.processor left (resolution_ending guest.memory address (option_map time_of (if none then None else Some 1)))
  by true = refused (address == 0) where
    refused : (null : Bool) → (if null then o32_step.gives guest (told_as (λ _. 0) (told_as times.spec_bytes (refused_if true EINVAL kernel (done kernel 1)))) left else o32_step.stores guest address (told_as times.spec_bytes (refused_if true EINVAL kernel (done kernel 1))) left)
        ≡ ended kernel guest.processor left (fails guest.memory EINVAL)
    refused true = refl
    refused false = refl
  by false = stored (address == 0) where
    stored : (null : Bool) → (if null then o32_step.gives guest (told_as (λ _. 0) (told_as times.spec_bytes (refused_if false EINVAL kernel (done kernel 1)))) left else o32_step.stores guest address (told_as times.spec_bytes (refused_if false EINVAL kernel (done kernel 1))) left)
        ≡ ended kernel guest.processor left (if null then record { outcome = value 0; memory = guest.memory } else stores guest.memory address (spec_bytes (time_of 1)) 0)
    stored true = refl
    stored false = ap (λ (bytes : List ℕ). ended kernel guest.processor left (stores guest.memory address bytes 0)) (spec_again 1)

seconds_fit : (time : ℕ) → is_late time ≡ false → time / 1000000000 ≡ time / 1000000000 % 4294967296
seconds_fit time early = grind (arith, nat_tests)

abbrev row : Kernel → Guest → ℕ → List ℕ → Came ℕ → Bool → O32Step
row kernel guest address left came null =
    if null then o32_step.comes_to (λ seconds. value seconds) guest (with_came kernel came) left
    else stores_result (λ seconds. bytes_of true 4 seconds) (λ seconds. seconds) guest address (with_came kernel came) left

pub time_ended : (kernel : Kernel) (guest : Guest) (address : ℕ) (left : List ℕ)
    → o32.time_row kernel guest address left ≡ ended kernel guest.processor left (seconds_ending guest.memory address (shown_of (clock_time kernel 0 0)))
unfolding o32.time_row read_clock
time_ended kernel guest address left = by (clock_time kernel 0 0) where
  failed : (error : Errno) (null : Bool) → row kernel guest address left (Refused error) null ≡ ended kernel guest.processor left (fails guest.memory error)
  failed error true = refl
  failed error false = refl

  shown : (seconds low : ℕ) (null : Bool) → seconds ≡ low → row kernel guest address left (Done seconds) null
      ≡ ended kernel guest.processor left (if null then record { outcome = value low; memory = guest.memory } else stores guest.memory address (big_bytes 4 low) low)
  shown seconds low true same = ap (λ (n : ℕ). ended kernel guest.processor left (record { outcome = value n; memory = guest.memory })) same
  shown seconds low false same = ap (λ (n : ℕ). ended kernel guest.processor left (stores guest.memory address (big_bytes 4 n) n)) same

  late : (time : ℕ) (is : Bool) → is_late time ≡ is → row kernel guest address left (came_as (λ time. time / 1000000000) (late_or time is)) (address == 0)
      ≡ ended kernel guest.processor left (seconds_ending guest.memory address (if is then Err EOVERFLOW else Ok (time_of time)))
  late time true same = failed EOVERFLOW (address == 0)
  late time false same = shown (time / 1000000000) (time / 1000000000 % 4294967296) (address == 0) (seconds_fit time same)

  by : (there : Option ℕ) → row kernel guest address left (came_as (λ time. time / 1000000000) (showing kernel there).came) (address == 0) ≡ ended kernel guest.processor left (seconds_ending guest.memory address (shown_of there))
  by None = failed EINVAL (address == 0)
  by (Some time) = late time (is_late time) refl

pub day_ended : (kernel : Kernel) (guest : Guest) (value zone : ℕ) (left : List ℕ)
    → o32.gettimeofday_row kernel guest value zone left ≡ ended kernel guest.processor left (day_ending guest.memory value zone (shown_of (clock_time kernel 0 0)))
unfolding o32.gettimeofday_row read_clock
day_ended kernel guest value zone left = by (clock_time kernel 0 0) where
  late : (time : ℕ) (is : Bool) → stores_pieces (o32.day_pieces value zone) (λ _. 0) guest (with_came kernel (late_or time is)) left
      ≡ ended kernel guest.processor left (day_ending guest.memory value zone (if is then Err EOVERFLOW else Ok (time_of time)))
  late time true = refl
  late time false =
      ap (λ (bytes : List ℕ). ended kernel guest.processor left (pieces_ending guest.memory (piece_unless_null value bytes ++ piece_unless_null zone (replicate 8 0)))) (val_again time)

  by : (there : Option ℕ) → stores_pieces (o32.day_pieces value zone) (λ _. 0) guest (showing kernel there) left ≡ ended kernel guest.processor left (day_ending guest.memory value zone (shown_of there))
  by None = refl
  by (Some time) = late time (is_late time)

-- The clocks: time(2), gettimeofday(2), clock_gettime(2), clock_getres(2).
use Rattle.std.specs.Prelude.{ℕ, ◌-◌, ◌/◌, ◌^◌, true, Bool, List, [], ◌∷◌, ◌++◌, replicate, nat_lt}
use Rattle.kernel_model.specs.Came.{Did, told_as}
use Rattle.kernel_model.specs.Clock.{second, read_clock, resolution}
use Rattle.kernel_model.specs.State.{Kernel}
use Rattle.layouts.specs.Number.{bytes_of}
use Rattle.o32_calls.specs.Numbers.{time_number}
use Rattle.o32_calls.specs.declared.times.TimeCall.TheVariants.{Time, Gettimeofday, ClockGetres}
use Rattle.o32_model.specs.Narrow.{narrowed}
use Rattle.o32_model.specs.Results.{Piece, piece_unless_null, stores_result_unless_null, stores_pieces}
use Rattle.o32_model.specs.Small.{stores_unless_null}
use Rattle.o32_model.specs.Step.{Guest, O32Step, O32Row, stores}
use Rattle.o32_model.specs.Times.{spec_bytes, val_bytes}
use Rattle.o32_model.specs.Words.{argument}

-- a time whose seconds no time_t of 32 bits holds is EOVERFLOW (own)

abbrev pub last_second : ℕ
last_second = 2 ^ 31 - 1

abbrev pub is_late : ℕ → Bool
is_late time = nat_lt last_second (time / second)

-- what a clock shows; `quanta` is what the clocks of CPU time count
abbrev pub shown_time : Kernel → ℕ → ℕ → Did Kernel ℕ
shown_time kernel quanta clock = narrowed is_late (read_clock kernel quanta clock)

-- CLOCK_REALTIME, which counts no CPU time
abbrev pub real_time : Kernel → Did Kernel ℕ
real_time kernel = shown_time kernel 0 0

-- the seconds are the result, and are stored as well unless the pointer is null
unfoldable pub time_row : Kernel → Guest → ℕ → List ℕ → O32Step
time_row kernel guest address left =
    stores_result_unless_null (λ seconds. bytes_of true 4 seconds) (λ seconds. seconds) guest address
    (told_as (λ time. time / second) (real_time kernel)) left

-- a time zone (struct timezone of gettimeofday(2)), which says nothing
abbrev pub zone_bytes : List ℕ
zone_bytes = replicate 8 0

-- the time and then the zone, each unless its pointer is null
abbrev pub day_pieces : ℕ → ℕ → ℕ → List Piece
day_pieces value zone time = piece_unless_null value (val_bytes time) ++ piece_unless_null zone zone_bytes

unfoldable pub gettimeofday_row : Kernel → Guest → ℕ → ℕ → List ℕ → O32Step
gettimeofday_row kernel guest value zone left = stores_pieces (day_pieces value zone) (λ _. 0) guest (real_time kernel) left

unfoldable pub clock_gettime_row : ℕ → Kernel → Guest → ℕ → ℕ → List ℕ → O32Step
clock_gettime_row quanta kernel guest clock address left =
    stores guest address (told_as spec_bytes (shown_time kernel quanta clock)) left

unfoldable pub clock_getres_row : Kernel → Guest → ℕ → ℕ → List ℕ → O32Step
clock_getres_row kernel guest clock address left = stores_unless_null guest address (told_as spec_bytes (resolution kernel clock)) left

-- The numbers (Linux arch/mips/include/uapi/asm/unistd.h, the o32 table) but that of clock_gettime(2), which sees what is no part of the
-- kernel
abbrev pub clock_calls : List O32Row
clock_calls =
    record { number = time_number Time; step = λ kernel guest. time_row kernel guest (argument guest.words 0) }
    ∷ record { number = time_number Gettimeofday; step = λ kernel guest. gettimeofday_row kernel guest (argument guest.words 0) (argument guest.words 1) }
    ∷ record { number = time_number ClockGetres; step = λ kernel guest. clock_getres_row kernel guest (argument guest.words 0) (argument guest.words 1) }
    ∷ []

-- The clock and what is measured by it (clock_gettime(2), clock_nanosleep(2), setitimer(2), alarm(2)). All times are in nanoseconds; the
-- clock counts from 0.
use Rattle.std.specs.Prelude.{ℕ, ◌+◌, ◌-◌, ◌*◌, ◌/◌, ◌^◌, ◌==◌, min, max, ℤ, pos, nat_abs, int_lt, Bool, ◌&&◌, ◌||◌, not, Option, Some, None, option_map, Ok, Err, nat_lt, nat_le, if◌then◌else◌}
use Rattle.kernel_core.specs.declared.error.Errno.TheVariants.{EINVAL}
use Rattle.kernel_model.specs.Came.{Did, Given, done, refused_if, with_given, with_some, waits}
use Rattle.kernel_model.specs.State.{Kernel, Timer}
use Rattle.kernel_model.specs.declared.time.TimeSpec.{TimeSpec}
use Rattle.kernel_model.specs.declared.time.TimeVal.{TimeVal}
use Rattle.kernel_model.specs.declared.time.TimerValue.{TimerValue}

-- Times

abbrev pub second : ℕ
second = 1_000_000_000

abbrev pub microsecond : ℕ
microsecond = 1000

-- a time in microseconds is that in nanoseconds, rounded down
abbrev pub in_microseconds : ℕ → ℕ
in_microseconds time = time / microsecond

-- a deadline, a timer's time or a period past 2^63 - 1 counts as that
abbrev pub capped : ℕ → ℕ
capped time = min time (2 ^ 63 - 1)

-- a deadline or a timer's time past 2^61 is kept and never comes
abbrev pub comes : ℕ → Bool
comes time = nat_le time (2 ^ 61)

abbrev pub is_due : ℕ → ℕ → Bool
is_due clock time = nat_le time clock && comes time

-- how long it is to a time, at least 0
abbrev pub time_left : ℕ → ℕ → ℕ
time_left clock time = time - clock

-- nanoseconds since the Unix epoch
abbrev pub real_time : Kernel → ℕ
real_time kernel = kernel.epoch + kernel.clock

-- the time that rows on files mark nodes with
abbrev pub now : Kernel → ℤ
now kernel = pos (real_time kernel)

-- a number from 0 up to another
abbrev pub is_below : ℤ → ℕ → Bool
is_below number end = not (int_lt number (pos 0)) && int_lt number (pos end)

-- a length of time, which is EINVAL where its seconds are below 0 or its part of a second is none
abbrev pub length_of : TimeSpec → Given ℕ
length_of time =
    if int_lt time.seconds (pos 0) || not (is_below time.nanoseconds second) then Err EINVAL
    else Ok (nat_abs time.seconds * second + nat_abs time.nanoseconds)

abbrev pub length_of_val : TimeVal → Given ℕ
length_of_val time =
    if int_lt time.seconds (pos 0) || not (is_below time.microseconds 1_000_000) then Err EINVAL
    else Ok (nat_abs time.seconds * second + nat_abs time.microseconds * microsecond)

abbrev pub then_checked : {A B : Type 0} → (A → Given B) → Given A → Given B
then_checked check (Err error) = Err error
then_checked check (Ok value) = check value

abbrev pub given_some : {A : Type 0} → Given A → Given (Option A)
given_some (Err error) = Err error
given_some (Ok value) = Ok (Some value)

-- the length of a time that may be null, which is none then
abbrev pub checked_or_none : {A : Type 0} → (A → Given ℕ) → Option (Given A) → Given (Option ℕ)
checked_or_none check None = Ok None
checked_or_none check (Some given) = given_some (then_checked check given)

-- Clocks

-- What the clock of an id shows (CLOCK_REALTIME 0 and its coarse form 5, CLOCK_MONOTONIC 1 and its forms 4, 6, 7, and the clocks of the
-- process and the thread 2, 3, which count the time of `quanta` alone).
abbrev pub clock_time : Kernel → ℕ → ℕ → Option ℕ
clock_time kernel quanta id =
    if (id == 0) || (id == 5) then Some (real_time kernel)
    else (if (id == 2) || (id == 3) then Some quanta
    else (if nat_le id 7 then Some kernel.clock else None))

-- clock_gettime(2), gettimeofday(2), time(2)
unfoldable pub read_clock : Kernel → ℕ → ℕ → Did Kernel ℕ
read_clock kernel quanta id = with_some kernel EINVAL (clock_time kernel quanta id) (λ time. done kernel time)

-- clock_getres(2)
unfoldable pub resolution : Kernel → ℕ → Did Kernel ℕ
resolution kernel id = refused_if (nat_lt 7 id) EINVAL kernel (done kernel 1)

-- Waits

-- a row that waits until a time, or without end; where the time is not past the clock it comes to `ended` at once
abbrev pub waits_until : {V : Type 0} → Kernel → Option ℕ → Did Kernel V → Did Kernel V
waits_until kernel None ended = waits kernel None
waits_until kernel (Some until) ended = if nat_le until kernel.clock then ended else waits kernel (Some until)

-- the deadline of a wait of this length
abbrev pub deadline : Kernel → Option ℕ → Option ℕ
deadline kernel length = option_map (λ n. capped (kernel.clock + n)) length

-- how much is left, at a time of the clock, of a wait of this length that began in this state; at least 0, and none without an end
abbrev pub left_of_wait : Kernel → ℕ → Option ℕ → Option ℕ
left_of_wait kernel clock length = option_map (λ until. time_left clock until) (deadline kernel length)

-- Sleeping

-- a sleep is by CLOCK_REALTIME, CLOCK_MONOTONIC or CLOCK_BOOTTIME
abbrev pub is_sleep_clock : ℕ → Bool
is_sleep_clock id = (id == 0) || (id == 1) || (id == 7)

-- the clock's time at which a sleep ends: after this length, or at this time of the clock with the id
abbrev pub sleep_end : Kernel → ℕ → Bool → ℕ → ℕ
sleep_end kernel id absolute time =
    capped (if not absolute then kernel.clock + time else (if id == 0 then time - kernel.epoch else time))

-- clock_nanosleep(2); nanosleep(2) is this with clock 1 and a length. `absolute` is none where there are flags other than TIMER_ABSTIME.
unfoldable pub sleep : Kernel → ℕ → Option Bool → Given TimeSpec → Did Kernel (Unit {0})
sleep kernel id absolute time =
    refused_if (not (is_sleep_clock id)) EINVAL kernel (
    with_some kernel EINVAL absolute (λ absolute.
    with_given kernel time (λ time.
    with_given kernel (length_of time) (λ time.
    waits_until kernel (Some (sleep_end kernel id absolute time)) (done kernel tt)))))

-- The interval timer

abbrev pub unarmed : Timer
unarmed = record { due = None; period = 0 }

-- a timer set at a time of the clock; a length of 0 disarms it
abbrev pub armed : ℕ → ℕ → ℕ → Timer
armed clock length period = if length == 0 then unarmed else record { due = Some (capped (clock + length)); period = capped period }

abbrev pub left_until : ℕ → Option ℕ → ℕ
left_until clock None = 0
left_until clock (Some time) = time_left clock time

abbrev pub timer_value : Kernel → TimerValue
timer_value kernel = record { left = left_until kernel.clock kernel.timer.due; period = kernel.timer.period }

-- what setitimer(2) is given
pub record TimerSetting : Type 0 where
  pub value : TimeVal
  pub period : TimeVal

-- setitimer(2): without a new setting it disarms; the old value is given. Only the timer ITIMER_REAL, which is 0, is there.
unfoldable pub arm_timer : Kernel → ℕ → Option (Given TimerSetting) → Did Kernel TimerValue
arm_timer kernel which None =
    refused_if (not (which == 0)) EINVAL kernel (done (record kernel { timer = unarmed }) (timer_value kernel))
arm_timer kernel which (Some setting) =
    refused_if (not (which == 0)) EINVAL kernel (
    with_given kernel setting (λ setting.
    with_given kernel (length_of_val setting.value) (λ length.
    with_given kernel (length_of_val setting.period) (λ period.
    done (record kernel { timer = armed kernel.clock length period }) (timer_value kernel)))))

-- getitimer(2)
unfoldable pub read_timer : Kernel → ℕ → Did Kernel TimerValue
read_timer kernel which = refused_if (not (which == 0)) EINVAL kernel (done kernel (timer_value kernel))

-- whole seconds to the nearest, a half up, and 1 for what is above 0 and below a half
abbrev pub rounded_seconds : ℕ → ℕ
rounded_seconds length = if length == 0 then 0 else max 1 ((length + second / 2) / second)

-- alarm(2): the timer goes off once after so many seconds, and the seconds that the old one had left are given
unfoldable pub alarm : Kernel → ℕ → Did Kernel ℕ
alarm kernel seconds =
    done (record kernel { timer = armed kernel.clock (seconds * second) 0 }) (rounded_seconds (left_until kernel.clock kernel.timer.due))

-- The next time of a timer that was due at a time: the first of that and whole periods that is past the clock, and none without a
-- period.
abbrev pub next_due : ℕ → ℕ → ℕ → Timer
next_due clock time period =
    if period == 0 then unarmed else record { due = Some (capped (time + period * ((clock - time) / period + 1))); period = period }

-- the timer once it has gone off, and none where it isn't due
abbrev pub gone_off_at : ℕ → ℕ → Option ℕ → Option Timer
gone_off_at clock period None = None
gone_off_at clock period (Some time) = if is_due clock time then Some (next_due clock time period) else None

abbrev pub gone_off : ℕ → Timer → Option Timer
gone_off clock timer = gone_off_at clock timer.period timer.due

abbrev pub if_comes : Option ℕ → Option ℕ
if_comes None = None
if_comes (Some time) = if comes time then Some time else None

-- the time at which the timer is due next, and none where it is not armed or that time never comes
abbrev pub next_time : Timer → Option ℕ
next_time timer = if_comes timer.due

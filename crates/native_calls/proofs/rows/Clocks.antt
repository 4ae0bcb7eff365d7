-- Worked rows on time, at the time 1000 of the clock, which began 5 s past the Epoch.
use Rattle.std.specs.Prelude.{◌≡◌, ℕ, ◌+◌, ◌-◌, ◌*◌, ◌^◌, List, [], ◌∷◌, ◌++◌, map, replicate, Some, refl}
use Rattle.kernel_core.specs.declared.reply.Reply.{Reply}
use Rattle.kernel_core.specs.declared.reply.Reply.TheVariants as replies
use Rattle.kernel_model.specs.Clock.{arm_timer, read_clock, read_timer, resolution, second, sleep, unarmed}
use Rattle.kernel_model.specs.Pipes.{nothing}
use Rattle.kernel_model.specs.State.{Kernel, Timer}
use Rattle.native_calls.proofs.rows.Small.{error, number, six, u64}
use Rattle.native_calls.specs.Clocks.{clock_getres_row, clock_gettime_row, clock_nanosleep_row, getitimer_row, nanosleep_row, setitimer_row}
use Rattle.native_calls.specs.Step.{NativeStep}
use Rattle.native_calls.specs.Table.{native_call}

-- the call waits until this time of the clock
abbrev sleep_until : ℕ → Reply
sleep_until time = replies.Sleep (record { done = 0; until = Some time })

-- seconds, and nanoseconds or microseconds
abbrev time : ℕ → ℕ → List ℕ
time seconds part = u64 seconds ++ u64 part

module _ (whole : Kernel) where
  abbrev at_1000 : Kernel
  at_1000 = record whole { clock = 1000; epoch = 5 * second; timer = unarmed }

  abbrev call : ℕ → List ℕ → List ℕ → NativeStep
  call number args memory = native_call number args at_1000 memory []

  abbrev comes : List ℕ → Reply → NativeStep
  comes memory reply = record { kernel = at_1000; left = []; memory = memory; sent = nothing; reply = reply }

  -- clock_gettime

  real : call 113 (six 0 65536 0 0) (replicate 17 7) ≡ comes (time 5 1000 ++ 7 ∷ []) (number 0)
  unfolding clock_gettime_row read_clock
  real = refl

  monotonic : call 113 (six 1 65536 0 0) (replicate 16 7) ≡ comes (time 0 1000) (number 0)
  unfolding clock_gettime_row read_clock
  monotonic = refl

  -- the clock of the process shows the clock itself
  process : call 113 (six 2 65536 0 0) (replicate 16 7) ≡ comes (time 0 1000) (number 0)
  unfolding clock_gettime_row read_clock
  process = refl

  -- the clocks 3 to 7, of which 5 shows the time of 0 and the others that of 1
  other_clocks : map (λ id. call 113 (six id 65536 0 0) (replicate 16 7)) (3 ∷ 4 ∷ 5 ∷ 6 ∷ 7 ∷ [])
      ≡ map (λ seconds. comes (time seconds 1000) (number 0)) (0 ∷ 0 ∷ 5 ∷ 0 ∷ 0 ∷ [])
  unfolding clock_gettime_row read_clock
  other_clocks = refl

  -- of a clock's number the low 32 bits count
  real_by_low_word : call 113 (six (2 ^ 32) 65536 0 0) (replicate 16 7) ≡ comes (time 5 1000) (number 0)
  unfolding clock_gettime_row read_clock
  real_by_low_word = refl

  no_such_clock : call 113 (six 8 0 0 0) [] ≡ comes [] (error 22)
  unfolding clock_gettime_row read_clock
  no_such_clock = refl

  clock_below_zero : call 113 (six (2 ^ 64 - 1) 0 0 0) [] ≡ comes [] (error 22)
  unfolding clock_gettime_row read_clock
  clock_below_zero = refl

  time_outside : call 113 (six 0 65536 0 0) (replicate 15 7) ≡ comes (replicate 15 7) (error 14)
  unfolding clock_gettime_row read_clock
  time_outside = refl

  time_at_null : call 113 (six 0 0 0 0) [] ≡ comes [] (error 14)
  unfolding clock_gettime_row read_clock
  time_at_null = refl

  -- clock_getres

  one_nanosecond : call 114 (six 7 65536 0 0) (replicate 16 7) ≡ comes (time 0 1) (number 0)
  unfolding clock_getres_row resolution
  one_nanosecond = refl

  resolution_at_null : call 114 (six 7 0 0 0) [] ≡ comes [] (number 0)
  unfolding clock_getres_row resolution
  resolution_at_null = refl

  resolution_by_low_word : call 114 (six (2 ^ 32 + 7) 0 0 0) [] ≡ comes [] (number 0)
  unfolding clock_getres_row resolution
  resolution_by_low_word = refl

  resolution_outside : call 114 (six 7 1 0 0) [] ≡ comes [] (error 14)
  unfolding clock_getres_row resolution
  resolution_outside = refl

  no_such_resolution : call 114 (six 8 0 0 0) [] ≡ comes [] (error 22)
  unfolding clock_getres_row resolution
  no_such_resolution = refl

  -- nanosleep

  sleeps : call 101 (six 65536 0 0 0) (time 1 5) ≡ comes (time 1 5) (sleep_until 1_000_001_005)
  unfolding nanosleep_row sleep
  sleeps = refl

  sleeps_not : call 101 (six 65536 0 0 0) (time 0 0) ≡ comes (time 0 0) (number 0)
  unfolding nanosleep_row sleep
  sleeps_not = refl

  -- a deadline past 2^63 - 1 counts as that
  sleeps_long : call 101 (six 65536 0 0 0) (time (2 ^ 63 - 1) 0) ≡ comes (time (2 ^ 63 - 1) 0) (sleep_until (2 ^ 63 - 1))
  unfolding nanosleep_row sleep
  sleeps_long = refl

  too_many_nanoseconds : call 101 (six 65536 0 0 0) (time 0 1_000_000_000) ≡ comes (time 0 1_000_000_000) (error 22)
  unfolding nanosleep_row sleep
  too_many_nanoseconds = refl

  seconds_below_zero : call 101 (six 65536 0 0 0) (time (2 ^ 64 - 1) 0) ≡ comes (time (2 ^ 64 - 1) 0) (error 22)
  unfolding nanosleep_row sleep
  seconds_below_zero = refl

  sleep_unreadable : call 101 (six 65537 0 0 0) (time 0 0) ≡ comes (time 0 0) (error 14)
  unfolding nanosleep_row sleep
  sleep_unreadable = refl

  -- clock_nanosleep

  for_a_time : call 115 (six 7 0 65536 0) (time 0 500) ≡ comes (time 0 500) (sleep_until 1500)
  unfolding clock_nanosleep_row sleep
  for_a_time = refl

  until_real_time : call 115 (six 0 1 65536 0) (time 5 3000) ≡ comes (time 5 3000) (sleep_until 3000)
  unfolding clock_nanosleep_row sleep
  until_real_time = refl

  until_the_past : call 115 (six 1 1 65536 0) (time 0 1000) ≡ comes (time 0 1000) (number 0)
  unfolding clock_nanosleep_row sleep
  until_the_past = refl

  -- a time before the clock began
  until_before_the_start : call 115 (six 0 1 65536 0) (time 4 0) ≡ comes (time 4 0) (number 0)
  unfolding clock_nanosleep_row sleep
  until_before_the_start = refl

  -- of the clock's number and the flags the low 32 bits count
  until_by_low_words : call 115 (six (2 ^ 32 + 1) (2 ^ 32 + 1) 65536 0) (time 0 2000) ≡ comes (time 0 2000) (sleep_until 2000)
  unfolding clock_nanosleep_row sleep
  until_by_low_words = refl

  no_sleep_by_it : call 115 (six 2 2 0 0) [] ≡ comes [] (error 22)
  unfolding clock_nanosleep_row sleep
  no_sleep_by_it = refl

  sleep_with_other_flags : call 115 (six 1 2 0 0) [] ≡ comes [] (error 22)
  unfolding clock_nanosleep_row sleep
  sleep_with_other_flags = refl

  clock_sleep_unreadable : call 115 (six 1 1 0 0) [] ≡ comes [] (error 14)
  unfolding clock_nanosleep_row sleep
  clock_sleep_unreadable = refl

  clock_sleep_too_many_nanoseconds : call 115 (six 1 0 65536 0) (time 0 1_000_000_000) ≡ comes (time 0 1_000_000_000) (error 22)
  unfolding clock_nanosleep_row sleep
  clock_sleep_too_many_nanoseconds = refl

  clock_sleep_below_zero : call 115 (six 1 1 65536 0) (time (2 ^ 64 - 1) 0) ≡ comes (time (2 ^ 64 - 1) 0) (error 22)
  unfolding clock_nanosleep_row sleep
  clock_sleep_below_zero = refl

  -- setitimer: the period and then the value, which is 1 s and 500,000 microseconds; 32 bytes behind it what was there goes

  abbrev setting : List ℕ
  setting = time 0 300 ++ time 1 500_000

  abbrev timer_armed : Timer
  timer_armed = record { due = Some 1_500_001_000; period = 300_000 }

  -- due in 1999 nanoseconds, every 3 s and 1999 nanoseconds
  abbrev with_timer : Kernel
  with_timer = record at_1000 { timer = record { due = Some 2999; period = 3_000_001_999 } }

  abbrev comes_armed : Timer → List ℕ → Reply → NativeStep
  comes_armed timer memory reply = record { kernel = record at_1000 { timer = timer }; left = []; memory = memory; sent = nothing; reply = reply }

  arms : native_call 103 (six 0 65536 65568 0) with_timer (setting ++ replicate 33 7) []
      ≡ comes_armed timer_armed (setting ++ time 3 1 ++ time 0 1 ++ 7 ∷ []) (number 0)
  unfolding setitimer_row arm_timer
  arms = refl

  disarms : native_call 103 (six 0 0 0 0) with_timer [] [] ≡ comes_armed unarmed [] (number 0)
  unfolding setitimer_row arm_timer
  disarms = refl

  -- a value of 0 disarms it, whatever the period
  disarmed_by_zero : native_call 103 (six 0 65536 0 0) with_timer (time 1 0 ++ time 0 0) [] ≡ comes_armed unarmed (time 1 0 ++ time 0 0) (number 0)
  unfolding setitimer_row arm_timer
  disarmed_by_zero = refl

  -- of the timer's number the low 32 bits count
  disarms_by_low_word : native_call 103 (six (2 ^ 32) 0 0 0) with_timer [] [] ≡ comes_armed unarmed [] (number 0)
  unfolding setitimer_row arm_timer
  disarms_by_low_word = refl

  -- it is armed also where what was there can't be stored
  armed_all_the_same : native_call 103 (six 0 65536 65537 0) with_timer setting [] ≡ comes_armed timer_armed setting (error 14)
  unfolding setitimer_row arm_timer
  armed_all_the_same = refl

  arms_another : call 103 (six 1 1 1 0) [] ≡ comes [] (error 22)
  unfolding setitimer_row arm_timer
  arms_another = refl

  setting_unreadable : call 103 (six 0 65536 0 0) (replicate 31 0) ≡ comes (replicate 31 0) (error 14)
  unfolding setitimer_row arm_timer
  setting_unreadable = refl

  too_many_microseconds : call 103 (six 0 65536 0 0) (time 0 1_000_000 ++ time 0 0) ≡ comes (time 0 1_000_000 ++ time 0 0) (error 22)
  unfolding setitimer_row arm_timer
  too_many_microseconds = refl

  seconds_of_value_below_zero : call 103 (six 0 65536 0 0) (time 0 0 ++ time (2 ^ 64 - 1) 0) ≡ comes (time 0 0 ++ time (2 ^ 64 - 1) 0) (error 22)
  unfolding setitimer_row arm_timer
  seconds_of_value_below_zero = refl

  microseconds_below_zero : call 103 (six 0 65536 0 0) (time 0 0 ++ time 1 (2 ^ 64 - 1)) ≡ comes (time 0 0 ++ time 1 (2 ^ 64 - 1)) (error 22)
  unfolding setitimer_row arm_timer
  microseconds_below_zero = refl

  -- the value alone is right
  seconds_of_period_below_zero : call 103 (six 0 65536 0 0) (time (2 ^ 64 - 1) 0 ++ time 1 0) ≡ comes (time (2 ^ 64 - 1) 0 ++ time 1 0) (error 22)
  unfolding setitimer_row arm_timer
  seconds_of_period_below_zero = refl

  -- getitimer

  shows : native_call 102 (six 0 65536 0 0) with_timer (replicate 32 7) [] ≡ comes_armed with_timer.timer (time 3 1 ++ time 0 1) (number 0)
  unfolding getitimer_row read_timer
  shows = refl

  shows_by_low_word : native_call 102 (six (2 ^ 32) 65536 0 0) with_timer (replicate 32 7) [] ≡ comes_armed with_timer.timer (time 3 1 ++ time 0 1) (number 0)
  unfolding getitimer_row read_timer
  shows_by_low_word = refl

  shows_another : call 102 (six 2 0 0 0) [] ≡ comes [] (error 22)
  unfolding getitimer_row read_timer
  shows_another = refl

  shows_at_null : call 102 (six 0 0 0 0) [] ≡ comes [] (error 14)
  unfolding getitimer_row read_timer
  shows_at_null = refl

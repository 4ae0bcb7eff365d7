-- Worked rows on sleeping and on the interval timer.
use Rattle.std.specs.Prelude.{◌≡◌, ℕ, true, List, ◌++◌, Option, Some, None, refl}
use Rattle.std.specs.FinMap.{get}
use Rattle.guest_space.specs.Access.{first_denied, refusal}
use Rattle.guest_space.specs.Bytes.{bytes_at, copied_out}
use Rattle.guest_space.specs.Memory.{Memory}
use Rattle.guest_space.specs.declared.access.Access.TheVariants.{Load, Store}
use Rattle.kernel_core.specs.declared.error.Errno.{Errno}
use Rattle.kernel_core.specs.declared.error.Errno.TheVariants.{EFAULT, EINVAL}
use Rattle.kernel_model.specs.Clock.{alarm, arm_timer, read_timer, sleep}
use Rattle.kernel_model.specs.Pipes.{nothing}
use Rattle.kernel_model.specs.State.{Kernel}
use Rattle.layouts.specs.Number.{bytes_of}
use Rattle.mips_exec.specs.Processor.{Processor}
use Rattle.o32_model.proofs.rows.Small.{words, guest}
use Rattle.o32_model.specs.Sleeps.{nanosleep_row, clock_nanosleep_row, alarm_row, setitimer_row, getitimer_row}
use Rattle.o32_model.specs.Step.{O32Step, wait_of}
use Rattle.o32_model.specs.Table.{o32_call}
use Rattle.o32_model.specs.declared.call_words.CallWords.{CallWords}
use Rattle.o32_model.specs.declared.outcome.Outcome.{Outcome}
use Rattle.o32_model.specs.declared.outcome.Outcome.TheVariants.{Value, Error, Sleep}

-- a number of 4 bytes
abbrev u32 : ℕ → List ℕ
u32 value = bytes_of true 4 value

module _ (whole : Kernel) (processor : Processor) (memory : Memory) (left : List ℕ) where
  abbrev leaves : Kernel → Memory → Outcome → O32Step
  leaves kernel memory outcome =
      record { kernel = kernel; left = left; memory = memory; processor = processor; sent = nothing; outcome = outcome }

  abbrev in_kernel : Kernel → CallWords → O32Step
  in_kernel kernel call = o32_call kernel (guest call processor memory) left

  -- in a kernel whose clock stands so, and began so long after the Epoch
  abbrev at : ℕ → ℕ → Kernel
  at clock epoch = record whole { clock = clock; epoch = epoch }

  abbrev at_five : Kernel
  at_five = at 5 7_000_000_000

  -- a call that waits until then
  abbrev until : CallWords → ℕ → O32Step
  until call time = leaves at_five memory (Sleep (wait_of call (record { done = 0; until = Some time })))

  abbrev fails : Errno → O32Step
  fails error = leaves at_five memory (Error error)

  sleep_a_second : first_denied Load memory.pages 65536 8 ≡ None → bytes_at memory.pages 65536 8 ≡ u32 1 ++ u32 3 → in_kernel at_five (words 4166 65536 0 0 0) ≡ until (words 4166 65536 0 0 0) 1_000_000_008
  unfolding nanosleep_row sleep
  sleep_a_second loaded held = simp (loaded, held) refl

  sleep_not_at_all : first_denied Load memory.pages 65536 8 ≡ None → bytes_at memory.pages 65536 8 ≡ u32 0 ++ u32 0 → in_kernel at_five (words 4166 65536 0 0 0) ≡ leaves at_five memory (Value 0)
  unfolding nanosleep_row sleep
  sleep_not_at_all loaded held = simp (loaded, held) refl

  sleep_too_many_nanoseconds : first_denied Load memory.pages 65536 8 ≡ None → bytes_at memory.pages 65536 8 ≡ u32 0 ++ u32 1_000_000_000 → in_kernel at_five (words 4166 65536 0 0 0) ≡ fails EINVAL
  unfolding nanosleep_row sleep
  sleep_too_many_nanoseconds loaded held = simp (loaded, held) refl

  sleep_below_zero : first_denied Load memory.pages 65536 8 ≡ None → bytes_at memory.pages 65536 8 ≡ u32 0xFFFF_FFFF ++ u32 0 → in_kernel at_five (words 4166 65536 0 0 0) ≡ fails EINVAL
  unfolding nanosleep_row sleep
  sleep_below_zero loaded held = simp (loaded, held) refl

  sleep_nanoseconds_below_zero : first_denied Load memory.pages 65536 8 ≡ None → bytes_at memory.pages 65536 8 ≡ u32 0 ++ u32 0xFFFF_FFFF → in_kernel at_five (words 4166 65536 0 0 0) ≡ fails EINVAL
  unfolding nanosleep_row sleep
  sleep_nanoseconds_below_zero loaded held = simp (loaded, held) refl

  sleep_longest : first_denied Load memory.pages 65536 8 ≡ None → bytes_at memory.pages 65536 8 ≡ u32 0x7FFF_FFFF ++ u32 999_999_999 → in_kernel at_five (words 4166 65536 0 0 0) ≡ until (words 4166 65536 0 0 0) 2_147_483_648_000_000_004
  unfolding nanosleep_row sleep
  sleep_longest loaded held = simp (loaded, held) refl

  sleep_unread : get memory.pages 17 ≡ None → in_kernel at_five (words 4166 69632 0 0 0) ≡ fails EFAULT
  unfolding nanosleep_row sleep first_denied refusal bytes_at
  sleep_unread absent = simp absent refl

  -- a null pointer is an address like any other
  sleep_null : get memory.pages 0 ≡ None → in_kernel at_five (words 4166 0 0 0 0) ≡ fails EFAULT
  unfolding nanosleep_row sleep first_denied refusal bytes_at
  sleep_null none = simp none refl

  -- clock_nanosleep: by a length, and until a time of a clock

  by_length : first_denied Load memory.pages 65536 8 ≡ None → bytes_at memory.pages 65536 8 ≡ u32 1 ++ u32 3 → in_kernel at_five (words 4265 0 0 65536 0) ≡ until (words 4265 0 0 65536 0) 1_000_000_008
  unfolding clock_nanosleep_row sleep
  by_length loaded held = simp (loaded, held) refl

  until_time : first_denied Load memory.pages 65536 8 ≡ None → bytes_at memory.pages 65536 8 ≡ u32 1 ++ u32 3 → in_kernel at_five (words 4265 7 1 65536 0) ≡ until (words 4265 7 1 65536 0) 1_000_000_003
  unfolding clock_nanosleep_row sleep
  until_time loaded held = simp (loaded, held) refl

  -- 8 seconds past the Epoch are 1 past the clock's beginning
  until_real_time : first_denied Load memory.pages 65536 8 ≡ None → bytes_at memory.pages 65536 8 ≡ u32 8 ++ u32 3 → in_kernel at_five (words 4265 0 1 65536 0) ≡ until (words 4265 0 1 65536 0) 1_000_000_003
  unfolding clock_nanosleep_row sleep
  until_real_time loaded held = simp (loaded, held) refl

  until_the_past : first_denied Load memory.pages 65536 8 ≡ None → bytes_at memory.pages 65536 8 ≡ u32 0 ++ u32 5 → in_kernel at_five (words 4265 1 1 65536 0) ≡ leaves at_five memory (Value 0)
  unfolding clock_nanosleep_row sleep
  until_the_past loaded held = simp (loaded, held) refl

  -- 6 seconds past the Epoch are before the clock's beginning
  until_before_the_beginning : first_denied Load memory.pages 65536 8 ≡ None → bytes_at memory.pages 65536 8 ≡ u32 6 ++ u32 0 → in_kernel at_five (words 4265 0 1 65536 0) ≡ leaves at_five memory (Value 0)
  unfolding clock_nanosleep_row sleep
  until_before_the_beginning loaded held = simp (loaded, held) refl

  until_below_zero : first_denied Load memory.pages 65536 8 ≡ None → bytes_at memory.pages 65536 8 ≡ u32 0xFFFF_FFFF ++ u32 0 → in_kernel at_five (words 4265 1 1 65536 0) ≡ fails EINVAL
  unfolding clock_nanosleep_row sleep
  until_below_zero loaded held = simp (loaded, held) refl

  by_another_clock : in_kernel at_five (words 4265 2 9 0x8000_0000 0) ≡ fails EINVAL
  unfolding clock_nanosleep_row sleep
  by_another_clock = refl

  by_another_flag : in_kernel at_five (words 4265 1 2 0x8000_0000 0) ≡ fails EINVAL
  unfolding clock_nanosleep_row sleep
  by_another_flag = refl

  until_unread : get memory.pages 17 ≡ None → in_kernel at_five (words 4265 1 1 69632 0) ≡ fails EFAULT
  unfolding clock_nanosleep_row sleep first_denied refusal bytes_at
  until_unread absent = simp absent refl

  -- the interval timer

  abbrev with_timer : Option ℕ → ℕ → Kernel
  with_timer due period = record at_five { timer = record { due = due; period = period } }

  alarm_first : in_kernel (with_timer None 0) (words 4027 2 0 0 0) ≡ leaves (with_timer (Some 2_000_000_005) 0) memory (Value 0)
  unfolding alarm_row alarm
  alarm_first = refl

  -- a second and a half is left, which is rounded up
  alarm_again : in_kernel (with_timer (Some 1_500_000_005) 9) (words 4027 2 0 0 0) ≡ leaves (with_timer (Some 2_000_000_005) 0) memory (Value 2)
  unfolding alarm_row alarm
  alarm_again = refl

  alarm_soon : in_kernel (with_timer (Some 6) 9) (words 4027 0 0 0 0) ≡ leaves (with_timer None 0) memory (Value 1)
  unfolding alarm_row alarm
  alarm_soon = refl

  alarm_under_half_more : in_kernel (with_timer (Some 1_500_000_004) 9) (words 4027 0 0 0 0) ≡ leaves (with_timer None 0) memory (Value 1)
  unfolding alarm_row alarm
  alarm_under_half_more = refl

  alarm_of_nothing : in_kernel (with_timer None 0) (words 4027 0 0 0 0) ≡ leaves (with_timer None 0) memory (Value 0)
  unfolding alarm_row alarm
  alarm_of_nothing = refl

  -- the seconds are a number without a sign
  alarm_latest : in_kernel (with_timer (Some 4_294_967_295_000_000_005) 0) (words 4027 0xFFFF_FFFF 0 0 0) ≡ leaves (with_timer (Some 4_294_967_295_000_000_005) 0) memory (Value 0xFFFF_FFFF)
  unfolding alarm_row alarm
  alarm_latest = refl

  -- of 2^32 + 2 seconds the low 32 bits
  alarm_of_many_seconds : in_kernel (with_timer (Some 4_294_967_298_000_000_005) 0) (words 4027 0 0 0 0) ≡ leaves (with_timer None 0) memory (Value 2)
  unfolding alarm_row alarm
  alarm_of_many_seconds = refl

  -- the period stands before the value
  timer_set : first_denied Load memory.pages 65536 16 ≡ None → bytes_at memory.pages 65536 16 ≡ u32 0 ++ u32 7 ++ u32 1 ++ u32 2 → in_kernel (with_timer None 0) (words 4104 0 65536 0 0) ≡ leaves (with_timer (Some 1_000_002_005) 7_000) memory (Value 0)
  unfolding setitimer_row arm_timer
  timer_set loaded held = simp (loaded, held) refl

  -- without a new value, and what was left is rounded down
  timer_disarmed : first_denied Store memory.pages 65792 16 ≡ None → in_kernel (with_timer (Some 1_000_003_004) 7_999) (words 4104 0 0 65792 0) ≡ leaves (with_timer None 0) (copied_out memory 65792 (u32 0 ++ u32 7 ++ u32 1 ++ u32 2)) (Value 0)
  unfolding setitimer_row arm_timer
  timer_disarmed room = simp room refl

  -- a value of 0 disarms it, whatever the period
  timer_zero : first_denied Load memory.pages 65536 16 ≡ None → bytes_at memory.pages 65536 16 ≡ u32 0 ++ u32 7 ++ u32 0 ++ u32 0 → in_kernel (with_timer (Some 9) 7) (words 4104 0 65536 0 0) ≡ leaves (with_timer None 0) memory (Value 0)
  unfolding setitimer_row arm_timer
  timer_zero loaded held = simp (loaded, held) refl

  timer_exchanged : first_denied Load memory.pages 65536 16 ≡ None → bytes_at memory.pages 65536 16 ≡ u32 0 ++ u32 7 ++ u32 1 ++ u32 2 → first_denied Store memory.pages 65536 16 ≡ None → in_kernel (with_timer (Some 2_000_009) 3_000) (words 4104 0 65536 65536 0) ≡ leaves (with_timer (Some 1_000_002_005) 7_000) (copied_out memory 65536 (u32 0 ++ u32 3 ++ u32 0 ++ u32 2_000)) (Value 0)
  unfolding setitimer_row arm_timer
  timer_exchanged loaded held room = simp (loaded, held, room) refl

  -- the old value can't be stored, and the timer is disarmed
  timer_unshown : get memory.pages 17 ≡ None → in_kernel (with_timer (Some 9) 7) (words 4104 0 0 69632 0) ≡ leaves (with_timer None 0) memory (Error EFAULT)
  unfolding setitimer_row arm_timer first_denied refusal
  timer_unshown absent = simp absent refl

  timer_wrong : first_denied Load memory.pages 65536 16 ≡ None → bytes_at memory.pages 65536 16 ≡ u32 0 ++ u32 0 ++ u32 0 ++ u32 1_000_000 → in_kernel (with_timer (Some 9) 7) (words 4104 0 65536 0 0) ≡ leaves (with_timer (Some 9) 7) memory (Error EINVAL)
  unfolding setitimer_row arm_timer
  timer_wrong loaded held = simp (loaded, held) refl

  -- the old value isn't stored then
  timer_period_below_zero : first_denied Load memory.pages 65536 16 ≡ None → bytes_at memory.pages 65536 16 ≡ u32 0xFFFF_FFFF ++ u32 0 ++ u32 1 ++ u32 0 → in_kernel (with_timer (Some 9) 7) (words 4104 0 65536 65792 0) ≡ leaves (with_timer (Some 9) 7) memory (Error EINVAL)
  unfolding setitimer_row arm_timer
  timer_period_below_zero loaded held = simp (loaded, held) refl

  timer_unread : get memory.pages 17 ≡ None → in_kernel at_five (words 4104 0 69632 0 0) ≡ fails EFAULT
  unfolding setitimer_row arm_timer first_denied refusal bytes_at
  timer_unread absent = simp absent refl

  timer_of_none : in_kernel at_five (words 4104 1 0x8000_0000 0 0) ≡ fails EINVAL
  unfolding setitimer_row arm_timer
  timer_of_none = refl

  timer_shown : first_denied Store memory.pages 65792 16 ≡ None → in_kernel (with_timer (Some 1_000_003_004) 7_999) (words 4105 0 65792 0 0) ≡ leaves (with_timer (Some 1_000_003_004) 7_999) (copied_out memory 65792 (u32 0 ++ u32 7 ++ u32 1 ++ u32 2)) (Value 0)
  unfolding getitimer_row read_timer
  timer_shown room = simp room refl

  -- of 2^32 + 2 seconds the low 32 bits
  timer_of_many_seconds : first_denied Store memory.pages 65792 16 ≡ None → in_kernel (with_timer (Some 4_294_967_298_000_000_005) 0) (words 4105 0 65792 0 0) ≡ leaves (with_timer (Some 4_294_967_298_000_000_005) 0) (copied_out memory 65792 (u32 0 ++ u32 0 ++ u32 2 ++ u32 0)) (Value 0)
  unfolding getitimer_row read_timer
  timer_of_many_seconds room = simp room refl

  timer_at_null : get memory.pages 0 ≡ None → in_kernel at_five (words 4105 0 0 0 0) ≡ fails EFAULT
  unfolding getitimer_row read_timer first_denied refusal
  timer_at_null none = simp none refl

  no_such_timer : in_kernel at_five (words 4105 1 0 0 0) ≡ fails EINVAL
  unfolding getitimer_row read_timer
  no_such_timer = refl

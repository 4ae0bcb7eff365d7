-- Worked rows on time, readiness, limits and chance, at the time 1000 of the clock.
use Rattle.std.specs.Prelude.{◌≡◌, ℕ, ◌+◌, ◌*◌, ◌^◌, pos, negsuc, true, false, [], ◌∷◌, slice_set, Option, Some, None, Ok, Err, refl}
use Rattle.kernel_core.specs.Nodes.{Nodes}
use Rattle.kernel_core.specs.declared.error.Errno.TheVariants.{EBADF, EFAULT, EINVAL, EPERM, ESRCH}
use Rattle.kernel_core.specs.declared.resource.Resource.TheVariants.{Nofile, Cpu, Stack}
use Rattle.kernel_model.proofs.rows.Small.{small}
use Rattle.kernel_model.specs.Begin.{first_signals, first_limits}
use Rattle.kernel_model.specs.Came.{done, refused, waits}
use Rattle.kernel_model.specs.Clock.{second, read_clock, resolution, sleep, arm_timer, read_timer, alarm, unarmed, gone_off, next_time, rounded_seconds, left_of_wait, in_microseconds}
use Rattle.kernel_model.specs.Readiness.{no_events, ready, ready_for, poll, PollEntry, poll_wait, select, select_length, masked_wait}
use Rattle.kernel_model.specs.SignalRows.{advance, post, timer_info, appended}
use Rattle.kernel_model.specs.State.{Kernel, Timer}
use Rattle.kernel_model.specs.System.{set_limit, random_bytes, round, unlimited, infinity}
use Rattle.kernel_model.specs.declared.time.TimeSpec.{TimeSpec}
use Rattle.kernel_model.specs.declared.time.TimeVal.{TimeVal}

spec : ℕ → ℕ → TimeSpec
spec seconds nanoseconds = record { seconds = pos seconds; nanoseconds = pos nanoseconds }

val : ℕ → ℕ → TimeVal
val seconds microseconds = record { seconds = pos seconds; microseconds = pos microseconds }

-- Timers by themselves

periodic : Timer
periodic = record { due = Some 1000; period = 300 }

due_now : gone_off 1000 periodic ≡ Some (record { due = Some 1300; period = 300 })
unfolding periodic
due_now = refl

-- the first time that is past the clock, whatever was missed
due_long_ago : gone_off 1900 periodic ≡ Some (record { due = Some 2200; period = 300 })
unfolding periodic
due_long_ago = refl

not_yet_due : gone_off 999 periodic ≡ None
unfolding periodic
not_yet_due = refl

without_period : gone_off 1000 (record { due = Some 1000; period = 0 }) ≡ Some unarmed
without_period = refl

never_comes : gone_off (2 ^ 62) (record { due = Some (2 ^ 61 + 1); period = 0 }) ≡ None
never_comes = refl

comes_at_last : gone_off (2 ^ 61) (record { due = Some (2 ^ 61); period = 0 }) ≡ Some unarmed
comes_at_last = refl

no_next_time : next_time (record { due = Some (2 ^ 61 + 1); period = 0 }) ≡ None
no_next_time = refl

half_a_second_is_one : rounded_seconds 500_000_000 ≡ 1
half_a_second_is_one = refl

less_is_one_too : rounded_seconds 1 ≡ 1
less_is_one_too = refl

microseconds_down : in_microseconds 1999 ≡ 1
microseconds_down = refl

one_and_less_than_a_half : rounded_seconds 1_499_999_999 ≡ 1
one_and_less_than_a_half = refl

module _ (kernel : Kernel) (nodes : Nodes) where
  at_1000 : Kernel
  at_1000 = record kernel { files = small nodes []; clock = 1000; epoch = 5 * second; timer = unarmed; signals = first_signals; limits = first_limits; chance = record { bytes = 1 ∷ 2 ∷ []; at = 0 } }

  -- Clocks

  real : read_clock at_1000 7 0 ≡ done at_1000 5_000_001_000
  unfolding read_clock at_1000
  real = refl

  monotonic : read_clock at_1000 7 4 ≡ done at_1000 1000
  unfolding read_clock at_1000
  monotonic = refl

  cpu : read_clock at_1000 7 2 ≡ done at_1000 7
  unfolding read_clock at_1000
  cpu = refl

  no_clock : read_clock at_1000 7 8 ≡ refused at_1000 EINVAL
  unfolding read_clock at_1000
  no_clock = refl

  one_nanosecond : resolution at_1000 7 ≡ done at_1000 1
  unfolding resolution
  one_nanosecond = refl

  -- Sleeping

  sleeps : sleep at_1000 1 (Some false) (Ok (spec 1 0)) ≡ waits at_1000 (Some 1_000_001_000)
  unfolding sleep at_1000 spec
  sleeps = refl

  no_sleep : sleep at_1000 1 (Some false) (Ok (spec 0 0)) ≡ done at_1000 tt
  unfolding sleep at_1000 spec
  no_sleep = refl

  until_a_real_time : sleep at_1000 0 (Some true) (Ok (spec 6 0)) ≡ waits at_1000 (Some 1_000_000_000)
  unfolding sleep at_1000 spec
  until_a_real_time = refl

  past_a_real_time : sleep at_1000 0 (Some true) (Ok (spec 4 0)) ≡ done at_1000 tt
  unfolding sleep at_1000 spec
  past_a_real_time = refl

  by_a_cpu_clock : sleep at_1000 2 None (Err EFAULT) ≡ refused at_1000 EINVAL
  unfolding sleep
  by_a_cpu_clock = refl

  unreadable_sleep : sleep at_1000 1 (Some false) (Err EFAULT) ≡ refused at_1000 EFAULT
  unfolding sleep
  unreadable_sleep = refl

  negative_sleep : sleep at_1000 1 (Some false) (Ok (record { seconds = negsuc 0; nanoseconds = pos 0 })) ≡ refused at_1000 EINVAL
  unfolding sleep
  negative_sleep = refl

  whole_nanoseconds : sleep at_1000 1 (Some false) (Ok (spec 0 1_000_000_000)) ≡ refused at_1000 EINVAL
  unfolding sleep spec
  whole_nanoseconds = refl

  -- The timer

  timer_set : arm_timer at_1000 0 (Some (Ok (record { value = val 0 2; period = val 0 3 })))
      ≡ done (record at_1000 { timer = record { due = Some 3000; period = 3000 } }) (record { left = 0; period = 0 })
  unfolding arm_timer at_1000 val
  timer_set = refl

  timer_cleared : arm_timer (record at_1000 { timer = record { due = Some 3000; period = 3000 } }) 0 (Some (Ok (record { value = val 0 0; period = val 0 3 })))
      ≡ done at_1000 (record { left = 2000; period = 3000 })
  unfolding arm_timer at_1000 val
  timer_cleared = refl

  timer_one : arm_timer at_1000 1 (Some (Err EFAULT)) ≡ refused at_1000 EINVAL
  unfolding arm_timer
  timer_one = refl

  timer_unreadable : arm_timer at_1000 0 (Some (Err EFAULT)) ≡ refused at_1000 EFAULT
  unfolding arm_timer
  timer_unreadable = refl

  timer_fraction : arm_timer at_1000 0 (Some (Ok (record { value = val 0 1_000_000; period = val 0 0 }))) ≡ refused at_1000 EINVAL
  unfolding arm_timer val
  timer_fraction = refl

  timer_read : read_timer (record at_1000 { timer = record { due = Some 900; period = 300 } }) 0
      ≡ done (record at_1000 { timer = record { due = Some 900; period = 300 } }) (record { left = 0; period = 300 })
  unfolding read_timer at_1000
  timer_read = refl

  alarm_set : alarm (record at_1000 { timer = record { due = Some 1_500_001_000; period = 300 } }) 2 ≡ done (record at_1000 { timer = record { due = Some 2_000_001_000; period = 0 } }) 2
  unfolding alarm at_1000
  alarm_set = refl

  -- the clock moves, and the timer posts once
  timer_posts : advance (record at_1000 { timer = record { due = Some 1100; period = 300 } }) 2000 false
      ≡ record at_1000 { clock = 2000; timer = record { due = Some 2300; period = 300 }; signals = appended first_signals timer_info }
  unfolding advance at_1000 post
  timer_posts = refl

  -- Readiness

  pipe_is_empty : ready (small nodes []) 3 ≡ no_events
  unfolding ready
  pipe_is_empty = refl

  pipe_has_bytes : ready (small nodes (7 ∷ [])) 3 ≡ ready_for true false
  unfolding ready
  pipe_has_bytes = refl

  pipe_has_room : ready (small nodes []) 4 ≡ ready_for false true
  unfolding ready
  pipe_has_room = refl

  closed_is_told : ready (small nodes []) 2 ≡ record no_events { nval = true }
  unfolding ready
  closed_is_told = refl

  input_only_reads : ready (small nodes []) 0 ≡ ready_for true false
  unfolding ready
  input_only_reads = refl

  asks_input : PollEntry
  asks_input = record { fd = Some 3; events = record no_events { input = true } }

  asks_closed : PollEntry
  asks_closed = record { fd = Some 99; events = no_events }

  skipped : PollEntry
  skipped = record { fd = None; events = record no_events { input = true } }

  -- a closed descriptor is told unasked
  poll_closed : poll at_1000 (poll_wait (pos 5)) 3 (Ok (asks_input ∷ asks_closed ∷ skipped ∷ [])) ≡ done at_1000 (no_events ∷ record no_events { nval = true } ∷ no_events ∷ [])
  unfolding poll at_1000 ready asks_input asks_closed skipped
  poll_closed = refl

  poll_waits : poll at_1000 (poll_wait (pos 5)) 1 (Ok (asks_input ∷ [])) ≡ waits at_1000 (Some 5_001_000)
  unfolding poll at_1000 ready asks_input
  poll_waits = refl

  -- what is left of that wait, and once it is over
  poll_left : left_of_wait at_1000 5_000_400 (Some 5_000_000) ≡ Some 600
  unfolding at_1000
  poll_left = refl

  poll_over : left_of_wait at_1000 5_001_001 (Some 5_000_000) ≡ Some 0
  unfolding at_1000
  poll_over = refl

  left_without_end : left_of_wait at_1000 5_000_000 None ≡ None
  left_without_end = refl

  poll_without_end : poll at_1000 (poll_wait (negsuc 0)) 1 (Ok (asks_input ∷ [])) ≡ waits at_1000 None
  unfolding poll at_1000 ready asks_input
  poll_without_end = refl

  poll_at_once : poll at_1000 (poll_wait (pos 0)) 1 (Ok (asks_input ∷ [])) ≡ done at_1000 (no_events ∷ [])
  unfolding poll at_1000 ready asks_input
  poll_at_once = refl

  poll_too_many : poll at_1000 (poll_wait (pos 0)) 1025 (Err EFAULT) ≡ refused at_1000 EINVAL
  unfolding poll
  poll_too_many = refl

  poll_unreadable : poll at_1000 (poll_wait (pos 0)) 1024 (Err EFAULT) ≡ refused at_1000 EFAULT
  unfolding poll
  poll_unreadable = refl

  -- the time comes before the size of the mask, and that before the mask
  mask_size : masked_wait {A = Option ℕ} (Ok None) 8 (Some (Err EFAULT)) ≡ Err EINVAL
  mask_size = refl

  mask_unreadable : masked_wait {A = Option ℕ} (Ok None) 16 (Some (Err EFAULT)) ≡ Err EFAULT
  mask_unreadable = refl

  no_mask : masked_wait {A = Option ℕ} (Ok None) 8 None ≡ Ok None
  no_mask = refl

  carries : select_length (val 1 2_500_000) ≡ Ok 3_500_000_000
  unfolding val
  carries = refl

  select_ready_sets : select at_1000 (Ok None) (pos 6) (Ok (record { read = 0 ∷ 3 ∷ []; write = 4 ∷ []; except = 0 ∷ [] }))
      ≡ done at_1000 (record { read = 0 ∷ []; write = 4 ∷ []; except = [] })
  unfolding select at_1000 ready
  select_ready_sets = refl

  select_waits : select at_1000 (Ok None) (pos 6) (Ok (record { read = 3 ∷ []; write = []; except = 0 ∷ [] })) ≡ waits at_1000 None
  unfolding select at_1000 ready
  select_waits = refl

  select_closed : select at_1000 (Ok None) (pos 6) (Ok (record { read = []; write = []; except = 2 ∷ [] })) ≡ refused at_1000 EBADF
  unfolding select at_1000 ready
  select_closed = refl

  -- descriptors from the count on are not looked at, closed or not
  select_counted : select at_1000 (Ok None) (pos 2) (Ok (record { read = 0 ∷ 2 ∷ 3 ∷ []; write = 2 ∷ 4 ∷ []; except = 2 ∷ [] }))
      ≡ done at_1000 (record { read = 0 ∷ []; write = []; except = [] })
  unfolding select at_1000 ready
  select_counted = refl

  -- a count above 1024 is 1024
  select_beyond : select at_1000 (Ok None) (pos 2000) (Ok (record { read = 0 ∷ 1024 ∷ []; write = []; except = [] }))
      ≡ done at_1000 (record { read = 0 ∷ []; write = []; except = [] })
  unfolding select at_1000 ready
  select_beyond = refl

  select_negative : select at_1000 (Ok None) (negsuc 0) (Err EFAULT) ≡ refused at_1000 EINVAL
  unfolding select
  select_negative = refl

  select_unreadable : select at_1000 (Ok None) (pos 6) (Err EFAULT) ≡ refused at_1000 EFAULT
  unfolding select
  select_unreadable = refl

  select_wrong_time : select at_1000 (Err EINVAL) (negsuc 0) (Err EFAULT) ≡ refused at_1000 EINVAL
  unfolding select
  select_wrong_time = refl

  -- Limits

  nofile : set_limit at_1000 (pos 0) (Some Nofile) None ≡ done at_1000 (record { soft = 1024; hard = 1024 })
  unfolding set_limit at_1000
  nofile = refl

  stack_size : set_limit at_1000 (pos 100) (Some Stack) None ≡ done at_1000 (record { soft = 8388608; hard = infinity })
  unfolding set_limit at_1000
  stack_size = refl

  limit_of_another : set_limit at_1000 (pos 1) None (Some (Err EFAULT)) ≡ refused at_1000 ESRCH
  unfolding set_limit
  limit_of_another = refl

  no_resource : set_limit at_1000 (pos 100) None (Some (Err EFAULT)) ≡ refused at_1000 EINVAL
  unfolding set_limit
  no_resource = refl

  limit_unreadable : set_limit at_1000 (pos 100) (Some Cpu) (Some (Err EFAULT)) ≡ refused at_1000 EFAULT
  unfolding set_limit
  limit_unreadable = refl

  soft_above_hard : set_limit at_1000 (pos 100) (Some Nofile) (Some (Ok (record { soft = 1026; hard = 1025 }))) ≡ refused at_1000 EINVAL
  unfolding set_limit
  soft_above_hard = refl

  too_many_files : set_limit at_1000 (pos 100) (Some Nofile) (Some (Ok (record { soft = 1; hard = 1025 }))) ≡ refused at_1000 EPERM
  unfolding set_limit
  too_many_files = refl

  limit_kept : set_limit at_1000 (pos 100) (Some Cpu) (Some (Ok (record { soft = 1; hard = 2 }))) ≡ done (record at_1000 { limits = slice_set first_limits 0 (record { soft = 1; hard = 2 }) }) unlimited
  unfolding set_limit at_1000
  limit_kept = refl

  -- Chance: round and round

  four_bytes : random_bytes at_1000 3 3 0 ≡ done (record at_1000 { chance = record { bytes = 1 ∷ 2 ∷ []; at = 1 } }) (1 ∷ 2 ∷ 1 ∷ [])
  unfolding random_bytes at_1000 round
  four_bytes = refl

  no_more_than_asked : random_bytes at_1000 1 3 0 ≡ done (record at_1000 { chance = record { bytes = 1 ∷ 2 ∷ []; at = 1 } }) (1 ∷ [])
  unfolding random_bytes at_1000 round
  no_more_than_asked = refl

  both_flags : random_bytes at_1000 3 0 6 ≡ refused at_1000 EINVAL
  unfolding random_bytes
  both_flags = refl

  no_room : random_bytes at_1000 3 0 0 ≡ refused at_1000 EFAULT
  unfolding random_bytes
  no_room = refl

  no_bytes : random_bytes at_1000 0 0 0 ≡ done at_1000 []
  unfolding random_bytes at_1000 round
  no_bytes = refl

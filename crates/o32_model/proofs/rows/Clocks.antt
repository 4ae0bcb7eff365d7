-- Worked rows on the clocks, and on what sees more of the machine.
use Rattle.std.specs.Prelude.{◌≡◌, ℕ, true, List, [], ◌∷◌, ◌++◌, Some, None, refl}
use Rattle.std.specs.FinMap.{get}
use Rattle.guest_space.specs.Access.{first_denied, refusal}
use Rattle.guest_space.specs.Bytes.{copied_out}
use Rattle.guest_space.specs.Memory.{Memory}
use Rattle.guest_space.specs.declared.access.Access.TheVariants.{Store}
use Rattle.kernel_core.specs.declared.error.Errno.TheVariants.{EFAULT, EINTR, EINVAL, ENOSYS, EOVERFLOW}
use Rattle.kernel_model.specs.Clock.{read_clock, resolution}
use Rattle.kernel_model.specs.Pipes.{nothing}
use Rattle.kernel_model.specs.State.{Kernel}
use Rattle.layouts.specs.Number.{bytes_of}
use Rattle.mips_exec.specs.Processor.{Processor}
use Rattle.o32_model.proofs.rows.Small.{page_of, words, guest}
use Rattle.o32_model.specs.Clocks.{time_row, gettimeofday_row, clock_gettime_row, clock_getres_row}
use Rattle.o32_model.specs.Seeing.{restart_syscall_row}
use Rattle.o32_model.specs.Step.{O32Step}
use Rattle.o32_model.specs.Table.{machine_call, o32_call}
use Rattle.o32_model.specs.declared.call_words.CallWords.{CallWords}
use Rattle.o32_model.specs.declared.outcome.Outcome.{Outcome}
use Rattle.o32_model.specs.declared.outcome.Outcome.TheVariants.{Value, Error, Sleep}
use Rattle.o32_model.specs.declared.wait.Wait.{Wait}

-- a number of 4 bytes
abbrev u32 : ℕ → List ℕ
u32 value = bytes_of true 4 value

module _ (whole : Kernel) (processor : Processor) (memory : Memory) (left : List ℕ) where
  abbrev leaves : Kernel → Memory → Outcome → O32Step
  leaves kernel memory outcome =
      record { kernel = kernel; left = left; memory = memory; processor = processor; sent = nothing; outcome = outcome }

  abbrev in_kernel : Kernel → CallWords → O32Step
  in_kernel kernel call = o32_call kernel (guest call processor memory) left

  -- in a kernel whose clock stands so, and began so long after the Epoch
  abbrev at : ℕ → ℕ → Kernel
  at clock epoch = record whole { clock = clock; epoch = epoch }

  abbrev seven : Kernel
  seven = at 2_500_000_000 5_000_000_000

  abbrev last : Kernel
  last = at 999_999_999 2_147_483_647_000_000_000

  -- one second more than 2^31 - 1
  abbrev late : Kernel
  late = at 0 2_147_483_648_000_000_000

  -- time

  time_alone : in_kernel seven (words 4013 0 0 0 0) ≡ leaves seven memory (Value 7)
  unfolding time_row read_clock
  time_alone = refl

  time_stored : first_denied Store memory.pages 65536 4 ≡ None → in_kernel seven (words 4013 65536 0 0 0) ≡ leaves seven (copied_out memory 65536 (u32 7)) (Value 7)
  unfolding time_row read_clock
  time_stored room = simp room refl

  time_unstored : get memory.pages 17 ≡ None → in_kernel seven (words 4013 69632 0 0 0) ≡ leaves seven memory (Error EFAULT)
  unfolding time_row read_clock first_denied refusal
  time_unstored absent = simp absent refl

  time_last : in_kernel last (words 4013 0 0 0 0) ≡ leaves last memory (Value 0x7FFF_FFFF)
  unfolding time_row read_clock
  time_last = refl

  time_late : in_kernel late (words 4013 0x8000_0000 0 0 0) ≡ leaves late memory (Error EOVERFLOW)
  unfolding time_row read_clock
  time_late = refl

  -- gettimeofday: the nanoseconds are rounded down, and the zone is zeros

  day_and_zone : first_denied Store memory.pages 65536 8 ≡ None → first_denied Store memory.pages 65792 8 ≡ None → in_kernel (at 1_999 0) (words 4078 65536 65792 0 0) ≡ leaves (at 1_999 0) (copied_out (copied_out memory 65536 (u32 0 ++ u32 1)) 65792 (u32 0 ++ u32 0)) (Value 0)
  unfolding gettimeofday_row read_clock
  day_and_zone room more = simp (room, more) refl

  day_alone : first_denied Store memory.pages 65536 8 ≡ None → in_kernel seven (words 4078 65536 0 0 0) ≡ leaves seven (copied_out memory 65536 (u32 7 ++ u32 500_000)) (Value 0)
  unfolding gettimeofday_row read_clock
  day_alone room = simp room refl

  day_last : first_denied Store memory.pages 65536 8 ≡ None → in_kernel last (words 4078 65536 0 0 0) ≡ leaves last (copied_out memory 65536 (u32 0x7FFF_FFFF ++ u32 999_999)) (Value 0)
  unfolding gettimeofday_row read_clock
  day_last room = simp room refl

  day_of_nothing : in_kernel seven (words 4078 0 0 0 0) ≡ leaves seven memory (Value 0)
  unfolding gettimeofday_row read_clock
  day_of_nothing = refl

  -- also with a null pointer for the time
  day_late : in_kernel late (words 4078 0 0x8000_0000 0 0) ≡ leaves late memory (Error EOVERFLOW)
  unfolding gettimeofday_row read_clock
  day_late = refl

  day_unstored : get memory.pages 17 ≡ None → in_kernel seven (words 4078 69632 65792 0 0) ≡ leaves seven memory (Error EFAULT)
  unfolding gettimeofday_row read_clock first_denied refusal
  day_unstored absent = simp absent refl

  -- the time stands where the zone can't be stored
  zone_unstored : get memory.pages 16 ≡ Some (page_of []) → get memory.pages 17 ≡ None → in_kernel seven (words 4078 65536 69632 0 0) ≡ leaves seven (copied_out memory 65536 (u32 7 ++ u32 500_000)) (Error EFAULT)
  unfolding gettimeofday_row read_clock first_denied refusal
  zone_unstored kept absent = simp (kept, absent) refl

  -- clock_getres: a nanosecond

  resolution_stored : first_denied Store memory.pages 65536 8 ≡ None → in_kernel whole (words 4264 7 65536 0 0) ≡ leaves whole (copied_out memory 65536 (u32 0 ++ u32 1)) (Value 0)
  unfolding clock_getres_row resolution
  resolution_stored room = simp room refl

  resolution_alone : in_kernel whole (words 4264 0 0 0 0) ≡ leaves whole memory (Value 0)
  unfolding clock_getres_row resolution
  resolution_alone = refl

  resolution_of_none : in_kernel whole (words 4264 8 0 0 0) ≡ leaves whole memory (Error EINVAL)
  unfolding clock_getres_row resolution
  resolution_of_none = refl

  resolution_unstored : get memory.pages 17 ≡ None → in_kernel whole (words 4264 1 69632 0 0) ≡ leaves whole memory (Error EFAULT)
  unfolding clock_getres_row resolution first_denied refusal
  resolution_unstored absent = simp absent refl

  -- clock_gettime, in a machine whose instructions took 19 microseconds

  abbrev in_machine : Kernel → CallWords → O32Step
  in_machine kernel call = machine_call (record { quanta = 19_000; restart = None }) kernel (guest call processor memory) left

  abbrev a_second : Kernel
  a_second = at 1_000_018_000 5_000_000_000

  monotonic : first_denied Store memory.pages 65536 8 ≡ None → in_machine a_second (words 4263 1 65536 0 0) ≡ leaves a_second (copied_out memory 65536 (u32 1 ++ u32 0x4650)) (Value 0)
  unfolding clock_gettime_row read_clock
  monotonic room = simp room refl

  of_the_process : first_denied Store memory.pages 65536 8 ≡ None → in_machine a_second (words 4263 2 65536 0 0) ≡ leaves a_second (copied_out memory 65536 (u32 0 ++ u32 0x4A38)) (Value 0)
  unfolding clock_gettime_row read_clock
  of_the_process room = simp room refl

  real : first_denied Store memory.pages 65536 8 ≡ None → in_machine a_second (words 4263 0 65536 0 0) ≡ leaves a_second (copied_out memory 65536 (u32 6 ++ u32 0x4650)) (Value 0)
  unfolding clock_gettime_row read_clock
  real room = simp room refl

  -- the coarse clock is real time too, the thread's is the process's, and the others are the clock itself

  real_coarse : first_denied Store memory.pages 65536 8 ≡ None → in_machine a_second (words 4263 5 65536 0 0) ≡ leaves a_second (copied_out memory 65536 (u32 6 ++ u32 0x4650)) (Value 0)
  unfolding clock_gettime_row read_clock
  real_coarse room = simp room refl

  of_the_thread : first_denied Store memory.pages 65536 8 ≡ None → in_machine a_second (words 4263 3 65536 0 0) ≡ leaves a_second (copied_out memory 65536 (u32 0 ++ u32 0x4A38)) (Value 0)
  unfolding clock_gettime_row read_clock
  of_the_thread room = simp room refl

  monotonic_raw : first_denied Store memory.pages 65536 8 ≡ None → in_machine a_second (words 4263 4 65536 0 0) ≡ leaves a_second (copied_out memory 65536 (u32 1 ++ u32 0x4650)) (Value 0)
  unfolding clock_gettime_row read_clock
  monotonic_raw room = simp room refl

  monotonic_coarse : first_denied Store memory.pages 65536 8 ≡ None → in_machine a_second (words 4263 6 65536 0 0) ≡ leaves a_second (copied_out memory 65536 (u32 1 ++ u32 0x4650)) (Value 0)
  unfolding clock_gettime_row read_clock
  monotonic_coarse room = simp room refl

  since_boot : first_denied Store memory.pages 65536 8 ≡ None → in_machine a_second (words 4263 7 65536 0 0) ≡ leaves a_second (copied_out memory 65536 (u32 1 ++ u32 0x4650)) (Value 0)
  unfolding clock_gettime_row read_clock
  since_boot room = simp room refl

  clock_last : first_denied Store memory.pages 65536 8 ≡ None → in_machine last (words 4263 0 65536 0 0) ≡ leaves last (copied_out memory 65536 (u32 0x7FFF_FFFF ++ u32 999_999_999)) (Value 0)
  unfolding clock_gettime_row read_clock
  clock_last room = simp room refl

  clock_of_none : in_machine a_second (words 4263 8 0 0 0) ≡ leaves a_second memory (Error EINVAL)
  unfolding clock_gettime_row read_clock
  clock_of_none = refl

  clock_below_zero : in_machine a_second (words 4263 0xFFFF_FFFF 0 0 0) ≡ leaves a_second memory (Error EINVAL)
  unfolding clock_gettime_row read_clock
  clock_below_zero = refl

  clock_late : in_machine late (words 4263 0 0 0 0) ≡ leaves late memory (Error EOVERFLOW)
  unfolding clock_gettime_row read_clock
  clock_late = refl

  clock_at_null : get memory.pages 0 ≡ None → in_machine a_second (words 4263 1 0 0 0) ≡ leaves a_second memory (Error EFAULT)
  unfolding clock_gettime_row read_clock first_denied refusal
  clock_at_null none = simp none refl

  -- the table alone has no such call, and a machine has no other

  no_call : in_kernel whole (words 4263 1 65536 0 0) ≡ leaves whole memory (Error ENOSYS)
  no_call = refl

  no_call_of_a_machine : in_machine whole (words 4999 0 0 0 0) ≡ leaves whole memory (Error ENOSYS)
  no_call_of_a_machine = refl

  as_in_the_table : in_machine seven (words 4013 0 0 0 0) ≡ in_kernel seven (words 4013 0 0 0 0)
  as_in_the_table = refl

  -- restart_syscall

  some_wait : Wait
  some_wait = record { nr = 4166; words = 65536 ∷ 0 ∷ 0 ∷ 0 ∷ 0 ∷ 0 ∷ []; deadline = Some 9; done = 0; mask = None }

  restart : machine_call (record { quanta = 0; restart = Some some_wait }) whole (guest (words 4253 0 0 0 0) processor memory) left
      ≡ leaves whole memory (Sleep some_wait)
  unfolding restart_syscall_row
  restart = refl

  restart_of_nothing : in_machine whole (words 4253 0 0 0 0) ≡ leaves whole memory (Error EINTR)
  unfolding restart_syscall_row
  restart_of_nothing = refl

-- Worked rows on how the waits of sleeps, poll and select end.
use Rattle.std.specs.Prelude.{◌≡◌, ℕ, true, List, [], ◌∷◌, ◌++◌, Option, Some, None, refl}
use Rattle.std.specs.FinMap.{get}
use Rattle.guest_space.specs.Access.{first_denied, refusal}
use Rattle.guest_space.specs.Bytes.{bytes_at, copied_out}
use Rattle.guest_space.specs.Memory.{Memory}
use Rattle.guest_space.specs.declared.access.Access.TheVariants.{Store}
use Rattle.guest_space.specs.declared.access.Why.TheVariants.{Forbidden}
use Rattle.kernel_core.specs.declared.error.Errno.TheVariants.{EFAULT, EINTR}
use Rattle.kernel_model.specs.SignalSets.{SignalSet}
use Rattle.kernel_model.specs.State.{Kernel}
use Rattle.layouts.specs.Number.{bytes_of}
use Rattle.o32_model.specs.Selecting.{fds_bytes}
use Rattle.o32_model.specs.WaitEnds.{WaitEnd, ends_with, wait_ended}
use Rattle.o32_model.specs.declared.wait.Cause.{Cause}
use Rattle.o32_model.specs.declared.wait.Cause.TheVariants.{Due, Handler, Stopped}
use Rattle.o32_model.specs.declared.wait.Close.{Close}
use Rattle.o32_model.specs.declared.wait.Close.TheVariants as closes
use Rattle.o32_model.specs.declared.wait.Wait.{Wait}

-- a number of 4 bytes
abbrev u32 : ℕ → List ℕ
u32 value = bytes_of true 4 value

module _ (whole : Kernel) (memory : Memory) where
  abbrev waits : ℕ → List ℕ → Option ℕ → Option SignalSet → Wait
  waits nr words deadline mask = record { nr = nr; words = words; deadline = deadline; done = 0; mask = mask }

  -- an end at half a second
  abbrev ended : Wait → Cause → WaitEnd
  ended wait cause = wait_ended wait cause 500_000_000 whole memory

  abbrev comes_to : Close → WaitEnd
  comes_to close = ends_with close whole memory

  -- nanosleep of a second
  abbrev sleep : ℕ → Wait
  sleep address = waits 4166 (65536 ∷ address ∷ 0 ∷ 0 ∷ 0 ∷ 0 ∷ []) (Some 1_000_000_000) None

  sleep_over : ended (sleep 65792) Due ≡ comes_to (closes.Value 0)
  sleep_over = refl

  sleep_handled : first_denied Store memory.pages 65792 8 ≡ None → ended (sleep 65792) Handler ≡ ends_with (closes.Error EINTR) whole (copied_out memory 65792 (u32 0 ++ u32 500_000_000))
  sleep_handled room = simp room refl

  sleep_handled_null : ended (sleep 0) Handler ≡ comes_to (closes.Error EINTR)
  sleep_handled_null = refl

  sleep_handled_unstored : get memory.pages 17 ≡ None → ended (sleep 69632) Handler ≡ comes_to (closes.Error EFAULT)
  unfolding first_denied refusal
  sleep_handled_unstored absent = simp absent refl

  sleep_stopped : ended (sleep 65792) Stopped ≡ comes_to closes.Restart
  sleep_stopped = refl

  -- what is left is never below 0
  sleep_handled_late : first_denied Store memory.pages 65792 8 ≡ None
      → wait_ended (sleep 65792) Handler 1_000_000_001 whole memory ≡ ends_with (closes.Error EINTR) whole (copied_out memory 65792 (u32 0 ++ u32 0))
  sleep_handled_late room = simp room refl

  -- clock_nanosleep: until a time nothing is stored, and it is carried out again
  abbrev by_clock : ℕ → Wait
  by_clock flags = waits 4265 (1 ∷ flags ∷ 65536 ∷ 65792 ∷ 0 ∷ 0 ∷ []) (Some 1_000_000_000) None

  clock_handled : first_denied Store memory.pages 65792 8 ≡ None → ended (by_clock 0) Handler ≡ ends_with (closes.Error EINTR) whole (copied_out memory 65792 (u32 0 ++ u32 500_000_000))
  clock_handled room = simp room refl

  clock_stopped : ended (by_clock 0) Stopped ≡ comes_to closes.Restart
  clock_stopped = refl

  until_handled : ended (by_clock 1) Handler ≡ comes_to (closes.Error EINTR)
  until_handled = refl

  until_stopped : ended (by_clock 1) Stopped ≡ comes_to closes.Again
  until_stopped = refl

  until_over : ended (by_clock 1) Due ≡ comes_to (closes.Value 0)
  until_over = refl

  -- poll of descriptor 3 for input
  abbrev polling : Wait
  polling = waits 4188 (65536 ∷ 1 ∷ 1000 ∷ 0 ∷ 0 ∷ 0 ∷ []) (Some 1_000_000_000) None

  poll_over : bytes_at memory.pages 65536 6 ≡ u32 3 ++ 0 ∷ 1 ∷ [] → first_denied Store memory.pages 65536 8 ≡ None → ended polling Due ≡ ends_with (closes.Value 0) whole (copied_out memory 65536 (u32 3 ++ 0 ∷ 1 ∷ 0 ∷ 0 ∷ []))
  poll_over asked room = simp (asked, room) refl

  poll_over_unstored : bytes_at memory.pages 65536 6 ≡ u32 3 ++ 0 ∷ 1 ∷ [] → first_denied Store memory.pages 65536 8 ≡ Some (record { addr = 65536; why = Forbidden }) → ended polling Due ≡ comes_to (closes.Error EFAULT)
  poll_over_unstored asked full = simp (asked, full) refl

  poll_handled : ended polling Handler ≡ comes_to (closes.Error EINTR)
  poll_handled = refl

  poll_stopped : ended polling Stopped ≡ comes_to closes.Restart
  poll_stopped = refl

  -- ppoll with a time and a mask; the mask before it was that of INT
  abbrev before : SignalSet
  before = 2 ∷ 0 ∷ 0 ∷ 0 ∷ []

  abbrev put_back : Kernel
  put_back = record whole { signals = record whole.signals { mask = before } }

  abbrev masked : ℕ → Wait
  masked time = waits 4302 (65536 ∷ 1 ∷ time ∷ 66048 ∷ 16 ∷ 0 ∷ []) (Some 1_000_000_000) (Some before)

  abbrev half_left : List ℕ
  half_left = u32 0 ++ u32 500_000_000

  ppoll_over : bytes_at memory.pages 65536 6 ≡ u32 3 ++ 0 ∷ 1 ∷ [] → first_denied Store memory.pages 65536 8 ≡ None → first_denied Store memory.pages 65792 8 ≡ None → wait_ended (masked 65792) Due 1_000_000_000 whole memory ≡ ends_with (closes.Value 0) put_back (copied_out (copied_out memory 65536 (u32 3 ++ 0 ∷ 1 ∷ 0 ∷ 0 ∷ [])) 65792 (u32 0 ++ u32 0))
  ppoll_over asked room left_room = simp (asked, room, left_room) refl

  -- a handler finds the call's own mask
  ppoll_handled : first_denied Store memory.pages 65792 8 ≡ None → ended (masked 65792) Handler ≡ ends_with (closes.Error EINTR) whole (copied_out memory 65792 half_left)
  ppoll_handled left_room = simp left_room refl

  ppoll_handled_unstored : get memory.pages 17 ≡ None → ended (masked 69632) Handler ≡ comes_to (closes.Error EINTR)
  unfolding first_denied refusal
  ppoll_handled_unstored absent = simp absent refl

  ppoll_stopped : first_denied Store memory.pages 65792 8 ≡ None → ended (masked 65792) Stopped ≡ ends_with closes.Again put_back (copied_out memory 65792 half_left)
  ppoll_stopped left_room = simp left_room refl

  -- what is left can't be stored, so it is not carried out again
  ppoll_stopped_unstored : get memory.pages 17 ≡ None → ended (masked 69632) Stopped ≡ ends_with (closes.Error EINTR) put_back memory
  unfolding first_denied refusal
  ppoll_stopped_unstored absent = simp absent refl

  ppoll_stopped_without_time : ended (masked 0) Stopped ≡ ends_with closes.Again put_back memory
  ppoll_stopped_without_time = refl

  -- select of five descriptors in two sets, with microseconds, and pselect6, with nanoseconds
  abbrev selecting : ℕ → Wait
  selecting nr = waits nr (5 ∷ 65536 ∷ 0 ∷ 69632 ∷ 65792 ∷ 0 ∷ []) (Some 1_000_000_000) None

  select_over : first_denied Store memory.pages 65536 4 ≡ None → first_denied Store memory.pages 69632 4 ≡ None → first_denied Store memory.pages 65792 8 ≡ None → wait_ended (selecting 4142) Due 1_000_000_000 whole memory ≡ ends_with (closes.Value 0) whole (copied_out (copied_out (copied_out memory 65536 (u32 0)) 69632 (u32 0)) 65792 (u32 0 ++ u32 0))
  unfolding fds_bytes
  select_over room room_then left_room = simp (room, room_then, left_room) refl

  select_over_unstored : first_denied Store memory.pages 65536 4 ≡ None → first_denied Store memory.pages 69632 4 ≡ Some (record { addr = 69632; why = Forbidden }) → first_denied Store memory.pages 65792 8 ≡ None → wait_ended (selecting 4142) Due 1_000_000_000 whole memory ≡ ends_with (closes.Error EFAULT) whole (copied_out (copied_out memory 65536 (u32 0)) 65792 (u32 0 ++ u32 0))
  unfolding fds_bytes
  select_over_unstored room full left_room = simp (room, full, left_room) refl

  select_handled : first_denied Store memory.pages 65792 8 ≡ None → ended (selecting 4142) Handler ≡ ends_with (closes.Error EINTR) whole (copied_out memory 65792 (u32 0 ++ u32 500_000))
  unfolding fds_bytes
  select_handled left_room = simp left_room refl

  select_stopped : first_denied Store memory.pages 65792 8 ≡ None → ended (selecting 4142) Stopped ≡ ends_with closes.Again whole (copied_out memory 65792 (u32 0 ++ u32 500_000))
  unfolding fds_bytes
  select_stopped left_room = simp left_room refl

  -- microseconds are rounded down
  select_handled_later : first_denied Store memory.pages 65792 8 ≡ None → wait_ended (selecting 4142) Handler 499_999_001 whole memory ≡ ends_with (closes.Error EINTR) whole (copied_out memory 65792 (u32 0 ++ u32 500_000))
  unfolding fds_bytes
  select_handled_later left_room = simp left_room refl

  pselect_handled : first_denied Store memory.pages 65792 8 ≡ None → ended (selecting 4301) Handler ≡ ends_with (closes.Error EINTR) whole (copied_out memory 65792 half_left)
  unfolding fds_bytes
  pselect_handled left_room = simp left_room refl

  pselect_stopped : first_denied Store memory.pages 65792 8 ≡ None → ended (selecting 4301) Stopped ≡ ends_with closes.Again whole (copied_out memory 65792 half_left)
  unfolding fds_bytes
  pselect_stopped left_room = simp left_room refl

  -- with a mask of its own
  abbrev selecting_masked : ℕ → Wait
  selecting_masked time = waits 4301 (5 ∷ 0 ∷ 65536 ∷ 0 ∷ time ∷ 66304 ∷ []) (Some 1_000_000_000) (Some before)

  pselect_masked_over : first_denied Store memory.pages 65536 4 ≡ None → first_denied Store memory.pages 65792 8 ≡ None → wait_ended (selecting_masked 65792) Due 1_000_000_000 whole memory ≡ ends_with (closes.Value 0) put_back (copied_out (copied_out memory 65536 (u32 0)) 65792 (u32 0 ++ u32 0))
  unfolding fds_bytes
  pselect_masked_over room left_room = simp (room, left_room) refl

  pselect_masked_handled : first_denied Store memory.pages 65792 8 ≡ None → ended (selecting_masked 65792) Handler ≡ ends_with (closes.Error EINTR) whole (copied_out memory 65792 half_left)
  pselect_masked_handled left_room = simp left_room refl

  pselect_masked_stopped : first_denied Store memory.pages 65792 8 ≡ None → ended (selecting_masked 65792) Stopped ≡ ends_with closes.Again put_back (copied_out memory 65792 half_left)
  pselect_masked_stopped left_room = simp left_room refl

  pselect_masked_stopped_unstored : get memory.pages 17 ≡ None → ended (selecting_masked 69632) Stopped ≡ ends_with (closes.Error EINTR) put_back memory
  unfolding first_denied refusal
  pselect_masked_stopped_unstored absent = simp absent refl

  -- KILL is not put back
  pselect_masked_by_kill : wait_ended (waits 4301 (0 ∷ 0 ∷ 0 ∷ 0 ∷ 0 ∷ 66304 ∷ []) None (Some (0x102 ∷ 0 ∷ 0 ∷ 0 ∷ []))) Stopped 0 whole memory ≡ ends_with closes.Again put_back memory
  pselect_masked_by_kill = refl

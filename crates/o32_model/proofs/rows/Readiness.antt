-- Worked rows on poll and select.
use Rattle.std.specs.Prelude.{◌≡◌, ℕ, pos, true, false, List, [], ◌∷◌, ◌++◌, Option, Some, None, refl}
use Rattle.std.specs.FinMap.{get}
use Rattle.guest_space.specs.Access.{first_denied, refusal}
use Rattle.guest_space.specs.Bytes.{byte_at, bytes_at, copied_out}
use Rattle.guest_space.specs.Memory.{Memory}
use Rattle.guest_space.specs.declared.access.Access.TheVariants.{Load, Store}
use Rattle.guest_space.specs.declared.access.Why.TheVariants.{Forbidden}
use Rattle.kernel_core.specs.Nodes.{Nodes}
use Rattle.kernel_core.specs.declared.error.Errno.{Errno}
use Rattle.kernel_core.specs.declared.error.Errno.TheVariants.{EBADF, EFAULT, EINVAL}
use Rattle.kernel_model.specs.Pipes.{nothing}
use Rattle.kernel_model.specs.Readiness.{poll, ready, select}
use Rattle.kernel_model.specs.SignalSets.{no_signals}
use Rattle.kernel_model.specs.State.{Kernel, Pipe}
use Rattle.kernel_model.specs.Whole.{with_files}
use Rattle.layouts.specs.Number.{bytes_of}
use Rattle.mips_exec.specs.Processor.{Processor}
use Rattle.o32_model.proofs.rows.Small.{page_of, no_pipe, with_pipe_of, words, guest}
use Rattle.o32_model.proofs.rows.SmallTree.{words_of_five, words_with_six}
use Rattle.o32_model.specs.Polling.{poll_row, ppoll_row, entries_in}
use Rattle.o32_model.specs.Selecting.{newselect_row, pselect6_row, word_count, fds_in, fds_below, fds_bytes}
use Rattle.o32_model.specs.Step.{O32Step, wait_of}
use Rattle.o32_model.specs.Table.{o32_call}
use Rattle.o32_model.specs.declared.call_words.CallWords.{CallWords}
use Rattle.o32_model.specs.declared.outcome.Outcome.{Outcome}
use Rattle.o32_model.specs.declared.outcome.Outcome.TheVariants.{Value, Error, Sleep}

-- numbers of 4 and of 2 bytes
abbrev u32 : ℕ → List ℕ
u32 value = bytes_of true 4 value

abbrev u16 : ℕ → List ℕ
u16 value = bytes_of true 2 value

-- an entry: a descriptor, what it asks, and what is told
abbrev entry : ℕ → ℕ → ℕ → List ℕ
entry fd asks tells = u32 fd ++ u16 asks ++ u16 tells

module _ (whole : Kernel) (nodes : Nodes) (processor : Processor) (memory : Memory) where
  -- the clock stands at 5, the mask is empty, and a pipe with these bytes has the ends 3 and 4
  abbrev with_bytes_in : List ℕ → Kernel
  with_bytes_in bytes = record (with_files whole (with_pipe_of nodes bytes)) { clock = 5; signals = record whole.signals { mask = no_signals } }

  -- with this pipe instead
  abbrev with_pipe : Pipe → Kernel
  with_pipe pipe = record (with_files whole (record (with_pipe_of nodes []) { flow = record no_pipe { pipes = Some pipe ∷ None ∷ [] } })) { clock = 5 }

  abbrev piped : Kernel
  piped = with_bytes_in (9 ∷ [])

  abbrev empty : Kernel
  empty = with_bytes_in []

  abbrev leaves : Kernel → Memory → Outcome → O32Step
  leaves kernel memory outcome =
      record { kernel = kernel; left = []; memory = memory; processor = processor; sent = nothing; outcome = outcome }

  abbrev called : Kernel → CallWords → O32Step
  called kernel call = o32_call kernel (guest call processor memory) []

  abbrev fails : Errno → O32Step
  fails error = leaves piped memory (Error error)

  abbrev sleeps : CallWords → Option ℕ → Outcome
  sleeps call until = Sleep (wait_of call (record { done = 0; until = until }))

  -- poll: of what is asked that which is there; a closed descriptor is told unasked, and one below 0 is skipped

  poll_input : first_denied Load memory.pages 65536 8 ≡ None → bytes_at memory.pages 65536 8 ≡ entry 3 0x43 77 → bytes_at memory.pages 65536 6 ≡ u32 3 ++ u16 0x43 → first_denied Store memory.pages 65536 8 ≡ None → called piped (words 4188 65536 1 0xFFFF_FFFF 0) ≡ leaves piped (copied_out memory 65536 (entry 3 0x43 0x41)) (Value 1)
  unfolding poll_row poll entries_in ready
  poll_input loaded held asked room = simp (loaded, held, asked, room) refl

  -- MIPS asks for OUT and WRNORM by one bit
  poll_output : first_denied Load memory.pages 65536 8 ≡ None → bytes_at memory.pages 65536 8 ≡ entry 4 4 77 → bytes_at memory.pages 65536 6 ≡ u32 4 ++ u16 4 → first_denied Store memory.pages 65536 8 ≡ None → called piped (words 4188 65536 1 0 0) ≡ leaves piped (copied_out memory 65536 (entry 4 4 4)) (Value 1)
  unfolding poll_row poll entries_in ready
  poll_output loaded held asked room = simp (loaded, held, asked, room) refl

  poll_unasked : first_denied Load memory.pages 65536 8 ≡ None → bytes_at memory.pages 65536 8 ≡ entry 3 4 77 → bytes_at memory.pages 65536 6 ≡ u32 3 ++ u16 4 → first_denied Store memory.pages 65536 8 ≡ None → called piped (words 4188 65536 1 0 0) ≡ leaves piped (copied_out memory 65536 (entry 3 4 0)) (Value 0)
  unfolding poll_row poll entries_in ready
  poll_unasked loaded held asked room = simp (loaded, held, asked, room) refl

  -- bits that are not listed ask for nothing, and stay
  poll_unlisted : first_denied Load memory.pages 65536 8 ≡ None → bytes_at memory.pages 65536 8 ≡ entry 3 0xFE01 77 → bytes_at memory.pages 65536 6 ≡ u32 3 ++ u16 0xFE01 → first_denied Store memory.pages 65536 8 ≡ None → called piped (words 4188 65536 1 0 0) ≡ leaves piped (copied_out memory 65536 (entry 3 0xFE01 1)) (Value 1)
  unfolding poll_row poll entries_in ready
  poll_unlisted loaded held asked room = simp (loaded, held, asked, room) refl

  -- hang-up and error are told unasked

  abbrev without_writers : Kernel
  without_writers = with_pipe (record { bytes = []; readers = true; writers = false })

  poll_hung_up : first_denied Load memory.pages 65536 8 ≡ None → bytes_at memory.pages 65536 8 ≡ entry 3 0 77 → bytes_at memory.pages 65536 6 ≡ u32 3 ++ u16 0 → first_denied Store memory.pages 65536 8 ≡ None → called without_writers (words 4188 65536 1 5 0) ≡ leaves without_writers (copied_out memory 65536 (entry 3 0 0x10)) (Value 1)
  unfolding poll_row poll entries_in ready
  poll_hung_up loaded held asked room = simp (loaded, held, asked, room) refl

  abbrev without_readers : Kernel
  without_readers = with_pipe (record { bytes = []; readers = false; writers = true })

  poll_in_error : first_denied Load memory.pages 65536 8 ≡ None → bytes_at memory.pages 65536 8 ≡ entry 4 4 77 → bytes_at memory.pages 65536 6 ≡ u32 4 ++ u16 4 → first_denied Store memory.pages 65536 8 ≡ None → called without_readers (words 4188 65536 1 5 0) ≡ leaves without_readers (copied_out memory 65536 (entry 4 4 8)) (Value 1)
  unfolding poll_row poll entries_in ready
  poll_in_error loaded held asked room = simp (loaded, held, asked, room) refl

  -- each entry is stored, and those of which something is told are counted
  poll_second_ready : first_denied Load memory.pages 65536 16 ≡ None → bytes_at memory.pages 65536 16 ≡ entry 3 4 77 ++ entry 4 4 77 → bytes_at memory.pages 65536 6 ≡ u32 3 ++ u16 4 → bytes_at memory.pages 65544 6 ≡ u32 4 ++ u16 4 → first_denied Store memory.pages 65536 8 ≡ None → first_denied Store memory.pages 65544 8 ≡ None → called piped (words 4188 65536 2 5 0) ≡ leaves piped (copied_out (copied_out memory 65536 (entry 3 4 0)) 65544 (entry 4 4 4)) (Value 1)
  unfolding poll_row poll entries_in ready
  poll_second_ready loaded held asked asked_then room room_then = simp (loaded, held, asked, asked_then, room, room_then) refl

  poll_closed : first_denied Load memory.pages 65536 8 ≡ None → bytes_at memory.pages 65536 8 ≡ entry 99 1 77 → bytes_at memory.pages 65536 6 ≡ u32 99 ++ u16 1 → first_denied Store memory.pages 65536 8 ≡ None → called piped (words 4188 65536 1 5 0) ≡ leaves piped (copied_out memory 65536 (entry 99 1 0x20)) (Value 1)
  unfolding poll_row poll entries_in ready
  poll_closed loaded held asked room = simp (loaded, held, asked, room) refl

  poll_skipped : first_denied Load memory.pages 65536 8 ≡ None → bytes_at memory.pages 65536 8 ≡ entry 0xFFFF_FFFF 1 77 → bytes_at memory.pages 65536 6 ≡ u32 0xFFFF_FFFF ++ u16 1 → first_denied Store memory.pages 65536 8 ≡ None → called piped (words 4188 65536 1 0 0) ≡ leaves piped (copied_out memory 65536 (entry 0xFFFF_FFFF 1 0)) (Value 0)
  unfolding poll_row poll entries_in ready
  poll_skipped loaded held asked room = simp (loaded, held, asked, room) refl

  -- a time of 0 does not wait
  poll_at_once : first_denied Load memory.pages 65536 8 ≡ None → bytes_at memory.pages 65536 8 ≡ entry 3 1 77 → bytes_at memory.pages 65536 6 ≡ u32 3 ++ u16 1 → first_denied Store memory.pages 65536 8 ≡ None → called empty (words 4188 65536 1 0 0) ≡ leaves empty (copied_out memory 65536 (entry 3 1 0)) (Value 0)
  unfolding poll_row poll entries_in ready
  poll_at_once loaded held asked room = simp (loaded, held, asked, room) refl

  poll_waits : first_denied Load memory.pages 65536 8 ≡ None → bytes_at memory.pages 65536 8 ≡ entry 3 1 77 → called empty (words 4188 65536 1 5 0) ≡ leaves empty memory (sleeps (words 4188 65536 1 5 0) (Some 5_000_005))
  unfolding poll_row poll entries_in ready
  poll_waits loaded held = simp (loaded, held) refl

  poll_waits_on : first_denied Load memory.pages 65536 8 ≡ None → bytes_at memory.pages 65536 8 ≡ entry 3 1 77 → called empty (words 4188 65536 1 0xFFFF_FFFF 0) ≡ leaves empty memory (sleeps (words 4188 65536 1 0xFFFF_FFFF 0) None)
  unfolding poll_row poll entries_in ready
  poll_waits_on loaded held = simp (loaded, held) refl

  poll_nothing : called piped (words 4188 0 0 0 0) ≡ leaves piped memory (Value 0)
  unfolding poll_row poll entries_in first_denied bytes_at ready
  poll_nothing = refl

  poll_too_many : called piped (words 4188 0 1025 0 0) ≡ fails EINVAL
  unfolding poll_row poll ready
  poll_too_many = refl

  poll_below_zero : called piped (words 4188 0 0xFFFF_FFFF 0 0) ≡ fails EINVAL
  unfolding poll_row poll ready
  poll_below_zero = refl

  poll_unread : get memory.pages 17 ≡ None → called piped (words 4188 69632 1 0 0) ≡ fails EFAULT
  unfolding poll_row poll entries_in first_denied refusal bytes_at ready
  poll_unread absent = simp absent refl

  poll_unstored : first_denied Load memory.pages 65536 8 ≡ None → bytes_at memory.pages 65536 8 ≡ entry 3 1 77 → bytes_at memory.pages 65536 6 ≡ u32 3 ++ u16 1 → first_denied Store memory.pages 65536 8 ≡ Some (record { addr = 65536; why = Forbidden }) → called piped (words 4188 65536 1 0 0) ≡ fails EFAULT
  unfolding poll_row poll entries_in ready
  poll_unstored loaded held asked room = simp (loaded, held, asked, room) refl

  -- the second entry lies on a page that may not be written, and the first stands
  poll_second_unstored : first_denied Load memory.pages 69624 16 ≡ None → bytes_at memory.pages 69624 16 ≡ entry 3 1 77 ++ entry 4 4 77 → bytes_at memory.pages 69624 6 ≡ u32 3 ++ u16 1 → bytes_at memory.pages 69632 6 ≡ u32 4 ++ u16 4 → first_denied Store memory.pages 69624 8 ≡ None → first_denied Store memory.pages 69632 8 ≡ Some (record { addr = 69632; why = Forbidden }) → called piped (words 4188 69624 2 0 0) ≡ leaves piped (copied_out memory 69624 (entry 3 1 1)) (Error EFAULT)
  unfolding poll_row poll entries_in ready
  poll_second_unstored loaded held asked asked_then room full = simp (loaded, held, asked, asked_then, room, full) refl

  -- ppoll

  ppoll_size_unread : called piped (words 4302 0 0 0 0) ≡ fails EFAULT
  unfolding ppoll_row ready
  ppoll_size_unread = refl

  ppoll_time_unread : get memory.pages 17 ≡ None → called piped (words_of_five 4302 0 0 69632 0x8000_0000 8) ≡ fails EFAULT
  unfolding ppoll_row poll first_denied refusal bytes_at ready
  ppoll_time_unread absent = simp absent refl

  ppoll_time_wrong : first_denied Load memory.pages 65792 8 ≡ None → bytes_at memory.pages 65792 8 ≡ u32 0 ++ u32 1_000_000_000 → called piped (words_of_five 4302 0 0 65792 0x8000_0000 8) ≡ fails EINVAL
  unfolding ppoll_row poll ready
  ppoll_time_wrong timed time = simp (timed, time) refl

  -- after the time was read, what is left of it is stored with an error too
  ppoll_mask_of_eight : first_denied Load memory.pages 65792 8 ≡ None → bytes_at memory.pages 65792 8 ≡ u32 1 ++ u32 2 → first_denied Store memory.pages 65792 8 ≡ None → first_denied Load memory.pages 66048 16 ≡ None → called piped (words_of_five 4302 0 0 65792 66048 8) ≡ leaves piped (copied_out memory 65792 (u32 1 ++ u32 2)) (Error EINVAL)
  unfolding ppoll_row poll ready
  ppoll_mask_of_eight timed time stored masked = simp (timed, time, stored, masked) refl

  ppoll_mask_unread : get memory.pages 17 ≡ None → called piped (words_of_five 4302 0 0 0 69632 16) ≡ fails EFAULT
  unfolding ppoll_row poll first_denied refusal bytes_at ready
  ppoll_mask_unread absent = simp absent refl

  ppoll_too_many : first_denied Load memory.pages 65792 8 ≡ None → bytes_at memory.pages 65792 8 ≡ u32 1 ++ u32 2 → first_denied Store memory.pages 65792 8 ≡ None → called piped (words_of_five 4302 0 1025 65792 0 0) ≡ leaves piped (copied_out memory 65792 (u32 1 ++ u32 2)) (Error EINVAL)
  unfolding ppoll_row poll ready
  ppoll_too_many timed time stored = simp (timed, time, stored) refl

  ppoll_entries_unread : first_denied Load memory.pages 69632 8 ≡ Some (record { addr = 69632; why = Forbidden }) → first_denied Load memory.pages 65792 8 ≡ None → bytes_at memory.pages 65792 8 ≡ u32 1 ++ u32 2 → first_denied Store memory.pages 65792 8 ≡ None → called piped (words_of_five 4302 69632 1 65792 0 0) ≡ leaves piped (copied_out memory 65792 (u32 1 ++ u32 2)) (Error EFAULT)
  unfolding ppoll_row poll entries_in ready
  ppoll_entries_unread denied timed time stored = simp (denied, timed, time, stored) refl

  ppoll_ready : first_denied Load memory.pages 65536 8 ≡ None → bytes_at memory.pages 65536 8 ≡ entry 3 1 77 → bytes_at memory.pages 65536 6 ≡ u32 3 ++ u16 1 → first_denied Store memory.pages 65536 8 ≡ None → first_denied Load memory.pages 65792 8 ≡ None → bytes_at memory.pages 65792 8 ≡ u32 1 ++ u32 2 → first_denied Store memory.pages 65792 8 ≡ None → called piped (words_of_five 4302 65536 1 65792 0 0) ≡ leaves piped (copied_out (copied_out memory 65536 (entry 3 1 1)) 65792 (u32 1 ++ u32 2)) (Value 1)
  unfolding ppoll_row poll entries_in ready
  ppoll_ready loaded held asked room timed time stored = simp (loaded, held, asked, room, timed, time, stored) refl

  -- where what is left of the time can't be stored, the answer stands
  ppoll_left_unstored : first_denied Load memory.pages 65536 8 ≡ None → bytes_at memory.pages 65536 8 ≡ entry 3 1 77 → bytes_at memory.pages 65536 6 ≡ u32 3 ++ u16 1 → first_denied Store memory.pages 65536 8 ≡ None → first_denied Load memory.pages 65792 8 ≡ None → bytes_at memory.pages 65792 8 ≡ u32 1 ++ u32 2 → first_denied Store memory.pages 65792 8 ≡ Some (record { addr = 65792; why = Forbidden }) → called piped (words_of_five 4302 65536 1 65792 0 0) ≡ leaves piped (copied_out memory 65536 (entry 3 1 1)) (Value 1)
  unfolding ppoll_row poll entries_in ready
  ppoll_left_unstored loaded held asked room timed time full = simp (loaded, held, asked, room, timed, time, full) refl

  ppoll_waits : first_denied Load memory.pages 65536 8 ≡ None → bytes_at memory.pages 65536 8 ≡ entry 3 1 77 → first_denied Load memory.pages 65792 8 ≡ None → bytes_at memory.pages 65792 8 ≡ u32 1 ++ u32 2 → called empty (words_of_five 4302 65536 1 65792 0 0) ≡ leaves empty memory (sleeps (words_of_five 4302 65536 1 65792 0 0) (Some 1_000_000_007))
  unfolding ppoll_row poll entries_in ready
  ppoll_waits loaded held timed time = simp (loaded, held, timed, time) refl

  -- with a mask: it stands while the call waits, KILL not in it, and the one before is kept

  ppoll_masked : get memory.pages 16 ≡ Some (page_of (u32 0x101 ++ u32 0 ++ u32 0 ++ u32 7)) → called empty (words_of_five 4302 0 0 0 65536 16) ≡ leaves (record empty { signals = record empty.signals { mask = 1 ∷ 0 ∷ 0 ∷ 7 ∷ [] } }) memory
      (Sleep (record (wait_of (words_of_five 4302 0 0 0 65536 16) (record { done = 0; until = None })) { mask = Some no_signals }))
  unfolding ppoll_row poll entries_in first_denied refusal bytes_at byte_at ready
  ppoll_masked kept = simp kept refl

  -- a call that does not wait leaves the mask
  ppoll_masked_at_once : first_denied Load memory.pages 65536 8 ≡ None → bytes_at memory.pages 65536 8 ≡ entry 3 1 77 → bytes_at memory.pages 65536 6 ≡ u32 3 ++ u16 1 → first_denied Store memory.pages 65536 8 ≡ None → first_denied Load memory.pages 65792 8 ≡ None → bytes_at memory.pages 65792 8 ≡ u32 0 ++ u32 0 → first_denied Store memory.pages 65792 8 ≡ None → first_denied Load memory.pages 66048 16 ≡ None → called empty (words_of_five 4302 65536 1 65792 66048 16) ≡ leaves empty (copied_out (copied_out memory 65536 (entry 3 1 0)) 65792 (u32 0 ++ u32 0)) (Value 0)
  unfolding ppoll_row poll entries_in ready
  ppoll_masked_at_once loaded held asked room timed time stored masked = simp (loaded, held, asked, room, timed, time, stored, masked) refl

  -- _newselect: descriptor f is bit f of the first word

  select_time_unread : called piped (words 4142 0 0 0 0) ≡ fails EFAULT
  unfolding newselect_row ready
  select_time_unread = refl

  select_ready : first_denied Load memory.pages 65536 4 ≡ None → bytes_at memory.pages 65536 4 ≡ u32 0x18 → first_denied Store memory.pages 65536 4 ≡ None → called piped (words_with_six 4142 5 65536 0 0 0 0) ≡ leaves piped (copied_out memory 65536 (u32 8)) (Value 1)
  unfolding newselect_row select fds_below fds_bytes ready
  select_ready loaded set room = simp (loaded, set, room) refl

  -- descriptors from the count on are not looked at
  select_uncounted : first_denied Load memory.pages 65536 4 ≡ None → bytes_at memory.pages 65536 4 ≡ u32 0x8000_0008 → first_denied Store memory.pages 65536 4 ≡ None → called piped (words_with_six 4142 5 65536 0 0 0 0) ≡ leaves piped (copied_out memory 65536 (u32 8)) (Value 1)
  unfolding newselect_row select fds_below fds_bytes ready
  select_uncounted loaded set room = simp (loaded, set, room) refl

  select_two : first_denied Load memory.pages 65536 4 ≡ None → bytes_at memory.pages 65536 4 ≡ u32 0x18 → first_denied Store memory.pages 65536 4 ≡ None → first_denied Load memory.pages 65540 4 ≡ None → bytes_at memory.pages 65540 4 ≡ u32 0x10 → first_denied Store memory.pages 65540 4 ≡ None → called piped (words_with_six 4142 5 65536 65540 0 0 0) ≡ leaves piped (copied_out (copied_out memory 65536 (u32 8)) 65540 (u32 0x10)) (Value 2)
  unfolding newselect_row select fds_below fds_bytes ready
  select_two loaded set room loaded_then set_then room_then = simp (loaded, set, room, loaded_then, set_then, room_then) refl

  -- the second set lies on a page that may not be written, and the first stands
  select_second_unstored : first_denied Load memory.pages 65536 4 ≡ None → bytes_at memory.pages 65536 4 ≡ u32 0x18 → first_denied Store memory.pages 65536 4 ≡ None → first_denied Load memory.pages 69632 4 ≡ None → bytes_at memory.pages 69632 4 ≡ u32 0x10 → first_denied Store memory.pages 69632 4 ≡ Some (record { addr = 69632; why = Forbidden }) → called piped (words_with_six 4142 5 65536 69632 0 0 0) ≡ leaves piped (copied_out memory 65536 (u32 8)) (Error EFAULT)
  unfolding newselect_row select fds_below fds_bytes ready
  select_second_unstored loaded set room loaded_then set_then full = simp (loaded, set, room, loaded_then, set_then, full) refl

  select_closed : first_denied Load memory.pages 65536 4 ≡ None → bytes_at memory.pages 65536 4 ≡ u32 0x20 → called piped (words_with_six 4142 6 65536 0 0 0 0) ≡ fails EBADF
  unfolding newselect_row select fds_below fds_bytes ready
  select_closed loaded set = simp (loaded, set) refl

  -- 35 is bit 3 of the second word, and isn't looked at from 35 on
  select_closed_in_second_word : first_denied Load memory.pages 65536 8 ≡ None → bytes_at memory.pages 65536 8 ≡ u32 0 ++ u32 8 → called piped (words_with_six 4142 36 65536 0 0 0 0) ≡ fails EBADF
  unfolding newselect_row select fds_below fds_bytes ready
  select_closed_in_second_word loaded set = simp (loaded, set) refl

  select_uncounted_in_second_word : first_denied Load memory.pages 65536 8 ≡ None → bytes_at memory.pages 65536 8 ≡ u32 8 ++ u32 8 → first_denied Store memory.pages 65536 8 ≡ None → called piped (words_with_six 4142 35 65536 0 0 0 0) ≡ leaves piped (copied_out memory 65536 (u32 8 ++ u32 0)) (Value 1)
  unfolding newselect_row select fds_below fds_bytes ready
  select_uncounted_in_second_word loaded set room = simp (loaded, set, room) refl

  -- there are no exceptions, and a closed descriptor is looked for there too

  select_exceptions : first_denied Load memory.pages 65536 4 ≡ None → bytes_at memory.pages 65536 4 ≡ u32 0x18 → first_denied Store memory.pages 65536 4 ≡ None → first_denied Load memory.pages 65792 8 ≡ None → bytes_at memory.pages 65792 8 ≡ u32 0 ++ u32 0 → first_denied Store memory.pages 65792 8 ≡ None → called piped (words_with_six 4142 5 0 0 65536 65792 0) ≡ leaves piped (copied_out (copied_out memory 65536 (u32 0)) 65792 (u32 0 ++ u32 0)) (Value 0)
  unfolding newselect_row select fds_below fds_bytes ready
  select_exceptions loaded set room timed time stored = simp (loaded, set, room, timed, time, stored) refl

  select_closed_in_exceptions : first_denied Load memory.pages 65536 4 ≡ None → bytes_at memory.pages 65536 4 ≡ u32 0x20 → called piped (words_with_six 4142 6 0 0 65536 0 0) ≡ fails EBADF
  unfolding newselect_row select fds_below fds_bytes ready
  select_closed_in_exceptions loaded set = simp (loaded, set) refl

  -- a hang-up is read, and an error is written

  select_hung_up : first_denied Load memory.pages 65536 4 ≡ None → bytes_at memory.pages 65536 4 ≡ u32 8 → first_denied Store memory.pages 65536 4 ≡ None → called without_writers (words_with_six 4142 4 65536 0 0 0 0) ≡ leaves without_writers (copied_out memory 65536 (u32 8)) (Value 1)
  unfolding newselect_row select fds_below fds_bytes ready
  select_hung_up loaded set room = simp (loaded, set, room) refl

  select_in_error : first_denied Load memory.pages 65536 4 ≡ None → bytes_at memory.pages 65536 4 ≡ u32 0x10 → first_denied Store memory.pages 65536 4 ≡ None → called without_readers (words_with_six 4142 5 0 65536 0 0 0) ≡ leaves without_readers (copied_out memory 65536 (u32 0x10)) (Value 1)
  unfolding newselect_row select fds_below fds_bytes ready
  select_in_error loaded set room = simp (loaded, set, room) refl

  select_unread : get memory.pages 17 ≡ None → called piped (words_with_six 4142 1 69632 0 0 0 0) ≡ fails EFAULT
  unfolding newselect_row select fds_below fds_bytes first_denied refusal bytes_at ready
  select_unread absent = simp absent refl

  select_below_zero : first_denied Load memory.pages 65792 8 ≡ None → bytes_at memory.pages 65792 8 ≡ u32 1 ++ u32 2 → first_denied Store memory.pages 65792 8 ≡ None → called piped (words_with_six 4142 0xFFFF_FFFF 0 0 0 65792 0) ≡ leaves piped (copied_out memory 65792 (u32 1 ++ u32 2)) (Error EINVAL)
  unfolding newselect_row select fds_below fds_bytes ready
  select_below_zero timed time stored = simp (timed, time, stored) refl

  select_set_unread : first_denied Load memory.pages 69632 4 ≡ Some (record { addr = 69632; why = Forbidden }) → first_denied Load memory.pages 65792 8 ≡ None → bytes_at memory.pages 65792 8 ≡ u32 1 ++ u32 2 → first_denied Store memory.pages 65792 8 ≡ None → called piped (words_with_six 4142 1 0 69632 0 65792 0) ≡ leaves piped (copied_out memory 65792 (u32 1 ++ u32 2)) (Error EFAULT)
  unfolding newselect_row select fds_below fds_bytes ready
  select_set_unread denied timed time stored = simp (denied, timed, time, stored) refl

  -- the time comes before the count
  select_time_absent : get memory.pages 17 ≡ None → called piped (words_with_six 4142 0xFFFF_FFFF 0 0 0 69632 0) ≡ fails EFAULT
  unfolding newselect_row select fds_below fds_bytes first_denied refusal bytes_at ready
  select_time_absent absent = simp absent refl

  select_microseconds_below_zero : first_denied Load memory.pages 65792 8 ≡ None → bytes_at memory.pages 65792 8 ≡ u32 1 ++ u32 0xFFFF_FFFF → called piped (words_with_six 4142 0 0 0 0 65792 0) ≡ fails EINVAL
  unfolding newselect_row select fds_below fds_bytes ready
  select_microseconds_below_zero timed time = simp (timed, time) refl

  select_time_wrong : first_denied Load memory.pages 65792 8 ≡ None → bytes_at memory.pages 65792 8 ≡ u32 0xFFFF_FFFF ++ u32 0 → called piped (words_with_six 4142 0xFFFF_FFFF 0 0 0 65792 0) ≡ fails EINVAL
  unfolding newselect_row select fds_below fds_bytes ready
  select_time_wrong timed time = simp (timed, time) refl

  -- microseconds from 1,000,000 on carry into the seconds
  select_carries : first_denied Load memory.pages 65792 8 ≡ None → bytes_at memory.pages 65792 8 ≡ u32 1 ++ u32 2_000_001 → called empty (words_with_six 4142 0 0 0 0 65792 0) ≡ leaves empty memory (sleeps (words_with_six 4142 0 0 0 0 65792 0) (Some 3_000_001_005))
  unfolding newselect_row select fds_below fds_bytes ready
  select_carries timed time = simp (timed, time) refl

  select_at_once : first_denied Load memory.pages 65792 8 ≡ None → bytes_at memory.pages 65792 8 ≡ u32 0 ++ u32 0 → first_denied Store memory.pages 65792 8 ≡ None → called empty (words_with_six 4142 0 0 0 0 65792 0) ≡ leaves empty (copied_out memory 65792 (u32 0 ++ u32 0)) (Value 0)
  unfolding newselect_row select fds_below fds_bytes ready
  select_at_once timed time stored = simp (timed, time, stored) refl

  select_waits_on : called empty (words_with_six 4142 0 0 0 0 0 0) ≡ leaves empty memory (sleeps (words_with_six 4142 0 0 0 0 0 0) None)
  unfolding newselect_row select fds_below fds_bytes ready
  select_waits_on = refl

  -- pselect6

  pselect_pair_unread : called piped (words_of_five 4301 0 0 0 0 0) ≡ fails EFAULT
  unfolding pselect6_row ready
  pselect_pair_unread = refl

  -- the pair comes before the time
  pselect_pair_absent : get memory.pages 17 ≡ None → called piped (words_with_six 4301 0 0 0 0 65792 69632) ≡ fails EFAULT
  unfolding pselect6_row select fds_below fds_bytes first_denied refusal bytes_at ready
  pselect_pair_absent absent = simp absent refl

  pselect_without_mask : first_denied Load memory.pages 65536 4 ≡ None → bytes_at memory.pages 65536 4 ≡ u32 0x18 → first_denied Store memory.pages 65536 4 ≡ None → called piped (words_with_six 4301 5 65536 0 0 0 0) ≡ leaves piped (copied_out memory 65536 (u32 8)) (Value 1)
  unfolding pselect6_row select fds_below fds_bytes ready
  pselect_without_mask loaded set room = simp (loaded, set, room) refl

  pselect_masked : first_denied Load memory.pages 66304 8 ≡ None → bytes_at memory.pages 66304 8 ≡ u32 66048 ++ u32 16 → first_denied Load memory.pages 66048 16 ≡ None → bytes_at memory.pages 66048 16 ≡ u32 0x101 ++ u32 0 ++ u32 0 ++ u32 7 → called empty (words_with_six 4301 0 0 0 0 0 66304) ≡ leaves (record empty { signals = record empty.signals { mask = 1 ∷ 0 ∷ 0 ∷ 7 ∷ [] } }) memory
      (Sleep (record (wait_of (words_with_six 4301 0 0 0 0 0 66304) (record { done = 0; until = None })) { mask = Some no_signals }))
  unfolding pselect6_row select fds_below fds_bytes ready
  pselect_masked paired pair masked mask = simp (paired, pair, masked, mask) refl

  pselect_mask_of_eight : first_denied Load memory.pages 66304 8 ≡ None → bytes_at memory.pages 66304 8 ≡ u32 66048 ++ u32 8 → first_denied Load memory.pages 65792 8 ≡ None → bytes_at memory.pages 65792 8 ≡ u32 1 ++ u32 2 → first_denied Store memory.pages 65792 8 ≡ None → first_denied Load memory.pages 66048 16 ≡ None → called piped (words_with_six 4301 0 0 0 0 65792 66304) ≡ leaves piped (copied_out memory 65792 (u32 1 ++ u32 2)) (Error EINVAL)
  unfolding pselect6_row select fds_below fds_bytes ready
  pselect_mask_of_eight paired pair timed time stored masked = simp (paired, pair, timed, time, stored, masked) refl

  -- without a mask its size says nothing
  pselect_null_mask : first_denied Load memory.pages 66304 8 ≡ None → bytes_at memory.pages 66304 8 ≡ u32 0 ++ u32 8 → called empty (words_with_six 4301 0 0 0 0 0 66304) ≡ leaves empty memory (sleeps (words_with_six 4301 0 0 0 0 0 66304) None)
  unfolding pselect6_row select fds_below fds_bytes ready
  pselect_null_mask paired pair = simp (paired, pair) refl

  -- the time comes before the mask, and is not stored where it is none
  pselect_time_wrong : first_denied Load memory.pages 66304 8 ≡ None → bytes_at memory.pages 66304 8 ≡ u32 66048 ++ u32 8 → first_denied Load memory.pages 65792 8 ≡ None → bytes_at memory.pages 65792 8 ≡ u32 0 ++ u32 1_000_000_000 → called piped (words_with_six 4301 0 0 0 0 65792 66304) ≡ fails EINVAL
  unfolding pselect6_row select fds_below fds_bytes ready
  pselect_time_wrong paired pair timed time = simp (paired, pair, timed, time) refl

  -- the mask comes before the count
  pselect_mask_absent : first_denied Load memory.pages 66304 8 ≡ None → bytes_at memory.pages 66304 8 ≡ u32 66048 ++ u32 16 → first_denied Load memory.pages 65792 8 ≡ None → bytes_at memory.pages 65792 8 ≡ u32 1 ++ u32 2 → first_denied Store memory.pages 65792 8 ≡ None → first_denied Load memory.pages 66048 16 ≡ Some (record { addr = 66048; why = Forbidden }) → called piped (words_with_six 4301 0xFFFF_FFFF 0 0 0 65792 66304) ≡ leaves piped (copied_out memory 65792 (u32 1 ++ u32 2)) (Error EFAULT)
  unfolding pselect6_row select fds_below fds_bytes ready
  pselect_mask_absent paired pair timed time stored denied = simp (paired, pair, timed, time, stored, denied) refl

-- Sets of more than one word; a count above 1024 counts as that

two_words_read : fds_in 2 (u32 1 ++ u32 0x8000_0008) ≡ 0 ∷ 35 ∷ 63 ∷ []
unfolding fds_below
two_words_read = refl

two_words_stored : fds_bytes (0 ∷ 35 ∷ 63 ∷ []) 2 ≡ u32 1 ++ u32 0x8000_0008
unfolding fds_bytes
two_words_stored = refl

no_word : word_count (pos 0) ≡ 0
no_word = refl

one_word : word_count (pos 32) ≡ 1
one_word = refl

one_word_more : word_count (pos 33) ≡ 2
one_word_more = refl

most_words : word_count (pos 1025) ≡ 32
most_words = refl

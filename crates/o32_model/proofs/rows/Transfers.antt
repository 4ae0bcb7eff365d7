-- Worked rows on reading and writing.
use Rattle.std.specs.Prelude.{◌≡◌, ℕ, true, false, List, [], ◌∷◌, ◌++◌, length, take, Some, None, refl}
use Rattle.std.specs.FinMap.{get, get-empty}
use Rattle.std.specs.Ordering.{nat_cmp}
use Rattle.guest_space.specs.Access.{readable_prefix, writable_prefix, first_denied, refusal}
use Rattle.guest_space.specs.Bytes.{bytes_at, byte_at, copied_out, with_bytes}
use Rattle.guest_space.specs.Memory.{Memory}
use Rattle.kernel_core.specs.FileContent.{bytes_at as content_bytes_at, byte_at as content_byte_at, longest_write, absent_blocks}
use Rattle.kernel_core.specs.NodeCalls.{after_write}
use Rattle.kernel_core.specs.Nodes.{Nodes}
use Rattle.kernel_core.specs.Totals.{live_blocks}
use Rattle.kernel_core.specs.declared.error.Errno.{Errno}
use Rattle.kernel_core.specs.declared.error.Errno.TheVariants.{EAGAIN, EBADF, EFAULT, EFBIG, EINVAL, EISDIR, ENOSPC, EPIPE, ESPIPE}
use Rattle.kernel_core.specs.declared.signal.Sig.TheVariants.{Pipe}
use Rattle.kernel_model.specs.Clock.{now}
use Rattle.kernel_model.specs.DescriptorRows.{set_status_flags}
use Rattle.kernel_model.specs.SignalRows.{post, kill_info}
use Rattle.kernel_model.specs.State.{Kernel, Files}
use Rattle.kernel_model.specs.Transfers.{read, read_at, write, write_at}
use Rattle.kernel_model.specs.Whole.{with_files, kernel_read, kernel_write}
use Rattle.layouts.specs.Number.{bytes_of}
use Rattle.mips_exec.specs.Processor.{Processor}
use Rattle.o32_model.proofs.rows.Small.{at_first, after_moving, with_pipe_of, with_node_at, empty_file, large_file, some_directory, page_of, words, words_with, guest, leaves, sleep_after}
use Rattle.o32_model.specs.Descriptors.{fcntl_row}
use Rattle.o32_model.specs.Step.{O32Step}
use Rattle.o32_model.specs.Table.{o32_call}
use Rattle.o32_model.specs.Transfers.{read_row, write_row, readv_row, writev_row, pread_row, pwrite_row}
use Rattle.o32_model.specs.declared.call_words.CallWords.{CallWords}
use Rattle.o32_model.specs.declared.outcome.Outcome.{Outcome}
use Rattle.o32_model.specs.declared.outcome.Outcome.TheVariants.{Value, Error, Sleep}

-- a structure of a vector: a base and a length, each of 4 bytes
abbrev piece : ℕ → ℕ → List ℕ
piece base length = bytes_of true 4 base ++ bytes_of true 4 length

-- a vector of two buffers, of 2 bytes and of 3, and then the buffers
abbrev scattered : List ℕ → List ℕ
scattered bytes = piece 65552 2 ++ piece 65554 3 ++ bytes

-- a vector of two buffers, of which the second lies on a page that is absent, and then the first
abbrev half_absent : List ℕ → List ℕ
half_absent bytes = piece 65552 2 ++ piece 69632 3 ++ bytes

module _ (whole : Kernel) (nodes : Nodes) (processor : Processor) (memory : Memory) where
  -- a call in the first state, and with a pipe of these bytes
  abbrev at_start : CallWords → List ℕ → O32Step
  at_start call left = o32_call (with_files whole (at_first nodes)) (guest call processor memory) left

  abbrev with_pipe : List ℕ → CallWords → O32Step
  with_pipe bytes call = o32_call (with_files whole (with_pipe_of nodes bytes)) (guest call processor memory) []

  -- what is left after a call that sends nothing
  abbrev stays : Files → List ℕ → Outcome → O32Step
  stays files left outcome = leaves whole files processor memory left outcome

  abbrev refuses : List ℕ → Errno → O32Step
  refuses left error = stays (at_first nodes) left (Error error)

  -- a call that wrote these to the output
  abbrev puts_out : List ℕ → O32Step
  puts_out bytes = record {
    kernel = with_files whole (after_moving (at_first nodes) 0 (length bytes) 0);
    left = [];
    memory = memory;
    processor = processor;
    sent = record { out = bytes; err = [] };
    outcome = Value (length bytes);
  }

  -- write

  -- "Hi" and a newline
  hi : get memory.pages 16 ≡ Some (page_of (72 ∷ 105 ∷ 10 ∷ [])) → at_start (words 4004 1 65536 3 0) [] ≡ puts_out (72 ∷ 105 ∷ 10 ∷ [])
  unfolding write_row kernel_write write readable_prefix first_denied refusal bytes_at byte_at
  hi kept = simp kept refl

  to_error_output : get memory.pages 16 ≡ Some (page_of (72 ∷ [])) → at_start (words 4004 2 65536 1 0) [] ≡ record {
    kernel = with_files whole (after_moving (at_first nodes) 0 0 1);
    left = [];
    memory = memory;
    processor = processor;
    sent = record { out = []; err = 72 ∷ [] };
    outcome = Value 1;
  }
  unfolding write_row kernel_write write readable_prefix first_denied refusal bytes_at byte_at
  to_error_output kept = simp kept refl

  -- the last five of eight bytes lie on a page that is absent, and then all of them
  partly_absent : (held : List ℕ) → get memory.pages 16 ≡ Some (page_of held) → get memory.pages 17 ≡ None
      → bytes_at memory.pages 69629 3 ≡ 72 ∷ 105 ∷ 10 ∷ [] → at_start (words 4004 1 69629 8 0) [] ≡ puts_out (72 ∷ 105 ∷ 10 ∷ [])
  unfolding write_row kernel_write write readable_prefix first_denied refusal
  partly_absent held kept absent three = simp (kept, absent, three) refl

  all_absent : get memory.pages 17 ≡ None → at_start (words 4004 1 69632 8 0) [] ≡ refuses [] EFAULT
  unfolding write_row kernel_write write readable_prefix first_denied refusal bytes_at
  all_absent absent = simp absent refl

  -- past user space no page is looked for
  past_user_space : at_start (words 4004 1 0x7FFF_8000 3 0) [] ≡ refuses [] EFAULT
  unfolding write_row kernel_write write readable_prefix first_denied refusal bytes_at
  past_user_space = refl

  -- no byte, wherever
  no_byte : at_start (words 4004 1 0 0 0) [] ≡ stays (at_first nodes) [] (Value 0)
  unfolding write_row kernel_write write
  no_byte = refl

  -- a descriptor that isn't open comes before the buffer, and so does one that isn't open for writing
  write_closed : at_start (words 4004 3 0 3 0) [] ≡ refuses [] EBADF
  unfolding write_row kernel_write write
  write_closed = refl

  write_below_zero : at_start (words 4004 0xFFFF_FFFF 0 1 0) [] ≡ refuses [] EBADF
  unfolding write_row kernel_write write
  write_below_zero = refl

  write_to_input : at_start (words 4004 0 0 1 0) [] ≡ refuses [] EBADF
  unfolding write_row kernel_write write
  write_to_input = refl

  -- "ab"
  to_pipe : get memory.pages 16 ≡ Some (page_of (97 ∷ 98 ∷ []))
      → with_pipe [] (words 4004 4 65536 2 0) ≡ stays (with_pipe_of nodes (97 ∷ 98 ∷ [])) [] (Value 2)
  unfolding write_row kernel_write write readable_prefix first_denied refusal bytes_at byte_at
  to_pipe kept = simp kept refl

  -- a pipe that is full
  to_full_pipe : (held : List ℕ) → length held ≡ 65_536 → get memory.pages 16 ≡ Some (page_of (97 ∷ []))
      → with_pipe held (words 4004 4 65536 1 0) ≡ stays (with_pipe_of nodes held) [] (sleep_after (words 4004 4 65536 1 0) 0)
  unfolding write_row kernel_write write readable_prefix first_denied refusal bytes_at byte_at
  to_full_pipe held full kept = simp (full, kept) refl

  -- 4097 bytes to a pipe with room for one: that is put, and the call waits with the number of bytes done
  to_pipe_in_part : (held bytes : List ℕ) → length held ≡ 65_535 → length bytes ≡ 4097 → take 4097 bytes ≡ bytes
      → readable_prefix memory.pages 65536 4097 ≡ 4097 → bytes_at memory.pages 65536 4097 ≡ bytes
      → (with_pipe held (words 4004 4 65536 4097 0)).outcome
      ≡ Sleep (record { nr = 4004; words = 4 ∷ 65536 ∷ 4097 ∷ 0 ∷ 0 ∷ 0 ∷ []; deadline = None; done = 1; mask = None })
  unfolding write_row kernel_write write
  to_pipe_in_part held bytes full long whole room loaded = simp (room, loaded, long, full, whole) refl

  -- a description that does not wait
  to_full_pipe_nonblock : (held : List ℕ) → length held ≡ 65_536 → get memory.pages 16 ≡ Some (page_of (97 ∷ []))
      → (o32_call (with_pipe held (words 4055 4 4 0x80 0)).kernel (guest (words 4004 4 65536 1 0) processor memory) []).outcome ≡ Error EAGAIN
  unfolding fcntl_row set_status_flags write_row kernel_write write readable_prefix first_denied refusal bytes_at byte_at
  to_full_pipe_nonblock held full kept = simp (full, kept) refl

  -- a pipe that nobody reads: SIGPIPE is posted
  abbrev without_readers : Files
  without_readers = record (with_pipe_of nodes []) {
    flow = record (with_pipe_of nodes []).flow { pipes = Some (record { bytes = []; readers = false; writers = true }) ∷ None ∷ [] };
  }

  to_broken_pipe : get memory.pages 16 ≡ Some (page_of (97 ∷ []))
      → o32_call (with_files whole without_readers) (guest (words 4004 4 65536 1 0) processor memory) []
      ≡ record (stays without_readers [] (Error EPIPE)) {
        kernel = record (with_files whole without_readers) { signals = (post whole.signals (kill_info Pipe) false).signals };
      }
  unfolding write_row kernel_write write readable_prefix first_denied refusal bytes_at byte_at
  to_broken_pipe kept = simp kept refl

  -- read

  -- what was written is read, and another read waits
  of_pipe : (held : List ℕ) → get memory.pages 16 ≡ Some (page_of held)
      → with_pipe (97 ∷ 98 ∷ []) (words 4003 3 65536 8 0)
      ≡ leaves whole (with_pipe_of nodes []) processor (copied_out memory 65536 (97 ∷ 98 ∷ [])) [] (Value 2)
  unfolding read_row kernel_read read writable_prefix first_denied refusal
  of_pipe held kept = simp kept refl

  of_empty_pipe : (held : List ℕ) → get memory.pages 16 ≡ Some (page_of held)
      → with_pipe [] (words 4003 3 65536 8 0) ≡ stays (with_pipe_of nodes []) [] (sleep_after (words 4003 3 65536 8 0) 0)
  unfolding read_row kernel_read read writable_prefix first_denied refusal
  of_empty_pipe held kept = simp kept refl

  -- what is kept of a call that waits: its number and its first six words
  what_waits : (held : List ℕ) → get memory.pages 16 ≡ Some (page_of held)
      → (with_pipe [] (words_with 4003 3 65536 8 5 6)).outcome
      ≡ Sleep (record { nr = 4003; words = 3 ∷ 65536 ∷ 8 ∷ 0 ∷ 5 ∷ 6 ∷ []; deadline = None; done = 0; mask = None })
  unfolding read_row kernel_read read writable_prefix first_denied refusal
  what_waits held kept = simp kept refl

  -- "xy", and then the end
  whole_input : (held : List ℕ) → get memory.pages 16 ≡ Some (page_of held) → at_start (words 4003 0 65536 8 0) (120 ∷ 121 ∷ [])
      ≡ leaves whole (after_moving (at_first nodes) 2 0 0) processor (copied_out memory 65536 (120 ∷ 121 ∷ [])) [] (Value 2)
  unfolding read_row kernel_read read writable_prefix first_denied refusal
  whole_input held kept = simp kept refl

  end_of_input : (held : List ℕ) → get memory.pages 16 ≡ Some (page_of held)
      → o32_call (with_files whole (after_moving (at_first nodes) 2 0 0)) (guest (words 4003 0 65536 8 0) processor memory) []
      ≡ stays (after_moving (at_first nodes) 2 0 0) [] (Value 0)
  unfolding read_row kernel_read read writable_prefix first_denied refusal copied_out with_bytes
  end_of_input held kept = simp kept refl

  -- as much as there is room for
  input_before_absent : (held : List ℕ) → get memory.pages 16 ≡ Some (page_of held) → get memory.pages 17 ≡ None
      → at_start (words 4003 0 69631 8 0) (120 ∷ 121 ∷ [])
      ≡ leaves whole (after_moving (at_first nodes) 1 0 0) processor (copied_out memory 69631 (120 ∷ [])) (121 ∷ []) (Value 1)
  unfolding read_row kernel_read read writable_prefix first_denied refusal
  input_before_absent held kept absent = simp (kept, absent) refl

  -- a page that may be read and not written
  into_read_only : get memory.pages 16 ≡ Some (record { protection = 1; ready = true; bytes = [] })
      → at_start (words 4003 0 65536 4 0) (120 ∷ []) ≡ refuses (120 ∷ []) EFAULT
  unfolding read_row kernel_read read writable_prefix first_denied refusal
  into_read_only kept = simp kept refl

  read_output : at_start (words 4003 1 0 1 0) (120 ∷ []) ≡ refuses (120 ∷ []) EBADF
  unfolding read_row kernel_read read
  read_output = refl

  read_closed : at_start (words 4003 3 0 1 0) [] ≡ refuses [] EBADF
  unfolding read_row kernel_read read
  read_closed = refl

  -- readv and writev

  into_two : get memory.pages 16 ≡ Some (page_of (scattered []))
      → at_start (words 4145 0 65536 2 0) (120 ∷ 121 ∷ 122 ∷ 123 ∷ [])
      ≡ leaves whole (after_moving (at_first nodes) 4 0 0) processor
      (copied_out (copied_out memory 65552 (120 ∷ 121 ∷ [])) 65554 (122 ∷ 123 ∷ [])) [] (Value 4)
  unfolding readv_row kernel_read read writable_prefix first_denied refusal bytes_at byte_at
  into_two kept = simp kept refl

  -- up to the first byte that is absent
  into_one : get memory.pages 16 ≡ Some (page_of (half_absent [])) → get memory.pages 17 ≡ None
      → (at_start (words 4145 0 65536 2 0) (120 ∷ 121 ∷ 122 ∷ [])).outcome ≡ Value 2
  unfolding readv_row kernel_read read writable_prefix first_denied refusal bytes_at byte_at
  into_one kept absent = simp (kept, absent) refl

  from_two : get memory.pages 16 ≡ Some (page_of (scattered (72 ∷ 105 ∷ 33 ∷ 33 ∷ 10 ∷ [])))
      → at_start (words 4146 1 65536 2 0) [] ≡ puts_out (72 ∷ 105 ∷ 33 ∷ 33 ∷ 10 ∷ [])
  unfolding writev_row kernel_write write readable_prefix first_denied refusal bytes_at byte_at
  from_two kept = simp kept refl

  from_one : get memory.pages 16 ≡ Some (page_of (half_absent (72 ∷ 105 ∷ []))) → get memory.pages 17 ≡ None
      → at_start (words 4146 1 65536 2 0) [] ≡ puts_out (72 ∷ 105 ∷ [])
  unfolding writev_row kernel_write write readable_prefix first_denied refusal bytes_at byte_at
  from_one kept absent = simp (kept, absent) refl

  -- at a pipe's ends
  into_two_of_pipe : get memory.pages 16 ≡ Some (page_of (scattered []))
      → with_pipe (97 ∷ 98 ∷ 99 ∷ []) (words 4145 3 65536 2 0)
      ≡ leaves whole (with_pipe_of nodes []) processor
      (copied_out (copied_out memory 65552 (97 ∷ 98 ∷ [])) 65554 (99 ∷ [])) [] (Value 3)
  unfolding readv_row kernel_read read writable_prefix first_denied refusal bytes_at byte_at
  into_two_of_pipe kept = simp kept refl

  from_two_to_pipe : get memory.pages 16 ≡ Some (page_of (scattered (1 ∷ 2 ∷ 3 ∷ 4 ∷ 5 ∷ [])))
      → with_pipe [] (words 4146 4 65536 2 0) ≡ stays (with_pipe_of nodes (1 ∷ 2 ∷ 3 ∷ 4 ∷ 5 ∷ [])) [] (Value 5)
  unfolding writev_row kernel_write write readable_prefix first_denied refusal bytes_at byte_at
  from_two_to_pipe kept = simp kept refl

  vector_to_broken_pipe : get memory.pages 16 ≡ Some (page_of (piece 65544 1 ++ 97 ∷ []))
      → o32_call (with_files whole without_readers) (guest (words 4146 4 65536 1 0) processor memory) []
      ≡ record (stays without_readers [] (Error EPIPE)) {
        kernel = record (with_files whole without_readers) { signals = (post whole.signals (kill_info Pipe) false).signals };
      }
  unfolding writev_row kernel_write write readable_prefix first_denied refusal bytes_at byte_at
  vector_to_broken_pipe kept = simp kept refl

  -- the first byte is absent
  into_absent : get memory.pages 16 ≡ Some (page_of (piece 69632 3)) → get memory.pages 17 ≡ None
      → at_start (words 4145 0 65536 1 0) (120 ∷ []) ≡ refuses (120 ∷ []) EFAULT
  unfolding readv_row kernel_read read writable_prefix first_denied refusal bytes_at byte_at
  into_absent kept absent = simp (kept, absent) refl

  from_absent : get memory.pages 16 ≡ Some (page_of (piece 69632 3)) → get memory.pages 17 ≡ None
      → at_start (words 4146 1 65536 1 0) [] ≡ refuses [] EFAULT
  unfolding writev_row kernel_write write readable_prefix first_denied refusal bytes_at byte_at
  from_absent kept absent = simp (kept, absent) refl

  no_buffer : at_start (words 4145 0 0 0 0) (120 ∷ []) ≡ stays (at_first nodes) (120 ∷ []) (Value 0)
  unfolding readv_row kernel_read read first_denied bytes_at copied_out with_bytes
  no_buffer = refl

  too_many_buffers : at_start (words 4145 0 0 1025 0) [] ≡ refuses [] EINVAL
  unfolding readv_row kernel_read read
  too_many_buffers = refl

  too_many_buffers_out : at_start (words 4146 1 0 1025 0) [] ≡ refuses [] EINVAL
  unfolding writev_row kernel_write write
  too_many_buffers_out = refl

  vector_of_input_absent : get memory.pages 17 ≡ None → at_start (words 4145 0 69632 1 0) (120 ∷ []) ≡ refuses (120 ∷ []) EFAULT
  unfolding readv_row kernel_read read first_denied refusal bytes_at byte_at
  vector_of_input_absent absent = simp absent refl

  vector_absent : get memory.pages 17 ≡ None → at_start (words 4146 1 69632 1 0) [] ≡ refuses [] EFAULT
  unfolding writev_row kernel_write write first_denied refusal bytes_at byte_at
  vector_absent absent = simp absent refl

  -- more than 2^31 - 1 in all
  too_many_bytes : get memory.pages 16 ≡ Some (page_of (piece 65536 0x7FFF_FFFF ++ piece 65536 1))
      → at_start (words 4146 1 65536 2 0) [] ≡ refuses [] EINVAL
  unfolding writev_row kernel_write write first_denied refusal bytes_at byte_at
  too_many_bytes kept = simp kept refl

  too_much_room : get memory.pages 16 ≡ Some (page_of (piece 65536 0x8000_0000))
      → at_start (words 4145 0 65536 1 0) (120 ∷ []) ≡ refuses (120 ∷ []) EINVAL
  unfolding readv_row kernel_read read first_denied refusal bytes_at byte_at
  too_much_room kept = simp kept refl

  -- the descriptor comes before the vector
  vector_of_closed : at_start (words 4145 3 0 1025 0) [] ≡ refuses [] EBADF
  unfolding readv_row kernel_read read
  vector_of_closed = refl

  vector_to_closed : at_start (words 4146 3 0 1025 0) [] ≡ refuses [] EBADF
  unfolding writev_row kernel_write write
  vector_to_closed = refl

  -- at a place

  -- arguments on the stack that can't be read come before all else
  place_absent : at_start (words 4200 3 0 1 0) [] ≡ refuses [] EFAULT
  unfolding pread_row
  place_absent = refl

  write_place_absent : at_start (words 4201 3 0 1 0) [] ≡ refuses [] EFAULT
  unfolding pwrite_row
  write_place_absent = refl

  place_of_stream : at_start (words_with 4200 0 0x8000_0000 1 0 0) (120 ∷ []) ≡ refuses (120 ∷ []) ESPIPE
  unfolding pread_row read_at
  place_of_stream = refl

  place_below_zero : at_start (words_with 4200 0 0x8000_0000 1 0xFFFF_FFFF 0xFFFF_FFFF) (120 ∷ []) ≡ refuses (120 ∷ []) EINVAL
  unfolding pread_row read_at
  place_below_zero = refl

  place_of_pipe : with_pipe [] (words_with 4201 4 0x8000_0000 1 0 0) ≡ stays (with_pipe_of nodes []) [] (Error ESPIPE)
  unfolding pwrite_row write_at
  place_of_pipe = refl

  write_at_of_closed : at_start (words_with 4201 3 0 1 0 0) [] ≡ refuses [] EBADF
  unfolding pwrite_row write_at
  write_at_of_closed = refl

  -- the descriptor comes before the place
  read_at_of_closed : at_start (words_with 4200 3 0 1 0xFFFF_FFFF 0) [] ≡ refuses [] EBADF
  unfolding pread_row read_at
  read_at_of_closed = refl

  -- and the place before the kind: the upper bit of the high word is the sign
  write_place_below_zero : at_start (words_with 4201 1 0 1 0x8000_0000 0) [] ≡ refuses [] EINVAL
  unfolding pwrite_row write_at
  write_place_below_zero = refl

  -- Files: descriptor 3 is node 5, without LARGEFILE
  module _ (kept : get nodes 5 ≡ Some empty_file) where
    abbrev with_node : ℕ → CallWords → O32Step
    with_node position call = o32_call (with_files whole (with_node_at nodes position)) (guest call processor memory) []

    -- after a write of these at a place, with the position after it
    abbrev after_writing : ℕ → ℕ → List ℕ → O32Step
    after_writing position place bytes =
        stays (record (with_node_at nodes position) { nodes = after_write nodes 5 place bytes (now whole) }) [] (Value (length bytes))

    end_of_file : (held : List ℕ) → get memory.pages 16 ≡ Some (page_of held) → with_node 7 (words 4003 3 65536 2 0) ≡ stays (with_node_at nodes 7) [] (Value 0)
    unfolding read_row kernel_read read empty_file content_bytes_at writable_prefix first_denied refusal copied_out with_bytes
    end_of_file held paged = simp (kept, paged) refl

    end_of_file_at : (held : List ℕ) → get memory.pages 16 ≡ Some (page_of held)
        → with_node 7 (words_with 4200 3 65536 2 1 0) ≡ stays (with_node_at nodes 7) [] (Value 0)
    unfolding pread_row read_at empty_file content_bytes_at writable_prefix first_denied refusal copied_out with_bytes
    end_of_file_at held paged = simp (kept, paged) refl

    -- the position moves, but not by a write at a place
    write_file : get memory.pages 16 ≡ Some (page_of (1 ∷ 2 ∷ [])) → live_blocks nodes ≡ 0
        → with_node 7 (words 4004 3 65536 2 0) ≡ after_writing 9 7 (1 ∷ 2 ∷ [])
    unfolding write_row kernel_write write empty_file longest_write absent_blocks readable_prefix first_denied refusal bytes_at byte_at
    write_file paged none = simp (kept, paged, none, get-empty {X = List ℕ} nat_cmp) refl

    write_file_at : get memory.pages 16 ≡ Some (page_of (1 ∷ 2 ∷ [])) → live_blocks nodes ≡ 0
        → with_node 7 (words_with 4201 3 65536 2 0 9) ≡ after_writing 7 9 (1 ∷ 2 ∷ [])
    unfolding pwrite_row write_at empty_file longest_write absent_blocks readable_prefix first_denied refusal bytes_at byte_at
    write_file_at paged none = simp (kept, paged, none, get-empty {X = List ℕ} nat_cmp) refl

    -- four bytes at 2^31 - 3: two are written; and none from 2^31 - 1 on
    cut_at_limit : get memory.pages 16 ≡ Some (page_of (1 ∷ 2 ∷ 3 ∷ 4 ∷ [])) → live_blocks nodes ≡ 0
        → with_node 7 (words_with 4201 3 65536 4 0 0x7FFF_FFFD) ≡ after_writing 7 0x7FFF_FFFD (1 ∷ 2 ∷ [])
    unfolding pwrite_row write_at empty_file longest_write absent_blocks readable_prefix first_denied refusal bytes_at byte_at
    cut_at_limit paged none = simp (kept, paged, none, get-empty {X = List ℕ} nat_cmp) refl

    from_limit : get memory.pages 16 ≡ Some (page_of (1 ∷ []))
        → with_node 0x7FFF_FFFF (words 4004 3 65536 1 0) ≡ stays (with_node_at nodes 0x7FFF_FFFF) [] (Error EFBIG)
    unfolding write_row kernel_write write empty_file readable_prefix first_denied refusal bytes_at byte_at
    from_limit paged = simp (kept, paged) refl

    from_limit_at : get memory.pages 16 ≡ Some (page_of (1 ∷ []))
        → with_node 7 (words_with 4201 3 65536 1 0 0x7FFF_FFFF) ≡ stays (with_node_at nodes 7) [] (Error EFBIG)
    unfolding pwrite_row write_at empty_file readable_prefix first_denied refusal bytes_at byte_at
    from_limit_at paged = simp (kept, paged) refl

    from_limit_by_vector : get memory.pages 16 ≡ Some (page_of (piece 65544 1 ++ 1 ∷ []))
        → with_node 0x7FFF_FFFF (words 4146 3 65536 1 0) ≡ stays (with_node_at nodes 0x7FFF_FFFF) [] (Error EFBIG)
    unfolding writev_row kernel_write write empty_file readable_prefix first_denied refusal bytes_at byte_at
    from_limit_by_vector paged = simp (kept, paged) refl

    absent_at : get memory.pages 17 ≡ None → with_node 7 (words_with 4200 3 69632 1 0 0) ≡ stays (with_node_at nodes 7) [] (Error EFAULT)
    unfolding pread_row read_at writable_prefix first_denied refusal
    absent_at absent = simp absent refl

    write_absent_at : get memory.pages 17 ≡ None → with_node 7 (words_with 4201 3 69632 1 0 0) ≡ stays (with_node_at nodes 7) [] (Error EFAULT)
    unfolding pwrite_row write_at readable_prefix first_denied refusal bytes_at
    write_absent_at absent = simp absent refl

    no_block_left_at : get memory.pages 16 ≡ Some (page_of (1 ∷ [])) → live_blocks nodes ≡ 65_536
        → with_node 7 (words_with 4201 3 65536 1 0 0) ≡ stays (with_node_at nodes 7) [] (Error ENOSPC)
    unfolding pwrite_row write_at empty_file longest_write absent_blocks readable_prefix first_denied refusal bytes_at byte_at
    no_block_left_at paged full = simp (kept, paged, full, get-empty {X = List ℕ} nat_cmp) refl

    no_block_left : get memory.pages 16 ≡ Some (page_of (1 ∷ [])) → live_blocks nodes ≡ 65_536
        → with_node 0 (words 4004 3 65536 1 0) ≡ stays (with_node_at nodes 0) [] (Error ENOSPC)
    unfolding write_row kernel_write write empty_file longest_write absent_blocks readable_prefix first_denied refusal bytes_at byte_at
    no_block_left paged full = simp (kept, paged, full, get-empty {X = List ℕ} nat_cmp) refl

  -- a file of 2^32 + 258 bytes, all 0: the last of them
  module _ (kept : get nodes 5 ≡ Some large_file) where
    abbrev with_large : ℕ → CallWords → O32Step
    with_large position call = o32_call (with_files whole (with_node_at nodes position)) (guest call processor memory) []

    last_byte : (held : List ℕ) → get memory.pages 16 ≡ Some (page_of held)
        → with_large 0x1_0000_0101 (words 4003 3 65536 2 0)
        ≡ leaves whole (with_node_at nodes 0x1_0000_0102) processor (copied_out memory 65536 (0 ∷ [])) [] (Value 1)
    unfolding read_row kernel_read read large_file content_bytes_at content_byte_at writable_prefix first_denied refusal
    last_byte held paged = simp (kept, paged, get-empty {X = List ℕ} nat_cmp) refl

    -- the position stays
    last_byte_at : (held : List ℕ) → get memory.pages 16 ≡ Some (page_of held)
        → with_large 7 (words_with 4200 3 65536 2 1 0x101)
        ≡ leaves whole (with_node_at nodes 7) processor (copied_out memory 65536 (0 ∷ [])) [] (Value 1)
    unfolding pread_row read_at large_file content_bytes_at content_byte_at writable_prefix first_denied refusal
    last_byte_at held paged = simp (kept, paged, get-empty {X = List ℕ} nat_cmp) refl

  module _ (kept : get nodes 5 ≡ Some some_directory) where
    abbrev with_directory : CallWords → O32Step
    with_directory call = o32_call (with_files whole (with_node_at nodes 0)) (guest call processor memory) []

    read_directory : (held : List ℕ) → get memory.pages 16 ≡ Some (page_of held) → with_directory (words 4003 3 65536 1 0) ≡ stays (with_node_at nodes 0) [] (Error EISDIR)
    unfolding read_row kernel_read read some_directory writable_prefix first_denied refusal
    read_directory held paged = simp (kept, paged) refl

    read_directory_at : (held : List ℕ) → get memory.pages 16 ≡ Some (page_of held)
        → with_directory (words_with 4200 3 65536 1 0 0) ≡ stays (with_node_at nodes 0) [] (Error EISDIR)
    unfolding pread_row read_at some_directory writable_prefix first_denied refusal
    read_directory_at held paged = simp (kept, paged) refl

    -- a bad buffer comes before the kind
    read_directory_absent : get memory.pages 17 ≡ None → with_directory (words 4003 3 69632 1 0) ≡ stays (with_node_at nodes 0) [] (Error EFAULT)
    unfolding read_row kernel_read read writable_prefix first_denied refusal
    read_directory_absent absent = simp absent refl

-- Worked rows on reading and writing.
use Rattle.std.specs.Prelude.{◌≡◌, ℕ, ◌-◌, ◌^◌, ◌+◌, false, List, [], ◌∷◌, ◌++◌, length, take, replicate, Some, refl}
use Rattle.std.proofs.Common.{arith}
use Rattle.std.proofs.lemmas.List.{take_all}
use Rattle.std.specs.FinMap.{get, get-empty}
use Rattle.std.specs.Ordering.{nat_cmp}
use Rattle.kernel_core.specs.FileContent.{Blocks, byte_at, bytes_at, longest_write, absent_blocks}
use Rattle.kernel_core.specs.NodeCalls.{after_write}
use Rattle.kernel_core.specs.Nodes.{Nodes, File}
use Rattle.kernel_core.specs.Totals.{live_blocks}
use Rattle.kernel_core.specs.declared.signal.Sig.TheVariants as sigs
use Rattle.kernel_model.specs.Begin.{first_signals}
use Rattle.kernel_model.specs.Clock.{now}
use Rattle.kernel_model.specs.Pipes.{nothing}
use Rattle.kernel_model.specs.SignalRows.{appended, kill_info, post}
use Rattle.kernel_model.specs.State.{Kernel}
use Rattle.kernel_model.specs.Transfers.{read, read_at, write, write_at}
use Rattle.kernel_model.specs.Whole.{with_files, kernel_read, kernel_write}
use Rattle.layouts.specs.Number.{bytes_of}
use Rattle.native_calls.proofs.rows.Small.{at_first, after_moving, with_pipe_of, with_pipe_at, without_wait, pipe, with_node_at, with_append_at, inode, empty_file, some_directory, six, leaves, number, error, sleep_after}
use Rattle.native_calls.specs.Step.{NativeStep}
use Rattle.native_calls.specs.Table.{native_call}
use Rattle.native_calls.specs.Transfers.{read_row, write_row, readv_row, writev_row, pread_row, pwrite_row}

-- a structure of a vector: a base and a length, each of 8 bytes
abbrev piece : ℕ → ℕ → List ℕ
piece base length = bytes_of false 8 base ++ bytes_of false 8 length

-- a vector of two buffers, of 2 bytes and of 3, and then the buffers
abbrev scattered : List ℕ → List ℕ
scattered bytes = piece 65568 2 ++ piece 65570 3 ++ bytes

-- a vector of two buffers, of which the second lies outside, and then the first
abbrev half_outside : List ℕ → List ℕ
half_outside bytes = piece 65568 2 ++ piece 4096 3 ++ bytes

module _ (whole : Kernel) (nodes : Nodes) where
  -- a call in the first state, and with a pipe of these bytes
  abbrev at_start : ℕ → List ℕ → List ℕ → List ℕ → NativeStep
  at_start call args memory left = native_call call args (with_files whole (at_first nodes)) memory left

  abbrev with_pipe : List ℕ → ℕ → List ℕ → List ℕ → NativeStep
  with_pipe bytes call args memory = native_call call args (with_files whole (with_pipe_of nodes bytes)) memory []

  -- write

  -- "Hi" and a newline
  hi : at_start 64 (six 1 65536 3 0) (72 ∷ 105 ∷ 10 ∷ []) [] ≡ record {
    kernel = with_files whole (after_moving (at_first nodes) 0 3 0);
    left = [];
    memory = 72 ∷ 105 ∷ 10 ∷ [];
    sent = record { out = 72 ∷ 105 ∷ 10 ∷ []; err = [] };
    reply = number 3;
  }
  unfolding write_row kernel_write write
  hi = refl

  to_error_output : at_start 64 (six 2 65536 2 0) (72 ∷ 105 ∷ 10 ∷ []) [] ≡ record {
    kernel = with_files whole (after_moving (at_first nodes) 0 0 2);
    left = [];
    memory = 72 ∷ 105 ∷ 10 ∷ [];
    sent = record { out = []; err = 72 ∷ 105 ∷ [] };
    reply = number 2;
  }
  unfolding write_row kernel_write write
  to_error_output = refl

  -- what lies in memory is written
  partly_outside : at_start 64 (six 1 65537 (2 ^ 64 - 1) 0) (72 ∷ 105 ∷ 10 ∷ []) [] ≡ record {
    kernel = with_files whole (after_moving (at_first nodes) 0 2 0);
    left = [];
    memory = 72 ∷ 105 ∷ 10 ∷ [];
    sent = record { out = 105 ∷ 10 ∷ []; err = [] };
    reply = number 2;
  }
  unfolding write_row kernel_write write
  partly_outside = refl

  past_the_end : at_start 64 (six 1 65539 3 0) (72 ∷ 105 ∷ 10 ∷ []) [] ≡ leaves whole (at_first nodes) (72 ∷ 105 ∷ 10 ∷ []) [] (error 14)
  unfolding write_row kernel_write write
  past_the_end = refl

  before_the_start : at_start 64 (six 1 65535 3 0) (72 ∷ 105 ∷ 10 ∷ []) [] ≡ leaves whole (at_first nodes) (72 ∷ 105 ∷ 10 ∷ []) [] (error 14)
  unfolding write_row kernel_write write
  before_the_start = refl

  -- no byte, wherever
  no_byte : at_start 64 (six 1 0 0 0) [] [] ≡ leaves whole (at_first nodes) [] [] (number 0)
  unfolding write_row kernel_write write
  no_byte = refl

  -- a descriptor that isn't open comes before the buffer, and so does one that isn't open for writing
  write_closed : at_start 64 (six 3 0 3 0) [] [] ≡ leaves whole (at_first nodes) [] [] (error 9)
  unfolding write_row kernel_write write
  write_closed = refl

  write_below_zero : at_start 64 (six (2 ^ 64 - 1) 65536 1 0) (72 ∷ []) [] ≡ leaves whole (at_first nodes) (72 ∷ []) [] (error 9)
  unfolding write_row kernel_write write
  write_below_zero = refl

  write_to_input : at_start 64 (six 0 65536 1 0) (72 ∷ []) [] ≡ leaves whole (at_first nodes) (72 ∷ []) [] (error 9)
  unfolding write_row kernel_write write
  write_to_input = refl

  -- of a descriptor the low 32 bits count
  low_bits : at_start 64 (six (2 ^ 32 + 2) 65536 1 0) (72 ∷ []) [] ≡ record {
    kernel = with_files whole (after_moving (at_first nodes) 0 0 1);
    left = [];
    memory = 72 ∷ [];
    sent = record { out = []; err = 72 ∷ [] };
    reply = number 1;
  }
  unfolding write_row kernel_write write
  low_bits = refl

  to_pipe : with_pipe (7 ∷ []) 64 (six 4 65536 2 0) (8 ∷ 9 ∷ []) ≡ leaves whole (with_pipe_of nodes (7 ∷ 8 ∷ 9 ∷ [])) (8 ∷ 9 ∷ []) [] (number 2)
  unfolding write_row kernel_write write
  to_pipe = refl

  -- a pipe that is full
  to_full_pipe : (held : List ℕ) → length held ≡ 65_536
      → with_pipe held 64 (six 4 65536 1 0) (8 ∷ []) ≡ leaves whole (with_pipe_of nodes held) (8 ∷ []) [] (sleep_after 0)
  unfolding write_row kernel_write write
  to_full_pipe held full = simp full refl

  full_pipe_without_wait : (held : List ℕ) → length held ≡ 65_536
      → native_call 64 (six 4 65536 1 0) (with_files whole (without_wait (with_pipe_of nodes held))) (8 ∷ []) []
      ≡ leaves whole (without_wait (with_pipe_of nodes held)) (8 ∷ []) [] (error 11)
  unfolding write_row kernel_write write
  full_pipe_without_wait held full = simp full refl

  -- of more than 4096 bytes those are put for which there is room
  module _ (held more : List ℕ) (some : length held ≡ 61_440) (many : length more ≡ 4097) where
    part_to_pipe : with_pipe held 64 (six 4 65536 4097 0) more ≡ leaves whole (with_pipe_of nodes (held ++ take 4096 more)) more [] (sleep_after 4096)
    unfolding write_row kernel_write write
    part_to_pipe = simp (some, many, take_all 4097 more (omega arith)) refl

    part_without_wait : native_call 64 (six 4 65536 4097 0) (with_files whole (without_wait (with_pipe_of nodes held))) more []
        ≡ leaves whole (without_wait (with_pipe_of nodes (held ++ take 4096 more))) more [] (number 4096)
    unfolding write_row kernel_write write
    part_without_wait = simp (some, many, take_all 4097 more (omega arith)) refl

  -- a pipe that nobody reads: SIGPIPE is posted
  abbrev unread : Kernel
  unread = record (with_files whole (with_pipe_at nodes (record (pipe []) { readers = false }))) { signals = first_signals }

  to_unread_pipe : native_call 64 (six 4 65536 1 0) unread (8 ∷ []) [] ≡ record {
    kernel = record unread { signals = appended first_signals (kill_info sigs.Pipe) };
    left = [];
    memory = 8 ∷ [];
    sent = nothing;
    reply = error 32;
  }
  unfolding write_row kernel_write write post
  to_unread_pipe = refl

  -- read

  first_of_input : at_start 63 (six 0 65537 2 0) (0 ∷ 0 ∷ 0 ∷ 0 ∷ []) (120 ∷ 121 ∷ 122 ∷ [])
      ≡ leaves whole (after_moving (at_first nodes) 2 0 0) (0 ∷ 120 ∷ 121 ∷ 0 ∷ []) (122 ∷ []) (number 2)
  unfolding read_row kernel_read read
  first_of_input = refl

  -- as much as there is room for
  input_into_the_last_byte : at_start 63 (six 0 65539 8 0) (0 ∷ 0 ∷ 0 ∷ 0 ∷ []) (120 ∷ 121 ∷ 122 ∷ [])
      ≡ leaves whole (after_moving (at_first nodes) 1 0 0) (0 ∷ 0 ∷ 0 ∷ 120 ∷ []) (121 ∷ 122 ∷ []) (number 1)
  unfolding read_row kernel_read read
  input_into_the_last_byte = refl

  end_of_input : at_start 63 (six 0 65536 4 0) (5 ∷ 6 ∷ []) [] ≡ leaves whole (at_first nodes) (5 ∷ 6 ∷ []) [] (number 0)
  unfolding read_row kernel_read read
  end_of_input = refl

  read_outside : at_start 63 (six 0 0 4 0) (5 ∷ 6 ∷ []) (120 ∷ []) ≡ leaves whole (at_first nodes) (5 ∷ 6 ∷ []) (120 ∷ []) (error 14)
  unfolding read_row kernel_read read
  read_outside = refl

  read_output : at_start 63 (six 1 65536 1 0) (5 ∷ 6 ∷ []) (120 ∷ []) ≡ leaves whole (at_first nodes) (5 ∷ 6 ∷ []) (120 ∷ []) (error 9)
  unfolding read_row kernel_read read
  read_output = refl

  of_pipe : with_pipe (7 ∷ 8 ∷ 9 ∷ []) 63 (six 3 65536 2 0) (0 ∷ 0 ∷ 0 ∷ []) ≡ leaves whole (with_pipe_of nodes (9 ∷ [])) (7 ∷ 8 ∷ 0 ∷ []) [] (number 2)
  unfolding read_row kernel_read read
  of_pipe = refl

  of_empty_pipe : with_pipe [] 63 (six 3 65536 2 0) (0 ∷ 0 ∷ 0 ∷ []) ≡ leaves whole (with_pipe_of nodes []) (0 ∷ 0 ∷ 0 ∷ []) [] (sleep_after 0)
  unfolding read_row kernel_read read
  of_empty_pipe = refl

  read_closed : at_start 63 (six 3 0 1 0) [] (120 ∷ []) ≡ leaves whole (at_first nodes) [] (120 ∷ []) (error 9)
  unfolding read_row kernel_read read
  read_closed = refl

  empty_pipe_without_writers : native_call 63 (six 3 65536 2 0) (with_files whole (with_pipe_at nodes (record (pipe []) { writers = false }))) (1 ∷ 1 ∷ []) []
      ≡ leaves whole (with_pipe_at nodes (record (pipe []) { writers = false })) (1 ∷ 1 ∷ []) [] (number 0)
  unfolding read_row kernel_read read
  empty_pipe_without_writers = refl

  -- readv and writev

  into_two : at_start 65 (six 0 65536 2 0) (scattered (0 ∷ 0 ∷ 0 ∷ 0 ∷ 0 ∷ [])) (120 ∷ 121 ∷ 122 ∷ 123 ∷ [])
      ≡ leaves whole (after_moving (at_first nodes) 4 0 0) (scattered (120 ∷ 121 ∷ 122 ∷ 123 ∷ 0 ∷ [])) [] (number 4)
  unfolding readv_row kernel_read read
  into_two = refl

  -- up to the first byte outside
  into_one : at_start 65 (six 0 65536 2 0) (half_outside (0 ∷ 0 ∷ 0 ∷ [])) (120 ∷ 121 ∷ 122 ∷ 123 ∷ [])
      ≡ leaves whole (after_moving (at_first nodes) 2 0 0) (half_outside (120 ∷ 121 ∷ 0 ∷ [])) (122 ∷ 123 ∷ []) (number 2)
  unfolding readv_row kernel_read read
  into_one = refl

  -- a buffer outside that has no byte is passed over
  past_an_empty_one : at_start 65 (six 0 65536 2 0) (piece 0 0 ++ piece 65568 1 ++ 0 ∷ []) (120 ∷ [])
      ≡ leaves whole (after_moving (at_first nodes) 1 0 0) (piece 0 0 ++ piece 65568 1 ++ 120 ∷ []) [] (number 1)
  unfolding readv_row kernel_read read
  past_an_empty_one = refl

  from_two : at_start 66 (six 1 65536 2 0) (scattered (72 ∷ 105 ∷ 33 ∷ 33 ∷ 10 ∷ [])) [] ≡ record {
    kernel = with_files whole (after_moving (at_first nodes) 0 5 0);
    left = [];
    memory = scattered (72 ∷ 105 ∷ 33 ∷ 33 ∷ 10 ∷ []);
    sent = record { out = 72 ∷ 105 ∷ 33 ∷ 33 ∷ 10 ∷ []; err = [] };
    reply = number 5;
  }
  unfolding writev_row kernel_write write
  from_two = refl

  from_one : at_start 66 (six 1 65536 2 0) (half_outside (72 ∷ 105 ∷ [])) [] ≡ record {
    kernel = with_files whole (after_moving (at_first nodes) 0 2 0);
    left = [];
    memory = half_outside (72 ∷ 105 ∷ []);
    sent = record { out = 72 ∷ 105 ∷ []; err = [] };
    reply = number 2;
  }
  unfolding writev_row kernel_write write
  from_one = refl

  no_buffer : at_start 65 (six 0 0 0 0) [] (120 ∷ []) ≡ leaves whole (at_first nodes) [] (120 ∷ []) (number 0)
  unfolding readv_row kernel_read read
  no_buffer = refl

  too_many_buffers : at_start 65 (six 0 0 1025 0) [] [] ≡ leaves whole (at_first nodes) [] [] (error 22)
  unfolding readv_row kernel_read read
  too_many_buffers = refl

  vector_outside : at_start 66 (six 1 65537 1 0) (piece 65536 1) [] ≡ leaves whole (at_first nodes) (piece 65536 1) [] (error 14)
  unfolding writev_row kernel_write write
  vector_outside = refl

  -- more than 2^63 - 1 in all
  too_many_bytes : at_start 66 (six 1 65536 2 0) (piece 65536 (2 ^ 63 - 1) ++ piece 65536 1) []
      ≡ leaves whole (at_first nodes) (piece 65536 (2 ^ 63 - 1) ++ piece 65536 1) [] (error 22)
  unfolding writev_row kernel_write write
  too_many_bytes = refl

  -- just so many
  most_bytes : (at_start 66 (six 1 65536 2 0) (piece 65568 1 ++ piece 0 (2 ^ 63 - 2) ++ 72 ∷ []) []).reply ≡ number 1
  unfolding writev_row kernel_write write
  most_bytes = refl

  -- the descriptor comes before the vector
  vector_of_closed : at_start 65 (six 3 0 1025 0) [] [] ≡ leaves whole (at_first nodes) [] [] (error 9)
  unfolding readv_row kernel_read read
  vector_of_closed = refl

  writev_closed : at_start 66 (six 3 0 1025 0) [] [] ≡ leaves whole (at_first nodes) [] [] (error 9)
  unfolding writev_row kernel_write write
  writev_closed = refl

  writev_too_many_buffers : at_start 66 (six 1 0 1025 0) [] [] ≡ leaves whole (at_first nodes) [] [] (error 22)
  unfolding writev_row kernel_write write
  writev_too_many_buffers = refl

  writev_no_buffer : at_start 66 (six 1 0 0 0) [] [] ≡ leaves whole (at_first nodes) [] [] (number 0)
  unfolding writev_row kernel_write write
  writev_no_buffer = refl

  first_buffer_outside : at_start 66 (six 1 65536 1 0) (piece 4096 3) [] ≡ leaves whole (at_first nodes) (piece 4096 3) [] (error 14)
  unfolding writev_row kernel_write write
  first_buffer_outside = refl

  readv_vector_outside : at_start 65 (six 0 65537 1 0) (piece 65536 1) (120 ∷ []) ≡ leaves whole (at_first nodes) (piece 65536 1) (120 ∷ []) (error 14)
  unfolding readv_row kernel_read read
  readv_vector_outside = refl

  readv_first_buffer_outside : at_start 65 (six 0 65536 1 0) (piece 4096 3) (120 ∷ []) ≡ leaves whole (at_first nodes) (piece 4096 3) (120 ∷ []) (error 14)
  unfolding readv_row kernel_read read
  readv_first_buffer_outside = refl

  -- at a place

  read_at_of_closed : at_start 67 (six 3 0 1 0) [] [] ≡ leaves whole (at_first nodes) [] [] (error 9)
  unfolding pread_row read_at
  read_at_of_closed = refl

  read_at_of_output : at_start 67 (six 1 65536 1 0) (0 ∷ []) [] ≡ leaves whole (at_first nodes) (0 ∷ []) [] (error 9)
  unfolding pread_row read_at
  read_at_of_output = refl

  read_at_outside : native_call 67 (six 3 0 1 0) (with_files whole (with_node_at nodes 0)) (0 ∷ []) [] ≡ leaves whole (with_node_at nodes 0) (0 ∷ []) [] (error 14)
  unfolding pread_row read_at
  read_at_outside = refl

  write_at_outside : native_call 68 (six 3 0 1 0) (with_files whole (with_node_at nodes 0)) (0 ∷ []) [] ≡ leaves whole (with_node_at nodes 0) (0 ∷ []) [] (error 14)
  unfolding pwrite_row write_at
  write_at_outside = refl

  write_no_byte_at : native_call 68 (six 3 0 0 9) (with_files whole (with_node_at nodes 0)) [] [] ≡ leaves whole (with_node_at nodes 0) [] [] (number 0)
  unfolding pwrite_row write_at
  write_no_byte_at = refl

  place_of_stream : at_start 67 (six 0 65536 1 0) (0 ∷ []) (120 ∷ []) ≡ leaves whole (at_first nodes) (0 ∷ []) (120 ∷ []) (error 29)
  unfolding pread_row read_at
  place_of_stream = refl

  place_below_zero : at_start 67 (six 0 65536 1 (2 ^ 64 - 1)) (0 ∷ []) (120 ∷ []) ≡ leaves whole (at_first nodes) (0 ∷ []) (120 ∷ []) (error 22)
  unfolding pread_row read_at
  place_below_zero = refl

  place_of_pipe : with_pipe [] 68 (six 4 65536 1 0) (1 ∷ []) ≡ leaves whole (with_pipe_of nodes []) (1 ∷ []) [] (error 29)
  unfolding pwrite_row write_at
  place_of_pipe = refl

  write_below_zero_of_pipe : with_pipe [] 68 (six 4 65536 1 (2 ^ 63)) (1 ∷ []) ≡ leaves whole (with_pipe_of nodes []) (1 ∷ []) [] (error 22)
  unfolding pwrite_row write_at
  write_below_zero_of_pipe = refl

  write_at_of_closed : at_start 68 (six 3 0 1 0) [] [] ≡ leaves whole (at_first nodes) [] [] (error 9)
  unfolding pwrite_row write_at
  write_at_of_closed = refl

  -- Files: descriptor 3 is node 5
  module _ (kept : get nodes 5 ≡ Some empty_file) where
    abbrev with_node : ℕ → ℕ → List ℕ → List ℕ → NativeStep
    with_node position call args memory = native_call call args (with_files whole (with_node_at nodes position)) memory []

    end_of_file : with_node 7 63 (six 3 65536 2 0) (1 ∷ 2 ∷ []) ≡ leaves whole (with_node_at nodes 7) (1 ∷ 2 ∷ []) [] (number 0)
    unfolding read_row kernel_read read empty_file bytes_at
    end_of_file = simp kept refl

    end_of_file_at : with_node 7 67 (six 3 65536 2 9) (1 ∷ 2 ∷ []) ≡ leaves whole (with_node_at nodes 7) (1 ∷ 2 ∷ []) [] (number 0)
    unfolding pread_row read_at empty_file bytes_at
    end_of_file_at = simp kept refl

    -- the position moves, but not by a write at a place
    write_file : live_blocks nodes ≡ 0 → with_node 7 64 (six 3 65536 2 0) (1 ∷ 2 ∷ [])
        ≡ leaves whole (record (with_node_at nodes 9) { nodes = after_write nodes 5 7 (1 ∷ 2 ∷ []) (now whole) }) (1 ∷ 2 ∷ []) [] (number 2)
    unfolding write_row kernel_write write empty_file longest_write absent_blocks
    write_file none = simp (kept, none, get-empty {X = List ℕ} nat_cmp) refl

    write_file_at : live_blocks nodes ≡ 0 → with_node 7 68 (six 3 65536 2 0x7FFFFFFF) (1 ∷ 2 ∷ [])
        ≡ leaves whole (record (with_node_at nodes 7) { nodes = after_write nodes 5 0x7FFFFFFF (1 ∷ 2 ∷ []) (now whole) }) (1 ∷ 2 ∷ []) [] (number 2)
    unfolding pwrite_row write_at empty_file longest_write absent_blocks
    write_file_at none = simp (kept, none, get-empty {X = List ℕ} nat_cmp) refl

    -- 2^31 - 1 is no limit
    write_past_31_bits : live_blocks nodes ≡ 0 → with_node 0x7FFFFFFF 64 (six 3 65536 2 0) (1 ∷ 2 ∷ [])
        ≡ leaves whole (record (with_node_at nodes 0x80000001) { nodes = after_write nodes 5 0x7FFFFFFF (1 ∷ 2 ∷ []) (now whole) }) (1 ∷ 2 ∷ []) [] (number 2)
    unfolding write_row kernel_write write empty_file longest_write absent_blocks
    write_past_31_bits none = simp (kept, none, get-empty {X = List ℕ} nat_cmp) refl

    writev_past_31_bits : live_blocks nodes ≡ 0 → with_node 0x7FFFFFFF 66 (six 3 65536 1 0) (piece 65552 2 ++ 1 ∷ 2 ∷ [])
        ≡ leaves whole (record (with_node_at nodes 0x80000001) { nodes = after_write nodes 5 0x7FFFFFFF (1 ∷ 2 ∷ []) (now whole) }) (piece 65552 2 ++ 1 ∷ 2 ∷ []) [] (number 2)
    unfolding writev_row kernel_write write empty_file longest_write absent_blocks
    writev_past_31_bits none = simp (kept, none, get-empty {X = List ℕ} nat_cmp) refl

    -- under O_APPEND at the end, which is 0 here
    write_at_end : live_blocks nodes ≡ 0 → native_call 64 (six 3 65536 2 0) (with_files whole (with_append_at nodes 7)) (1 ∷ 2 ∷ []) []
        ≡ leaves whole (record (with_append_at nodes 2) { nodes = after_write nodes 5 0 (1 ∷ 2 ∷ []) (now whole) }) (1 ∷ 2 ∷ []) [] (number 2)
    unfolding write_row kernel_write write empty_file longest_write absent_blocks
    write_at_end none = simp (kept, none, get-empty {X = List ℕ} nat_cmp) refl

    place_under_append : live_blocks nodes ≡ 0 → native_call 68 (six 3 65536 2 9) (with_files whole (with_append_at nodes 7)) (1 ∷ 2 ∷ []) []
        ≡ leaves whole (record (with_append_at nodes 7) { nodes = after_write nodes 5 0 (1 ∷ 2 ∷ []) (now whole) }) (1 ∷ 2 ∷ []) [] (number 2)
    unfolding pwrite_row write_at empty_file longest_write absent_blocks
    place_under_append none = simp (kept, none, get-empty {X = List ℕ} nat_cmp) refl

    no_block_left_at : live_blocks nodes ≡ 65_536 → with_node 0 68 (six 3 65536 2 0) (1 ∷ 2 ∷ []) ≡ leaves whole (with_node_at nodes 0) (1 ∷ 2 ∷ []) [] (error 28)
    unfolding pwrite_row write_at empty_file longest_write absent_blocks
    no_block_left_at full = simp (kept, full, get-empty {X = List ℕ} nat_cmp) refl

    past_the_greatest_size : with_node 0 68 (six 3 65536 2 (2 ^ 44 - 1)) (1 ∷ 2 ∷ []) ≡ leaves whole (with_node_at nodes 0) (1 ∷ 2 ∷ []) [] (error 27)
    unfolding pwrite_row write_at empty_file
    past_the_greatest_size = simp kept refl

    no_block_left : live_blocks nodes ≡ 65_536 → with_node 0 64 (six 3 65536 2 0) (1 ∷ 2 ∷ []) ≡ leaves whole (with_node_at nodes 0) (1 ∷ 2 ∷ []) [] (error 28)
    unfolding write_row kernel_write write empty_file longest_write absent_blocks
    no_block_left full = simp (kept, full, get-empty {X = List ℕ} nat_cmp) refl

  -- a file of 5 bytes
  module _ (blocks : Blocks) (first : get blocks 0 ≡ Some (65 ∷ 66 ∷ 67 ∷ 68 ∷ 69 ∷ replicate 4091 0))
      (kept : get nodes 5 ≡ Some (inode 1 (File (record { size = 5; blocks = blocks })))) where
    abbrev with_file : ℕ → ℕ → List ℕ → List ℕ → NativeStep
    with_file position call args memory = native_call call args (with_files whole (with_node_at nodes position)) memory []

    bytes_of_file : with_file 1 63 (six 3 65537 2 0) (1 ∷ 1 ∷ 1 ∷ 1 ∷ []) ≡ leaves whole (with_node_at nodes 3) (1 ∷ 66 ∷ 67 ∷ 1 ∷ []) [] (number 2)
    unfolding read_row kernel_read read inode bytes_at byte_at
    bytes_of_file = simp (kept, first) refl

    -- up to the end, and the position stays
    bytes_at_place : with_file 1 67 (six 3 65537 8 3) (1 ∷ 1 ∷ 1 ∷ 1 ∷ []) ≡ leaves whole (with_node_at nodes 1) (1 ∷ 68 ∷ 69 ∷ 1 ∷ []) [] (number 2)
    unfolding pread_row read_at inode bytes_at byte_at
    bytes_at_place = simp (kept, first) refl

  module _ (kept : get nodes 5 ≡ Some some_directory) where
    abbrev with_directory : ℕ → List ℕ → List ℕ → NativeStep
    with_directory call args memory = native_call call args (with_files whole (with_node_at nodes 0)) memory []

    read_directory : with_directory 63 (six 3 65536 1 0) (1 ∷ []) ≡ leaves whole (with_node_at nodes 0) (1 ∷ []) [] (error 21)
    unfolding read_row kernel_read read some_directory
    read_directory = simp kept refl

    -- a bad buffer, and no byte, come before the kind
    read_directory_outside : with_directory 63 (six 3 0 1 0) (1 ∷ []) ≡ leaves whole (with_node_at nodes 0) (1 ∷ []) [] (error 14)
    unfolding read_row kernel_read read
    read_directory_outside = refl

    no_byte_of_directory : with_directory 67 (six 3 0 0 0) (1 ∷ []) ≡ leaves whole (with_node_at nodes 0) (1 ∷ []) [] (number 0)
    unfolding pread_row read_at
    no_byte_of_directory = refl

    read_directory_at : with_directory 67 (six 3 65536 1 0) (1 ∷ []) ≡ leaves whole (with_node_at nodes 0) (1 ∷ []) [] (error 21)
    unfolding pread_row read_at some_directory
    read_directory_at = simp kept refl

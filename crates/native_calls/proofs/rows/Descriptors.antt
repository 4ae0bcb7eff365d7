-- Worked rows on descriptors, pipes and fcntl.
use Rattle.std.specs.Prelude.{◌≡◌, ℕ, ◌+◌, ◌-◌, ◌^◌, true, List, [], ◌∷◌, map, replicate, Some, None, refl}
use Rattle.kernel_core.specs.Nodes.{Nodes}
use Rattle.kernel_core.specs.declared.open_flags.Access.TheVariants.{Read, Write}
use Rattle.kernel_model.specs.Descriptions.{no_flags, description_of}
use Rattle.kernel_model.specs.DescriptorRows.{close, after_close, duplicate, duplicate_onto_with, make_pipe, close_on_exec, set_close_on_exec, status_flags, set_status_flags, unlisted_command}
use Rattle.kernel_model.specs.State.{Kernel, Files}
use Rattle.kernel_model.specs.Table.{closed, last_description}
use Rattle.kernel_model.specs.Transfers.{read}
use Rattle.kernel_model.specs.Whole.{with_files, kernel_read}
use Rattle.kernel_model.specs.declared.descriptor.Object.TheVariants.{ReadEnd, WriteEnd}
use Rattle.native_calls.proofs.rows.Small.{to, to_on_exec, input, output, error_output, read_end, write_end, at_first, with_pipe_of, streams_alone, six, leaves, number, error, sleep_after}
use Rattle.native_calls.specs.Descriptors.{append_flag, nonblock_flag, cloexec_flag, dup_row, dup3_row, fcntl_row, close_row, pipe2_row}
use Rattle.native_calls.specs.Step.{NativeStep}
use Rattle.native_calls.specs.Table.{native_call}
use Rattle.native_calls.specs.Transfers.{read_row}
use Rattle.number_tables.specs.OpenNumbers.{native_open}

-- the flags have the numbers of the table of flags

append_is : append_flag ≡ native_open (record (no_flags Read) { append = true })
append_is = refl

nonblock_is : nonblock_flag ≡ native_open (record (no_flags Read) { nonblock = true })
nonblock_is = refl

cloexec_is : cloexec_flag ≡ native_open (record (no_flags Read) { cloexec = true })
cloexec_is = refl

module _ (whole : Kernel) (nodes : Nodes) where
  -- a call without memory in the first state, and with an empty pipe
  abbrev at_start : ℕ → List ℕ → NativeStep
  at_start call args = native_call call args (with_files whole (at_first nodes)) [] []

  abbrev with_pipe : ℕ → List ℕ → NativeStep
  with_pipe call args = native_call call args (with_files whole (with_pipe_of nodes [])) [] []

  abbrev refuses : ℕ → NativeStep
  refuses value = leaves whole (at_first nodes) [] [] (error value)

  -- dup

  dup_output : at_start 23 (six 1 0 0 0) ≡ leaves whole (record (at_first nodes) {
    table = record streams_alone { fds = to 0 ∷ to 1 ∷ to 2 ∷ to 1 ∷ None ∷ None ∷ None ∷ None ∷ [] };
  }) [] [] (number 3)
  unfolding dup_row duplicate
  dup_output = refl

  dup_closed : at_start 23 (six 3 0 0 0) ≡ refuses 9
  unfolding dup_row duplicate
  dup_closed = refl

  -- of four places none is free
  abbrev none_free : Files
  none_free = record (at_first nodes) { table = record streams_alone { fds = to 0 ∷ to 1 ∷ to 2 ∷ to 0 ∷ [] } }

  dup_none_free : native_call 23 (six 1 0 0 0) (with_files whole none_free) [] [] ≡ leaves whole none_free [] [] (error 24)
  unfolding dup_row duplicate
  dup_none_free = refl

  -- dup3

  onto_free : at_start 24 (six 1 5 0 0) ≡ leaves whole (record (at_first nodes) {
    table = record streams_alone { fds = to 0 ∷ to 1 ∷ to 2 ∷ None ∷ None ∷ to 1 ∷ None ∷ None ∷ [] };
  }) [] [] (number 5)
  unfolding dup3_row duplicate_onto_with after_close closed last_description
  onto_free = refl

  -- what was there is closed
  onto_input : at_start 24 (six 1 0 0x80000 0) ≡ leaves whole (record (at_first nodes) {
    table = record {
      fds = to_on_exec 1 ∷ to 1 ∷ to 2 ∷ None ∷ None ∷ None ∷ None ∷ None ∷ [];
      live = None ∷ Some output ∷ Some error_output ∷ None ∷ None ∷ None ∷ None ∷ None ∷ [];
    };
  }) [] [] (number 0)
  unfolding dup3_row duplicate_onto_with after_close closed last_description
  onto_input = refl

  onto_of_closed : at_start 24 (six 3 3 1 0) ≡ refuses 9
  unfolding dup3_row duplicate_onto_with
  onto_of_closed = refl

  onto_itself : at_start 24 (six 1 1 1 0) ≡ refuses 22
  unfolding dup3_row duplicate_onto_with
  onto_itself = refl

  onto_beyond : at_start 24 (six 1 1024 1 0) ≡ refuses 9
  unfolding dup3_row duplicate_onto_with
  onto_beyond = refl

  onto_below_zero : at_start 24 (six 1 (2 ^ 64 - 1) 0 0) ≡ refuses 9
  unfolding dup3_row duplicate_onto_with
  onto_below_zero = refl

  onto_with_nonblock : at_start 24 (six 1 5 0x80800 0) ≡ refuses 22
  unfolding dup3_row duplicate_onto_with
  onto_with_nonblock = refl

  -- close

  close_output : at_start 57 (six 1 0 0 0) ≡ leaves whole (record (at_first nodes) {
    table = record {
      fds = to 0 ∷ None ∷ to 2 ∷ None ∷ None ∷ None ∷ None ∷ None ∷ [];
      live = Some input ∷ None ∷ Some error_output ∷ None ∷ None ∷ None ∷ None ∷ None ∷ [];
    };
  }) [] [] (number 0)
  unfolding close_row close after_close closed last_description
  close_output = refl

  close_closed : at_start 57 (six 7 0 0 0) ≡ refuses 9
  unfolding close_row close
  close_closed = refl

  -- pipe2

  abbrev room : List ℕ
  room = 1 ∷ 1 ∷ 1 ∷ 1 ∷ 1 ∷ 1 ∷ 1 ∷ 1 ∷ 1 ∷ []

  abbrev pair_in_room : List ℕ
  pair_in_room = 3 ∷ 0 ∷ 0 ∷ 0 ∷ 4 ∷ 0 ∷ 0 ∷ 0 ∷ 1 ∷ []

  new_pipe : native_call 59 (six 65536 0 0 0) (with_files whole (at_first nodes)) room [] ≡ leaves whole (with_pipe_of nodes []) pair_in_room [] (number 0)
  unfolding pipe2_row make_pipe
  new_pipe = refl

  -- a read of it waits
  abbrev after_pipe : NativeStep
  after_pipe = native_call 59 (six 65536 0 0 0) (with_files whole (at_first nodes)) room []

  read_new_pipe : native_call 63 (six 3 65536 8 0) after_pipe.kernel after_pipe.memory after_pipe.left
      ≡ leaves whole (with_pipe_of nodes []) pair_in_room [] (sleep_after 0)
  unfolding pipe2_row make_pipe read_row kernel_read read
  read_new_pipe = refl

  new_pipe_with_flags : native_call 59 (six 65536 0x80800 0 0) (with_files whole (at_first nodes)) room [] ≡ leaves whole (record (with_pipe_of nodes []) {
    table = record {
      fds = to 0 ∷ to 1 ∷ to 2 ∷ to_on_exec 3 ∷ to_on_exec 4 ∷ None ∷ None ∷ None ∷ [];
      live =
          Some input ∷ Some output ∷ Some error_output
          ∷ Some (description_of (ReadEnd 0) (record (no_flags Read) { nonblock = true }))
          ∷ Some (description_of (WriteEnd 0) (record (no_flags Write) { nonblock = true }))
          ∷ None ∷ None ∷ None ∷ [];
    };
  }) pair_in_room [] (number 0)
  unfolding pipe2_row make_pipe
  new_pipe_with_flags = refl

  -- a read of that one does not
  abbrev after_nonblock : NativeStep
  after_nonblock = native_call 59 (six 65536 0x800 0 0) (with_files whole (at_first nodes)) room []

  read_nonblock_pipe : (native_call 63 (six 3 65536 8 0) after_nonblock.kernel after_nonblock.memory after_nonblock.left).reply ≡ error 11
  unfolding pipe2_row make_pipe read_row kernel_read read
  read_nonblock_pipe = refl

  pipe_with_append : native_call 59 (six 65536 0x400 0 0) (with_files whole (at_first nodes)) room [] ≡ leaves whole (at_first nodes) room [] (error 22)
  unfolding pipe2_row make_pipe
  pipe_with_append = refl

  -- seven bytes are no room for the pair: nothing is written, and nothing stays open
  pipe_outside : native_call 59 (six 65538 0 0 0) (with_files whole (at_first nodes)) room [] ≡ leaves whole (at_first nodes) room [] (error 14)
  unfolding pipe2_row make_pipe after_close closed last_description
  pipe_outside = refl

  -- one free descriptor is not enough, and comes before the pointer
  abbrev one_free : Files
  one_free = record (at_first nodes) { table = record streams_alone { fds = to 0 ∷ to 1 ∷ to 2 ∷ None ∷ [] } }

  no_two_free : native_call 59 (six 0 0 0 0) (with_files whole one_free) [] [] ≡ leaves whole one_free [] [] (error 24)
  unfolding pipe2_row make_pipe
  no_two_free = refl

  -- fcntl

  -- F_DUPFD and F_DUPFD_CLOEXEC
  duplicate_from_4 : at_start 25 (six 1 0 4 0) ≡ leaves whole (record (at_first nodes) {
    table = record streams_alone { fds = to 0 ∷ to 1 ∷ to 2 ∷ None ∷ to 1 ∷ None ∷ None ∷ None ∷ [] };
  }) [] [] (number 4)
  unfolding fcntl_row duplicate
  duplicate_from_4 = refl

  duplicate_on_exec : at_start 25 (six 1 1030 0 0) ≡ leaves whole (record (at_first nodes) {
    table = record streams_alone { fds = to 0 ∷ to 1 ∷ to 2 ∷ to_on_exec 1 ∷ None ∷ None ∷ None ∷ None ∷ [] };
  }) [] [] (number 3)
  unfolding fcntl_row duplicate
  duplicate_on_exec = refl

  duplicate_from_1024 : at_start 25 (six 1 0 1024 0) ≡ refuses 22
  unfolding fcntl_row duplicate
  duplicate_from_1024 = refl

  duplicate_from_below_zero : at_start 25 (six 1 0 (2 ^ 64 - 1) 0) ≡ refuses 22
  unfolding fcntl_row duplicate
  duplicate_from_below_zero = refl

  -- of eight places none is free from 8 on
  duplicate_none_free : at_start 25 (six 1 0 8 0) ≡ refuses 24
  unfolding fcntl_row duplicate
  duplicate_none_free = refl

  duplicate_on_exec_from_1024 : at_start 25 (six 1 1030 1024 0) ≡ refuses 22
  unfolding fcntl_row duplicate
  duplicate_on_exec_from_1024 = refl

  duplicate_on_exec_none_free : at_start 25 (six 1 1030 8 0) ≡ refuses 24
  unfolding fcntl_row duplicate
  duplicate_on_exec_none_free = refl

  -- F_SETFD and F_GETFD
  set_on_exec : at_start 25 (six 1 2 1 0) ≡ leaves whole (record (at_first nodes) {
    table = record streams_alone { fds = to 0 ∷ to_on_exec 1 ∷ to 2 ∷ None ∷ None ∷ None ∷ None ∷ None ∷ [] };
  }) [] [] (number 0)
  unfolding fcntl_row set_close_on_exec
  set_on_exec = refl

  -- bits but the lowest say nothing
  set_off_exec : at_start 25 (six 1 2 6 0) ≡ leaves whole (at_first nodes) [] [] (number 0)
  unfolding fcntl_row set_close_on_exec
  set_off_exec = refl

  is_on_exec : (native_call 25 (six 1 1 0 0) (at_start 25 (six 1 2 1 0)).kernel [] []).reply ≡ number 1
  unfolding fcntl_row set_close_on_exec close_on_exec
  is_on_exec = refl

  is_off_exec : at_start 25 (six 1 1 0 0) ≡ leaves whole (at_first nodes) [] [] (number 0)
  unfolding fcntl_row close_on_exec
  is_off_exec = refl

  -- F_GETFL: the access mode, and the streams' LARGEFILE
  flags_of_output : at_start 25 (six 1 3 0 0) ≡ leaves whole (at_first nodes) [] [] (number 0x8001)
  unfolding fcntl_row status_flags
  flags_of_output = refl

  flags_of_input : at_start 25 (six 0 3 0 0) ≡ leaves whole (at_first nodes) [] [] (number 0x8000)
  unfolding fcntl_row status_flags
  flags_of_input = refl

  -- F_SETFL: of O_APPEND, O_NONBLOCK, O_DIRECTORY and the access mode the first two alone
  set_flags : with_pipe 25 (six 4 4 (0x10000 + 0x800 + 0x400 + 2) 0) ≡ leaves whole (record (with_pipe_of nodes []) {
    table = record (with_pipe_of nodes []).table {
      live =
          Some input ∷ Some output ∷ Some error_output ∷ Some read_end
          ∷ Some (record write_end { flags = record (no_flags Write) { append = true; nonblock = true } })
          ∷ None ∷ None ∷ None ∷ [];
    };
  }) [] [] (number 0)
  unfolding fcntl_row set_status_flags
  set_flags = refl

  flags_that_were_set : (native_call 25 (six 4 3 0 0) (with_pipe 25 (six 4 4 0xFFFFFFFF 0)).kernel [] []).reply ≡ number 0xC01
  unfolding fcntl_row set_status_flags status_flags
  flags_that_were_set = refl

  flags_that_were_cleared : (native_call 25 (six 4 3 0 0) (with_pipe 25 (six 4 4 0 0)).kernel [] []).reply ≡ number 1
  unfolding fcntl_row set_status_flags status_flags
  flags_that_were_cleared = refl

  commands_of_closed : map (λ command. at_start 25 (six 3 command 1024 0)) (0 ∷ 1 ∷ 2 ∷ 3 ∷ 4 ∷ 1030 ∷ []) ≡ replicate 6 (refuses 9)
  unfolding fcntl_row duplicate close_on_exec set_close_on_exec status_flags set_status_flags
  commands_of_closed = refl

  command_of_closed : at_start 25 (six 3 5 0 0) ≡ refuses 9
  unfolding fcntl_row unlisted_command
  command_of_closed = refl

  other_command : at_start 25 (six 1 5 0 0) ≡ refuses 22
  unfolding fcntl_row unlisted_command
  other_command = refl

  -- of a command the low 32 bits count
  low_bits_of_command : at_start 25 (six 1 (2 ^ 32 + 3) 0 0) ≡ leaves whole (at_first nodes) [] [] (number 0x8001)
  unfolding fcntl_row status_flags
  low_bits_of_command = refl

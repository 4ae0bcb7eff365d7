-- Worked rows on descriptors, pipes and fcntl.
use Rattle.std.specs.Prelude.{◌≡◌, ℕ, ◌+◌, true, List, [], ◌∷◌, Some, None, refl}
use Rattle.std.specs.FinMap.{get}
use Rattle.guest_space.specs.Access.{writable_prefix, first_denied, refusal}
use Rattle.guest_space.specs.Bytes.{copied_out}
use Rattle.guest_space.specs.Memory.{Memory}
use Rattle.kernel_core.specs.Nodes.{Nodes}
use Rattle.kernel_core.specs.declared.error.Errno.{Errno}
use Rattle.kernel_core.specs.declared.error.Errno.TheVariants.{EAGAIN, EBADF, EFAULT, EINVAL, EMFILE}
use Rattle.kernel_core.specs.declared.open_flags.Access.TheVariants.{Read, Write}
use Rattle.kernel_model.specs.Descriptions.{no_flags, description_of}
use Rattle.kernel_model.specs.DescriptorRows.{close, after_close, duplicate, duplicate_onto, duplicate_onto_with, make_pipe, close_on_exec, set_close_on_exec, status_flags, set_status_flags, unlisted_command}
use Rattle.kernel_model.specs.State.{Kernel, Files}
use Rattle.kernel_model.specs.Table.{closed, last_description}
use Rattle.kernel_model.specs.Transfers.{read}
use Rattle.kernel_model.specs.Whole.{with_files, kernel_read}
use Rattle.kernel_model.specs.declared.descriptor.Object.TheVariants.{ReadEnd, WriteEnd}
use Rattle.mips_exec.specs.Processor.{Processor}
use Rattle.number_tables.specs.OpenNumbers.{o32_open}
use Rattle.o32_model.proofs.rows.Small.{to, to_on_exec, input, output, error_output, read_end, write_end, at_first, with_pipe_of, streams_alone, page_of, words, guest, leaves}
use Rattle.o32_model.specs.Descriptors.{append_flag, nonblock_flag, cloexec_flag, dup_row, dup2_row, dup3_row, fcntl_row, close_row, pipe_row, pipe2_row}
use Rattle.o32_model.specs.Step.{O32Step}
use Rattle.o32_model.specs.Table.{o32_call}
use Rattle.o32_model.specs.Transfers.{read_row}
use Rattle.o32_model.specs.declared.call_words.CallWords.{CallWords}
use Rattle.o32_model.specs.declared.outcome.Outcome.{Outcome}
use Rattle.o32_model.specs.declared.outcome.Outcome.TheVariants.{Value, Pair, Error}

-- the flags have the numbers of the table of flags

append_is : append_flag ≡ o32_open (record (no_flags Read) { append = true })
append_is = refl

nonblock_is : nonblock_flag ≡ o32_open (record (no_flags Read) { nonblock = true })
nonblock_is = refl

cloexec_is : cloexec_flag ≡ o32_open (record (no_flags Read) { cloexec = true })
cloexec_is = refl

module _ (whole : Kernel) (nodes : Nodes) (processor : Processor) (memory : Memory) where
  -- a call in a state, in the first one, and with an empty pipe
  abbrev called : Kernel → CallWords → O32Step
  called kernel call = o32_call kernel (guest call processor memory) []

  abbrev at_start : CallWords → O32Step
  at_start call = called (with_files whole (at_first nodes)) call

  abbrev with_pipe : CallWords → O32Step
  with_pipe call = called (with_files whole (with_pipe_of nodes [])) call

  abbrev stays : Files → Outcome → O32Step
  stays files outcome = leaves whole files processor memory [] outcome

  abbrev refuses : Errno → O32Step
  refuses error = stays (at_first nodes) (Error error)

  -- dup

  dup_output : at_start (words 4041 1 0 0 0) ≡ stays (record (at_first nodes) {
    table = record streams_alone { fds = to 0 ∷ to 1 ∷ to 2 ∷ to 1 ∷ None ∷ None ∷ None ∷ None ∷ [] };
  }) (Value 3)
  unfolding dup_row duplicate
  dup_output = refl

  -- of four places none is free
  abbrev none_free : Files
  none_free = record (at_first nodes) { table = record streams_alone { fds = to 0 ∷ to 1 ∷ to 2 ∷ to 0 ∷ [] } }

  dup_none_free : called (with_files whole none_free) (words 4041 1 0 0 0) ≡ stays none_free (Error EMFILE)
  unfolding dup_row duplicate
  dup_none_free = refl

  dup_closed : at_start (words 4041 3 0 0 0) ≡ refuses EBADF
  unfolding dup_row duplicate
  dup_closed = refl

  -- dup2

  dup2_onto_free : at_start (words 4063 1 5 0 0) ≡ stays (record (at_first nodes) {
    table = record streams_alone { fds = to 0 ∷ to 1 ∷ to 2 ∷ None ∷ None ∷ to 1 ∷ None ∷ None ∷ [] };
  }) (Value 5)
  unfolding dup2_row duplicate_onto after_close closed last_description
  dup2_onto_free = refl

  dup2_onto_itself : at_start (words 4063 1 1 0 0) ≡ stays (at_first nodes) (Value 1)
  unfolding dup2_row duplicate_onto
  dup2_onto_itself = refl

  dup2_of_closed : at_start (words 4063 3 3 0 0) ≡ refuses EBADF
  unfolding dup2_row duplicate_onto
  dup2_of_closed = refl

  dup2_onto_beyond : at_start (words 4063 1 1024 0 0) ≡ refuses EBADF
  unfolding dup2_row duplicate_onto
  dup2_onto_beyond = refl

  -- dup3

  -- what was there is closed
  onto_input : at_start (words 4327 1 0 0x80000 0) ≡ stays (record (at_first nodes) {
    table = record {
      fds = to_on_exec 1 ∷ to 1 ∷ to 2 ∷ None ∷ None ∷ None ∷ None ∷ None ∷ [];
      live = None ∷ Some output ∷ Some error_output ∷ None ∷ None ∷ None ∷ None ∷ None ∷ [];
    };
  }) (Value 0)
  unfolding dup3_row duplicate_onto_with after_close closed last_description
  onto_input = refl

  onto_of_closed : at_start (words 4327 3 3 1 0) ≡ refuses EBADF
  unfolding dup3_row duplicate_onto_with
  onto_of_closed = refl

  onto_itself : at_start (words 4327 1 1 1 0) ≡ refuses EINVAL
  unfolding dup3_row duplicate_onto_with
  onto_itself = refl

  onto_beyond : at_start (words 4327 1 1024 1 0) ≡ refuses EBADF
  unfolding dup3_row duplicate_onto_with
  onto_beyond = refl

  onto_with_nonblock : at_start (words 4327 1 5 0x80080 0) ≡ refuses EINVAL
  unfolding dup3_row duplicate_onto_with
  onto_with_nonblock = refl

  -- close

  close_output : at_start (words 4006 1 0 0 0) ≡ stays (record (at_first nodes) {
    table = record {
      fds = to 0 ∷ None ∷ to 2 ∷ None ∷ None ∷ None ∷ None ∷ None ∷ [];
      live = Some input ∷ None ∷ Some error_output ∷ None ∷ None ∷ None ∷ None ∷ None ∷ [];
    };
  }) (Value 0)
  unfolding close_row close after_close closed last_description
  close_output = refl

  close_closed : at_start (words 4006 7 0 0 0) ≡ refuses EBADF
  unfolding close_row close
  close_closed = refl

  -- pipe

  new_pipe : at_start (words 4042 0 0 0 0) ≡ stays (with_pipe_of nodes []) (Pair 3 4)
  unfolding pipe_row make_pipe
  new_pipe = refl

  -- one free descriptor is not enough
  abbrev one_free : Files
  one_free = record (at_first nodes) { table = record streams_alone { fds = to 0 ∷ to 1 ∷ to 2 ∷ None ∷ [] } }

  no_two_free : called (with_files whole one_free) (words 4042 0 0 0 0) ≡ stays one_free (Error EMFILE)
  unfolding pipe_row make_pipe
  no_two_free = refl

  -- pipe2

  new_pipe_with_flags : (held : List ℕ) → get memory.pages 16 ≡ Some (page_of held) → at_start (words 4328 65536 0x80080 0 0) ≡ leaves whole (record (with_pipe_of nodes []) {
    table = record {
      fds = to 0 ∷ to 1 ∷ to 2 ∷ to_on_exec 3 ∷ to_on_exec 4 ∷ None ∷ None ∷ None ∷ [];
      live =
          Some input ∷ Some output ∷ Some error_output
          ∷ Some (description_of (ReadEnd 0) (record (no_flags Read) { nonblock = true }))
          ∷ Some (description_of (WriteEnd 0) (record (no_flags Write) { nonblock = true }))
          ∷ None ∷ None ∷ None ∷ [];
    };
  }) processor (copied_out memory 65536 (0 ∷ 0 ∷ 0 ∷ 3 ∷ 0 ∷ 0 ∷ 0 ∷ 4 ∷ [])) [] (Value 0)
  unfolding pipe2_row make_pipe first_denied refusal
  new_pipe_with_flags held kept = simp kept refl

  pipe_with_append : at_start (words 4328 65536 8 0 0) ≡ refuses EINVAL
  unfolding pipe2_row make_pipe
  pipe_with_append = refl

  -- the last bytes of the pair lie on a page that is absent: nothing is written, and nothing stays open
  pipe_absent : (held : List ℕ) → get memory.pages 16 ≡ Some (page_of held) → get memory.pages 17 ≡ None
      → at_start (words 4328 69628 0 0 0) ≡ refuses EFAULT
  unfolding pipe2_row make_pipe after_close closed last_description first_denied refusal
  pipe_absent held kept absent = simp (kept, absent) refl

  -- EMFILE comes before the pointer
  no_two_free_for_pair : called (with_files whole one_free) (words 4328 0x8000_0000 0 0 0) ≡ stays one_free (Error EMFILE)
  unfolding pipe2_row make_pipe
  no_two_free_for_pair = refl

  -- fcntl

  -- F_DUPFD and F_DUPFD_CLOEXEC
  duplicate_from_4 : at_start (words 4055 1 0 4 0) ≡ stays (record (at_first nodes) {
    table = record streams_alone { fds = to 0 ∷ to 1 ∷ to 2 ∷ None ∷ to 1 ∷ None ∷ None ∷ None ∷ [] };
  }) (Value 4)
  unfolding fcntl_row duplicate
  duplicate_from_4 = refl

  duplicate_on_exec : at_start (words 4220 1 1030 0 0) ≡ stays (record (at_first nodes) {
    table = record streams_alone { fds = to 0 ∷ to 1 ∷ to 2 ∷ to_on_exec 1 ∷ None ∷ None ∷ None ∷ None ∷ [] };
  }) (Value 3)
  unfolding fcntl_row duplicate
  duplicate_on_exec = refl

  duplicate_from_1024 : at_start (words 4055 1 0 1024 0) ≡ refuses EINVAL
  unfolding fcntl_row duplicate
  duplicate_from_1024 = refl

  duplicate_from_below_zero : at_start (words 4055 1 0 0xFFFF_FFFF 0) ≡ refuses EINVAL
  unfolding fcntl_row duplicate
  duplicate_from_below_zero = refl

  duplicate_on_exec_from_1024 : at_start (words 4055 1 1030 1024 0) ≡ refuses EINVAL
  unfolding fcntl_row duplicate
  duplicate_on_exec_from_1024 = refl

  -- of eight places none is free from 8 on
  duplicate_none_free : at_start (words 4055 1 0 8 0) ≡ refuses EMFILE
  unfolding fcntl_row duplicate
  duplicate_none_free = refl

  -- F_SETFD and F_GETFD
  set_on_exec : at_start (words 4055 1 2 1 0) ≡ stays (record (at_first nodes) {
    table = record streams_alone { fds = to 0 ∷ to_on_exec 1 ∷ to 2 ∷ None ∷ None ∷ None ∷ None ∷ None ∷ [] };
  }) (Value 0)
  unfolding fcntl_row set_close_on_exec
  set_on_exec = refl

  -- bits but the lowest say nothing
  set_off_exec : at_start (words 4055 1 2 6 0) ≡ stays (at_first nodes) (Value 0)
  unfolding fcntl_row set_close_on_exec
  set_off_exec = refl

  is_on_exec : (called (at_start (words 4055 1 2 1 0)).kernel (words 4055 1 1 0 0)).outcome ≡ Value 1
  unfolding fcntl_row set_close_on_exec close_on_exec
  is_on_exec = refl

  is_off_exec : at_start (words 4055 1 1 0 0) ≡ stays (at_first nodes) (Value 0)
  unfolding fcntl_row close_on_exec
  is_off_exec = refl

  -- F_GETFL: the access mode, and the streams' LARGEFILE
  flags_of_output : at_start (words 4055 1 3 0 0) ≡ stays (at_first nodes) (Value 0x2001)
  unfolding fcntl_row status_flags
  flags_of_output = refl

  flags_of_input : at_start (words 4220 0 3 0 0) ≡ stays (at_first nodes) (Value 0x2000)
  unfolding fcntl_row status_flags
  flags_of_input = refl

  -- F_SETFL: of O_APPEND, O_NONBLOCK, O_DIRECTORY and the access mode the first two alone
  set_flags : with_pipe (words 4055 4 4 (0x10000 + 0x80 + 0x8 + 2) 0) ≡ stays (record (with_pipe_of nodes []) {
    table = record (with_pipe_of nodes []).table {
      live =
          Some input ∷ Some output ∷ Some error_output ∷ Some read_end
          ∷ Some (record write_end { flags = record (no_flags Write) { append = true; nonblock = true } })
          ∷ None ∷ None ∷ None ∷ [];
    };
  }) (Value 0)
  unfolding fcntl_row set_status_flags
  set_flags = refl

  flags_that_were_set : (called (with_pipe (words 4055 4 4 0xFFFF_FFFF 0)).kernel (words 4055 4 3 0 0)).outcome ≡ Value 0x89
  unfolding fcntl_row set_status_flags status_flags
  flags_that_were_set = refl

  -- a read of an empty pipe that does not wait
  read_nonblock : (held : List ℕ) → get memory.pages 16 ≡ Some (page_of held)
      → (called (with_pipe (words 4055 3 4 0x80 0)).kernel (words 4003 3 65536 1 0)).outcome ≡ Error EAGAIN
  unfolding fcntl_row set_status_flags read_row kernel_read read writable_prefix first_denied refusal
  read_nonblock held kept = simp kept refl

  -- each command of a descriptor that isn't open

  duplicate_of_closed : at_start (words 4055 3 0 1024 0) ≡ refuses EBADF
  unfolding fcntl_row duplicate
  duplicate_of_closed = refl

  is_on_exec_of_closed : at_start (words 4055 3 1 0 0) ≡ refuses EBADF
  unfolding fcntl_row close_on_exec
  is_on_exec_of_closed = refl

  set_on_exec_of_closed : at_start (words 4055 3 2 1 0) ≡ refuses EBADF
  unfolding fcntl_row set_close_on_exec
  set_on_exec_of_closed = refl

  flags_of_closed : at_start (words 4055 3 3 0 0) ≡ refuses EBADF
  unfolding fcntl_row status_flags
  flags_of_closed = refl

  set_flags_of_closed : at_start (words 4055 3 4 0x80 0) ≡ refuses EBADF
  unfolding fcntl_row set_status_flags
  set_flags_of_closed = refl

  duplicate_on_exec_of_closed : at_start (words 4055 3 1030 0 0) ≡ refuses EBADF
  unfolding fcntl_row duplicate
  duplicate_on_exec_of_closed = refl

  command_of_closed : at_start (words 4055 3 5 0 0) ≡ refuses EBADF
  unfolding fcntl_row unlisted_command
  command_of_closed = refl

  other_command : at_start (words 4055 1 5 0 0) ≡ refuses EINVAL
  unfolding fcntl_row unlisted_command
  other_command = refl

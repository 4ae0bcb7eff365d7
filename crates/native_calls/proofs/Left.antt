-- What a call leaves of the kernel where it fails or waits; which calls wait with a part done; and that none is refused with ENOMEM.
use Rattle.std.proofs.Common.{◌≡◌, ℕ, ◌*◌, ◌==◌, ◌∙◌, Bool, true, false, List, [], refl, sym, ap, subst, inl, inr}
use Rattle.std.specs.Prelude.{◌⊎◌, Option, Some, None, Ok, Err, if◌then◌else◌, nat_lt}
use Rattle.host_mem.specs.Memory.{bytes_at, is_inside}
use Rattle.kernel_core.specs.declared.error.Errno.TheVariants.{EACCES, EAGAIN, EBADF, EBUSY, EEXIST, EFAULT, EFBIG, EINTR, EINVAL, EISDIR, ELOOP, EMFILE, ENAMETOOLONG, ENODEV, ENOENT, ENOMEM, ENOSPC, ENOSYS, ENOTDIR, ENOTEMPTY, ENOTTY, EOVERFLOW, EPERM, EPIPE, ERANGE, ESPIPE, ESRCH}
use Rattle.kernel_core.specs.declared.reply.Reply.{Reply}
use Rattle.kernel_core.specs.declared.reply.Reply.TheVariants as replies
use Rattle.kernel_core.specs.declared.request.Request.{Request}
use Rattle.kernel_core.specs.declared.request.Request.TheVariants as requests
use Rattle.kernel_model.proofs.refusals.Checks.{widened_stays}
use Rattle.kernel_model.proofs.refusals.ContentRefusals.{entries_stays, seek_stays, set_terminal_settings_stays, sync_stays}
use Rattle.kernel_model.proofs.refusals.DescriptorRefusals.{close_on_exec_stays, close_stays, duplicate_onto_with_stays, duplicate_stays, make_pipe_stays, set_close_on_exec_stays, set_nonblock_stays, set_status_flags_stays, status_flags_stays, unlisted_command_stays, unlisted_request_stays}
use Rattle.kernel_model.proofs.refusals.TransferRefusals.{read_at_stays, read_stays, write_at_stays, write_stays}
use Rattle.kernel_model.specs.Came.{Came, Done, Refused, Waits, Did, Given, done, refused, widened, came_as}
use Rattle.kernel_model.specs.Clock.{now}
use Rattle.kernel_model.specs.ContentRows.{bytes_ready, status, terminal_settings, window_size}
use Rattle.kernel_model.specs.DescriptorRows.{Ends, PipeFlags, make_pipe}
use Rattle.kernel_model.specs.Laws.{StaysAt}
use Rattle.kernel_model.specs.Shared.{Errno, Wake}
use Rattle.kernel_model.specs.SignalRows.{own_id, parent_id}
use Rattle.kernel_model.specs.State.{Files, Kernel}
use Rattle.kernel_model.specs.Transfers.{Reading, Writing, read, reading, write, writing}
use Rattle.kernel_model.specs.Whole.{KernelReading, is_broken_pipe, kernel_read, kernel_write, with_files, with_reading, with_sigpipe}
use Rattle.native_calls.proofs.Leaves.{CallsLeave, IsGood, IsReady, Leaves, LeavesIfAny, Looks, done_good, fills_leaves, given_fine, gives_leaves, in_leaves, lack, looks, number_ready, on_good, read_fine, room_lacks, room_waits, row_stores, told_good, wait_done, zero_good}
use Rattle.native_calls.proofs.ClockLeft.{clocks_leave, polls_leave, signals_leave}
use Rattle.native_calls.proofs.NamesLeft.{names_leave, nodes_leave, system_leave}
use Rattle.native_calls.proofs.Plain.{test_fine, FineGiven, fine_invalid}
use Rattle.native_calls.proofs.PlainRows.{bytes_ready_plain, close_on_exec_plain, close_plain, duplicate_onto_with_plain, duplicate_plain, entries_plain, make_pipe_plain, read_at_plain, read_plain, seek_plain, set_close_on_exec_plain, set_nonblock_plain, set_status_flags_plain, set_terminal_settings_plain, status_flags_plain, status_plain, sync_plain, terminal_settings_plain, unlisted_command_plain, unlisted_request_plain, window_size_plain, write_at_plain, write_plain}
use Rattle.native_calls.specs.Arguments.{argument, word}
use Rattle.native_calls.specs.Descriptors.{Command, commanded, commands, pipe_flags, dup_row, dup3_row, close_row, pipe2_row, fcntl_row, descriptor_calls, kept_if, pair_bytes, pair_size}
use Rattle.native_calls.specs.HostBytes.{asked, if_countable, ranges_in, read_as, structure, sum_limit, total, vector, vector_limit, vector_structures}
use Rattle.native_calls.specs.Ids.{id_calls, getpid_row, getppid_row}
use Rattle.native_calls.specs.Laws.{IsFailure, LeftByFailure, AsItWas, BrokenPipe, PairNotStored, MayWaitPartly}
use Rattle.native_calls.specs.Step.{NativeStep, NativeCall, value, failure, reply_to, stored}
use Rattle.native_calls.specs.Clocks.{clock_calls}
use Rattle.native_calls.specs.Names.{name_calls}
use Rattle.native_calls.specs.Polls.{poll_calls}
use Rattle.native_calls.specs.Signals.{signal_calls}
use Rattle.native_calls.specs.Nodes.{node_calls}
use Rattle.native_calls.specs.System.{system_calls}
use Rattle.native_calls.specs.Status.{status_bytes, status_calls, lseek_row, fstat_row, sync_row, getdents_row}
use Rattle.native_calls.specs.Table.{call_of, step_of, native_call}
use Rattle.native_calls.specs.Terminal.{int_bytes, settings_at, settings_bytes, set_cloexec_to, set_settings, switch_at, terminal_calls, ioctl_row, requested, window_bytes}
use Rattle.native_calls.specs.Transfers.{transfer_calls, after_read, after_write, read_row, readv_row, pread_row, write_row, writev_row, pwrite_row}
use Rattle.native_calls.specs.declared.range.Range.{Range}
use Rattle.number_tables.specs.Numbered.{numbered}
use Rattle.number_tables.specs.Requests.{request_of_native}

-- Rows that change nothing

status_looks : (files : Files) (fd : ℕ) → Looks files (status files fd)
unfolding status
status_looks files fd = search looks depth 14

ready_looks : (files : Files) (fd : ℕ) → Looks files (bytes_ready files fd)
unfolding bytes_ready
ready_looks files fd = search looks depth 14

settings_look : (files : Files) (fd : ℕ) → Looks files (terminal_settings files fd)
unfolding terminal_settings
settings_look files fd = search looks depth 14

window_looks : (files : Files) (fd : ℕ) → Looks files (window_size files fd)
unfolding window_size
window_looks files fd = search looks depth 14

-- Vectors

countable_fine : (ranges : Given (List Range)) → FineGiven ranges → FineGiven (if_countable ranges)
countable_fine (Err error) fine = record { fine = fine.fine }
countable_fine (Ok ranges) fine = test_fine (nat_lt sum_limit (total ranges)) (Err EINVAL) (Ok ranges) (record { fine = fine_invalid }) (record { fine = tt })

vector_fine : (memory : List ℕ) (address count : ℕ) → FineGiven (asked (vector memory address count))
vector_fine memory address count =
    read_fine total (vector memory address count)
    (test_fine (nat_lt vector_limit count) (Err EINVAL) (if_countable (read_as (ranges_in count) (vector_structures memory address count)))
    (record { fine = fine_invalid })
    (countable_fine (read_as (ranges_in count) (vector_structures memory address count))
    (read_fine (ranges_in count) (vector_structures memory address count)
    (test_fine (count == 0) (Ok []) (structure memory address (count * 16)) (record { fine = tt }) (given_fine (bytes_at memory address (count * 16)))))))

-- Transfers

after_read_leaves : (number : ℕ) (kernel : Kernel) (with_bytes : List ℕ → List ℕ) (memory left : List ℕ) (fd : ℕ) (asked : Given ℕ) (room : ℕ)
    → FineGiven asked → Leaves number kernel (after_read with_bytes memory (kernel_read kernel left fd asked room))
unfolding kernel_read
after_read_leaves number kernel with_bytes memory left fd asked room fine =
    let did = read kernel.files left fd asked room in
    fills_leaves number kernel with_bytes memory (widened (λ (reading : KernelReading). reading.kernel) (widened (with_reading kernel) did)) did.state.left
    (record {
      stays = widened_stays (λ (reading : Reading). with_files kernel reading.files) (reading left kernel.files) did (read_stays kernel.files left fd asked room);
      plain = record { plain = (read_plain kernel.files left fd asked room fine).plain };
    })

broken_or : (error : Errno) → (error ≡ EPIPE) ⊎ (is_broken_pipe error ≡ false)
broken_or EPERM = inr refl
broken_or ENOENT = inr refl
broken_or ESRCH = inr refl
broken_or EINTR = inr refl
broken_or EBADF = inr refl
broken_or EAGAIN = inr refl
broken_or ENOMEM = inr refl
broken_or EACCES = inr refl
broken_or EFAULT = inr refl
broken_or EBUSY = inr refl
broken_or EEXIST = inr refl
broken_or ENODEV = inr refl
broken_or ENOTDIR = inr refl
broken_or EISDIR = inr refl
broken_or EINVAL = inr refl
broken_or EMFILE = inr refl
broken_or ENOTTY = inr refl
broken_or EFBIG = inr refl
broken_or ENOSPC = inr refl
broken_or ESPIPE = inr refl
broken_or EPIPE = inl refl
broken_or ERANGE = inr refl
broken_or ENAMETOOLONG = inr refl
broken_or EOVERFLOW = inr refl
broken_or ENOSYS = inr refl
broken_or ELOOP = inr refl
broken_or ENOTEMPTY = inr refl

write_left : (number : ℕ) (kernel : Kernel) (state : Writing) (came : Came ℕ) (step : NativeStep) → step.kernel ≡ with_sigpipe (with_files kernel state.files) came
    → step.reply ≡ reply_to value came → StaysAt (writing kernel.files) state came → IsFailure (reply_to value came) → LeftByFailure number kernel step
write_left number kernel state (Done count) step became replied stays failed = absurd failed
write_left number kernel state (Waits wake) step became replied stays failed = absurd failed
write_left number kernel state (Refused error) step became replied stays failed = by (broken_or error) where
  is : step.kernel ≡ with_sigpipe kernel (Refused error)
  is = became ∙ ap (λ (w : Writing). with_sigpipe (with_files kernel w.files) (Refused error)) stays

  by : (error ≡ EPIPE) ⊎ (is_broken_pipe error ≡ false) → LeftByFailure number kernel step
  by (inl e) = BrokenPipe (replied ∙ ap failure e) (is ∙ ap (λ error. with_sigpipe kernel (Refused error)) e)
  by (inr e) = AsItWas (is ∙ ap (λ broken. if broken then (with_sigpipe kernel (Refused EPIPE)) else kernel) e)

write_waits : (kernel : Kernel) (state : Writing) (came : Came ℕ) → StaysAt (writing kernel.files) state came → (wake : Wake)
    → reply_to value came ≡ replies.Sleep wake → wake.done ≡ 0 → with_sigpipe (with_files kernel state.files) came ≡ kernel
write_waits kernel state (Done count) stays wake e none = absurd cc
write_waits kernel state (Refused error) stays wake e none = absurd cc
write_waits kernel state (Waits own) stays wake e none =
    let same : own ≡ wake = cc in
    ap (λ (w : Writing). with_files kernel w.files) (stays (ap (λ (w : Wake). w.done) same ∙ none))

after_write_leaves : (number : ℕ) → MayWaitPartly number → (kernel : Kernel) (memory left : List ℕ) (fd : ℕ) (asked : Given ℕ) (bytes : List ℕ)
    → FineGiven asked → Leaves number kernel (after_write memory (kernel_write kernel None fd asked bytes) left)
unfolding kernel_write
after_write_leaves number may kernel memory left fd asked bytes fine =
    let did = write kernel.files None (now kernel) fd asked bytes in
    let stays = (write_stays kernel.files None (now kernel) fd asked bytes).stays in
    record {
      failed = λ failed. write_left number kernel did.state did.came (after_write memory (kernel_write kernel None fd asked bytes) left) refl refl stays failed;
      waiting = λ wake e none. write_waits kernel did.state did.came stays wake e none;
      partly = λ wake e. inr may;
      lacking = λ e. absurd (lack value (number_ready (λ n. n)) true did.came (write_plain kernel.files None (now kernel) fd asked bytes fine).plain e);
    }

-- Pipes

module _ (number : ℕ) (own : number ≡ 59) (kernel : Kernel) (flags : Option PipeFlags) (room : Bool) where
  abbrev made : Did Files Ends
  made = make_pipe kernel.files flags

  abbrev pair_reply : Ends → Reply
  pair_reply ends = if room then value 0 else failure EFAULT

  pair_left : (came : Came Ends) (step : NativeStep) → made.came ≡ came → StaysAt kernel.files made.state came
      → step.kernel ≡ kept_if room (with_files kernel made.state) came → step.reply ≡ reply_to pair_reply came
      → IsFailure (reply_to pair_reply came) → LeftByFailure number kernel step
  pair_left (Done ends) step is stays became replied failed = by room refl where
    by : (test : Bool) → room ≡ test → LeftByFailure number kernel step
    by true e = absurd (subst (λ room. IsFailure (if room then value 0 else failure EFAULT)) e failed)
    by false e =
        PairNotStored own (replied ∙ ap (λ room. if room then value 0 else failure EFAULT) e) flags ends
        (is, (became ∙ ap (λ room. kept_if room (with_files kernel made.state) (Done ends)) e))
  pair_left (Refused error) step is stays became replied failed = AsItWas (became ∙ ap (with_files kernel) stays)
  pair_left (Waits wake) step is stays became replied failed = absurd failed

  pair_waits : (came : Came Ends) → StaysAt kernel.files made.state came → (wake : Wake) → reply_to pair_reply came ≡ replies.Sleep wake → wake.done ≡ 0
      → kept_if room (with_files kernel made.state) came ≡ kernel
  pair_waits (Done ends) stays wake e none = absurd (room_waits room wake e)
  pair_waits (Refused error) stays wake e none = absurd cc
  pair_waits (Waits own) stays wake e none =
      let same : own ≡ wake = cc in ap (with_files kernel) (stays (ap (λ (w : Wake). w.done) same ∙ none))

  pair_ready : IsReady pair_reply
  pair_ready = record { waits = λ ends wake e. room_waits room wake e; lacks = λ ends e. room_lacks room e }

told_reply : (memory : List ℕ) (address : ℕ) (came : Came Ends)
    → reply_to (stored memory address) (came_as pair_bytes came) ≡ reply_to (λ ends. if is_inside memory address pair_size then value 0 else failure EFAULT) came
told_reply memory address (Done ends) = refl
told_reply memory address (Refused error) = refl
told_reply memory address (Waits wake) = refl

pipe2_leaves : (number : ℕ) → number ≡ 59 → (kernel : Kernel) (memory : List ℕ) (address flags : ℕ) (left : List ℕ)
    → Leaves number kernel (pipe2_row kernel memory address flags left)
unfolding pipe2_row
pipe2_leaves number own kernel memory address flags left =
    let wanted = pipe_flags flags in
    let room = is_inside memory address pair_size in
    let did = make_pipe kernel.files wanted in
    let stays = (make_pipe_stays kernel.files wanted).stays in
    let plain = (make_pipe_plain kernel.files wanted).plain in
    let same = told_reply memory address did.came in
    record {
      failed = λ failed. pair_left number own kernel wanted room did.came (pipe2_row kernel memory address flags left) refl stays refl same (subst IsFailure same failed);
      waiting = λ wake e none. pair_waits number own kernel wanted room did.came stays wake (sym same ∙ e) none;
      partly = λ wake e. inl (wait_done (pair_reply number own kernel wanted room) (pair_ready number own kernel wanted room) did.came plain wake (sym same ∙ e));
      lacking = λ e. absurd (lack (pair_reply number own kernel wanted room) (pair_ready number own kernel wanted room) false did.came plain (sym same ∙ e));
    }

-- Commands and requests

record CommandIsGood (found : Option Command) : Type 0 where
  pub good : (kernel : Kernel) (fd argument : ℕ) → IsGood kernel (commanded kernel fd argument found)

found_command : (test : Bool) (command : Command) (others : Option Command) → CommandIsGood (Some command) → CommandIsGood others
    → CommandIsGood (if test then Some command else others)
found_command true command others good other = good
found_command false command others good other = other

no_command : CommandIsGood None
no_command = record { good = λ kernel fd argument. zero_good kernel _ (unlisted_command_stays kernel.files fd) (unlisted_command_plain kernel.files fd) }

commands_are_good : (number : ℕ) → CommandIsGood (numbered (λ (command : Command). command.number) commands number)
commands_are_good number =
    found_command (number == 0) _ _
    (record { good = λ kernel fd argument. on_good kernel _ (duplicate_stays kernel.files fd _ false) (duplicate_plain kernel.files fd _ false) })
    (found_command (number == 1) _ _
    (record { good = λ kernel fd argument. told_good _ kernel _ (on_good kernel _ (close_on_exec_stays kernel.files fd) (close_on_exec_plain kernel.files fd)) })
    (found_command (number == 2) _ _
    (record { good = λ kernel fd argument. zero_good kernel _ (set_close_on_exec_stays kernel.files fd _) (set_close_on_exec_plain kernel.files fd _) })
    (found_command (number == 3) _ _
    (record { good = λ kernel fd argument. told_good _ kernel _ (on_good kernel _ (status_flags_stays kernel.files fd) (status_flags_plain kernel.files fd)) })
    (found_command (number == 4) _ _
    (record { good = λ kernel fd argument. zero_good kernel _ (set_status_flags_stays kernel.files fd _ _) (set_status_flags_plain kernel.files fd _ _) })
    (found_command (number == 1030) _ _
    (record { good = λ kernel fd argument. on_good kernel _ (duplicate_stays kernel.files fd _ true) (duplicate_plain kernel.files fd _ true) })
    no_command)))))

module _ (number : ℕ) (kernel : Kernel) (memory : List ℕ) (fd address : ℕ) (left : List ℕ) where
  settings_leave : Leaves number kernel (set_settings kernel memory fd address left)
  settings_leave =
      gives_leaves number kernel memory _ left
      (zero_good kernel _ (set_terminal_settings_stays kernel.files fd (settings_at memory address))
      (set_terminal_settings_plain kernel.files fd (settings_at memory address) (read_fine _ _ (given_fine (bytes_at memory address 36)))))

  cloexec_leaves : (cloexec : Bool) → Leaves number kernel (set_cloexec_to cloexec kernel memory fd left)
  cloexec_leaves cloexec =
      gives_leaves number kernel memory _ left (zero_good kernel _ (set_close_on_exec_stays kernel.files fd cloexec) (set_close_on_exec_plain kernel.files fd cloexec))

  requested_leaves : (request : Option Request) → Leaves number kernel (requested kernel memory fd address left request)
  requested_leaves None = gives_leaves number kernel memory _ left (zero_good kernel _ (unlisted_request_stays kernel.files fd) (unlisted_request_plain kernel.files fd))
  requested_leaves (Some requests.Tcgets) =
      row_stores number kernel memory address settings_bytes (terminal_settings kernel.files fd) left (settings_look kernel.files fd).same (terminal_settings_plain kernel.files fd)
  requested_leaves (Some requests.Tcsets) = settings_leave
  requested_leaves (Some requests.Tcsetsw) = settings_leave
  requested_leaves (Some requests.Tcsetsf) = settings_leave
  requested_leaves (Some requests.Tiocgwinsz) =
      row_stores number kernel memory address window_bytes (window_size kernel.files fd) left (window_looks kernel.files fd).same (window_size_plain kernel.files fd)
  requested_leaves (Some requests.Fionread) =
      row_stores number kernel memory address int_bytes (bytes_ready kernel.files fd) left (ready_looks kernel.files fd).same (bytes_ready_plain kernel.files fd)
  requested_leaves (Some requests.Fionbio) =
      gives_leaves number kernel memory _ left
      (zero_good kernel _ (set_nonblock_stays kernel.files fd (switch_at memory address))
      (set_nonblock_plain kernel.files fd (switch_at memory address) (read_fine _ _ (given_fine (bytes_at memory address 4)))))
  requested_leaves (Some requests.Fioclex) = cloexec_leaves true
  requested_leaves (Some requests.Fionclex) = cloexec_leaves false

-- Calls of the table

descriptors_leave : CallsLeave descriptor_calls
unfolding dup_row dup3_row fcntl_row close_row
descriptors_leave = (
  record { leaves = λ args kernel memory left. gives_leaves 23 kernel memory _ left (on_good kernel _ (duplicate_stays kernel.files _ _ false) (duplicate_plain kernel.files _ _ false)) },
  (
    record { leaves = λ args kernel memory left. gives_leaves 24 kernel memory _ left (on_good kernel _ (duplicate_onto_with_stays kernel.files _ _ _) (duplicate_onto_with_plain kernel.files _ _ _)) },
    (
      record { leaves = λ args kernel memory left. gives_leaves 25 kernel memory _ left ((commands_are_good (word args 1)).good kernel (word args 0) (argument args 2)) },
      (
        record { leaves = λ args kernel memory left. gives_leaves 57 kernel memory _ left (zero_good kernel _ (close_stays kernel.files _) (close_plain kernel.files _)) },
        (
          record { leaves = λ args kernel memory left. pipe2_leaves 59 refl kernel memory (argument args 0) (word args 1) left },
          tt,
        ),
      ),
    ),
  ),
)

terminal_leaves : CallsLeave terminal_calls
unfolding ioctl_row
terminal_leaves = (record { leaves = λ args kernel memory left. requested_leaves 29 kernel memory (word args 0) (argument args 2) left (request_of_native (word args 1)) }, tt)

transfers_leave : CallsLeave transfer_calls
unfolding read_row write_row readv_row writev_row pread_row pwrite_row
transfers_leave = (
  record { leaves = λ args kernel memory left. after_read_leaves 63 kernel _ memory left _ _ _ (record { fine = tt }) },
  (
    record { leaves = λ args kernel memory left. after_write_leaves 64 (inl refl) kernel memory left _ _ _ (record { fine = tt }) },
    (
      record { leaves = λ args kernel memory left. after_read_leaves 65 kernel _ memory left _ _ _ (vector_fine memory (argument args 1) (argument args 2)) },
      (
        record { leaves = λ args kernel memory left. after_write_leaves 66 (inr refl) kernel memory left _ _ _ (vector_fine memory (argument args 1) (argument args 2)) },
        (
          record { leaves = λ args kernel memory left. fills_leaves 67 kernel _ memory _ left (on_good kernel _ (read_at_stays kernel.files _ _ _ _) (read_at_plain kernel.files _ _ _ _ (record { fine = tt }))) },
          (
            record { leaves = λ args kernel memory left. gives_leaves 68 kernel memory _ left (on_good kernel _ (write_at_stays kernel.files _ _ _ _ _ _) (write_at_plain kernel.files _ _ _ _ _ _ (record { fine = tt }))) },
            tt,
          ),
        ),
      ),
    ),
  ),
)

sync_leaves : (number : ℕ) (kernel : Kernel) (memory : List ℕ) (fd : ℕ) (left : List ℕ) → Leaves number kernel (sync_row kernel memory fd left)
unfolding sync_row
sync_leaves number kernel memory fd left = gives_leaves number kernel memory _ left (zero_good kernel _ (sync_stays kernel.files fd) (sync_plain kernel.files fd))

status_leave : CallsLeave status_calls
unfolding lseek_row fstat_row getdents_row
status_leave = (
  record { leaves = λ args kernel memory left. fills_leaves 61 kernel _ memory _ left (told_good _ kernel _ (on_good kernel _ (entries_stays kernel.files _ _ _ _) (entries_plain kernel.files _ _ _ _))) },
  (
    record { leaves = λ args kernel memory left. gives_leaves 62 kernel memory _ left (on_good kernel _ (seek_stays kernel.files _ _ _) (seek_plain kernel.files _ _ _)) },
    (
      record { leaves = λ args kernel memory left. row_stores 80 kernel memory _ status_bytes (status kernel.files (word args 0)) left (status_looks kernel.files (word args 0)).same (status_plain kernel.files (word args 0)) },
      (
        record { leaves = λ args kernel memory left. sync_leaves 82 kernel memory (word args 0) left },
        (
          record { leaves = λ args kernel memory left. sync_leaves 83 kernel memory (word args 0) left },
          tt,
        ),
      ),
    ),
  ),
)

ids_leave : CallsLeave id_calls
unfolding getpid_row getppid_row
ids_leave = (
  record { leaves = λ args kernel memory left. gives_leaves 172 kernel memory (done kernel own_id) left (done_good kernel own_id) },
  (
    record { leaves = λ args kernel memory left. gives_leaves 173 kernel memory (done kernel parent_id) left (done_good kernel parent_id) },
    tt,
  ),
)

call_leaves : (number : ℕ) → LeavesIfAny number (call_of number)
call_leaves number =
    in_leaves descriptor_calls _ number descriptors_leave
    (in_leaves terminal_calls _ number terminal_leaves
    (in_leaves transfer_calls _ number transfers_leave
    (in_leaves status_calls _ number status_leave
    (in_leaves id_calls _ number ids_leave
    (in_leaves name_calls _ number names_leave
    (in_leaves node_calls _ number nodes_leave
    (in_leaves system_calls _ number system_leave
    (in_leaves clock_calls _ number clocks_leave
    (in_leaves signal_calls _ number signals_leave
    (in_leaves poll_calls None number polls_leave tt))))))))))

unlisted_good : (kernel : Kernel) → IsGood {V = ℕ} kernel (refused kernel ENOSYS)
unlisted_good kernel = record { stays = record { stays = refl }; plain = record { plain = record { fine = refl } } }

step_leaves : (number : ℕ) (call : Option NativeCall) → LeavesIfAny number call → (args : List ℕ) (kernel : Kernel) (memory left : List ℕ)
    → Leaves number kernel (step_of call args kernel memory left)
step_leaves number None leaves args kernel memory left = gives_leaves number kernel memory (refused kernel ENOSYS) left (unlisted_good kernel)
step_leaves number (Some call) leaves args kernel memory left = leaves.leaves args kernel memory left

pub native_call_leaves : (number : ℕ) (args : List ℕ) (kernel : Kernel) (memory left : List ℕ)
    → Leaves number kernel (native_call number args kernel memory left)
native_call_leaves number args kernel memory left = step_leaves number (call_of number) (call_leaves number) args kernel memory left

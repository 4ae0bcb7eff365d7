-- Worked rows on descriptors: what is refused for closed ones and for streams and pipes, and writes to a pipe. 2 and 6 are closed.
use Rattle.std.specs.Prelude.{◌≡◌, ℕ, ◌+◌, ◌*◌, ◌/◌, ℤ, pos, negsuc, true, false, List, [], ◌∷◌, length, Option, Some, None, Ok, Err, refl}
use Rattle.kernel_core.specs.Nodes.{Nodes}
use Rattle.kernel_core.specs.declared.error.Errno.TheVariants.{EAGAIN, EBADF, EFAULT, EINVAL, ENOTDIR, ENOTTY, EPIPE, ESPIPE}
use Rattle.kernel_core.specs.declared.open_flags.Access.TheVariants.{Write}
use Rattle.kernel_model.proofs.rows.Small.{fds, flow, input, output, pipe, read_end, small, to, to_on_exec, write_end}
use Rattle.kernel_model.specs.Came.{done, refused, waits}
use Rattle.kernel_model.specs.ContentRows.{Records, bytes_ready, entries, set_terminal_settings, status, sync, window_size}
use Rattle.kernel_model.specs.DescriptorRows.{set_close_on_exec, set_status_flags, status_flags, unlisted_command, unlisted_request}
use Rattle.kernel_model.specs.Descriptions.{no_flags}
use Rattle.kernel_model.specs.NodeRows.{change_open_mode, set_umask}
use Rattle.kernel_model.specs.State.{Files}
use Rattle.kernel_model.specs.Transfers.{read_at, write, write_at, writing}

records : Records
records = record { length_for = λ n. (12 + n + 3) / 4 * 4; greatest = Some 0xFFFFFFFF }

-- without readers of the pipe
unread : Nodes → Files
unread nodes = record (small nodes []) { flow = record (flow []) { pipes = Some (record (pipe []) { readers = false }) ∷ None ∷ [] } }

-- the write end does not wait
at_once : Nodes → List ℕ → Files
at_once nodes bytes = record (small nodes bytes) {
  table = record { fds = fds; live = Some input ∷ Some output ∷ Some read_end ∷ Some (record write_end { flags = record (no_flags Write) { nonblock = true } }) ∷ None ∷ None ∷ [] };
}

module _ (nodes : Nodes) (now : ℤ) (limit : Option ℕ) where
  files : Files
  files = small nodes (7 ∷ 8 ∷ [])

  -- FIONREAD of ioctl(2), also at the write end

  in_the_pipe : bytes_ready files 4 ≡ done files 2
  unfolding bytes_ready files
  in_the_pipe = refl

  in_no_stream : bytes_ready files 0 ≡ refused files ENOTTY
  unfolding bytes_ready files
  in_no_stream = refl

  in_no_closed_one : bytes_ready files 2 ≡ refused files EBADF
  unfolding bytes_ready files
  in_no_closed_one = refl

  -- flags

  on_exec_set : set_close_on_exec files 4 true ≡ done (record files {
    table = record { fds = to 0 ∷ to 1 ∷ None ∷ to 2 ∷ to_on_exec 3 ∷ to_on_exec 3 ∷ None ∷ None ∷ []; live = files.table.live };
  }) tt
  unfolding set_close_on_exec files
  on_exec_set = refl

  on_exec_of_closed : set_close_on_exec files 6 true ≡ refused files EBADF
  unfolding set_close_on_exec files
  on_exec_of_closed = refl

  flags_of_write_end : status_flags files 5 ≡ done files (no_flags Write)
  unfolding status_flags files
  flags_of_write_end = refl

  flags_stay_off : set_status_flags files 4 false false ≡ done files tt
  unfolding set_status_flags files
  flags_stay_off = refl

  flags_of_closed : set_status_flags files 2 true true ≡ refused files EBADF
  unfolding set_status_flags files
  flags_of_closed = refl

  -- other commands of fcntl(2) and requests of ioctl(2)

  other_command_of_pipe : unlisted_command files 3 ≡ refused files EINVAL
  unfolding unlisted_command files
  other_command_of_pipe = refl

  other_command_of_closed : unlisted_command files 2 ≡ refused files EBADF
  unfolding unlisted_command files
  other_command_of_closed = refl

  other_request_of_pipe : unlisted_request files 3 ≡ refused files ENOTTY
  unfolding unlisted_request files
  other_request_of_pipe = refl

  other_request_of_closed : unlisted_request files 2 ≡ refused files EBADF
  unfolding unlisted_request files
  other_request_of_closed = refl

  settings_of_closed : set_terminal_settings files 2 (Err EFAULT) ≡ refused files EBADF
  unfolding set_terminal_settings files
  settings_of_closed = refl

  size_of_closed : window_size files 2 ≡ refused files EBADF
  unfolding window_size files
  size_of_closed = refl

  -- status, entries, syncing and modes

  status_of_closed : status files 2 ≡ refused files EBADF
  unfolding status files
  status_of_closed = refl

  entries_of_closed : entries files 2 records 99 99 ≡ refused files EBADF
  unfolding entries files
  entries_of_closed = refl

  entries_of_stream : entries files 0 records 99 99 ≡ refused files ENOTDIR
  unfolding entries files
  entries_of_stream = refl

  sync_stream : sync files 1 ≡ refused files EINVAL
  unfolding sync files
  sync_stream = refl

  sync_closed : sync files 2 ≡ refused files EBADF
  unfolding sync files
  sync_closed = refl

  -- a stream has no mode to change
  mode_of_stream : change_open_mode files now 1 384 ≡ done files tt
  unfolding change_open_mode files
  mode_of_stream = refl

  no_bits : set_umask files 0 ≡ done (record files { umask = 0 }) 18
  unfolding set_umask files
  no_bits = refl

  -- 01022 without the bit above the nine
  same_bits : set_umask files 530 ≡ done files 18
  unfolding set_umask files
  same_bits = refl

  -- at a place

  read_at_of_output : read_at files 1 (negsuc 0) (Err EFAULT) 0 ≡ refused files EBADF
  unfolding read_at files
  read_at_of_output = refl

  write_at_of_input : write_at files limit now 0 (negsuc 0) (Err EFAULT) [] ≡ refused files EBADF
  unfolding write_at files
  write_at_of_input = refl

  write_at_below_zero : write_at files limit now 1 (negsuc 0) (Err EFAULT) [] ≡ refused files EINVAL
  unfolding write_at files
  write_at_below_zero = refl

  write_at_of_stream : write_at files limit now 1 (pos 0) (Err EFAULT) [] ≡ refused files ESPIPE
  unfolding write_at files
  write_at_of_stream = refl

  -- writing

  write_wrong_vector : write files limit now 1 (Err EINVAL) [] ≡ refused (writing files) EINVAL
  unfolding write files
  write_wrong_vector = refl

  write_to_closed : write files limit now 2 (Err EINVAL) [] ≡ refused (writing files) EBADF
  unfolding write files
  write_to_closed = refl

  write_unread : write (unread nodes) limit now 4 (Ok 1) (9 ∷ []) ≡ refused (writing (unread nodes)) EPIPE
  unfolding write unread
  write_unread = refl

  -- a pipe without room for one byte
  module _ (held : List ℕ) (full : length held ≡ 65_536) where
    write_waits : write (small nodes held) limit now 4 (Ok 1) (9 ∷ []) ≡ waits (writing (small nodes held)) None
    unfolding write
    write_waits = simp full refl

    write_does_not_wait : write (at_once nodes held) limit now 4 (Ok 1) (9 ∷ []) ≡ refused (writing (at_once nodes held)) EAGAIN
    unfolding write at_once
    write_does_not_wait = simp full refl

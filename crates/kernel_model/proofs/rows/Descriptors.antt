-- Worked rows on descriptors.
use Rattle.std.specs.Prelude.{◌≡◌, true, false, [], ◌∷◌, Some, None, refl}
use Rattle.kernel_core.specs.Nodes.{Nodes}
use Rattle.kernel_core.specs.declared.error.Errno.TheVariants.{EBADF, EINVAL, EMFILE, ENOTTY}
use Rattle.kernel_core.specs.declared.open_flags.Access.TheVariants.{Read, Write}
use Rattle.kernel_model.proofs.rows.Small.{small, to, to_on_exec, input, output, read_end, write_end, flow}
use Rattle.kernel_model.specs.Begin.{stream_description}
use Rattle.kernel_model.specs.Came.{done, refused}
use Rattle.kernel_model.specs.Descriptions.{no_flags, description_of, output_of}
use Rattle.kernel_model.specs.DescriptorRows.{close, after_close, duplicate, duplicate_onto, duplicate_onto_with, make_pipe, ends, close_on_exec, set_close_on_exec, status_flags, set_status_flags, unlisted_command, unlisted_request}
use Rattle.kernel_model.specs.Table.{closed, last_description}
use Rattle.kernel_model.specs.declared.descriptor.Object.TheVariants.{ReadEnd, WriteEnd}
use Rattle.kernel_model.specs.declared.stream.Stream.TheVariants.{Err}

module _ (nodes : Nodes) where
  -- a descriptor that isn't open
  close_closed : close (small nodes []) 2 ≡ refused (small nodes []) EBADF
  unfolding close
  close_closed = refl

  -- past the last place
  close_beyond : close (small nodes []) 1024 ≡ refused (small nodes []) EBADF
  unfolding close
  close_beyond = refl

  -- the last descriptor of a description
  close_input : close (small nodes []) 0 ≡ done (record (small nodes []) {
    table = record {
      fds = None ∷ to 1 ∷ None ∷ to 2 ∷ to 3 ∷ to_on_exec 3 ∷ None ∷ None ∷ [];
      live = None ∷ Some output ∷ Some read_end ∷ Some write_end ∷ None ∷ None ∷ [];
    };
  }) tt
  unfolding close after_close closed last_description
  close_input = refl

  -- one of two descriptors: the description stays
  close_one_of_two : close (small nodes []) 4 ≡ done (record (small nodes []) {
    table = record {
      fds = to 0 ∷ to 1 ∷ None ∷ to 2 ∷ None ∷ to_on_exec 3 ∷ None ∷ None ∷ [];
      live = Some input ∷ Some output ∷ Some read_end ∷ Some write_end ∷ None ∷ None ∷ [];
    };
  }) tt
  unfolding close after_close closed last_description
  close_one_of_two = refl

  -- the only read end: the pipe has no readers then, and keeps its bytes
  close_read_end : close (small nodes (7 ∷ [])) 3 ≡ done (record (small nodes (7 ∷ [])) {
    table = record {
      fds = to 0 ∷ to 1 ∷ None ∷ None ∷ to 3 ∷ to_on_exec 3 ∷ None ∷ None ∷ [];
      live = Some input ∷ Some output ∷ None ∷ Some write_end ∷ None ∷ None ∷ [];
    };
    flow = record (flow []) { pipes = Some (record { bytes = 7 ∷ []; readers = false; writers = true }) ∷ None ∷ [] };
  }) tt
  unfolding close after_close closed last_description
  close_read_end = refl

  -- the least free descriptor from one on
  duplicate_from_0 : duplicate (small nodes []) 1 (Some 0) false ≡ done (record (small nodes []) {
    table = record { fds = to 0 ∷ to 1 ∷ to 1 ∷ to 2 ∷ to 3 ∷ to_on_exec 3 ∷ None ∷ None ∷ []; live = (small nodes []).table.live };
  }) 2
  unfolding duplicate
  duplicate_from_0 = refl

  duplicate_from_3 : duplicate (small nodes []) 1 (Some 3) true ≡ done (record (small nodes []) {
    table = record { fds = to 0 ∷ to 1 ∷ None ∷ to 2 ∷ to 3 ∷ to_on_exec 3 ∷ to_on_exec 1 ∷ None ∷ []; live = (small nodes []).table.live };
  }) 6
  unfolding duplicate
  duplicate_from_3 = refl

  duplicate_closed : duplicate (small nodes []) 2 (Some 0) false ≡ refused (small nodes []) EBADF
  unfolding duplicate
  duplicate_closed = refl

  duplicate_from_1024 : duplicate (small nodes []) 1 (Some 1024) false ≡ refused (small nodes []) EINVAL
  unfolding duplicate
  duplicate_from_1024 = refl

  duplicate_from_negative : duplicate (small nodes []) 1 None false ≡ refused (small nodes []) EINVAL
  unfolding duplicate
  duplicate_from_negative = refl

  -- in a table of eight places there is none from 8 on
  duplicate_none_free : duplicate (small nodes []) 1 (Some 8) false ≡ refused (small nodes []) EMFILE
  unfolding duplicate
  duplicate_none_free = refl

  onto_itself : duplicate_onto (small nodes []) 5 5 ≡ done (small nodes []) 5
  unfolding duplicate_onto
  onto_itself = refl

  -- what stood there is closed first
  onto_read_end : duplicate_onto (small nodes []) 1 3 ≡ done (record (small nodes []) {
    table = record {
      fds = to 0 ∷ to 1 ∷ None ∷ to 1 ∷ to 3 ∷ to_on_exec 3 ∷ None ∷ None ∷ [];
      live = Some input ∷ Some output ∷ None ∷ Some write_end ∷ None ∷ None ∷ [];
    };
    flow = record (flow []) { pipes = Some (record { bytes = []; readers = false; writers = true }) ∷ None ∷ [] };
  }) 3
  unfolding duplicate_onto after_close closed last_description
  onto_read_end = refl

  onto_beyond : duplicate_onto (small nodes []) 1 1024 ≡ refused (small nodes []) EBADF
  unfolding duplicate_onto
  onto_beyond = refl

  onto_from_closed : duplicate_onto (small nodes []) 2 2 ≡ refused (small nodes []) EBADF
  unfolding duplicate_onto
  onto_from_closed = refl

  onto_itself_with : duplicate_onto_with (small nodes []) 1 1 None ≡ refused (small nodes []) EINVAL
  unfolding duplicate_onto_with
  onto_itself_with = refl

  onto_beyond_with : duplicate_onto_with (small nodes []) 1 1024 None ≡ refused (small nodes []) EBADF
  unfolding duplicate_onto_with
  onto_beyond_with = refl

  onto_with_other_flags : duplicate_onto_with (small nodes []) 1 2 None ≡ refused (small nodes []) EINVAL
  unfolding duplicate_onto_with
  onto_with_other_flags = refl

  onto_with_cloexec : duplicate_onto_with (small nodes []) 1 2 (Some true) ≡ done (record (small nodes []) {
    table = record { fds = to 0 ∷ to 1 ∷ to_on_exec 1 ∷ to 2 ∷ to 3 ∷ to_on_exec 3 ∷ None ∷ None ∷ []; live = (small nodes []).table.live };
  }) 2
  unfolding duplicate_onto_with after_close closed last_description
  onto_with_cloexec = refl

  -- a pipe: the least two descriptors, descriptions and the least pipe
  new_pipe : make_pipe (small nodes []) (Some (record { cloexec = true; nonblock = true })) ≡ done (record (small nodes []) {
    table = record {
      fds = to 0 ∷ to 1 ∷ to_on_exec 4 ∷ to 2 ∷ to 3 ∷ to_on_exec 3 ∷ to_on_exec 5 ∷ None ∷ [];
      live =
          Some input ∷ Some output ∷ Some read_end ∷ Some write_end
          ∷ Some (description_of (ReadEnd 1) (record (no_flags Read) { nonblock = true }))
          ∷ Some (description_of (WriteEnd 1) (record (no_flags Write) { nonblock = true })) ∷ [];
    };
    flow = record (flow []) { pipes = Some (record { bytes = []; readers = true; writers = true }) ∷ Some (record { bytes = []; readers = true; writers = true }) ∷ [] };
  }) (ends 2 6)
  unfolding make_pipe
  new_pipe = refl

  pipe_with_other_flags : make_pipe (small nodes []) None ≡ refused (small nodes []) EINVAL
  unfolding make_pipe
  pipe_with_other_flags = refl

  -- close-on-exec is a descriptor's own
  on_exec : close_on_exec (small nodes []) 5 ≡ done (small nodes []) true
  unfolding close_on_exec
  on_exec = refl

  not_on_exec : close_on_exec (small nodes []) 4 ≡ done (small nodes []) false
  unfolding close_on_exec
  not_on_exec = refl

  on_exec_of_closed : close_on_exec (small nodes []) 6 ≡ refused (small nodes []) EBADF
  unfolding close_on_exec
  on_exec_of_closed = refl

  set_off : set_close_on_exec (small nodes []) 5 false ≡ done (record (small nodes []) {
    table = record { fds = to 0 ∷ to 1 ∷ None ∷ to 2 ∷ to 3 ∷ to 3 ∷ None ∷ None ∷ []; live = (small nodes []).table.live };
  }) tt
  unfolding set_close_on_exec
  set_off = refl

  -- flags are the description's, so that both descriptors have them
  flags_of_output : status_flags (small nodes []) 1 ≡ done (small nodes []) (record (no_flags Write) { largefile = true })
  unfolding status_flags
  flags_of_output = refl

  flags_of_closed : status_flags (small nodes []) 2 ≡ refused (small nodes []) EBADF
  unfolding status_flags
  flags_of_closed = refl

  nonblock_on : set_status_flags (small nodes []) 4 true true ≡ done (record (small nodes []) {
    table = record (small nodes []).table {
      live = Some input ∷ Some output ∷ Some read_end ∷ Some (record write_end { flags = record (no_flags Write) { append = true; nonblock = true } }) ∷ None ∷ None ∷ [];
    };
  }) tt
  unfolding set_status_flags
  nonblock_on = refl

  -- which output a descriptor leads to
  output_of_output : output_of (small nodes []) 1 ≡ Some 1
  output_of_output = refl

  output_of_error : output_of (record (small nodes []) { table = record (small nodes []).table { live = Some input ∷ Some (stream_description Err Write) ∷ [] } }) 1 ≡ Some 2
  output_of_error = refl

  output_of_input : output_of (small nodes []) 0 ≡ None
  output_of_input = refl

  output_of_closed : output_of (small nodes []) 2 ≡ None
  output_of_closed = refl

  output_of_pipe : output_of (small nodes []) 4 ≡ None
  output_of_pipe = refl

  other_command : unlisted_command (small nodes []) 1 ≡ refused (small nodes []) EINVAL
  unfolding unlisted_command
  other_command = refl

  other_request : unlisted_request (small nodes []) 1 ≡ refused (small nodes []) ENOTTY
  unfolding unlisted_request
  other_request = refl

-- Worked rows on reading and writing at streams and pipes.
use Rattle.std.specs.Prelude.{◌≡◌, ℕ, ℤ, pos, negsuc, true, false, List, [], ◌∷◌, ◌++◌, length, take, Option, Some, None, Ok, Err, refl}
use Rattle.kernel_core.specs.Nodes.{Nodes}
use Rattle.kernel_core.specs.declared.error.Errno.TheVariants.{EAGAIN, EBADF, EFAULT, EINVAL, EPIPE, ESPIPE}
use Rattle.kernel_core.specs.declared.signal.Sig.TheVariants as sigs
use Rattle.kernel_model.proofs.rows.Small.{small, flow, pipe}
use Rattle.kernel_model.specs.Begin.{first_signals}
use Rattle.kernel_model.specs.Came.{Done, Refused, done, refused, waits}
use Rattle.kernel_model.specs.Pipes.{nothing, becomes, stays, waits_after, read_pipe, write_pipe}
use Rattle.kernel_model.specs.SignalRows.{appended, kill_info, post}
use Rattle.kernel_model.specs.State.{Kernel}
use Rattle.kernel_model.specs.Transfers.{reading, writing, read, read_at, write, write_at}
use Rattle.kernel_model.specs.Whole.{kernel_write}

-- One pipe

read_part : read_pipe (pipe (1 ∷ 2 ∷ 3 ∷ [])) false 2 ≡ becomes (pipe (3 ∷ [])) (Done (1 ∷ 2 ∷ []))
read_part = refl

read_all : read_pipe (pipe (1 ∷ 2 ∷ [])) false 8 ≡ becomes (pipe []) (Done (1 ∷ 2 ∷ []))
read_all = refl

read_empty : read_pipe (pipe []) false 8 ≡ stays (waits_after 0)
read_empty = refl

read_empty_nonblock : read_pipe (pipe []) true 8 ≡ stays (Refused EAGAIN)
read_empty_nonblock = refl

read_without_writers : read_pipe (record (pipe []) { writers = false }) true 8 ≡ stays (Done [])
read_without_writers = refl

read_rest_without_writers : read_pipe (record (pipe (9 ∷ [])) { writers = false }) true 8 ≡ becomes (record (pipe []) { writers = false }) (Done (9 ∷ []))
read_rest_without_writers = refl

write_fits : write_pipe (pipe (1 ∷ [])) false (2 ∷ 3 ∷ []) ≡ becomes (pipe (1 ∷ 2 ∷ 3 ∷ [])) (Done 2)
write_fits = refl

write_without_readers : write_pipe (record (pipe []) { readers = false }) true (2 ∷ []) ≡ stays (Refused EPIPE)
write_without_readers = refl

-- A write into a pipe with so many bytes: 4096 go whole or not at all, and of more those that fit.
module _ (held more : List ℕ) where
  all_that_fits : length held ≡ 61_440 → length more ≡ 4096 → write_pipe (pipe held) false more ≡ becomes (pipe (held ++ more)) (Done 4096)
  all_that_fits l m = simp (l, m) refl

  one_byte_short : length held ≡ 61_441 → length more ≡ 4096 → write_pipe (pipe held) false more ≡ stays (waits_after 0)
  one_byte_short l m = simp (l, m) refl

  one_byte_short_nonblock : length held ≡ 61_441 → length more ≡ 4096 → write_pipe (pipe held) true more ≡ stays (Refused EAGAIN)
  one_byte_short_nonblock l m = simp (l, m) refl

  one_byte_more : length held ≡ 61_440 → length more ≡ 4097 → write_pipe (pipe held) false more ≡ becomes (pipe (held ++ take 4096 more)) (waits_after 4096)
  one_byte_more l m = simp (l, m) refl

  one_byte_more_nonblock : length held ≡ 61_440 → length more ≡ 4097 → write_pipe (pipe held) true more ≡ becomes (pipe (held ++ take 4096 more)) (Done 4096)
  one_byte_more_nonblock l m = simp (l, m) refl

  no_room : length held ≡ 65_536 → length more ≡ 4097 → write_pipe (pipe held) false more ≡ stays (waits_after 0)
  no_room l m = simp (l, m) refl

  no_room_nonblock : length held ≡ 65_536 → length more ≡ 4097 → write_pipe (pipe held) true more ≡ stays (Refused EAGAIN)
  no_room_nonblock l m = simp (l, m) refl

  more_than_a_pipe : length more ≡ 70_000 → write_pipe (pipe []) false more ≡ becomes (pipe (take 65_536 more)) (waits_after 65_536)
  more_than_a_pipe m = simp m refl

  more_than_a_pipe_nonblock : length more ≡ 70_000 → write_pipe (pipe []) true more ≡ becomes (pipe (take 65_536 more)) (Done 65_536)
  more_than_a_pipe_nonblock m = simp m refl

module _ (nodes : Nodes) (limit : Option ℕ) (now : ℤ) where
  -- the input
  first_bytes : read (small nodes []) (120 ∷ 121 ∷ 122 ∷ []) 0 (Ok 2) 2
      ≡ done (reading (122 ∷ []) (record (small nodes []) { flow = record (flow []) { moved = record { taken = 2; out = 0; err = 0 } } })) (120 ∷ 121 ∷ [])
  unfolding read
  first_bytes = refl

  -- no more than was asked, whatever there is room for
  less_than_room : read (small nodes []) (120 ∷ 121 ∷ 122 ∷ []) 0 (Ok 2) 3
      ≡ done (reading (122 ∷ []) (record (small nodes []) { flow = record (flow []) { moved = record { taken = 2; out = 0; err = 0 } } })) (120 ∷ 121 ∷ [])
  unfolding read
  less_than_room = refl

  at_the_end : read (small nodes []) [] 0 (Ok 8) 8 ≡ done (reading [] (small nodes [])) []
  unfolding read
  at_the_end = refl

  no_byte : read (small nodes []) (120 ∷ []) 0 (Ok 0) 0 ≡ done (reading (120 ∷ []) (small nodes [])) []
  unfolding read
  no_byte = refl

  bad_buffer : read (small nodes []) [] 0 (Ok 8) 0 ≡ refused (reading [] (small nodes [])) EFAULT
  unfolding read
  bad_buffer = refl

  bad_vector : read (small nodes []) [] 0 (Err EINVAL) 0 ≡ refused (reading [] (small nodes [])) EINVAL
  unfolding read
  bad_vector = refl

  -- a descriptor comes before the vector
  read_of_closed : read (small nodes []) [] 2 (Err EINVAL) 0 ≡ refused (reading [] (small nodes [])) EBADF
  unfolding read
  read_of_closed = refl

  read_of_output : read (small nodes []) [] 1 (Ok 0) 0 ≡ refused (reading [] (small nodes [])) EBADF
  unfolding read
  read_of_output = refl

  -- a bad buffer comes before an empty pipe
  bad_buffer_of_pipe : read (small nodes []) [] 3 (Ok 8) 0 ≡ refused (reading [] (small nodes [])) EFAULT
  unfolding read
  bad_buffer_of_pipe = refl

  of_pipe : read (small nodes (7 ∷ 8 ∷ [])) [] 3 (Ok 8) 8 ≡ done (reading [] (small nodes [])) (7 ∷ 8 ∷ [])
  unfolding read
  of_pipe = refl

  of_empty_pipe : read (small nodes []) [] 3 (Ok 8) 8 ≡ waits (reading [] (small nodes [])) None
  unfolding read
  of_empty_pipe = refl

  before_the_start : read_at (small nodes []) 0 (negsuc 0) (Err EFAULT) 0 ≡ refused (small nodes []) EINVAL
  unfolding read_at
  before_the_start = refl

  at_a_place_of_a_stream : read_at (small nodes []) 0 (pos 0) (Err EFAULT) 0 ≡ refused (small nodes []) ESPIPE
  unfolding read_at
  at_a_place_of_a_stream = refl

  -- the output
  sent : write (small nodes []) limit now 1 (Ok 3) (72 ∷ 105 ∷ 10 ∷ [])
      ≡ done (record { files = record (small nodes []) { flow = record (flow []) { moved = record { taken = 0; out = 3; err = 0 } } }; sent = record { out = 72 ∷ 105 ∷ 10 ∷ []; err = [] } }) 3
  unfolding write
  sent = refl

  -- only what can be loaded
  sent_in_part : write (small nodes []) limit now 1 (Ok 8) (72 ∷ 105 ∷ 10 ∷ [])
      ≡ done (record { files = record (small nodes []) { flow = record (flow []) { moved = record { taken = 0; out = 3; err = 0 } } }; sent = record { out = 72 ∷ 105 ∷ 10 ∷ []; err = [] } }) 3
  unfolding write
  sent_in_part = refl

  sent_as_asked : write (small nodes []) limit now 1 (Ok 2) (72 ∷ 105 ∷ 10 ∷ [])
      ≡ done (record { files = record (small nodes []) { flow = record (flow []) { moved = record { taken = 0; out = 2; err = 0 } } }; sent = record { out = 72 ∷ 105 ∷ []; err = [] } }) 2
  unfolding write
  sent_as_asked = refl

  write_none : write (small nodes []) limit now 1 (Ok 0) [] ≡ done (writing (small nodes [])) 0
  unfolding write
  write_none = refl

  write_bad : write (small nodes []) limit now 1 (Ok 8) [] ≡ refused (writing (small nodes [])) EFAULT
  unfolding write
  write_bad = refl

  write_to_input : write (small nodes []) limit now 0 (Ok 0) [] ≡ refused (writing (small nodes [])) EBADF
  unfolding write
  write_to_input = refl

  to_pipe : write (small nodes (1 ∷ [])) limit now 5 (Ok 2) (2 ∷ 3 ∷ []) ≡ done (writing (small nodes (1 ∷ 2 ∷ 3 ∷ []))) 2
  unfolding write
  to_pipe = refl

  write_at_a_place_of_a_pipe : write_at (small nodes []) limit now 4 (pos 0) (Ok 1) (2 ∷ []) ≡ refused (small nodes []) ESPIPE
  unfolding write_at
  write_at_a_place_of_a_pipe = refl

-- SIGPIPE with EPIPE
module _ (kernel : Kernel) (nodes : Nodes) where
  without_readers : Kernel
  without_readers = record kernel {
    files = record (small nodes []) { flow = record (flow []) { pipes = Some (record (pipe []) { readers = false }) ∷ None ∷ [] } };
    signals = first_signals;
  }

  posts_sigpipe : kernel_write without_readers None 4 (Ok 1) (2 ∷ [])
      ≡ refused (record { kernel = record without_readers { signals = appended first_signals (kill_info sigs.Pipe) }; sent = nothing }) EPIPE
  unfolding kernel_write write post without_readers
  posts_sigpipe = refl

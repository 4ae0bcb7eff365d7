-- Reads and writes of pipes, as rows.
use Rattle.std.proofs.Common.{◌≡◌, ℕ, Bool, true, false, not, List, [], length, take, drop, Option, Some, None, refl, arith}
use Rattle.std.specs.Prelude.{if◌then◌else◌}
use Rattle.std.proofs.lemmas.List.{length-take}
use Rattle.kernel_core.specs.NameCalls.{is_empty_list}
use Rattle.kernel_core.specs.declared.error.Errno.TheVariants.{EAGAIN}
use Rattle.kernel_model.specs.Came.{Done, Refused, came_as}
use Rattle.kernel_model.specs.Pipes.{after_step, becomes, read_pipe, stays, waits_after}
use Rattle.kernel_model.specs.State.{Files, Pipe}
use Rattle.kernel_model.specs.Transfers.{read_end, write_end}
use Rattle.kernel_model.specs.declared.descriptor.Description.{Description}
use Rattle.native_files.specs.Answers.{MovesWithin}
use Rattle.native_files.specs.inside.Steps.{read_at_end, write_at_end}

module _ (files : Files) (description : Description) (number : ℕ) where
  pub read_end-state : (most : ℕ) (o : Option Pipe)
      → (read_end files description number most o).state ≡ record files { flow = after_step files.flow number (read_at_end description.flags.nonblock most o).pipe }
  read_end-state most None = refl
  read_end-state most (Some pipe) = refl

  pub read_end-came : (most : ℕ) (o : Option Pipe) → (read_end files description number most o).came ≡ (read_at_end description.flags.nonblock most o).came
  read_end-came most None = refl
  read_end-came most (Some pipe) = refl

  pub write_end-state : (bytes : List ℕ) (o : Option Pipe)
      → (write_end files description number bytes o).state ≡ record files { flow = after_step files.flow number (write_at_end description.flags.nonblock bytes o).pipe }
  write_end-state bytes None = refl
  write_end-state bytes (Some pipe) = refl

  pub write_end-came : (bytes : List ℕ) (o : Option Pipe) → (write_end files description number bytes o).came ≡ (write_at_end description.flags.nonblock bytes o).came
  write_end-came bytes None = refl
  write_end-came bytes (Some pipe) = refl

pub ruleset read_ends = (read_end-state, read_end-came)

pub ruleset write_ends = (write_end-state, write_end-came)

-- A pipe gives no more bytes than are asked for, and a read that waits has moved none.
pipe_within : (pipe : Pipe) (nonblock : Bool) (most : ℕ) → MovesWithin most (Some (came_as length (read_pipe pipe nonblock most).came))
pipe_within pipe nonblock most = by (not (is_empty_list pipe.bytes)) (not pipe.writers) nonblock
  where
    by : (some ended nonblock : Bool)
        → MovesWithin most (Some (came_as length (if some then becomes (record pipe { bytes = drop most pipe.bytes }) (Done (take most pipe.bytes))
        else (if ended then stays (Done []) else (if nonblock then stays (Refused EAGAIN) else stays (waits_after 0)))).came))
    by true ended nonblock = let size = length-take most pipe.bytes in omega (arith, size)
    by false true nonblock = omega arith
    by false false true = tt
    by false false false = omega arith

pub read_end-within : (files : Files) (description : Description) (number most : ℕ) (o : Option Pipe)
    → MovesWithin most (Some (came_as length (read_end files description number most o).came))
read_end-within files description number most None = tt
read_end-within files description number most (Some pipe) = pipe_within pipe description.flags.nonblock most

-- A worked row on what is no state of a kernel: two descriptions of one read end. Descriptors 3 and 4 lead to one each, 5 to the write end.
use Rattle.std.specs.Prelude.{◌≡◌, true, false, [], ◌∷◌, Some, None, option_map, refl}
use Rattle.kernel_core.specs.Nodes.{Nodes}
use Rattle.kernel_model.proofs.rows.Small.{input, output, read_end, small, to, write_end}
use Rattle.kernel_model.specs.Always.{any_open, is_read_end}
use Rattle.kernel_model.specs.DescriptorRows.{after_close, close}
use Rattle.kernel_model.specs.Pipes.{pipe_at}
use Rattle.kernel_model.specs.State.{Files}
use Rattle.kernel_model.specs.Table.{closed, last_description}

twice : Nodes → Files
twice nodes = record (small nodes []) {
  table = record {
    fds = to 0 ∷ to 1 ∷ None ∷ to 2 ∷ to 3 ∷ to 4 ∷ [];
    live = Some input ∷ Some output ∷ Some read_end ∷ Some read_end ∷ Some write_end ∷ None ∷ [];
  };
}

module _ (nodes : Nodes) where
  -- one of them is closed: the pipe has no readers then, and the other description has its read end open

  no_readers : option_map (λ p. p.readers) (pipe_at (close (twice nodes) 3).state.flow 0) ≡ Some false
  unfolding close after_close closed last_description twice
  no_readers = refl

  still_open : any_open (close (twice nodes) 3).state (is_read_end 0) ≡ true
  unfolding close after_close closed last_description twice
  still_open = refl

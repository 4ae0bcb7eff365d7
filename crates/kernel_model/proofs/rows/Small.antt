-- A small state for worked rows: 0 is the input, 1 the output, 2 is free, 3 and 4 are the ends of pipe 0, 5 is 4 again, closed on exec,
-- and 6 and 7 are free.
use Rattle.std.specs.Prelude.{ℕ, true, false, List, [], ◌∷◌, Option, Some, None}
use Rattle.kernel_core.specs.Nodes.{Nodes}
use Rattle.kernel_core.specs.declared.open_flags.Access.TheVariants.{Read, Write}
use Rattle.kernel_model.specs.Begin.{stream_description}
use Rattle.kernel_model.specs.Descriptions.{description_of, no_flags}
use Rattle.kernel_model.specs.State.{Files, Flow, Pipe}
use Rattle.kernel_model.specs.declared.descriptor.Descriptor.{Descriptor}
use Rattle.kernel_model.specs.declared.descriptor.Description.{Description}
use Rattle.kernel_model.specs.declared.descriptor.Object.TheVariants.{ReadEnd, WriteEnd}
use Rattle.kernel_model.specs.declared.stream.Stream.TheVariants.{Input, Out}

abbrev pub to : ℕ → Option Descriptor
to number = Some (record { number = number; cloexec = false })

abbrev pub to_on_exec : ℕ → Option Descriptor
to_on_exec number = Some (record { number = number; cloexec = true })

abbrev pub input : Description
input = stream_description Input Read

abbrev pub output : Description
output = stream_description Out Write

abbrev pub read_end : Description
read_end = description_of (ReadEnd 0) (no_flags Read)

abbrev pub write_end : Description
write_end = description_of (WriteEnd 0) (no_flags Write)

abbrev pub fds : List (Option Descriptor)
fds = to 0 ∷ to 1 ∷ None ∷ to 2 ∷ to 3 ∷ to_on_exec 3 ∷ None ∷ None ∷ []

abbrev pub live : List (Option Description)
live = Some input ∷ Some output ∷ Some read_end ∷ Some write_end ∷ None ∷ None ∷ []

abbrev pub pipe : List ℕ → Pipe
pipe bytes = record { bytes = bytes; readers = true; writers = true }

abbrev pub flow : List ℕ → Flow
flow bytes = record { pipes = Some (pipe bytes) ∷ None ∷ []; moved = record { taken = 0; out = 0; err = 0 } }

-- with these bytes in the pipe
abbrev pub small : Nodes → List ℕ → Files
small nodes bytes = record {
  nodes = nodes;
  table = record { fds = fds; live = live };
  flow = flow bytes;
  directory = 1;
  umask = 18;
  terminal = None;
}

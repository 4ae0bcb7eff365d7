-- A small state for worked rows: 0, 1 and 2 are the streams, as at first, and of eight places of descriptors and descriptions and two of
-- pipes the others are free.
use Rattle.std.specs.Prelude.{ℕ, true, false, List, [], ◌∷◌, Option, Some, None, codes, pos}
use Rattle.guest_space.specs.Memory.{MappedPage, Memory}
use Rattle.kernel_core.specs.FileContent.{no_content}
use Rattle.kernel_core.specs.Nodes.{Nodes, Inode, NodeContent, File, Directory}
use Rattle.kernel_core.specs.declared.open_flags.Access.TheVariants.{Read, Write, ReadWrite}
use Rattle.kernel_core.specs.declared.tree.DirEntry.{DirEntry}
use Rattle.kernel_model.specs.Begin.{stream_description}
use Rattle.kernel_model.specs.Descriptions.{description_of, no_flags}
use Rattle.kernel_model.specs.Pipes.{nothing}
use Rattle.kernel_model.specs.State.{Kernel, Files, Flow, Descriptors, Pipe}
use Rattle.kernel_model.specs.Whole.{with_files}
use Rattle.kernel_model.specs.declared.descriptor.Descriptor.{Descriptor}
use Rattle.kernel_model.specs.declared.descriptor.Description.{Description}
use Rattle.kernel_model.specs.declared.descriptor.Object.TheVariants.{ReadEnd, WriteEnd, Node}
use Rattle.kernel_model.specs.declared.stream.Stream.TheVariants.{Input, Out, Err}
use Rattle.mips_exec.specs.Processor.{Processor}
use Rattle.o32_model.specs.Step.{Guest, O32Step, wait_of}
use Rattle.o32_model.specs.declared.call_words.CallWords.{CallWords}
use Rattle.o32_model.specs.declared.outcome.Outcome.{Outcome}
use Rattle.o32_model.specs.declared.outcome.Outcome.TheVariants.{Sleep}

-- Descriptors and descriptions

abbrev pub to : ℕ → Option Descriptor
to number = Some (record { number = number; cloexec = false })

abbrev pub to_on_exec : ℕ → Option Descriptor
to_on_exec number = Some (record { number = number; cloexec = true })

abbrev pub input : Description
input = stream_description Input Read

abbrev pub output : Description
output = stream_description Out Write

abbrev pub error_output : Description
error_output = stream_description Err Write

abbrev pub read_end : Description
read_end = description_of (ReadEnd 0) (no_flags Read)

abbrev pub write_end : Description
write_end = description_of (WriteEnd 0) (no_flags Write)

-- node 5, open for reading and writing at this position
abbrev pub node_at : ℕ → Description
node_at position = record (description_of (Node 5) (no_flags ReadWrite)) { position = position }

-- States

abbrev pub streams_alone : Descriptors Description
streams_alone = record {
  fds = to 0 ∷ to 1 ∷ to 2 ∷ None ∷ None ∷ None ∷ None ∷ None ∷ [];
  live = Some input ∷ Some output ∷ Some error_output ∷ None ∷ None ∷ None ∷ None ∷ None ∷ [];
}

abbrev pub no_pipe : Flow
no_pipe = record { pipes = None ∷ None ∷ []; moved = record { taken = 0; out = 0; err = 0 } }

abbrev pub at_first : Nodes → Files
at_first nodes = record {
  nodes = nodes;
  table = streams_alone;
  flow = no_pipe;
  directory = 1;
  umask = 18;
  terminal = None;
}

-- after so many bytes were taken from the input, and written to the output and to the error output
abbrev pub after_moving : Files → ℕ → ℕ → ℕ → Files
after_moving files taken out err = record files { flow = record files.flow { moved = record { taken = taken; out = out; err = err } } }

abbrev pub pipe : List ℕ → Pipe
pipe bytes = record { bytes = bytes; readers = true; writers = true }

-- with a pipe that holds these bytes: 3 is its read end and 4 its write end
abbrev pub with_pipe_of : Nodes → List ℕ → Files
with_pipe_of nodes bytes = record (at_first nodes) {
  table = record {
    fds = to 0 ∷ to 1 ∷ to 2 ∷ to 3 ∷ to 4 ∷ None ∷ None ∷ None ∷ [];
    live = Some input ∷ Some output ∷ Some error_output ∷ Some read_end ∷ Some write_end ∷ None ∷ None ∷ None ∷ [];
  };
  flow = record no_pipe { pipes = Some (pipe bytes) ∷ None ∷ [] };
}

-- with node 5 at descriptor 3, at this position
abbrev pub with_node_at : Nodes → ℕ → Files
with_node_at nodes position = record (at_first nodes) {
  table = record {
    fds = to 0 ∷ to 1 ∷ to 2 ∷ to 3 ∷ None ∷ None ∷ None ∷ None ∷ [];
    live = Some input ∷ Some output ∷ Some error_output ∷ Some (node_at position) ∷ None ∷ None ∷ None ∷ None ∷ [];
  };
}

-- Nodes: a file without a byte, one of 2^32 + 258 bytes, and a directory with the file `a`

unfoldable pub inode : ℕ → NodeContent → Inode
inode links content = record { mode = 420; access = pos 0; modified = pos 0; changed = pos 0; links = links; holds = 1; content = content }

abbrev pub entry : DirEntry
entry = record { cookie = 3; name = codes "a"; node = 8 }

unfoldable pub empty_file : Inode
unfolding inode
empty_file = inode 1 (File no_content)

unfoldable pub large_file : Inode
unfolding inode
large_file = inode 1 (File (record no_content { size = 0x100000102 }))

unfoldable pub some_directory : Inode
unfolding inode
some_directory = inode 2 (Directory (record { parent = Some 1; greatest = 3; entries = entry ∷ [] }))

-- Memory: the page from 65536 on begins with these bytes and can be loaded and stored to, and nothing is known of others

abbrev pub page_of : List ℕ → MappedPage
page_of bytes = record { protection = 3; ready = true; bytes = bytes }

-- Calls and outcomes

abbrev pub words : ℕ → ℕ → ℕ → ℕ → ℕ → CallWords
words nr first second third fourth = record { nr = nr; reg = first ∷ second ∷ third ∷ fourth ∷ []; stack = None ∷ None ∷ None ∷ None ∷ [] }

-- with the fifth argument and the sixth
abbrev pub words_with : ℕ → ℕ → ℕ → ℕ → ℕ → ℕ → CallWords
words_with nr first second third fifth sixth =
    record { nr = nr; reg = first ∷ second ∷ third ∷ 0 ∷ []; stack = Some fifth ∷ Some sixth ∷ None ∷ None ∷ [] }

abbrev pub guest : CallWords → Processor → Memory → Guest
guest words processor memory = record { words = words; processor = processor; memory = memory }

-- a call that sends nothing
abbrev pub leaves : Kernel → Files → Processor → Memory → List ℕ → Outcome → O32Step
leaves kernel files processor memory left outcome = record {
  kernel = with_files kernel files;
  left = left;
  memory = memory;
  processor = processor;
  sent = nothing;
  outcome = outcome;
}

-- the call waits without a deadline, after so many bytes were put
abbrev pub sleep_after : CallWords → ℕ → Outcome
sleep_after words count = Sleep (wait_of words (record { done = count; until = None }))

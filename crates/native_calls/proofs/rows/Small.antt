-- A small state for worked rows: 0, 1 and 2 are the streams, as at first, and of eight places of descriptors and descriptions and two of
-- pipes the others are free.
use Rattle.std.specs.Prelude.{ℕ, true, false, List, [], ◌∷◌, replicate, Option, Some, None, codes, pos, negsuc, neg_ℤ}
use Rattle.kernel_core.specs.FileContent.{no_content}
use Rattle.kernel_core.specs.Nodes.{Nodes, Inode, NodeContent, File, Directory}
use Rattle.kernel_core.specs.declared.open_flags.Access.TheVariants.{Read, Write, ReadWrite}
use Rattle.kernel_core.specs.declared.reply.Reply.{Reply}
use Rattle.kernel_core.specs.declared.reply.Reply.TheVariants as replies
use Rattle.kernel_core.specs.declared.tree.DirEntry.{DirEntry}
use Rattle.kernel_model.specs.Begin.{stream_description, first_terminal}
use Rattle.kernel_model.specs.Descriptions.{description_of, no_flags}
use Rattle.kernel_model.specs.Pipes.{nothing}
use Rattle.kernel_model.specs.State.{Kernel, Files, Flow, Descriptors, Pipe}
use Rattle.kernel_model.specs.Whole.{with_files}
use Rattle.kernel_model.specs.declared.descriptor.Descriptor.{Descriptor}
use Rattle.kernel_model.specs.declared.descriptor.Description.{Description}
use Rattle.kernel_model.specs.declared.descriptor.Object.TheVariants.{ReadEnd, WriteEnd, Node}
use Rattle.kernel_model.specs.declared.stream.Stream.TheVariants.{Input, Out, Err}
use Rattle.layouts.specs.Number.{bytes_of}
use Rattle.native_calls.specs.Step.{NativeStep}

-- Descriptors and descriptions

abbrev pub to : ℕ → Option Descriptor
to number = Some (record { number = number; cloexec = false })

abbrev pub to_on_exec : ℕ → Option Descriptor
to_on_exec number = Some (record { number = number; cloexec = true })

abbrev pub input : Description
input = stream_description Input Read

abbrev pub output : Description
output = stream_description Out Write

abbrev pub error_output : Description
error_output = stream_description Err Write

abbrev pub read_end : Description
read_end = description_of (ReadEnd 0) (no_flags Read)

abbrev pub write_end : Description
write_end = description_of (WriteEnd 0) (no_flags Write)

-- node 5, open for reading and writing at this position
abbrev pub node_at : ℕ → Description
node_at position = record (description_of (Node 5) (no_flags ReadWrite)) { position = position }

-- States

abbrev pub streams_alone : Descriptors Description
streams_alone = record {
  fds = to 0 ∷ to 1 ∷ to 2 ∷ None ∷ None ∷ None ∷ None ∷ None ∷ [];
  live = Some input ∷ Some output ∷ Some error_output ∷ None ∷ None ∷ None ∷ None ∷ None ∷ [];
}

abbrev pub no_pipe : Flow
no_pipe = record { pipes = None ∷ None ∷ []; moved = record { taken = 0; out = 0; err = 0 } }

abbrev pub at_first : Nodes → Files
at_first nodes = record {
  nodes = nodes;
  table = streams_alone;
  flow = no_pipe;
  directory = 1;
  umask = 18;
  terminal = None;
}

-- after so many bytes were taken from the input, and written to the output and to the error output
abbrev pub after_moving : Files → ℕ → ℕ → ℕ → Files
after_moving files taken out err = record files { flow = record files.flow { moved = record { taken = taken; out = out; err = err } } }

abbrev pub pipe : List ℕ → Pipe
pipe bytes = record { bytes = bytes; readers = true; writers = true }

-- with this pipe: 3 is its read end and 4 its write end
abbrev pub with_pipe_at : Nodes → Pipe → Files
with_pipe_at nodes pipe = record (at_first nodes) {
  table = record {
    fds = to 0 ∷ to 1 ∷ to 2 ∷ to 3 ∷ to 4 ∷ None ∷ None ∷ None ∷ [];
    live = Some input ∷ Some output ∷ Some error_output ∷ Some read_end ∷ Some write_end ∷ None ∷ None ∷ None ∷ [];
  };
  flow = record no_pipe { pipes = Some pipe ∷ None ∷ [] };
}

-- with one that holds these bytes
abbrev pub with_pipe_of : Nodes → List ℕ → Files
with_pipe_of nodes bytes = with_pipe_at nodes (pipe bytes)

-- the write end does not wait
abbrev pub without_wait : Files → Files
without_wait files = record files {
  table = record files.table {
    live =
        Some input ∷ Some output ∷ Some error_output ∷ Some read_end
        ∷ Some (record write_end { flags = record (no_flags Write) { nonblock = true } })
        ∷ None ∷ None ∷ None ∷ [];
  };
}

-- with this at descriptor 3
abbrev pub with_open : Nodes → Description → Files
with_open nodes description = record (at_first nodes) {
  table = record {
    fds = to 0 ∷ to 1 ∷ to 2 ∷ to 3 ∷ None ∷ None ∷ None ∷ None ∷ [];
    live = Some input ∷ Some output ∷ Some error_output ∷ Some description ∷ None ∷ None ∷ None ∷ None ∷ [];
  };
}

-- with node 5 there, at this position
abbrev pub with_node_at : Nodes → ℕ → Files
with_node_at nodes position = with_open nodes (node_at position)

-- and under O_APPEND
abbrev pub with_append_at : Nodes → ℕ → Files
with_append_at nodes position = with_open nodes (record (node_at position) { flags = record (no_flags ReadWrite) { append = true } })

-- the streams are a terminal of 25 rows and 80 columns
abbrev pub on_a_terminal : Files → Files
on_a_terminal files = record files { terminal = Some (first_terminal (record { rows = 25; cols = 80 })) }

-- Nodes: a file without a byte, one that was modified half a second before the Epoch and changed 3 seconds and 5 nanoseconds past it, one
-- of 2^32 + 258 bytes, a directory with the file `a`, and a directory that was removed

unfoldable pub inode : ℕ → NodeContent → Inode
inode links content = record { mode = 420; access = pos 0; modified = pos 0; changed = pos 0; links = links; holds = 1; content = content }

abbrev pub entry : DirEntry
entry = record { cookie = 3; name = codes "a"; node = 8 }

unfoldable pub empty_file : Inode
unfolding inode
empty_file = inode 1 (File no_content)

unfoldable pub aged_file : Inode
unfolding inode
aged_file = record (inode 1 (File no_content)) { modified = negsuc 499_999_999; changed = pos 3_000_000_005 }

unfoldable pub large_file : Inode
unfolding inode
large_file = inode 1 (File (record no_content { size = 0x100000102 }))

unfoldable pub some_directory : Inode
unfolding inode
some_directory = inode 2 (Directory (record { parent = Some 1; greatest = 3; entries = entry ∷ [] }))

unfoldable pub removed_directory : Inode
unfolding inode
removed_directory = inode 0 (Directory (record { parent = None; greatest = 2; entries = [] }))

-- numbers of 4 and of 8 bytes, the lowest byte first, and so many zeros

abbrev pub u32 : ℕ → List ℕ
u32 value = bytes_of false 4 value

abbrev pub u64 : ℕ → List ℕ
u64 value = bytes_of false 8 value

abbrev pub zeros : ℕ → List ℕ
zeros count = replicate count 0

-- Calls and replies

abbrev pub six : ℕ → ℕ → ℕ → ℕ → List ℕ
six first second third fourth = first ∷ second ∷ third ∷ fourth ∷ 0 ∷ 0 ∷ []

-- a call that sends nothing
abbrev pub leaves : Kernel → Files → List ℕ → List ℕ → Reply → NativeStep
leaves kernel files memory left reply = record {
  kernel = with_files kernel files;
  left = left;
  memory = memory;
  sent = nothing;
  reply = reply;
}

abbrev pub number : ℕ → Reply
number value = replies.Done (pos value)

-- the error of this number
abbrev pub error : ℕ → Reply
error value = replies.Done (neg_ℤ (pos value))

-- the call waits without a deadline, after so many bytes were put
abbrev pub sleep_after : ℕ → Reply
sleep_after count = replies.Sleep (record { done = count; until = None })

-- What a description may be used for, and what its object is (open(2), fcntl(2)).
use Rattle.std.specs.Prelude.{ℕ, Bool, true, false, Option, Some, None, is_some, option_map, option_and_then, if◌then◌else◌}
use Rattle.std.specs.FinMap.{get}
use Rattle.kernel_core.specs.Nodes.{Nodes, NodeContent, listing_at}
use Rattle.kernel_core.specs.declared.open_flags.Access.TheVariants as accesses
use Rattle.kernel_model.specs.Shared.{Access, OpenSet}
use Rattle.kernel_model.specs.State.{Files}
use Rattle.kernel_model.specs.Table.{description_at}
use Rattle.kernel_model.specs.declared.descriptor.Description.{Description}
use Rattle.kernel_model.specs.declared.descriptor.Object.{Object}
use Rattle.kernel_model.specs.declared.descriptor.Object.TheVariants as objects
use Rattle.kernel_model.specs.declared.stream.Stream.{Stream}
use Rattle.kernel_model.specs.declared.stream.Stream.TheVariants as streams

-- Access modes

abbrev pub reads : Access → Bool
reads accesses.Read = true
reads accesses.Write = false
reads accesses.ReadWrite = true

abbrev pub writes : Access → Bool
writes accesses.Read = false
writes accesses.Write = true
writes accesses.ReadWrite = true

abbrev pub if_reads : Option Description → Option Description
if_reads None = None
if_reads (Some description) = if reads description.flags.access then Some description else None

abbrev pub if_writes : Option Description → Option Description
if_writes None = None
if_writes (Some description) = if writes description.flags.access then Some description else None

-- the description of a descriptor that is open, is open for reading, is open for writing

abbrev pub opened : Files → ℕ → Option Description
opened files fd = description_at files.table fd

abbrev pub readable : Files → ℕ → Option Description
readable files fd = if_reads (opened files fd)

abbrev pub writable : Files → ℕ → Option Description
writable files fd = if_writes (opened files fd)

-- Flags

abbrev pub no_flags : Access → OpenSet
no_flags access = record {
  access = access;
  append = false;
  dsync = false;
  nonblock = false;
  creat = false;
  trunc = false;
  excl = false;
  noctty = false;
  largefile = false;
  sync = false;
  directory = false;
  nofollow = false;
  cloexec = false;
}

-- the flags that a description keeps, which F_GETFL shows
abbrev pub kept_flags : OpenSet → OpenSet
kept_flags flags = record flags { creat = false; excl = false; noctty = false; trunc = false; cloexec = false }

abbrev pub description_of : Object → OpenSet → Description
description_of object flags = record { object = object; position = 0; flags = kept_flags flags }

-- Objects

-- the number of a node that is open
abbrev pub node_of : Object → Option ℕ
node_of (objects.Stream stream) = None
node_of (objects.ReadEnd pipe) = None
node_of (objects.WriteEnd pipe) = None
node_of (objects.Node node) = Some node

abbrev pub is_stream : Object → Bool
is_stream (objects.Stream stream) = true
is_stream (objects.ReadEnd pipe) = false
is_stream (objects.WriteEnd pipe) = false
is_stream (objects.Node node) = false

-- the content of a node, where it lives
abbrev pub content_at : Nodes → ℕ → Option NodeContent
content_at nodes node = option_map (λ i. i.content) (get nodes node)

-- the number of a directory that is open
abbrev pub if_directory : Nodes → Option ℕ → Option ℕ
if_directory nodes None = None
if_directory nodes (Some node) = if is_some (listing_at nodes node) then Some node else None

abbrev pub open_directory : Nodes → Object → Option ℕ
open_directory nodes object = if_directory nodes (node_of object)

-- which output stream a descriptor has open: 1 for the output, 2 for the error output, and none for anything else

abbrev pub output_number : Stream → Option ℕ
output_number streams.Input = None
output_number streams.Out = Some 1
output_number streams.Err = Some 2

abbrev pub output_at : Object → Option ℕ
output_at (objects.Stream stream) = output_number stream
output_at (objects.ReadEnd pipe) = None
output_at (objects.WriteEnd pipe) = None
output_at (objects.Node node) = None

abbrev pub output_of : Files → ℕ → Option ℕ
output_of files fd = option_and_then (λ d. output_at d.object) (opened files fd)

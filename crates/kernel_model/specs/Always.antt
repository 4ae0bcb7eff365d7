-- What a state of the kernel always is.
use Rattle.std.specs.Prelude.{◌≡◌, ℕ, ◌+◌, ◌^◌, ◌<◌, ◌≤◌, ◌==◌, ◌||◌, ◌&&◌, not, ◌⊎◌, Bool, true, false, List, [], length, All, Option, Some, None, is_some, count_by, if◌then◌else◌, slice_index_or}
use Rattle.kernel_core.specs.FileContent.{greatest_size}
use Rattle.kernel_core.specs.FileSystem.{IsFileSystem}
use Rattle.kernel_core.specs.Nodes.{Nodes, is_directory}
use Rattle.kernel_core.specs.Queries.{holds_at, kind_at, FileKind, DirectoryKind}
use Rattle.kernel_core.specs.declared.resource.Resource.TheVariants as resources
use Rattle.kernel_core.specs.declared.signal.Sig.TheVariants as sigs
use Rattle.kernel_model.specs.Descriptions.{kept_flags, reads, writes}
use Rattle.kernel_model.specs.Pipes.{pipe_at, pipe_size}
use Rattle.kernel_model.specs.Shared.{Access, Info}
use Rattle.kernel_model.specs.SignalRows.{action_at, default_handler, least_stack, no_stack, queued, queue_limit}
use Rattle.kernel_model.specs.SignalSets.{SignalSet, signal_count, standard_count, blockable, place}
use Rattle.kernel_model.specs.State.{Kernel, Files, Pipe, Descriptors, Signals, Timer}
use Rattle.kernel_model.specs.System.{limit_at}
use Rattle.kernel_model.specs.Table.{descriptor_limit, slot, leads_to}
use Rattle.kernel_model.specs.declared.descriptor.Descriptor.{Descriptor}
use Rattle.kernel_model.specs.declared.descriptor.Description.{Description}
use Rattle.kernel_model.specs.declared.descriptor.Object.{Object}
use Rattle.kernel_model.specs.declared.descriptor.Object.TheVariants as objects
use Rattle.kernel_model.specs.declared.limit.Limit.{Limit}
use Rattle.kernel_model.specs.declared.signal.SigStack.{SigStack}
use Rattle.kernel_model.specs.declared.stream.Moved.{Moved}
use Rattle.kernel_model.specs.declared.stream.Stream.TheVariants as streams
use Rattle.std.specs.List.{list_any}

-- Descriptors: each leads to a description that lives, and each description that lives has a descriptor
pub record IsTable {A : Type 0} (table : Descriptors A) : Type 0 where
  pub fds : length table.fds ≡ descriptor_limit
  pub live : length table.live ≡ descriptor_limit
  pub leads : (fd : ℕ) (descriptor : Descriptor) → slot table.fds fd ≡ Some descriptor → is_some (slot table.live descriptor.number) ≡ true
  pub used : (number : ℕ) → is_some (slot table.live number) ≡ true → list_any (leads_to number) table.fds ≡ true

-- which object a description has open

abbrev pub is_read_end : ℕ → Object → Bool
is_read_end pipe (objects.Stream stream) = false
is_read_end pipe (objects.ReadEnd number) = number == pipe
is_read_end pipe (objects.WriteEnd number) = false
is_read_end pipe (objects.Node node) = false

abbrev pub is_write_end : ℕ → Object → Bool
is_write_end pipe (objects.Stream stream) = false
is_write_end pipe (objects.ReadEnd number) = false
is_write_end pipe (objects.WriteEnd number) = number == pipe
is_write_end pipe (objects.Node node) = false

abbrev pub is_node : ℕ → Object → Bool
is_node node (objects.Stream stream) = false
is_node node (objects.ReadEnd number) = false
is_node node (objects.WriteEnd number) = false
is_node node (objects.Node number) = number == node

abbrev pub has_open : (Object → Bool) → Option Description → Bool
has_open test None = false
has_open test (Some description) = test description.object

abbrev pub any_open : Files → (Object → Bool) → Bool
any_open files test = list_any (has_open test) files.table.live

-- Pipes: a pipe that is there has an open end and at most 65,536 bytes, each below 256; an end is open exactly where a description has it open.
pub record IsPipe (files : Files) (number : ℕ) (pipe : Pipe) : Type 0 where
  pub small : length pipe.bytes ≤ pipe_size
  pub are_bytes : All (λ byte. byte < 256) pipe.bytes
  pub used : (pipe.readers || pipe.writers) ≡ true
  pub readers : pipe.readers ≡ any_open files (is_read_end number)
  pub writers : pipe.writers ≡ any_open files (is_write_end number)

-- What a description has open is there: a node is a file or a directory, and its position is one that it may have; a stream or an end
-- of a pipe has the position 0.
abbrev pub IsOpen : Files → Description → Object → Type 0
IsOpen files description (objects.Stream stream) = description.position ≡ 0
IsOpen files description (objects.ReadEnd pipe) = (is_some (pipe_at files.flow pipe) ≡ true) × (description.position ≡ 0)
IsOpen files description (objects.WriteEnd pipe) = (is_some (pipe_at files.flow pipe) ≡ true) × (description.position ≡ 0)
IsOpen files description (objects.Node node) = (description.position ≤ greatest_size) × ((kind_at files.nodes node ≡ Some FileKind) ⊎ (kind_at files.nodes node ≡ Some DirectoryKind))

-- A description's access mode fits what it has open: the input, a read end and a directory are read only, the outputs and a write end
-- written only.

abbrev pub only_reads : Access → Bool
only_reads access = reads access && not (writes access)

abbrev pub only_writes : Access → Bool
only_writes access = writes access && not (reads access)

abbrev pub fits_object : Nodes → Access → Object → Bool
fits_object nodes access (objects.Stream streams.Input) = only_reads access
fits_object nodes access (objects.Stream streams.Out) = only_writes access
fits_object nodes access (objects.Stream streams.Err) = only_writes access
fits_object nodes access (objects.ReadEnd pipe) = only_reads access
fits_object nodes access (objects.WriteEnd pipe) = only_writes access
fits_object nodes access (objects.Node node) = only_reads access || not (is_directory nodes node)

-- the holds of a node: the descriptions that have it open, and its use as the working directory
abbrev pub holders : Files → ℕ → ℕ
holders files node = count_by (has_open (is_node node)) files.table.live + (if files.directory == node then 1 else 0)

-- the numbers of bytes moved
abbrev pub AreMoved : Moved → Type 0
AreMoved moved = (moved.taken < 2 ^ 128) × (moved.out < 2 ^ 128) × (moved.err < 2 ^ 128)

pub record IsFiles (files : Files) : Type 0 where
  pub nodes : IsFileSystem files.nodes
  pub table : IsTable files.table
  pub places : length files.flow.pipes ≡ descriptor_limit
  pub pipes : (number : ℕ) (pipe : Pipe) → pipe_at files.flow number ≡ Some pipe → IsPipe files number pipe
  pub moved : AreMoved files.flow.moved
  pub opens : (number : ℕ) (description : Description) → slot files.table.live number ≡ Some description → IsOpen files description description.object
  pub kept : (number : ℕ) (description : Description) → slot files.table.live number ≡ Some description → kept_flags description.flags ≡ description.flags
  pub fits : (number : ℕ) (description : Description) → slot files.table.live number ≡ Some description → fits_object files.nodes description.flags.access description.object ≡ true
  pub directory : is_directory files.nodes files.directory ≡ true
  pub holds : (node : ℕ) → holds_at files.nodes node ≡ holders files node
  pub umask : files.umask < 512

-- the words of a set of signals
abbrev pub IsSet : SignalSet → Type 0
IsSet set = (length set ≡ 4) × All (λ word. word < 2 ^ 32) set

-- a mask: a set without KILL and STOP
abbrev pub IsMask : SignalSet → Type 0
IsMask mask = IsSet mask × (blockable mask ≡ mask)

-- the alternate stack as it is kept: disabled, or enabled with 2048 bytes at least
abbrev pub IsStack : SigStack → Type 0
IsStack stack = (stack ≡ no_stack) ⊎ ((stack.flags ≡ 0) × (least_stack ≤ stack.size))

-- what pends stands at the place of its signal, a standard signal once at most
abbrev pub IsPendingAt : ℕ → List Info → Type 0
IsPendingAt at infos = All (λ info. place info.sig ≡ at) infos × (at < standard_count → length infos ≤ 1)

pub record AreSignals (signals : Signals) : Type 0 where
  pub actions : length signals.actions ≡ signal_count
  pub masks : All (λ action. IsMask action.mask) signals.actions
  pub pending : length signals.pending ≡ signal_count
  pub each : (at : ℕ) → at < signal_count → IsPendingAt at (slice_index_or signals.pending at [])
  pub few : queued signals ≤ queue_limit
  pub mask : IsMask signals.mask
  pub stack : IsStack signals.stack
  pub kill : (action_at signals sigs.Kill).handler ≡ default_handler
  pub stop : (action_at signals sigs.Stop).handler ≡ default_handler

-- a limit: its soft one is at most its hard one
abbrev pub IsLimit : Limit → Type 0
IsLimit limit = (limit.soft ≤ limit.hard) × (limit.hard < 2 ^ 64)

-- a timer that is not armed has no period
abbrev pub IsTimer : Timer → Type 0
IsTimer timer = (timer.due ≡ None → timer.period ≡ 0) × (timer.period < 2 ^ 63) × ((time : ℕ) → timer.due ≡ Some time → time < 2 ^ 63)

pub record IsKernel (kernel : Kernel) : Type 0 where
  pub files : IsFiles kernel.files
  pub timer : IsTimer kernel.timer
  pub signals : AreSignals kernel.signals
  pub limits : length kernel.limits ≡ 16
  pub each_limit : All IsLimit kernel.limits
  pub nofile : (limit_at kernel resources.Nofile).hard ≤ descriptor_limit
  pub chance : kernel.chance.at < length kernel.chance.bytes
  pub chance_bytes : All (λ byte. byte < 256) kernel.chance.bytes

-- The other rows on what a descriptor has open: lseek(2), fstat(2), getdents(2), fsync(2), and the requests of ioctl(2) and ioctl_tty(2).
use Rattle.std.specs.Prelude.{ℕ, zero, suc, ◌-◌, ◌||◌, ℤ, pos, ◌+ℤ◌, Bool, false, not, ◌&&◌, List, [], ◌∷◌, map, filter, length, sum_by, Option, Some, None, unwrap_or, option_map, codes, nat_lt, nat_le, nat_abs, int_lt, if◌then◌else◌}
use Rattle.std.specs.FinMap.{get}
use Rattle.kernel_core.specs.FileContent.{FileContent, greatest_size}
use Rattle.kernel_core.specs.NodeCalls.{status_mode, content_size, content_sectors}
use Rattle.kernel_core.specs.Nodes.{Nodes, Inode, listing_at, NodeContent, File, Directory, Link, file_at}
use Rattle.kernel_core.specs.Queries.{NodeKind, FileKind, DirectoryKind, kind_at}
use Rattle.kernel_core.specs.declared.tree.DirEntry.{DirEntry}
use Rattle.kernel_core.specs.declared.error.Errno.TheVariants.{EBADF, EFAULT, EINVAL, ENOENT, ENOTDIR, ENOTTY, EOVERFLOW, ESPIPE}
use Rattle.kernel_model.specs.Came.{Did, Given, done, refused_if, refused_by, with_given, with_some}
use Rattle.kernel_model.specs.Descriptions.{opened, node_of, is_stream, content_at}
use Rattle.kernel_model.specs.Pipes.{pipe_at}
use Rattle.kernel_model.specs.Shared.{Errno}
use Rattle.kernel_model.specs.State.{Files, Pipe}
use Rattle.kernel_model.specs.Transfers.{moved_to}
use Rattle.kernel_model.specs.declared.descriptor.Description.{Description}
use Rattle.kernel_model.specs.declared.descriptor.Object.{Object}
use Rattle.kernel_model.specs.declared.descriptor.Object.TheVariants as objects
use Rattle.kernel_model.specs.declared.stream.Stream.{Stream}
use Rattle.kernel_model.specs.declared.stream.Stream.TheVariants as streams
use Rattle.kernel_model.specs.declared.terminal.Terminal.{Terminal}
use Rattle.kernel_model.specs.declared.terminal.TerminalSettings.{TerminalSettings}
use Rattle.kernel_model.specs.declared.terminal.Winsize.{Winsize}

-- Seeking

-- the place from which an offset counts: the beginning (0), the position (1), or the end of a file (2)
abbrev pub size_of : Option NodeContent → Option ℕ
size_of None = None
size_of (Some (File content)) = Some content.size
size_of (Some (Directory listing)) = None
size_of (Some (Link target)) = None

abbrev pub seek_from : Nodes → Description → ℕ → ℕ → Option ℕ
seek_from nodes description node zero = Some 0
seek_from nodes description node (suc zero) = Some description.position
seek_from nodes description node (suc (suc zero)) = size_of (content_at nodes node)
seek_from nodes description node (suc (suc (suc more))) = None

-- a place that a description may have
abbrev pub is_position : ℤ → Bool
is_position place = not (int_lt place (pos 0)) && nat_le (nat_abs place) greatest_size

-- lseek(2): ESPIPE for streams and pipes
unfoldable pub seek : Files → ℕ → ℤ → ℕ → Did Files ℕ
seek files fd offset origin =
    with_some files EBADF (opened files fd) (λ description.
    with_some files ESPIPE (node_of description.object) (λ node.
    with_some files EINVAL (seek_from files.nodes description node origin) (λ from.
    let place = pos from +ℤ offset in
    refused_if (not (is_position place)) EINVAL files (
    done (moved_to files fd description (nat_abs place)) (nat_abs place)))))

-- Status

-- What stat(2) tells: the device, and that of a terminal; the mode with its type bits; the size in bytes and in units of 512 bytes; the
-- times in nanoseconds since the Epoch. Owner, group and block size are the same in every status, and stand below it.
pub record Status : Type 0 where
  pub device : ℕ
  pub number : ℕ
  pub mode : ℕ
  pub links : ℕ
  pub terminal_device : ℕ
  pub size : ℕ
  pub sectors : ℕ
  pub access : ℤ
  pub modified : ℤ
  pub changed : ℤ

abbrev pub status_owner : ℕ
status_owner = 0

abbrev pub status_group : ℕ
status_group = 0

abbrev pub status_block_size : ℕ
status_block_size = 4096

-- nodes lie on device 1, streams and pipes on device 2
abbrev pub node_status : ℕ → Inode → Status
node_status number inode = record {
  device = 1;
  number = number;
  mode = status_mode inode;
  links = inode.links;
  terminal_device = 0;
  size = content_size inode.content;
  sectors = content_sectors inode.content;
  access = inode.access;
  modified = inode.modified;
  changed = inode.changed;
}

abbrev pub flow_status : ℕ → ℕ → ℕ → Status
flow_status number mode terminal_device = record {
  device = 2;
  number = number;
  mode = mode;
  links = 1;
  terminal_device = terminal_device;
  size = 0;
  sectors = 0;
  access = pos 0;
  modified = pos 0;
  changed = pos 0;
}

-- S_IFIFO of inode(7) with the mode 0600, and S_IFCHR with 0620
abbrev pub pipe_mode : ℕ
pipe_mode = 0x1180

abbrev pub terminal_mode : ℕ
terminal_mode = 0x2190

abbrev pub stream_number : Stream → ℕ
stream_number streams.Input = 1
stream_number streams.Out = 2
stream_number streams.Err = 3

abbrev pub stream_status : ℕ → Option Terminal → Status
stream_status number None = flow_status number pipe_mode 0
stream_status number (Some terminal) = flow_status number terminal_mode 0x8800

abbrev pub pipe_status : Status
pipe_status = flow_status 4 pipe_mode 0

-- the status of a node that lives
abbrev pub status_at : Nodes → ℕ → Option Status
status_at nodes number = option_map (node_status number) (get nodes number)

abbrev pub object_status : Files → Object → Option Status
object_status files (objects.Stream stream) = Some (stream_status (stream_number stream) files.terminal)
object_status files (objects.ReadEnd pipe) = Some pipe_status
object_status files (objects.WriteEnd pipe) = Some pipe_status
object_status files (objects.Node node) = status_at files.nodes node

-- fstat(2)
unfoldable pub status : Files → ℕ → Did Files Status
status files fd =
    with_some files EBADF (opened files fd) (λ description.
    with_some files EBADF (object_status files description.object) (λ status.
    done files status))

-- Entries

-- an entry as getdents(2) gives it, `.` and `..` included
pub record Entry : Type 0 where
  pub cookie : ℕ
  pub name : List ℕ
  pub node : ℕ
  pub kind : NodeKind

abbrev pub entry_of : Nodes → DirEntry → Entry
entry_of nodes entry = record { cookie = entry.cookie; name = entry.name; node = entry.node; kind = unwrap_or (kind_at nodes entry.node) FileKind }

abbrev pub dot_entry : ℕ → List ℕ → ℕ → Entry
dot_entry cookie name node = record { cookie = cookie; name = name; node = node; kind = DirectoryKind }

-- all entries of a directory with its parent, by rising cookie
abbrev pub all_entries : Nodes → ℕ → ℕ → List DirEntry → List Entry
all_entries nodes directory parent entries =
    dot_entry 1 (codes ".") directory ∷ dot_entry 2 (codes "..") parent ∷ map (entry_of nodes) entries

-- How a world writes entries: how many bytes a record takes for a name of so many bytes, and the greatest node number that it holds.
pub record Records : Type 0 where
  pub length_for : ℕ → ℕ
  pub greatest : Option ℕ

abbrev pub is_above : Option ℕ → ℕ → Bool
is_above None number = false
is_above (Some greatest) number = nat_lt greatest number

abbrev pub record_length : Records → Entry → ℕ
record_length records entry = records.length_for (length entry.name)

-- the entries from the first on whose records fit into so many bytes, up to a node number that a record doesn't hold
abbrev pub fitting : Records → ℕ → List Entry → List Entry
fitting records size [] = []
fitting records size (entry ∷ entries) =
    if nat_lt size (record_length records entry) || is_above records.greatest entry.node then []
    else entry ∷ fitting records (size - record_length records entry) entries

abbrev pub entries_refusal : Records → ℕ → List Entry → Option Errno
entries_refusal records size [] = None
entries_refusal records size (entry ∷ entries) =
    if nat_lt size (record_length records entry) then Some EINVAL
    else (if is_above records.greatest entry.node then Some EOVERFLOW else None)

-- the position after entries that were given: the cookie of the last
abbrev pub position_after : ℕ → List Entry → ℕ
position_after position [] = position
position_after position (entry ∷ entries) = position_after entry.cookie entries

-- The entries behind the position, which moves to the last of them. Where their records can't all be stored in the first `room` bytes, it
-- stays.
abbrev pub give_entries : Files → ℕ → Description → Records → ℕ → ℕ → List Entry → Did Files (List Entry)
give_entries files fd description records size room entries =
    refused_by (entries_refusal records size entries) files (
    let given = fitting records size entries in
    refused_if (nat_lt room (sum_by (record_length records) given)) EFAULT files (
    done (moved_to files fd description (position_after description.position given)) given))

-- getdents(2) into a buffer of `size` bytes: ENOTDIR, and ENOENT where the directory was removed
unfoldable pub entries : Files → ℕ → Records → ℕ → ℕ → Did Files (List Entry)
entries files fd records size room =
    with_some files EBADF (opened files fd) (λ description.
    with_some files ENOTDIR (node_of description.object) (λ directory.
    with_some files ENOTDIR (listing_at files.nodes directory) (λ listing.
    with_some files ENOENT listing.parent (λ parent.
    give_entries files fd description records size room
    (filter (λ e. nat_lt description.position e.cookie) (all_entries files.nodes directory parent listing.entries))))))

-- Syncing: fsync(2), fdatasync(2)
unfoldable pub sync : Files → ℕ → Did Files (Unit {0})
sync files fd =
    with_some files EBADF (opened files fd) (λ description.
    with_some files EINVAL (node_of description.object) (λ _.
    done files tt))

-- Bytes ready

abbrev pub pipe_bytes : Option Pipe → Option ℕ
pipe_bytes None = None
pipe_bytes (Some pipe) = Some (length pipe.bytes)

abbrev pub file_rest : ℕ → Option FileContent → Option ℕ
file_rest position None = None
file_rest position (Some content) = Some (content.size - position)

abbrev pub ready_bytes : Files → Description → Object → Option ℕ
ready_bytes files description (objects.Stream stream) = None
ready_bytes files description (objects.ReadEnd pipe) = pipe_bytes (pipe_at files.flow pipe)
ready_bytes files description (objects.WriteEnd pipe) = pipe_bytes (pipe_at files.flow pipe)
ready_bytes files description (objects.Node node) = file_rest description.position (file_at files.nodes node)

-- FIONREAD of ioctl(2): a pipe's bytes at either end, or a file's size less the position, at least 0; else ENOTTY
unfoldable pub bytes_ready : Files → ℕ → Did Files ℕ
bytes_ready files fd =
    with_some files EBADF (opened files fd) (λ description.
    with_some files ENOTTY (ready_bytes files description description.object) (λ count.
    done files count))

-- The terminal

abbrev pub if_stream : Option Terminal → Object → Option Terminal
if_stream terminal object = if is_stream object then terminal else None

-- a row on the terminal that a descriptor has open, else ENOTTY
abbrev pub on_terminal : {V : Type 0} → Files → ℕ → (Terminal → Did Files V) → Did Files V
on_terminal files fd rest =
    with_some files EBADF (opened files fd) (λ description.
    with_some files ENOTTY (if_stream files.terminal description.object) rest)

-- TCGETS of ioctl_tty(2)
unfoldable pub terminal_settings : Files → ℕ → Did Files TerminalSettings
terminal_settings files fd = on_terminal files fd (λ terminal. done files terminal.settings)

abbrev pub with_settings : Files → Terminal → TerminalSettings → Files
with_settings files terminal settings = record files { terminal = Some (record terminal { settings = settings }) }

-- TCSETS, TCSETSW and TCSETSF
unfoldable pub set_terminal_settings : Files → ℕ → Given TerminalSettings → Did Files (Unit {0})
set_terminal_settings files fd settings =
    on_terminal files fd (λ terminal.
    with_given files settings (λ settings.
    done (with_settings files terminal settings) tt))

-- TIOCGWINSZ
unfoldable pub window_size : Files → ℕ → Did Files Winsize
window_size files fd = on_terminal files fd (λ terminal. done files terminal.size)

-- How many bytes of a write count, and what is found out for that. (The form is this project's own.)
use Rattle.std.specs.Prelude.{◌≡◌, ◌⊎◌, ℕ, ◌+◌, ◌-◌, ◌<◌, ◌≤◌, ◌%◌, ◌^◌, ◌==◌, pos, negsuc, Bool, true, false, ⊤, List, Option, Some, None, is_some, option_map, nat_le, if◌then◌else◌}
use Rattle.byteorder.specs.Endian.{little_number}
use Rattle.host_mem.specs.Memory.{bytes_at, first_address}
use Rattle.kernel_core.specs.FileContent.{FileContent, greatest_size}
use Rattle.kernel_core.specs.Nodes.{Nodes, file_at}
use Rattle.kernel_core.specs.declared.error.Errno.TheVariants.{EBADF, EFAULT, EFBIG}
use Rattle.kernel_core.specs.declared.reply.Reply.{Reply}
use Rattle.kernel_core.specs.declared.reply.Reply.TheVariants as replies
use Rattle.kernel_model.specs.Came.{Came, Done, Refused}
use Rattle.kernel_model.specs.ContentRows.{Status, object_status, ready_bytes}
use Rattle.kernel_model.specs.Descriptions.{node_of, writes}
use Rattle.kernel_model.specs.State.{Files}
use Rattle.kernel_model.specs.Transfers.{transfer_limit, write_place}
use Rattle.kernel_model.specs.declared.descriptor.Description.{Description}
use Rattle.kernel_model.specs.declared.descriptor.Object.{Object}
use Rattle.kernel_model.specs.declared.descriptor.Object.TheVariants as objects
use Rattle.number_tables.specs.OpenNumbers.{native_open_read}
use Rattle.o32_model.specs.declared.outcome.Outcome.{Outcome}
use Rattle.o32_model.specs.declared.outcome.Outcome.TheVariants as outcomes
use Rattle.bridge_io.specs.declared.room.Room.{Room}
use Rattle.bridge_io.specs.declared.room.Room.TheVariants.{Most, Past}
use Rattle.bridge_io.specs.declared.room.WriteFlags.{WriteFlags}

-- What is there to find

abbrev pub write_flags : Description → WriteFlags
write_flags d = record { writable = writes d.flags.access; append = d.flags.append; largefile = d.flags.largefile }

abbrev pub flags_there : Option Description → Option WriteFlags
flags_there there = option_map write_flags there

-- the position, where it is that of a node and one that lseek(2) tells
abbrev pub node_position : Description → Option ℕ → Option ℕ
node_position d None = None
node_position d (Some node) = if nat_le d.position greatest_size then Some d.position else None

abbrev pub position_there : Option Description → Option ℕ
position_there None = None
position_there (Some d) = node_position d (node_of d.object)

-- the low 64 bits of the size
abbrev pub low_size : Status → ℕ
low_size status = status.size % 2 ^ 64

abbrev pub size_there : Files → Option Description → Option ℕ
size_there files None = None
size_there files (Some d) = option_map low_size (object_status files d.object)

-- where a write begins
abbrev pub begin_there : Bool → Files → Option Description → Option ℕ
begin_there append files there = if append then size_there files there else position_there there

-- whether FIONREAD tells a number of bytes
abbrev pub is_ready : Files → Option Description → Bool
is_ready files None = false
is_ready files (Some d) = is_some (ready_bytes files d d.object)

-- What a reply tells

abbrev pub flags_of : ℕ → WriteFlags
flags_of number =
    let flags = native_open_read number in
    record { writable = writes flags.access; append = flags.append; largefile = flags.largefile }

abbrev pub flags_in : Reply → Option WriteFlags
flags_in (replies.Done (pos number)) = Some (flags_of number)
flags_in (replies.Done (negsuc number)) = None
flags_in (replies.Sleep wake) = None

abbrev pub number_in : Reply → Option ℕ
number_in (replies.Done (pos number)) = Some number
number_in (replies.Done (negsuc number)) = None
number_in (replies.Sleep wake) = None

-- Room. A small file takes no byte from the limit on.

abbrev pub FileRoom : ℕ → ℕ → ℕ → Type 0
FileRoom limit room begin = ((begin < limit) × (room ≡ limit - begin)) ⊎ ((limit ≤ begin) × (greatest_size < begin))

abbrev pub ContentRoom : ℕ → ℕ → Bool → ℕ → Option FileContent → Type 0
ContentRoom limit room append at None = ⊤
ContentRoom limit room append at (Some content) = FileRoom limit room (write_place append at content)

abbrev pub ObjectRoom : Nodes → ℕ → ℕ → Bool → ℕ → Object → Type 0
ObjectRoom nodes limit room append at (objects.Stream stream) = transfer_limit ≤ room
ObjectRoom nodes limit room append at (objects.ReadEnd pipe) = transfer_limit ≤ room
ObjectRoom nodes limit room append at (objects.WriteEnd pipe) = transfer_limit ≤ room
ObjectRoom nodes limit room append at (objects.Node node) = ContentRoom limit room append at (file_at nodes node)

pub record SmallRoom (nodes : Nodes) (limit room : ℕ) (d : Description) (at : ℕ) : Type 0 where
  pub small : d.flags.largefile ≡ false
  pub rest : ObjectRoom nodes limit room d.flags.append at d.object

pub record LargeRoom (room : ℕ) (d : Description) : Type 0 where
  pub large : d.flags.largefile ≡ true
  pub all : transfer_limit ≤ room

-- so many bytes, and as many as any call moves where nothing limits it; `at` is the place of a description
abbrev pub HasRoom : Files → ℕ → ℕ → (Description → ℕ) → Option Description → Type 0
HasRoom files limit room at None = ⊤
HasRoom files limit room at (Some d) = LargeRoom room d ⊎ SmallRoom files.nodes limit room d (at d)

-- No room

abbrev pub ContentPast : ℕ → Bool → ℕ → Option FileContent → Type 0
ContentPast limit append at None = ⊤
ContentPast limit append at (Some content) = limit ≤ write_place append at content

abbrev pub ObjectPast : Nodes → ℕ → Bool → ℕ → Object → Type 0
ObjectPast nodes limit append at (objects.Stream stream) = ⊥
ObjectPast nodes limit append at (objects.ReadEnd pipe) = ⊥
ObjectPast nodes limit append at (objects.WriteEnd pipe) = ⊥
ObjectPast nodes limit append at (objects.Node node) = ContentPast limit append at (file_at nodes node)

pub record BeginsPast (files : Files) (limit : ℕ) (d : Description) (at : ℕ) (writable file : Bool) : Type 0 where
  pub small : d.flags.largefile ≡ false
  pub allowed : writes d.flags.access ≡ writable
  pub regular : is_ready files (Some d) ≡ file
  pub begun : ObjectPast files.nodes limit d.flags.append at d.object

abbrev pub IsPast : Files → ℕ → (Description → ℕ) → Bool → Bool → Option Description → Type 0
IsPast files limit at writable file None = ⊥
IsPast files limit at writable file (Some d) = BeginsPast files limit d (at d) writable file

abbrev pub IsRoom : Files → ℕ → (Description → ℕ) → Option Description → Room → Type 0
IsRoom files limit at there (Most room) = (0 < room) × HasRoom files limit room at there
IsRoom files limit at there (Past writable file) = IsPast files limit at writable file there

-- what such a write comes to, of so many bytes that are asked for and so many that can be loaded
abbrev pub past_came : Bool → Bool → ℕ → ℕ → Came ℕ
past_came false file count there = Refused EBADF
past_came true file count there =
    if count == 0 then Done 0
    else (if there == 0 then Refused EFAULT
    else (if file then Refused EFBIG else Refused EBADF))

-- the size that a status in host memory has
abbrev pub size_in : List ℕ → Reply → Option ℕ
size_in memory (replies.Done (pos number)) = option_map (little_number 8) (bytes_at memory (first_address + 48) 8)
size_in memory (replies.Done (negsuc number)) = None
size_in memory (replies.Sleep wake) = None

-- whether it is EFAULT
abbrev pub is_fault : Reply → Bool
is_fault (replies.Done (pos number)) = false
is_fault (replies.Done (negsuc number)) = number == 13
is_fault (replies.Sleep wake) = false

-- that as an outcome
abbrev pub past_outcome : Bool → Bool → ℕ → ℕ → Outcome
past_outcome writable file count there =
    if writable then (
    if count == 0 then outcomes.Value 0
    else (if there == 0 then outcomes.Error EFAULT
    else (if file then outcomes.Error EFBIG else outcomes.Error EBADF)))
    else outcomes.Error EBADF

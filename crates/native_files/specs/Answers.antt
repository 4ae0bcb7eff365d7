-- What an answer of code says of a row of `kernel_model`.
use Rattle.std.specs.Borrow.{Bor}
use Rattle.std.specs.List.{list_any}
use Rattle.std.specs.Prelude.{◌≡◌, ℕ, ◌≤◌, ◌==◌, false, ⊤, ◌⊎◌, List, [], ◌++◌, length, drop, map, Option, Some, None, Result, Ok, Err}
use Rattle.kernel_core.specs.FileContent.{greatest_size}
use Rattle.kernel_core.specs.FileSystem.{IsTime}
use Rattle.kernel_core.specs.ValidTree.{greatest_number}
use Rattle.kernel_core.specs.declared.core_error.CoreError.{CoreError}
use Rattle.kernel_core.specs.declared.core_error.CoreError.TheVariants as errors
use Rattle.kernel_core.specs.declared.core_error.Stop.TheVariants as stops
use Rattle.kernel_core.specs.declared.error.Errno.{Errno}
use Rattle.kernel_model.specs.Came.{Came, Done, Refused, Waits, Did, Given, came_as}
use Rattle.kernel_model.specs.ContentRows as contents
use Rattle.kernel_model.specs.DescriptorRows as rows
use Rattle.kernel_model.specs.NodeRows as nodes
use Rattle.kernel_model.specs.Paths as paths
use Rattle.kernel_model.specs.State.{Files}
use Rattle.kernel_model.specs.Transfers.{Reading, Writing}
use Rattle.layouts.specs.Dirents.{dirent64_length}
use Rattle.native_files.specs.declared.asking.StatusFlags.{StatusFlags}
use Rattle.native_files.specs.declared.node_times.Times.{Times}
use Rattle.native_files.specs.declared.pipes.Ends.{Ends}
use Rattle.native_files.specs.declared.pipes.PipeFlags.{PipeFlags}
use Rattle.native_files.specs.declared.progress.Entry.{Entry}
use Rattle.native_files.specs.declared.progress.Progress.{Progress}
use Rattle.native_files.specs.declared.progress.Progress.TheVariants as progress
use Rattle.native_files.specs.declared.progress.Status.{Status}
use Rattle.native_files.specs.declared.walking.Base.{Base}
use Rattle.native_files.specs.declared.walking.Base.TheVariants as bases
use Rattle.native_vfs.specs.Seen.{kind_told}
use Rattle.outside.specs.Count.{Rose}
use Rattle.outside.specs.Output.{GainsText, GainsBetween}

-- a call that takes no memory and moves no byte
abbrev pub came_of : {V : Type 0} → Result V Errno → Came V
came_of (Ok value) = Done value
came_of (Err error) = Refused error

-- A call that may take memory: the row's answer, or memory ran out, after which the files are not used again.
abbrev pub Answers : {V : Type 0} → Did Files V → Result V CoreError → Files → Type 0
Answers step (Ok value) state = (step.came ≡ Done value) × (state ≡ step.state)
Answers step (Err (errors.Refused error)) state = (step.came ≡ Refused error) × (state ≡ step.state)
Answers step (Err (errors.Stop stops.NoMemory)) state = ⊤
Answers step (Err (errors.Stop stops.ReadFault)) state = ⊥
Answers step (Err (errors.Stop stops.WriteFault)) state = ⊥

-- Paths

-- a path or a target as it was read up to its NUL: no byte of it is NUL
abbrev pub IsPlain : List ℕ → Type 0
IsPlain text = list_any (λ byte. byte == 0) text ≡ false

-- a target that a symbolic link may have: 4095 bytes at most (symlink(2))
pub record IsShortPlain (text : List ℕ) : Type 0 where
  pub plain : IsPlain text
  pub short : length text ≤ 4095

-- what was read, or why it could not be
abbrev pub text_of : Result (Bor (List ℕ)) Errno → Given (List ℕ)
text_of (Ok text) = Ok text.now
text_of (Err error) = Err error

-- of what was read
abbrev pub WhereRead : (List ℕ → Type 0) → Given (List ℕ) → Type 0
WhereRead P (Ok text) = P text
WhereRead P (Err error) = ⊤

-- a path whose pointer may be null
abbrev pub path_of : Option (Result (Bor (List ℕ)) Errno) → Option (Given (List ℕ))
path_of None = None
path_of (Some path) = Some (text_of path)

-- where a path begins, in the row's terms
abbrev pub base_of : Base → paths.Base
base_of bases.Working = paths.Working
base_of (bases.Descriptor fd) = paths.Descriptor fd

-- Transfers

-- what a transfer comes to, in numbers of bytes; none where it ends early
abbrev pub moved : Result Progress CoreError → Option (Came ℕ)
moved (Ok (progress.Done count)) = Some (Done count)
moved (Ok (progress.Waits wake)) = Some (Waits wake)
moved (Err (errors.Refused error)) = Some (Refused error)
moved (Err (errors.Stop stop)) = None

-- it moves no more bytes than this
abbrev pub MovesWithin : ℕ → Option (Came ℕ) → Type 0
MovesWithin most None = ⊤
MovesWithin most (Some (Done count)) = count ≤ most
MovesWithin most (Some (Refused error)) = ⊤
MovesWithin most (Some (Waits wake)) = wake.done ≤ most

-- an answer other than success is this one
abbrev pub IsUndone : {V : Type 0} → Option (Came ℕ) → Came V → Type 0
IsUndone None came = ⊤
IsUndone (Some (Done count)) came = ⊤
IsUndone (Some (Refused error)) came = came ≡ Refused error
IsUndone (Some (Waits wake)) came = came ≡ Waits wake

-- A buffer after a read: the bytes that were read stand at its beginning, and the rest is as it was.
abbrev pub filled : List ℕ → Came (List ℕ) → List ℕ
filled buffer (Done bytes) = bytes ++ drop (length bytes) buffer
filled buffer (Refused error) = buffer
filled buffer (Waits wake) = buffer

-- A read did what the row says: `left` is what is left of the input then, `old` and `new` are the buffer.
pub record HasRead (step : Did Reading (List ℕ)) (came : Came ℕ) (state : Files) (left : Option (List ℕ)) (old new : List ℕ) : Type 0 where
  pub answered : came ≡ came_as length step.came
  pub became : state ≡ step.state.files
  pub rest : left ≡ Some step.state.left
  pub stored : new ≡ filled old step.came

-- a read that ends early takes nothing of the input
abbrev pub ReadsSo : Did Reading (List ℕ) → Option (Came ℕ) → Files → Option (List ℕ) → Option (List ℕ) → List ℕ → List ℕ → Type 0
ReadsSo step (Some came) state before after old new = HasRead step came state after old new
ReadsSo step None state before after old new = after ≡ before

-- A write did what the row says; the texts are those of the two outputs.
pub record HasWritten (step : Did Writing ℕ) (came : Came ℕ) (state : Files) (out_before out_after err_before err_after : Option (List ℕ)) : Type 0 where
  pub answered : came ≡ step.came
  pub became : state ≡ step.state.files
  pub to_out : GainsText out_before out_after step.state.sent.out
  pub to_err : GainsText err_before err_after step.state.sent.err

-- A write that ends early sent a first part of what it would have sent.
pub record SendsPart (step : Did Writing ℕ) (out_before out_after err_before err_after : Option (List ℕ)) : Type 0 where
  pub to_out : GainsBetween out_before out_after [] step.state.sent.out
  pub to_err : GainsBetween err_before err_after [] step.state.sent.err

abbrev pub WritesSo : Did Writing ℕ → Option (Came ℕ) → Files → Option (List ℕ) → Option (List ℕ) → Option (List ℕ) → Option (List ℕ) → Type 0
WritesSo step (Some came) state out_before out_after err_before err_after = HasWritten step came state out_before out_after err_before err_after
WritesSo step None state out_before out_after err_before err_after = SendsPart step out_before out_after err_before err_after

-- When a transfer ends early. A read takes no memory, and ends early only where the input counted a fault in that call: `before` and
-- `after` are its count. A write ends early where memory ran out, or where an output counted one. In any other call no count rises.

abbrev pub ReadStops : Result Progress CoreError → ℕ → ℕ → Type 0
ReadStops (Ok progress) before after = after ≡ before
ReadStops (Err (errors.Refused error)) before after = after ≡ before
ReadStops (Err (errors.Stop stops.NoMemory)) before after = ⊥
ReadStops (Err (errors.Stop stops.ReadFault)) before after = Rose before after
ReadStops (Err (errors.Stop stops.WriteFault)) before after = ⊥

abbrev pub WriteStops : Result Progress CoreError → ℕ → ℕ → ℕ → ℕ → Type 0
WriteStops (Ok progress) out_before out_after err_before err_after = (out_after ≡ out_before) × (err_after ≡ err_before)
WriteStops (Err (errors.Refused error)) out_before out_after err_before err_after = (out_after ≡ out_before) × (err_after ≡ err_before)
WriteStops (Err (errors.Stop stops.NoMemory)) out_before out_after err_before err_after = (out_after ≡ out_before) × (err_after ≡ err_before)
WriteStops (Err (errors.Stop stops.ReadFault)) out_before out_after err_before err_after = ⊥
WriteStops (Err (errors.Stop stops.WriteFault)) out_before out_after err_before err_after =
    Rose out_before out_after ⊎ Rose err_before err_after

-- Status

abbrev pub status_told : Status → contents.Status
status_told status = record {
  device = status.device;
  number = status.number;
  mode = status.mode;
  links = status.links;
  terminal_device = status.terminal_device;
  size = status.size;
  sectors = status.sectors;
  access = status.access;
  modified = status.modified;
  changed = status.changed;
}

-- a status in the row's terms, where it is told
abbrev pub status_answered : Result Status CoreError → Result contents.Status CoreError
status_answered (Ok status) = Ok (status_told status)
status_answered (Err error) = Err error

-- the flags of fstatat(2) in the row's terms

abbrev pub status_flags_of : StatusFlags → nodes.StatusFlags
status_flags_of flags = record { follow = flags.follow; empty = flags.empty }

abbrev pub status_flags_told : Option StatusFlags → Option nodes.StatusFlags
status_flags_told None = None
status_flags_told (Some flags) = Some (status_flags_of flags)

-- what a status always is
pub record IsStatus (status : Status) : Type 0 where
  pub number : status.number ≤ greatest_number
  pub size : status.size ≤ greatest_size
  pub access : IsTime status.access
  pub modified : IsTime status.modified
  pub changed : IsTime status.changed

-- Times

-- the times that a program gives, in the row's terms

abbrev pub times_of : Times → nodes.Times
times_of times = record { access = times.access; modified = times.modified }

abbrev pub times_read : Result Times Errno → Given nodes.Times
times_read (Ok times) = Ok (times_of times)
times_read (Err error) = Err error

abbrev pub times_given : Option (Result Times Errno) → Option (Given nodes.Times)
times_given None = None
times_given (Some times) = Some (times_read times)

-- Entries

-- records of getdents64(2), which hold the number of every node
abbrev pub entry_records : contents.Records
entry_records = record { length_for = dirent64_length; greatest = None }

abbrev pub entry_told : Entry → contents.Entry
entry_told entry = record { cookie = entry.cookie; name = entry.name; node = entry.node; kind = kind_told entry.kind }

-- entries in the row's terms, where they are told
abbrev pub entries_told : Result (List Entry) CoreError → Result (List contents.Entry) CoreError
entries_told (Ok entries) = Ok (map entry_told entries)
entries_told (Err error) = Err error

-- Pipes

abbrev pub flags_of : PipeFlags → rows.PipeFlags
flags_of flags = record { cloexec = flags.cloexec; nonblock = flags.nonblock }

-- The row's answer, or memory ran out, after which the files are not used again.
abbrev pub AnswersPipe : Did Files rows.Ends → Result Ends CoreError → Files → Type 0
AnswersPipe step (Ok found) state = (step.came ≡ Done (rows.ends found.read found.write)) × (state ≡ step.state)
AnswersPipe step (Err (errors.Refused error)) state = (step.came ≡ Refused error) × (state ≡ step.state)
AnswersPipe step (Err (errors.Stop stops.NoMemory)) state = ⊤
AnswersPipe step (Err (errors.Stop stops.ReadFault)) state = ⊥
AnswersPipe step (Err (errors.Stop stops.WriteFault)) state = ⊥

-- A file that a mapping shows, and what is said of the native calls that look at it and read it. (The form is this project's own.)
use Rattle.std.specs.Prelude.{◌≡◌, ◌<◌, ◌+◌, ◌%◌, ◌==◌, ℕ, pos, negsuc, true, List, [], Option, Some, None, Result, Ok, Err, option_and_then, if◌then◌else◌}
use Rattle.guest_space.specs.Access.{refusal}
use Rattle.guest_space.specs.Bytes.{copied_out}
use Rattle.guest_space.specs.Memory.{Memory, Pages}
use Rattle.guest_space.specs.declared.access.Access.TheVariants.{Store}
use Rattle.kernel_core.specs.FileContent.{FileContent}
use Rattle.kernel_core.specs.Nodes.{File, file_at}
use Rattle.kernel_core.specs.declared.core_error.Stop.{Stop}
use Rattle.kernel_core.specs.declared.error.Errno.{Errno}
use Rattle.kernel_core.specs.declared.error.Errno.TheVariants.{EACCES, EBADF, ENODEV}
use Rattle.kernel_core.specs.declared.log_entry.LogEntry.{LogEntry}
use Rattle.kernel_core.specs.declared.map_flags.MapKind.{MapKind}
use Rattle.kernel_core.specs.declared.reply.Reply.{Reply}
use Rattle.kernel_core.specs.declared.reply.Reply.TheVariants as replies
use Rattle.kernel_model.specs.Came.{Did}
use Rattle.kernel_model.specs.Descriptions.{content_at, node_of, opened, reads}
use Rattle.kernel_model.specs.State.{Files, Kernel}
use Rattle.kernel_model.specs.declared.descriptor.Description.{Description}
use Rattle.native_calls.specs.History.{opening}
use Rattle.o32_model.specs.Logs.{Kept}
use Rattle.o32_model.specs.Mappings.{content_of}
use Rattle.o32_model.specs.Step.{outcome_of, value}
use Rattle.o32_model.specs.declared.call_words.CallWords.{CallWords}
use Rattle.o32_model.specs.declared.outcome.Outcome.{Outcome}
use Rattle.o32_model.specs.declared.outcome.Outcome.TheVariants as outcomes
use Rattle.outside.specs.Output.{GainsBetween}
use Rattle.outside.specs.Streams.{Contents}
use Rattle.bridge_log.specs.Keeping.{Logged}
use Rattle.bridge_map.specs.Rows.{Leads}

-- Files

-- a descriptor has a regular file open, with leave to read
pub record Shows (files : Files) (fd : ℕ) (content : FileContent) : Type 0 where
  pub description : Description
  pub there : opened files fd ≡ Some description
  pub may_read : reads description.flags.access ≡ true
  pub node : ℕ
  pub node_is : node_of description.object ≡ Some node
  pub file : content_at files.nodes node ≡ Some (File content)

-- why a descriptor may not be read, where it may not
abbrev pub access_error : Option Description → Option Errno
access_error None = Some EBADF
access_error (Some description) = if reads description.flags.access then None else Some EACCES

-- why what is open is no regular file, where it is none
abbrev pub file_error : Option FileContent → Option Errno
file_error None = Some ENODEV
file_error (Some content) = None

-- the regular file that a description has open
abbrev pub file_of : Files → Description → Option FileContent
file_of files description = option_and_then (file_at files.nodes) (node_of description.object)

-- what the replies of F_GETFL of fcntl(2) and of a read at a place tell of that

abbrev pub access_error_told : Reply → Option Errno
access_error_told (replies.Done (pos flags)) = if flags % 4 == 1 then Some EACCES else None
access_error_told (replies.Done (negsuc number)) = Some EBADF
access_error_told (replies.Sleep wake) = Some EBADF

abbrev pub file_error_told : Reply → Option Errno
file_error_told (replies.Done (pos count)) = None
file_error_told (replies.Done (negsuc number)) = Some ENODEV
file_error_told (replies.Sleep wake) = Some ENODEV

-- what was found of the file of a mapping: an error, or none and its content
abbrev pub Judged : Files → MapKind → ℕ → Option Errno → Type 0
Judged files kind fd (Some error) = content_of files kind (opened files fd) ≡ Err error
Judged files kind fd None = (content : FileContent) × (content_of files kind (opened files fd) ≡ Ok content) × Shows files fd content

-- Native calls that change nothing of the kernel, take nothing of the input and send nothing

-- all there is of them is their entries
pub record Quiet (kernel became : Kernel) (left : List ℕ) (before after : Contents) (old new : Option (List LogEntry)) : Type 0 where
  pub stays : became ≡ kernel
  pub same : after ≡ before
  pub logged : Logged old new (opening kernel left) (opening kernel left)

-- one of them stopped early
pub record Silent (before after : Contents) : Type 0 where
  pub rest : after.left ≡ before.left
  pub to_out : GainsBetween before.out after.out [] []
  pub to_err : GainsBetween before.err after.err [] []

-- what is said of such calls that find something
abbrev pub Looked : {A : Type 0} → (A → Type 0) → Result A Stop → Kernel → Kernel → List ℕ → Contents → Contents → Option (List LogEntry) → Option (List LogEntry) → Type 0
Looked Holds (Ok answer) kernel became left before after old new = Holds answer × Quiet kernel became left before after old new
Looked Holds (Err stop) kernel became left before after old new = Silent before after

-- Bytes of a file that go to memory

-- each byte of a range may be stored to
abbrev pub AreStorable : Pages → ℕ → ℕ → Type 0
AreStorable pages address count = (j : ℕ) → j < count → refusal Store pages (address + j) ≡ None

-- the result of a call, or 0 where it has none
abbrev pub count_of : Outcome → ℕ
count_of (outcomes.Value count) = count
count_of _ = 0

-- the bytes were put to memory
pub record Filled (kernel became : Kernel) (left : List ℕ) (before after : Contents) (start now : Memory) (old new : Kept) (address : ℕ) (bytes : List ℕ) : Type 0 where
  pub quiet : Quiet kernel became left before after old.native new.native
  pub stored : now ≡ copied_out start address bytes
  pub effects : Leads old.effects new.effects start.pages now.pages

-- what is said of that, with what is answered then
abbrev pub Fills : {A : Type 0} → (A → Type 0) → Result A Stop → Kernel → Kernel → List ℕ → Contents → Contents → Memory → Memory → Kept → Kept → ℕ → List ℕ → Type 0
Fills Holds (Ok answer) kernel became left before after start now old new address bytes =
    Holds answer × Filled kernel became left before after start now old new address bytes
Fills Holds (Err stop) kernel became left before after start now old new address bytes = Silent before after

-- A row over memory

-- it was carried out, and the kernel stays
pub record Mapped (did : Did Memory ℕ) (words : CallWords) (outcome : Outcome) (kernel became : Kernel) (left : List ℕ) (before after : Contents) (start now : Memory) (old new : Kept) : Type 0 where
  pub came : outcome ≡ outcome_of value words did.came
  pub stored : now ≡ did.state
  pub quiet : Quiet kernel became left before after old.native new.native
  pub effects : Leads old.effects new.effects start.pages now.pages

abbrev pub Maps : Did Memory ℕ → CallWords → Result Outcome Stop → Kernel → Kernel → List ℕ → Contents → Contents → Memory → Memory → Kept → Kept → Type 0
Maps did words (Ok outcome) kernel became left before after start now old new = Mapped did words outcome kernel became left before after start now old new
Maps did words (Err stop) kernel became left before after start now old new = Silent before after

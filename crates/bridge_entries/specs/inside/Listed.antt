-- What native calls on a descriptor's position tell. (The form is this project's own.)
use Rattle.std.specs.Prelude.{◌≡◌, ℕ, pos, negsuc, List, [], length, Option, Some, None, nat_le, if◌then◌else◌}
use Rattle.std.specs.List.{flat_map}
use Rattle.kernel_core.specs.FileContent.{greatest_size}
use Rattle.kernel_core.specs.declared.reply.Reply.{Reply}
use Rattle.kernel_core.specs.declared.reply.Reply.TheVariants as replies
use Rattle.kernel_model.specs.Came.{Came, Done, Refused, Waits, Did, came_as}
use Rattle.kernel_model.specs.ContentRows.{Entry, entries}
use Rattle.kernel_model.specs.Descriptions.{node_of}
use Rattle.kernel_model.specs.State.{Kernel}
use Rattle.kernel_model.specs.Whole.{on_files}
use Rattle.kernel_model.specs.declared.descriptor.Description.{Description}
use Rattle.native_calls.specs.Status.{entry_bytes, entry_records}
use Rattle.native_calls.specs.Step.{reply_to, value}
use Rattle.bridge_log.specs.Fills.{bytes_back}

-- the position of a node, where it is one that lseek(2) tells

abbrev pub place_of : Description → Option ℕ → Option ℕ
place_of description None = None
place_of description (Some node) = if nat_le description.position greatest_size then Some description.position else None

abbrev pub place_there : Option Description → Option ℕ
place_there None = None
place_there (Some description) = place_of description (node_of description.object)

abbrev pub place_in : Reply → Option ℕ
place_in (replies.Done (pos number)) = Some number
place_in (replies.Done (negsuc number)) = None
place_in (replies.Sleep wake) = None

-- the entries that a row gives
abbrev pub listed_of : Came (List Entry) → List Entry
listed_of (Done found) = found
listed_of (Refused error) = []
listed_of (Waits wake) = []

-- the native row over room for as many bytes as are asked for
abbrev pub did_of : Kernel → ℕ → ℕ → ℕ → Did Kernel (List Entry)
did_of kernel fd size room = on_files kernel (entries kernel.files fd entry_records size room)

-- a reply to that, and what it put into host memory
pub record IsListedBy (did : Did Kernel (List Entry)) (memory : List ℕ) (reply : Reply) : Type 0 where
  pub replied : reply ≡ reply_to (λ (bytes : List ℕ). value (length bytes)) (came_as (flat_map entry_bytes) did.came)
  pub given : bytes_back memory reply ≡ flat_map entry_bytes (listed_of did.came)

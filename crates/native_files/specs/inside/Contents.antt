-- What is read from a node and written to it, apart from descriptions.
use Rattle.std.specs.Prelude.{◌≡◌, ℕ, ◌+◌, ⊤, ℤ, Bool, List, [], length, take, Option, Some, None, unwrap_or, Result, Ok, Err}
use Rattle.kernel_core.specs.FileContent.{FileContent}
use Rattle.kernel_core.specs.NodeCalls.{write_length, write_refusal, after_write}
use Rattle.kernel_core.specs.Nodes.{Nodes, NodeContent, File, Directory, Link, file_at}
use Rattle.kernel_core.specs.declared.core_error.CoreError.{CoreError}
use Rattle.kernel_core.specs.declared.core_error.CoreError.TheVariants as errors
use Rattle.kernel_core.specs.declared.core_error.Stop.TheVariants as stops
use Rattle.kernel_core.specs.declared.error.Errno.TheVariants.{EBADF, EISDIR}
use Rattle.kernel_model.specs.Came.{Came, Did, Done, Given, Refused}
use Rattle.kernel_model.specs.ContentRows as contents
use Rattle.kernel_model.specs.Descriptions.{content_at, node_of}
use Rattle.kernel_model.specs.State.{Files}
use Rattle.kernel_model.specs.Transfers.{Reading, file_bytes, read_content, read_object, reading, transferring, write_content, write_place}
use Rattle.kernel_model.specs.declared.descriptor.Description.{Description}
use Rattle.kernel_model.specs.declared.descriptor.Object.{Object}
use Rattle.native_files.specs.declared.nodes.Written.{Written}
use Rattle.native_files.specs.declared.progress.Progress.{Progress}
use Rattle.native_files.specs.declared.progress.Progress.TheVariants as progress
use Rattle.native_vfs.specs.declared.place.Status.{Status}

-- the number of a node that is open
abbrev pub number_in : Object → ℕ
number_in object = unwrap_or (node_of object) 0

-- a read of what a description has open, of as many bytes as are asked for and can be stored
abbrev pub read_asked : Files → List ℕ → ℕ → Description → Given ℕ → ℕ → Did Reading (List ℕ)
read_asked files left fd description asked room =
    transferring (reading left files) asked room [] (λ most. read_object files left fd description most description.object)

-- the same at a place of a node
abbrev pub read_asked_at : Files → ℕ → Given ℕ → ℕ → ℕ → Did Files (List ℕ)
read_asked_at files at asked node room =
    transferring files asked room [] (λ most. read_content files at most (λ _. files) (content_at files.nodes node))

-- a write of as many bytes as are asked for and can be loaded, to a node at a place
abbrev pub write_asked_at : Files → ℤ → Description → ℕ → ℕ → Given ℕ → List ℕ → Did Files ℕ
write_asked_at files now description node at asked bytes =
    transferring files asked (length bytes) 0 (λ most.
    write_content files None now description node at (take most bytes) (λ files _. files) (file_at files.nodes node))

-- a transfer that does not wait: the row's answer, or memory ran out
abbrev pub AnswersCount : Did Files ℕ → Result Progress CoreError → Files → Type 0
AnswersCount step (Ok (progress.Done count)) state = (step.came ≡ Done count) × (state ≡ step.state)
AnswersCount step (Ok (progress.Waits wake)) state = ⊥
AnswersCount step (Err (errors.Refused error)) state = (step.came ≡ Refused error) × (state ≡ step.state)
AnswersCount step (Err (errors.Stop stops.NoMemory)) state = ⊤
AnswersCount step (Err (errors.Stop stops.ReadFault)) state = ⊥
AnswersCount step (Err (errors.Stop stops.WriteFault)) state = ⊥

-- what a read of at most so many bytes at a place comes to
abbrev pub content_read : ℕ → ℕ → Option NodeContent → Came (List ℕ)
content_read at most None = Refused EBADF
content_read at most (Some (File content)) = Done (file_bytes content at most)
content_read at most (Some (Directory listing)) = Refused EISDIR
content_read at most (Some (Link target)) = Refused EBADF

-- what a write that took so much did to the nodes
pub record HasTaken (nodes : Nodes) (now : ℤ) (node begin : ℕ) (bytes : List ℕ) (content : FileContent) (written : Written) (after : Nodes) : Type 0 where
  pub allowed : write_refusal nodes content begin (length bytes) ≡ None
  pub count : written.count ≡ write_length nodes content begin (length bytes)
  pub end : written.end ≡ begin + written.count
  pub became : after ≡ after_write nodes node begin (take written.count bytes) now

-- what a write that begins at a place of a file answers, and which nodes it leaves
abbrev pub WritesFile : Nodes → ℤ → ℕ → ℕ → List ℕ → FileContent → Result Written CoreError → Nodes → Type 0
WritesFile nodes now node begin bytes content (Ok written) after = HasTaken nodes now node begin bytes content written after
WritesFile nodes now node begin bytes content (Err (errors.Refused error)) after =
    (write_refusal nodes content begin (length bytes) ≡ Some error) × (after ≡ nodes)
WritesFile nodes now node begin bytes content (Err (errors.Stop stops.NoMemory)) after = ⊤
WritesFile nodes now node begin bytes content (Err (errors.Stop stops.ReadFault)) after = ⊥
WritesFile nodes now node begin bytes content (Err (errors.Stop stops.WriteFault)) after = ⊥

-- the same of a node, where it is a file
abbrev pub WritesNode : Nodes → ℤ → ℕ → Bool → ℕ → List ℕ → Option FileContent → Result Written CoreError → Nodes → Type 0
WritesNode nodes now node append at bytes None result after = (result ≡ Err (errors.Refused EBADF)) × (after ≡ nodes)
WritesNode nodes now node append at bytes (Some content) result after =
    WritesFile nodes now node (write_place append at content) bytes content result after

-- the status of a node in the terms of all that may be open
abbrev pub shown : Status → contents.Status
shown status = record {
  device = 1;
  number = status.number;
  mode = status.mode;
  links = status.links;
  terminal_device = 0;
  size = status.size;
  sectors = status.blocks;
  access = status.access;
  modified = status.modified;
  changed = status.changed;
}

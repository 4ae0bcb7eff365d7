-- Reading and writing (read(2), write(2), readv(2), writev(2), pread(2), pwrite(2)).
--
-- `asked` is how many bytes the program names, or what was wrong with its vector. `room` is how many bytes from the first on can be
-- stored, and `bytes` are those from the first on that can be loaded; of both, no more count than were asked. `left` is what is left of
-- the input.
use Rattle.std.specs.Prelude.{ℕ, ◌+◌, ◌-◌, ◌==◌, min, ℤ, pos, Bool, false, List, [], length, take, drop, Option, Some, None, nat_le, nat_abs, int_lt, if◌then◌else◌}
use Rattle.kernel_core.specs.FileContent.{FileContent, readable as readable_count, bytes_at}
use Rattle.kernel_core.specs.NodeCalls.{write_length, write_refusal, after_write}
use Rattle.kernel_core.specs.Nodes.{NodeContent, File, Directory, Link, file_at}
use Rattle.kernel_core.specs.declared.error.Errno.TheVariants.{EBADF, EFAULT, EFBIG, EINVAL, EISDIR, ESPIPE}
use Rattle.kernel_model.specs.Came.{Did, Given, done, refused, refused_if, refused_by, with_given, with_some, widened}
use Rattle.kernel_model.specs.Descriptions.{readable, writable, node_of, content_at}
use Rattle.kernel_model.specs.Pipes.{PipeStep, read_pipe, write_pipe, pipe_at, after_step, Sent, nothing, sent_to, more_taken, more_sent}
use Rattle.kernel_model.specs.State.{Files, Pipe}
use Rattle.kernel_model.specs.Table.{with_description}
use Rattle.kernel_model.specs.declared.descriptor.Description.{Description}
use Rattle.kernel_model.specs.declared.descriptor.Object.{Object}
use Rattle.kernel_model.specs.declared.descriptor.Object.TheVariants as objects
use Rattle.kernel_model.specs.declared.stream.Stream.{Stream}
use Rattle.kernel_model.specs.declared.stream.Stream.TheVariants as streams

-- Lengths count up to this number
abbrev pub transfer_limit : ℕ
transfer_limit = 0x7FFFF000

-- the state of a row that may read the input, with what is left of that
pub record Reading : Type 0 where
  pub files : Files
  pub left : List ℕ

-- the state of a row that may write to an output, with what it sends
pub record Writing : Type 0 where
  pub files : Files
  pub sent : Sent

abbrev pub reading : List ℕ → Files → Reading
reading left files = record { files = files; left = left }

abbrev pub writing : Files → Writing
writing files = record { files = files; sent = nothing }

-- A transfer of no byte is done with this; one whose first byte can't be accessed is EFAULT. The rest gets how many bytes count at most.
abbrev pub transferring : {S V : Type 0} → S → Given ℕ → ℕ → V → (ℕ → Did S V) → Did S V
transferring state asked accessible none rest =
    with_given state asked (λ count.
    if count == 0 then done state none
    else refused_if (accessible == 0) EFAULT state (rest (min (min count accessible) transfer_limit)))

-- A description whose position moves

abbrev pub moved_to : Files → ℕ → Description → ℕ → Files
moved_to files fd description position =
    record files { table = with_description files.table fd (record description { position = position }) }

-- Reading

-- `most` is how many bytes are read at most, at least 1

-- the input gives as many bytes as it has, up to the number wanted. A real stream may give fewer of them at a time; of what comes then
-- no row says anything.
abbrev pub take_input : Files → List ℕ → ℕ → Did Reading (List ℕ)
take_input files left most =
    done (reading (drop most left) (record files { flow = more_taken files.flow (min most (length left)) })) (take most left)

abbrev pub after_pipe_read : Files → ℕ → PipeStep (List ℕ) → Did Files (List ℕ)
after_pipe_read files number step = record { state = record files { flow = after_step files.flow number step.pipe }; came = step.came }

abbrev pub read_end : Files → Description → ℕ → ℕ → Option Pipe → Did Files (List ℕ)
read_end files description number most None = refused files EBADF
read_end files description number most (Some pipe) = after_pipe_read files number (read_pipe pipe description.flags.nonblock most)

-- the bytes of a file from a place on, as far as it goes
abbrev pub file_bytes : FileContent → ℕ → ℕ → List ℕ
file_bytes content at most = bytes_at content.blocks at (readable_count content at most)

-- a regular file is read at a place. `after` is the state after so many bytes of it.
abbrev pub read_content : Files → ℕ → ℕ → (ℕ → Files) → Option NodeContent → Did Files (List ℕ)
read_content files at most after None = refused files EBADF
read_content files at most after (Some (File content)) = done (after (readable_count content at most)) (file_bytes content at most)
read_content files at most after (Some (Directory listing)) = refused files EISDIR
read_content files at most after (Some (Link target)) = refused files EBADF

abbrev pub read_node : Files → ℕ → Description → ℕ → ℕ → Did Files (List ℕ)
read_node files fd description node most =
    read_content files description.position most (λ count. moved_to files fd description (description.position + count)) (content_at files.nodes node)

abbrev pub read_object : Files → List ℕ → ℕ → Description → ℕ → Object → Did Reading (List ℕ)
read_object files left fd description most (objects.Stream streams.Input) = take_input files left most
read_object files left fd description most (objects.Stream streams.Out) = refused (reading left files) EBADF
read_object files left fd description most (objects.Stream streams.Err) = refused (reading left files) EBADF
read_object files left fd description most (objects.ReadEnd pipe) =
    widened (reading left) (read_end files description pipe most (pipe_at files.flow pipe))
read_object files left fd description most (objects.WriteEnd pipe) = refused (reading left files) EBADF
read_object files left fd description most (objects.Node node) = widened (reading left) (read_node files fd description node most)

-- read(2), readv(2): EBADF where the descriptor isn't open for reading
unfoldable pub read : Files → List ℕ → ℕ → Given ℕ → ℕ → Did Reading (List ℕ)
read files left fd asked room =
    with_some (reading left files) EBADF (readable files fd) (λ description.
    transferring (reading left files) asked room [] (λ most.
    read_object files left fd description most description.object))

-- a transfer at a place is for nodes alone
abbrev pub at_place : {V : Type 0} → {S : Type 0} → S → ℤ → Object → (ℕ → ℕ → Did S V) → Did S V
at_place state place object rest =
    refused_if (int_lt place (pos 0)) EINVAL state (
    with_some state ESPIPE (node_of object) (rest (nat_abs place)))

-- pread(2): the description's position stays
unfoldable pub read_at : Files → ℕ → ℤ → Given ℕ → ℕ → Did Files (List ℕ)
read_at files fd place asked room =
    with_some files EBADF (readable files fd) (λ description.
    at_place files place description.object (λ at node.
    transferring files asked room [] (λ most.
    read_content files at most (λ _. files) (content_at files.nodes node))))

-- Writing

-- `limit` is the size that a description without LARGEFILE may not write past; none where there is no such size.

-- whether a write at a place is refused by that limit, and what it keeps of the bytes

abbrev pub limit_for : Option ℕ → Bool → Option ℕ
limit_for limit large = if large then None else limit

abbrev pub starts_past : Option ℕ → ℕ → Bool
starts_past None at = false
starts_past (Some limit) at = nat_le limit at

abbrev pub cut_to : Option ℕ → ℕ → List ℕ → List ℕ
cut_to None at bytes = bytes
cut_to (Some limit) at bytes = take (limit - at) bytes

-- the longest prefix for which there are blocks is written, and EFBIG and ENOSPC come where the definitions of nodes say so
abbrev pub write_bytes : Files → ℤ → ℕ → ℕ → List ℕ → (Files → ℕ → Files) → FileContent → Did Files ℕ
write_bytes files now node at bytes after content =
    refused_by (write_refusal files.nodes content at (length bytes)) files (
    let count = write_length files.nodes content at (length bytes) in
    done (after (record files { nodes = after_write files.nodes node at (take count bytes) now }) count) count)

-- where a write begins: at its place, or under APPEND at the file's end
abbrev pub write_place : Bool → ℕ → FileContent → ℕ
write_place append at content = if append then content.size else at

-- `after` is the state after so many bytes from a place on
abbrev pub write_content : Files → Option ℕ → ℤ → Description → ℕ → ℕ → List ℕ → (Files → ℕ → Files) → Option FileContent → Did Files ℕ
write_content files limit now description node at bytes after None = refused files EBADF
write_content files limit now description node at bytes after (Some content) =
    let begin = write_place description.flags.append at content in
    let bound = limit_for limit description.flags.largefile in
    refused_if (starts_past bound begin) EFBIG files (
    write_bytes files now node begin (cut_to bound begin bytes) (λ files count. after files (begin + count)) content)

abbrev pub write_node : Files → Option ℕ → ℤ → ℕ → Description → ℕ → List ℕ → Did Files ℕ
write_node files limit now fd description node bytes =
    write_content files limit now description node description.position bytes
    (λ files position. moved_to files fd description position) (file_at files.nodes node)

abbrev pub after_pipe_write : Files → ℕ → PipeStep ℕ → Did Files ℕ
after_pipe_write files number step = record { state = record files { flow = after_step files.flow number step.pipe }; came = step.came }

abbrev pub write_end : Files → Description → ℕ → List ℕ → Option Pipe → Did Files ℕ
write_end files description number bytes None = refused files EBADF
write_end files description number bytes (Some pipe) = after_pipe_write files number (write_pipe pipe description.flags.nonblock bytes)

-- all bytes are sent
abbrev pub send : Files → Stream → List ℕ → Did Writing ℕ
send files stream bytes =
    done (record { files = record files { flow = more_sent files.flow stream (length bytes) }; sent = sent_to stream bytes }) (length bytes)

abbrev pub write_object : Files → Option ℕ → ℤ → ℕ → Description → List ℕ → Object → Did Writing ℕ
write_object files limit now fd description bytes (objects.Stream streams.Input) = refused (writing files) EBADF
write_object files limit now fd description bytes (objects.Stream streams.Out) = send files streams.Out bytes
write_object files limit now fd description bytes (objects.Stream streams.Err) = send files streams.Err bytes
write_object files limit now fd description bytes (objects.ReadEnd pipe) = refused (writing files) EBADF
write_object files limit now fd description bytes (objects.WriteEnd pipe) =
    widened writing (write_end files description pipe bytes (pipe_at files.flow pipe))
write_object files limit now fd description bytes (objects.Node node) =
    widened writing (write_node files limit now fd description node bytes)

-- write(2), writev(2): EBADF where the descriptor isn't open for writing. That EPIPE posts a signal stands in `Whole`.
unfoldable pub write : Files → Option ℕ → ℤ → ℕ → Given ℕ → List ℕ → Did Writing ℕ
write files limit now fd asked bytes =
    with_some (writing files) EBADF (writable files fd) (λ description.
    transferring (writing files) asked (length bytes) 0 (λ most.
    write_object files limit now fd description (take most bytes) description.object))

-- pwrite(2): under APPEND it writes at the end too, and the description's position stays
unfoldable pub write_at : Files → Option ℕ → ℤ → ℕ → ℤ → Given ℕ → List ℕ → Did Files ℕ
write_at files limit now fd place asked bytes =
    with_some files EBADF (writable files fd) (λ description.
    at_place files place description.object (λ at node.
    transferring files asked (length bytes) 0 (λ most.
    write_content files limit now description node at (take most bytes) (λ files _. files) (file_at files.nodes node))))

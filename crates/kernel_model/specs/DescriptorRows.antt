-- The rows on descriptors: close(2), dup(2), pipe(2), and the part of fcntl(2) and ioctl(2) on descriptors and their flags.
use Rattle.std.specs.Prelude.{ℕ, ◌+◌, Bool, false, ◌==◌, Option, Some, None, nat_le, if◌then◌else◌}
use Rattle.kernel_core.specs.NodeCalls.{released}
use Rattle.kernel_core.specs.declared.error.Errno.TheVariants.{EBADF, EINVAL, EMFILE, ENOTTY}
use Rattle.kernel_core.specs.declared.open_flags.Access.TheVariants as accesses
use Rattle.kernel_model.specs.Came.{Did, Given, done, refused, refused_if, with_given, with_some}
use Rattle.kernel_model.specs.Descriptions.{opened, no_flags, description_of}
use Rattle.kernel_model.specs.Pipes.{pipe_at, new_pipe, with_pipe, without_readers, without_writers}
use Rattle.kernel_model.specs.Shared.{OpenSet}
use Rattle.kernel_model.specs.State.{Files}
use Rattle.kernel_model.specs.Table.{descriptor_limit, slot, cloexec_at, lowest_free, new_place, inserted, closed, last_description, shared, with_description, with_cloexec}
use Rattle.kernel_model.specs.declared.descriptor.Description.{Description}
use Rattle.kernel_model.specs.declared.descriptor.Object.{Object}
use Rattle.kernel_model.specs.declared.descriptor.Object.TheVariants as objects

-- A description goes

-- an end of a pipe that nothing leads to is closed, and a node is held once less
abbrev pub let_go : Files → Object → Files
let_go files (objects.Stream stream) = files
let_go files (objects.ReadEnd pipe) = record files { flow = without_readers files.flow pipe (pipe_at files.flow pipe) }
let_go files (objects.WriteEnd pipe) = record files { flow = without_writers files.flow pipe (pipe_at files.flow pipe) }
let_go files (objects.Node node) = record files { nodes = released files.nodes node }

abbrev pub after_last : Files → Option Description → Files
after_last files None = files
after_last files (Some description) = let_go files description.object

-- a descriptor is closed; where it isn't open, nothing changes
unfoldable pub after_close : Files → ℕ → Files
after_close files fd = after_last (record files { table = closed files.table fd }) (last_description files.table fd)

-- close(2)
unfoldable pub close : Files → ℕ → Did Files (Unit {0})
close files fd = with_some files EBADF (opened files fd) (λ _. done (after_close files fd) tt)

-- Duplicates

-- another descriptor of the same description, with close-on-exec of its own
abbrev pub after_duplicate : Files → ℕ → ℕ → Bool → Files
after_duplicate files fd onto cloexec = record files { table = shared files.table fd onto cloexec }

-- the least free descriptor from one on (dup(2), F_DUPFD and F_DUPFD_CLOEXEC of fcntl(2)). `from` is none where it is no descriptor.
unfoldable pub duplicate : Files → ℕ → Option ℕ → Bool → Did Files ℕ
duplicate files fd from cloexec =
    with_some files EBADF (opened files fd) (λ _.
    with_some files EINVAL from (λ least.
    refused_if (nat_le descriptor_limit least) EINVAL files (
    with_some files EMFILE (lowest_free files.table.fds least) (λ new.
    done (after_duplicate files fd new cloexec) new))))

-- onto another descriptor, which is closed first where it is open
abbrev pub after_duplicate_onto : Files → ℕ → ℕ → Bool → Files
after_duplicate_onto files fd onto cloexec = after_duplicate (after_close files onto) fd onto cloexec

-- dup2(2): onto itself it does nothing
unfoldable pub duplicate_onto : Files → ℕ → ℕ → Did Files ℕ
duplicate_onto files fd onto =
    with_some files EBADF (opened files fd) (λ _.
    if fd == onto then done files onto
    else refused_if (nat_le descriptor_limit onto) EBADF files (
    done (after_duplicate_onto files fd onto false) onto))

-- dup3(2). `cloexec` is none where there are other flags.
unfoldable pub duplicate_onto_with : Files → ℕ → ℕ → Option Bool → Did Files ℕ
duplicate_onto_with files fd onto cloexec =
    with_some files EBADF (opened files fd) (λ _.
    refused_if (fd == onto) EINVAL files (
    refused_if (nat_le descriptor_limit onto) EBADF files (
    with_some files EINVAL cloexec (λ cloexec.
    done (after_duplicate_onto files fd onto cloexec) onto))))

-- Pipes

-- which flags a new pipe's descriptions and descriptors get
pub record PipeFlags : Type 0 where
  pub cloexec : Bool
  pub nonblock : Bool

-- the two descriptors of a new pipe
pub record Ends : Type 0 where
  pub read : ℕ
  pub write : ℕ

abbrev pub ends : ℕ → ℕ → Ends
ends read write = record { read = read; write = write }

abbrev pub end_flags : PipeFlags → OpenSet → OpenSet
end_flags flags of_end = record of_end { nonblock = flags.nonblock }

abbrev pub after_pipe : Files → PipeFlags → ℕ → Ends → Files
after_pipe files flags number at =
    let reading = inserted files.table at.read (description_of (objects.ReadEnd number) (end_flags flags (no_flags accesses.Read))) flags.cloexec in
    let writing = inserted reading at.write (description_of (objects.WriteEnd number) (end_flags flags (no_flags accesses.Write))) flags.cloexec in
    record files { table = writing; flow = with_pipe files.flow number new_pipe }

-- pipe2(2), and pipe(2) without flags: the two least free descriptors. `flags` is none where there are others.
unfoldable pub make_pipe : Files → Option PipeFlags → Did Files Ends
make_pipe files flags =
    with_some files EINVAL flags (λ flags.
    with_some files EMFILE (lowest_free files.table.fds 0) (λ read.
    with_some files EMFILE (lowest_free files.table.fds (read + 1)) (λ write.
    done (after_pipe files flags (new_place files.flow.pipes) (ends read write)) (ends read write))))

-- Flags

-- F_GETFD of fcntl(2)
unfoldable pub close_on_exec : Files → ℕ → Did Files Bool
close_on_exec files fd = with_some files EBADF (opened files fd) (λ _. done files (cloexec_at (slot files.table.fds fd)))

-- F_SETFD of fcntl(2), FIOCLEX and FIONCLEX of ioctl(2)
unfoldable pub set_close_on_exec : Files → ℕ → Bool → Did Files (Unit {0})
set_close_on_exec files fd cloexec =
    with_some files EBADF (opened files fd) (λ _. done (record files { table = with_cloexec files.table fd cloexec }) tt)

-- F_GETFL of fcntl(2): the access mode and the flags that the description keeps
unfoldable pub status_flags : Files → ℕ → Did Files OpenSet
status_flags files fd = with_some files EBADF (opened files fd) (λ description. done files description.flags)

abbrev pub with_flags : Files → ℕ → Description → OpenSet → Files
with_flags files fd description flags = record files { table = with_description files.table fd (record description { flags = flags }) }

-- F_SETFL of fcntl(2) changes these two flags alone
unfoldable pub set_status_flags : Files → ℕ → Bool → Bool → Did Files (Unit {0})
set_status_flags files fd append nonblock =
    with_some files EBADF (opened files fd) (λ description.
    done (with_flags files fd description (record description.flags { append = append; nonblock = nonblock })) tt)

-- FIONBIO of ioctl(2), where a number that is not 0 turns it on
unfoldable pub set_nonblock : Files → ℕ → Given Bool → Did Files (Unit {0})
set_nonblock files fd on =
    with_some files EBADF (opened files fd) (λ description.
    with_given files on (λ on.
    done (with_flags files fd description (record description.flags { nonblock = on })) tt))

-- a command of fcntl(2) that is not listed
unfoldable pub unlisted_command : Files → ℕ → Did Files (Unit {0})
unlisted_command files fd = with_some files EBADF (opened files fd) (λ _. refused files EINVAL)

-- a request of ioctl(2) that is not listed
unfoldable pub unlisted_request : Files → ℕ → Did Files (Unit {0})
unlisted_request files fd = with_some files EBADF (opened files fd) (λ _. refused files ENOTTY)

-- open(2), openat(2) and creat(2).
use Rattle.std.specs.Prelude.{ℕ, ◌%◌, ℤ, Bool, false, ◌&&◌, ◌||◌, not, List, Option, Some, None, nat_lt, if◌then◌else◌}
use Rattle.kernel_core.specs.NameCalls.{make_refusal, after_create}
use Rattle.kernel_core.specs.NodeCalls.{held, after_resize}
use Rattle.kernel_core.specs.Nodes.{NodeContent, File, Directory, Link, update}
use Rattle.kernel_core.specs.PathWalk.{Place}
use Rattle.kernel_core.specs.Queries.{new_number}
use Rattle.kernel_core.specs.declared.error.Errno.TheVariants.{EEXIST, EINVAL, EISDIR, ELOOP, EMFILE, ENOENT, ENOTDIR, EOVERFLOW}
use Rattle.kernel_model.specs.Came.{Did, Given, done, refused_if, refused_by, with_given, with_some}
use Rattle.kernel_model.specs.Descriptions.{writes, description_of, content_at}
use Rattle.kernel_model.specs.Modes.{permitted}
use Rattle.kernel_model.specs.Paths.{Base, walk, is_missing_before_slash}
use Rattle.kernel_model.specs.Shared.{OpenSet, Errno}
use Rattle.kernel_model.specs.State.{Files}
use Rattle.kernel_model.specs.Table.{lowest_free, inserted}
use Rattle.kernel_model.specs.Transfers.{limit_for}
use Rattle.kernel_model.specs.declared.descriptor.Object.TheVariants as objects

-- a new description of a node, which is held once more
abbrev pub after_open : Files → OpenSet → ℕ → ℕ → Files
after_open files flags fd node = record files {
  nodes = update files.nodes node held;
  table = inserted files.table fd (description_of (objects.Node node) flags) flags.cloexec;
}

-- A name that is not there is made under CREAT: a regular file with the mode's twelve bits that the umask leaves.

abbrev pub create : Files → ℤ → ℕ → Place → Files
create files now mode place = record files { nodes = after_create files.nodes place (new_number files.nodes) (permitted files.umask (mode % 0x1000)) now }

abbrev pub open_missing : Files → ℤ → List ℕ → OpenSet → ℕ → ℕ → Place → Did Files ℕ
open_missing files now path flags mode fd place =
    refused_if (not flags.creat) ENOENT files (
    refused_if (is_missing_before_slash path place) ENOENT files (
    refused_by (make_refusal files.nodes place) files (
    done (after_open (create files now mode place) flags fd (new_number files.nodes)) fd)))

-- A node that is there. `limit` is the greatest size of a file that is opened without LARGEFILE; none where there is no such size.

abbrev pub is_larger : Option ℕ → ℕ → Bool
is_larger None size = false
is_larger (Some limit) size = nat_lt limit size

-- the kinds: DIRECTORY takes a directory alone. A link is found under NOFOLLOW, and where CREAT and EXCL stand, which don't come here.
abbrev pub kind_refusal : Option ℕ → OpenSet → Option NodeContent → Option Errno
kind_refusal limit flags None = Some ENOENT
kind_refusal limit flags (Some (Link target)) = if flags.directory then Some ENOTDIR else Some ELOOP
kind_refusal limit flags (Some (Directory listing)) =
    if flags.creat || flags.trunc || writes flags.access then Some EISDIR else None
kind_refusal limit flags (Some (File content)) =
    if flags.directory then Some ENOTDIR
    else (if is_larger (limit_for limit flags.largefile) content.size then Some EOVERFLOW else None)

-- TRUNC sets the size of a file to 0
abbrev pub truncated : Files → ℤ → OpenSet → ℕ → Files
truncated files now flags node = if flags.trunc then record files { nodes = after_resize files.nodes node 0 now } else files

abbrev pub open_node : Files → Option ℕ → ℤ → OpenSet → ℕ → ℕ → Did Files ℕ
open_node files limit now flags fd node =
    refused_if (flags.creat && flags.excl) EEXIST files (
    refused_by (kind_refusal limit flags (content_at files.nodes node)) files (
    done (after_open (truncated files now flags node) flags fd node) fd))

abbrev pub open_place : Files → Option ℕ → ℤ → List ℕ → OpenSet → ℕ → ℕ → Place → Option ℕ → Did Files ℕ
open_place files limit now path flags mode fd place None = open_missing files now path flags mode fd place
open_place files limit now path flags mode fd place (Some node) = open_node files limit now flags fd node

-- a last link is followed but under NOFOLLOW, and under CREAT with EXCL
abbrev pub follows : OpenSet → Bool
follows flags = not (flags.nofollow || flags.creat && flags.excl)

-- `flags` is none where they have no access mode or a flag that is not listed. CREAT with DIRECTORY is refused (own).
unfoldable pub open_file : Files → Option ℕ → ℤ → Base → Given (List ℕ) → Option OpenSet → ℕ → Did Files ℕ
open_file files limit now base path flags mode =
    with_some files EINVAL flags (λ flags.
    refused_if (flags.creat && flags.directory) EINVAL files (
    with_given files path (λ path.
    with_some files EMFILE (lowest_free files.table.fds 0) (λ fd.
    with_given files (walk files base path (follows flags)) (λ place.
    open_place files limit now path flags mode fd place place.node)))))

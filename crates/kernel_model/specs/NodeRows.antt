-- The rows on the node that a path or a descriptor names: stat(2), access(2), chmod(2), utimensat(2), truncate(2), chdir(2), getcwd(2),
-- umask(2).
use Rattle.std.specs.Prelude.{ℕ, zero, suc, ◌+◌, ◌%◌, ◌==◌, ℤ, pos, ◌+ℤ◌, ◌*ℤ◌, nat_abs, int_lt, Bool, true, false, ◌&&◌, ◌||◌, not, List, [], ◌∷◌, ◌++◌, length, find, Option, Some, None, option_map, nat_lt, bit_and, if◌then◌else◌}
use Rattle.std.specs.FinMap.{get, len}
use Rattle.kernel_core.specs.FileSystem.{parent_at}
use Rattle.kernel_core.specs.NameCalls.{is_empty_list}
use Rattle.kernel_core.specs.NodeCalls.{with_mode, with_times, held, released, resize_refusal, after_resize}
use Rattle.kernel_core.specs.Nodes.{Nodes, Inode, NodeContent, File, Directory, Link, listing_at, is_directory, entries_in, update}
use Rattle.kernel_core.specs.ValidTree.{root}
use Rattle.kernel_core.specs.declared.tree.DirEntry.{DirEntry}
use Rattle.kernel_core.specs.declared.error.Errno.TheVariants.{EACCES, EBADF, EINVAL, EISDIR, ENOENT, ENOTDIR, ERANGE}
use Rattle.kernel_model.specs.Clock.{second, is_below}
use Rattle.kernel_model.specs.Came.{Did, Given, done, refused, refused_if, refused_by, with_given, with_some, given_or_none}
use Rattle.kernel_model.specs.ContentRows.{Status, status, status_at}
use Rattle.kernel_model.specs.Descriptions.{opened, writable, node_of, content_at}
use Rattle.kernel_model.specs.NameRows.{with_nodes}
use Rattle.kernel_model.specs.Paths.{Base, Working, Descriptor, walk_to_node, directory_of}
use Rattle.kernel_model.specs.State.{Files}
use Rattle.kernel_model.specs.declared.time.TimeSpec.{TimeSpec}

-- Status by a path

-- the flags of fstatat(2): whether a last link is followed, and whether an empty path means the descriptor itself
pub record StatusFlags : Type 0 where
  pub follow : Bool
  pub empty : Bool

abbrev pub status_of_base : Files → Base → Did Files Status
status_of_base files Working = with_some files ENOENT (status_at files.nodes files.directory) (λ status. done files status)
status_of_base files (Descriptor fd) = status files fd

abbrev pub status_by_path : Files → Base → List ℕ → StatusFlags → Did Files Status
status_by_path files base path flags =
    with_given files (walk_to_node files base path flags.follow) (λ node.
    with_some files ENOENT (status_at files.nodes node) (λ status.
    done files status))

-- fstatat(2), of which stat(2) and lstat(2) are forms. `flags` is none where there are others, which is looked at before the path.
unfoldable pub status_at_path : Files → Base → Given (List ℕ) → Option StatusFlags → Did Files Status
status_at_path files base path flags =
    with_some files EINVAL flags (λ flags.
    with_given files path (λ path.
    if flags.empty && is_empty_list path then status_of_base files base else status_by_path files base path flags))

-- Access

abbrev pub is_file : Option NodeContent → Bool
is_file None = false
is_file (Some (File content)) = true
is_file (Some (Directory listing)) = false
is_file (Some (Link target)) = false

-- a regular file that no execute bit of the mode allows to execute
abbrev pub is_not_executable : Option Inode → Bool
is_not_executable None = false
is_not_executable (Some inode) = is_file (Some inode.content) && (bit_and inode.mode 0x49 == 0)

-- access(2), faccessat(2): the bits of `mode` are execute (1), write (2) and read (4). Other bits of a node's mode are not looked at.
unfoldable pub access : Files → Base → Given (List ℕ) → ℕ → Did Files (Unit {0})
access files base path mode =
    with_given files path (λ path.
    refused_if (nat_lt 7 mode) EINVAL files (
    with_given files (walk_to_node files base path true) (λ node.
    refused_if ((mode % 2 == 1) && is_not_executable (get files.nodes node)) EACCES files (
    done files tt))))

-- Modes

abbrev pub after_mode : Files → ℤ → ℕ → ℕ → Files
after_mode files now mode node = with_nodes files (update files.nodes node (with_mode (mode % 0x1000) now))

-- chmod(2), fchmodat(2): twelve bits are kept
unfoldable pub change_mode : Files → ℤ → Base → Given (List ℕ) → ℕ → Did Files (Unit {0})
change_mode files now base path mode =
    with_given files path (λ path.
    with_given files (walk_to_node files base path true) (λ node.
    done (after_mode files now mode node) tt))

-- what is done to the node that a descriptor has open; a stream or an end of a pipe stays as it is (own)
abbrev pub on_open_node : Files → Option ℕ → (ℕ → Files) → Did Files (Unit {0})
on_open_node files None change = done files tt
on_open_node files (Some node) change = done (change node) tt

-- fchmod(2)
unfoldable pub change_open_mode : Files → ℤ → ℕ → ℕ → Did Files (Unit {0})
change_open_mode files now fd mode =
    with_some files EBADF (opened files fd) (λ description.
    on_open_node files (node_of description.object) (after_mode files now mode))

-- Times

-- a time that utimensat(2) is given: nanoseconds of UTIME_NOW mean now, and those of UTIME_OMIT leave the time as it is
pub data TimeChange : Type 0 where
  Leave : TimeChange
  SetTo : ℤ → TimeChange
  Wrong : TimeChange

abbrev pub utime_now : ℤ
utime_now = pos 0x3FFFFFFF

abbrev pub utime_omit : ℤ
utime_omit = pos 0x3FFFFFFE

abbrev pub is_same : ℤ → ℤ → Bool
is_same left right = not (int_lt left right) && not (int_lt right left)

abbrev pub time_change : ℤ → TimeSpec → TimeChange
time_change now time =
    if is_same time.nanoseconds utime_now then SetTo now
    else (if is_same time.nanoseconds utime_omit then Leave
    else (if is_below time.nanoseconds second then SetTo (time.seconds *ℤ pos second +ℤ time.nanoseconds)
    else Wrong))

abbrev pub is_wrong : TimeChange → Bool
is_wrong Leave = false
is_wrong (SetTo time) = false
is_wrong Wrong = true

abbrev pub new_time : TimeChange → Option ℤ
new_time Leave = None
new_time (SetTo time) = Some time
new_time Wrong = None

-- the times of access and modification
pub record TimeChanges : Type 0 where
  pub access : TimeChange
  pub modified : TimeChange

pub record Times : Type 0 where
  pub access : TimeSpec
  pub modified : TimeSpec

-- without times both are now
abbrev pub time_changes : ℤ → Option Times → TimeChanges
time_changes now None = record { access = SetTo now; modified = SetTo now }
time_changes now (Some times) = record { access = time_change now times.access; modified = time_change now times.modified }

abbrev pub after_times : Files → ℤ → TimeChanges → ℕ → Files
after_times files now changes node = with_nodes files (update files.nodes node (with_times (new_time changes.access) (new_time changes.modified) now))

-- a path, or none where the descriptor itself is meant
abbrev pub times_on : Files → ℤ → TimeChanges → Base → Bool → Option (List ℕ) → Did Files (Unit {0})
times_on files now changes base follow (Some path) =
    with_given files (walk_to_node files base path follow) (λ node.
    done (after_times files now changes node) tt)
times_on files now changes Working follow None = refused files EBADF
times_on files now changes (Descriptor fd) follow None =
    with_some files EBADF (opened files fd) (λ description.
    on_open_node files (node_of description.object) (after_times files now changes))

-- utimensat(2). `follow` is none where there are flags other than AT_SYMLINK_NOFOLLOW.
unfoldable pub set_times : Files → ℤ → Base → Option (Given (List ℕ)) → Option (Given Times) → Option Bool → Did Files (Unit {0})
set_times files now base path times follow =
    with_given files (given_or_none path) (λ path.
    with_given files (given_or_none times) (λ times.
    let changes = time_changes now times in
    refused_if (is_wrong changes.access || is_wrong changes.modified) EINVAL files (
    with_some files EINVAL follow (λ follow.
    times_on files now changes base follow path))))

-- Sizes

abbrev pub after_truncate : Files → ℤ → ℕ → ℕ → Files
after_truncate files now node size = with_nodes files (after_resize files.nodes node size now)

-- a file gets another size, a directory is EISDIR, and other kinds are EINVAL
abbrev pub truncate_content : Files → ℤ → ℕ → ℕ → Option NodeContent → Did Files (Unit {0})
truncate_content files now node size None = refused files EINVAL
truncate_content files now node size (Some (Directory listing)) = refused files EISDIR
truncate_content files now node size (Some (Link target)) = refused files EINVAL
truncate_content files now node size (Some (File content)) =
    refused_by (resize_refusal size) files (done (after_truncate files now node size) tt)

-- truncate(2)
unfoldable pub truncate : Files → ℤ → Base → Given (List ℕ) → ℤ → Did Files (Unit {0})
truncate files now base path size =
    with_given files path (λ path.
    refused_if (int_lt size (pos 0)) EINVAL files (
    with_given files (walk_to_node files base path true) (λ node.
    truncate_content files now node (nat_abs size) (content_at files.nodes node))))

-- ftruncate(2): EINVAL for what isn't open for writing, and for streams and pipes
unfoldable pub truncate_open : Files → ℤ → ℕ → ℤ → Did Files (Unit {0})
truncate_open files now fd size =
    with_some files EBADF (opened files fd) (λ _.
    refused_if (int_lt size (pos 0)) EINVAL files (
    with_some files EINVAL (writable files fd) (λ description.
    with_some files EINVAL (node_of description.object) (λ node.
    truncate_content files now node (nat_abs size) (content_at files.nodes node)))))

-- The working directory

-- the new one is held, and then the old one is released
abbrev pub after_change : Files → ℕ → Files
after_change files directory =
    record files { nodes = released (update files.nodes directory held) files.directory; directory = directory }

-- chdir(2)
unfoldable pub change_directory : Files → Given (List ℕ) → Did Files (Unit {0})
change_directory files path =
    with_given files path (λ path.
    with_given files (walk_to_node files Working path true) (λ node.
    refused_if (not (is_directory files.nodes node)) ENOTDIR files (
    done (after_change files node) tt)))

-- fchdir(2)
unfoldable pub change_to_open : Files → ℕ → Did Files (Unit {0})
change_to_open files fd =
    with_given files (directory_of files.nodes (opened files fd)) (λ directory.
    done (after_change files directory) tt)

-- a slash and the name of an entry
abbrev pub slash_name : Option DirEntry → List ℕ
slash_name None = []
slash_name (Some entry) = 47 ∷ entry.name

-- a slash and the name that a directory has in its parent
abbrev pub name_below : Nodes → ℕ → ℕ → List ℕ
name_below nodes parent directory = slash_name (find (λ e. e.node == directory) (entries_in (listing_at nodes parent)))

-- The names from the root to a directory, each after a slash: those to its parent, which lies so many directories below the root at
-- most, and its own. None where it was removed.

abbrev pub names_by_parent : Nodes → ℕ → (ℕ → Option (List ℕ)) → Option ℕ → Option (List ℕ)
names_by_parent nodes directory names None = None
names_by_parent nodes directory names (Some parent) = option_map (λ path. path ++ name_below nodes parent directory) (names parent)

unfoldable pub names_to : ℕ → Nodes → ℕ → Option (List ℕ)
names_to zero nodes directory = if directory == root then Some [] else None
names_to (suc more) nodes directory =
    if directory == root then Some [] else names_by_parent nodes directory (names_to more nodes) (parent_at nodes directory)

-- the path of the root is one slash
abbrev pub or_slash : List ℕ → List ℕ
or_slash [] = 47 ∷ []
or_slash (byte ∷ bytes) = byte ∷ bytes

abbrev pub path_to : Nodes → ℕ → Option (List ℕ)
path_to nodes directory = option_map or_slash (names_to (len nodes) nodes directory)

-- getcwd(2): the path without its NUL, which counts for the size. ENOENT where the directory was removed.
unfoldable pub working_directory : Files → ℕ → Did Files (List ℕ)
working_directory files size =
    with_some files ENOENT (path_to files.nodes files.directory) (λ path.
    refused_if (nat_lt size (length path + 1)) ERANGE files (
    done files path))

-- umask(2): nine bits are kept, and the old ones are given
unfoldable pub set_umask : Files → ℕ → Did Files ℕ
set_umask files umask = done (record files { umask = umask % 0x200 }) files.umask

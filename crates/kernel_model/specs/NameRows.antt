-- The rows on names: mkdir(2), rmdir(2), unlink(2), link(2), symlink(2), rename(2), readlink(2). Each takes where its path begins and the
-- path as it was read; a second path is read before the first is walked.
use Rattle.std.specs.Prelude.{ℕ, ◌%◌, ℤ, pos, nat_abs, int_lt, Bool, false, ◌&&◌, ◌||◌, not, List, take, Option, if◌then◌else◌}
use Rattle.kernel_core.specs.NameCalls.{make_refusal, after_mkdir, symlink_refusal, after_symlink, link_refusal, after_link, unlink_refusal, after_unlink, rmdir_refusal, after_rmdir, rename_refusal, after_rename, is_no_entry, is_empty_list}
use Rattle.kernel_core.specs.Nodes.{Nodes, is_directory, target_at}
use Rattle.kernel_core.specs.PathWalk.{Place}
use Rattle.kernel_core.specs.Queries.{new_number}
use Rattle.kernel_core.specs.declared.error.Errno.TheVariants.{EINVAL, ENOENT, EPERM}
use Rattle.kernel_model.specs.Came.{Did, Given, done, refused_if, refused_by, with_given, with_some}
use Rattle.kernel_model.specs.Modes.{permitted}
use Rattle.kernel_model.specs.Paths.{Base, walk, walk_to_node, is_missing_before_slash}
use Rattle.kernel_model.specs.State.{Files}

abbrev pub with_nodes : Files → Nodes → Files
with_nodes files nodes = record files { nodes = nodes }

-- mkdir(2), mkdirat(2): the mode's low ten bits that the umask leaves; a slash may follow the name
unfoldable pub make_directory : Files → ℤ → Base → Given (List ℕ) → ℕ → Did Files (Unit {0})
make_directory files now base path mode =
    with_given files path (λ path.
    with_given files (walk files base path false) (λ place.
    refused_by (make_refusal files.nodes place) files (
    done (with_nodes files (after_mkdir files.nodes place (new_number files.nodes) (permitted files.umask (mode % 0x400)) now)) tt)))

-- rmdir(2)
abbrev pub remove_directory : Files → ℤ → Place → Did Files (Unit {0})
remove_directory files now place =
    refused_by (rmdir_refusal files.nodes place) files (
    with_some files ENOENT place.node (λ node.
    done (with_nodes files (after_rmdir files.nodes place node now)) tt))

-- unlink(2)
abbrev pub unlink : Files → ℤ → Place → Did Files (Unit {0})
unlink files now place =
    refused_by (unlink_refusal files.nodes place) files (
    with_some files ENOENT place.node (λ node.
    done (with_nodes files (after_unlink files.nodes place node now)) tt))

-- unlinkat(2): whether a directory is to be removed (AT_REMOVEDIR), and none where there are other flags. unlink(2) and rmdir(2) are this
-- with false and true.
unfoldable pub remove_name : Files → ℤ → Base → Given (List ℕ) → Option Bool → Did Files (Unit {0})
remove_name files now base path directory =
    with_given files path (λ path.
    with_some files EINVAL directory (λ directory.
    with_given files (walk files base path false) (λ place.
    if directory then remove_directory files now place else unlink files now place)))

-- linkat(2): `follow` is whether a last link of the old path is followed (AT_SYMLINK_FOLLOW), and none where there are other flags.
-- link(2) is this with false. EPERM for a directory comes before all that is wrong with the new name (own).
unfoldable pub link : Files → ℤ → Base → Given (List ℕ) → Base → Given (List ℕ) → Option Bool → Did Files (Unit {0})
link files now old_base old_path new_base new_path follow =
    with_given files old_path (λ old_path.
    with_given files new_path (λ new_path.
    with_some files EINVAL follow (λ follow.
    with_given files (walk_to_node files old_base old_path follow) (λ node.
    with_given files (walk files new_base new_path false) (λ place.
    refused_if (is_directory files.nodes node) EPERM files (
    refused_if (is_missing_before_slash new_path place) ENOENT files (
    refused_by (link_refusal files.nodes node place) files (
    done (with_nodes files (after_link files.nodes node place now)) tt))))))))

-- symlink(2), symlinkat(2)
unfoldable pub make_link : Files → ℤ → Given (List ℕ) → Base → Given (List ℕ) → Did Files (Unit {0})
make_link files now target base path =
    with_given files target (λ target.
    with_given files path (λ path.
    refused_if (is_empty_list target) ENOENT files (
    with_given files (walk files base path false) (λ place.
    refused_if (is_missing_before_slash path place) ENOENT files (
    refused_by (symlink_refusal files.nodes place target) files (
    done (with_nodes files (after_symlink files.nodes place (new_number files.nodes) target now)) tt))))))

-- A file or link gets no new name that is missing before a slash; that `.`, `..` and the root aren't renamed comes first.
abbrev pub makes_file_before_slash : Nodes → ℕ → Place → List ℕ → Place → Bool
makes_file_before_slash nodes moved from new_path to =
    not (is_no_entry from.name || is_no_entry to.name) && is_missing_before_slash new_path to && not (is_directory nodes moved)

-- rename(2), renameat(2)
unfoldable pub rename : Files → ℤ → Base → Given (List ℕ) → Base → Given (List ℕ) → Did Files (Unit {0})
rename files now old_base old_path new_base new_path =
    with_given files old_path (λ old_path.
    with_given files new_path (λ new_path.
    with_given files (walk files old_base old_path false) (λ from.
    with_some files ENOENT from.node (λ moved.
    with_given files (walk files new_base new_path false) (λ to.
    refused_if (makes_file_before_slash files.nodes moved from new_path to) ENOENT files (
    refused_by (rename_refusal files.nodes from to) files (
    done (with_nodes files (after_rename files.nodes from to moved now)) tt)))))))

-- readlink(2), readlinkat(2): as much of the target as `size` says
unfoldable pub read_link : Files → Base → Given (List ℕ) → ℤ → Did Files (List ℕ)
read_link files base path size =
    with_given files path (λ path.
    refused_if (int_lt size (pos 1)) EINVAL files (
    with_given files (walk_to_node files base path false) (λ node.
    with_some files EINVAL (target_at files.nodes node) (λ target.
    done files (take (nat_abs size) target)))))

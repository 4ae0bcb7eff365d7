-- What the calls on names, nodes and the system leave of the kernel where they fail.
use Rattle.std.proofs.Common.{ℕ, Bool, true, false, List, length, refl}
use Rattle.std.specs.Prelude.{◌==◌, ℤ, position, Option, Some, None, Err, if◌then◌else◌}
use Rattle.kernel_core.specs.declared.error.Errno.TheVariants.{EFAULT, ENAMETOOLONG, EINVAL, ESRCH}
use Rattle.kernel_core.specs.declared.resource.Resource.{Resource}
use Rattle.kernel_model.proofs.refusals.NameRefusals.{link_stays, make_directory_stays, make_link_stays, open_file_stays, remove_name_stays, rename_stays}
use Rattle.kernel_model.proofs.refusals.NodeRefusals.{access_stays, change_directory_stays, change_mode_stays, change_open_mode_stays, change_to_open_stays, set_times_stays, set_umask_stays, truncate_open_stays, truncate_stays}
use Rattle.kernel_model.proofs.refusals.OtherRefusals.{random_bytes_stays, set_limit_stays}
use Rattle.kernel_model.specs.Came.{Given, done}
use Rattle.kernel_model.specs.ContentRows.{status}
use Rattle.kernel_model.specs.NameRows.{read_link}
use Rattle.kernel_model.specs.NodeRows.{StatusFlags, status_at_path, status_of_base, working_directory}
use Rattle.kernel_model.specs.Paths.{Base, Working, Descriptor}
use Rattle.kernel_model.specs.State.{Files, Kernel}
use Rattle.kernel_model.specs.System.{random_bytes, set_limit, set_limit_to}
use Rattle.kernel_model.specs.declared.limit.Limit.{Limit}
use Rattle.native_calls.proofs.Leaves.{CallsLeave, Looks, bytes_count, fills_leaves, gives_leaves, looks, old_leaves, on_good, row_counts, row_stores, stores_leaves, structure_fine, told_good, unless_null_fine, zero_good}
use Rattle.native_calls.proofs.NamesPlain.{access_plain, change_directory_plain, change_mode_plain, change_open_mode_plain, change_to_open_plain, link_plain, make_directory_plain, make_link_plain, open_file_plain, read_link_plain, remove_name_plain, rename_plain, set_times_plain, set_umask_plain, status_at_path_plain, truncate_open_plain, truncate_plain, working_directory_plain}
use Rattle.native_calls.proofs.Plain.{FineGiven, FineUnlessNull, Plain, done_plain, fine_fault, fine_invalid, fine_long, fine_process, given_plain, if_plain, ok_fine, or_none_fine, plain, some_plain}
use Rattle.native_calls.specs.Arguments.{argument}
use Rattle.native_calls.specs.HostBytes.{loadable}
use Rattle.native_calls.specs.Laws.{Prlimit}
use Rattle.native_calls.specs.Names.{name_calls, openat_row, mkdirat_row, symlinkat_row, unlinkat_row, linkat_row, renameat_row, readlinkat_row}
use Rattle.native_calls.specs.Nodes.{node_calls, times_at, times_in, with_nul, truncate_row, ftruncate_row, faccessat_row, fchmod_row, fchmodat_row, newfstatat_row, utimensat_row, chdir_row, fchdir_row, getcwd_row, umask_row}
use Rattle.native_calls.specs.Paths.{is_nul, path_at, path_in, path_limit}
use Rattle.native_calls.specs.Status.{status_bytes}
use Rattle.native_calls.specs.System.{system_calls, limit_at, limit_bytes, limit_in, name_bytes, uname_row, prlimit_row, getrandom_row}

-- Paths

long_or_ended : (long : Bool) → FineGiven {A = List ℕ} (Err (if long then ENAMETOOLONG else EFAULT))
long_or_ended true = record { fine = fine_long }
long_or_ended false = record { fine = fine_fault }

in_fine : (bytes : List ℕ) (place : Option ℕ) → FineGiven (path_in bytes place)
in_fine bytes (Some place) = ok_fine _
in_fine bytes None = long_or_ended (length bytes == path_limit)

path_fine : (memory : List ℕ) (address : ℕ) → FineGiven (path_at memory address)
unfolding path_at
path_fine memory address = in_fine (loadable memory address path_limit) (position is_nul (loadable memory address path_limit))

-- Rows that change nothing

read_link_looks : (files : Files) (base : Base) (path : Given (List ℕ)) (size : ℤ) → Looks files (read_link files base path size)
unfolding read_link
read_link_looks files base path size = search looks depth 14

base_looks : (files : Files) (base : Base) → Looks files (status_of_base files base)
unfolding status
base_looks files Working = search looks depth 14
base_looks files (Descriptor fd) = search looks depth 14

status_at_path_looks : (files : Files) (base : Base) (path : Given (List ℕ)) (flags : Option StatusFlags) → Looks files (status_at_path files base path flags)
unfolding status_at_path
status_at_path_looks files base path flags = search (looks, base_looks) depth 14

working_directory_looks : (files : Files) (size : ℕ) → Looks files (working_directory files size)
unfolding working_directory
working_directory_looks files size = search looks depth 14

-- Rows on the system

limit_to_plain : (kernel : Kernel) (resource : Resource) (limit : Option Limit) → Plain false (set_limit_to kernel resource limit)
limit_to_plain kernel resource None = search plain
limit_to_plain kernel resource (Some limit) = search plain

set_limit_plain : (kernel : Kernel) (pid : ℤ) (resource : Option Resource) (limit : Option (Given Limit)) → FineUnlessNull limit
    → Plain false (set_limit kernel pid resource limit)
unfolding set_limit
set_limit_plain kernel pid resource limit fine =
    if_plain false kernel _ ESRCH _ fine_process (
    some_plain false kernel EINVAL resource _ fine_invalid (λ resource.
    given_plain false kernel _ _ (or_none_fine limit fine) (λ limit. limit_to_plain kernel resource limit)))

random_bytes_plain : (kernel : Kernel) (asked room flags : ℕ) → Plain false (random_bytes kernel asked room flags)
unfolding random_bytes
random_bytes_plain kernel asked room flags = search plain depth 14

-- Calls of the table

pub names_leave : CallsLeave name_calls
unfolding openat_row mkdirat_row symlinkat_row unlinkat_row linkat_row renameat_row readlinkat_row
names_leave = (
  record { leaves = λ args kernel memory left. gives_leaves 34 kernel memory _ left (zero_good kernel _ (make_directory_stays kernel.files _ _ _ _) (make_directory_plain kernel.files _ _ _ _ (path_fine memory (argument args 1)))) },
  (
    record { leaves = λ args kernel memory left. gives_leaves 35 kernel memory _ left (zero_good kernel _ (remove_name_stays kernel.files _ _ _ _) (remove_name_plain kernel.files _ _ _ _ (path_fine memory (argument args 1)))) },
    (
      record { leaves = λ args kernel memory left. gives_leaves 36 kernel memory _ left (zero_good kernel _ (make_link_stays kernel.files _ _ _ _) (make_link_plain kernel.files _ _ _ _ (path_fine memory (argument args 0)) (path_fine memory (argument args 2)))) },
      (
        record { leaves = λ args kernel memory left. gives_leaves 37 kernel memory _ left (zero_good kernel _ (link_stays kernel.files _ _ _ _ _ _) (link_plain kernel.files _ _ _ _ _ _ (path_fine memory (argument args 1)) (path_fine memory (argument args 3)))) },
        (
          record { leaves = λ args kernel memory left. gives_leaves 38 kernel memory _ left (zero_good kernel _ (rename_stays kernel.files _ _ _ _ _) (rename_plain kernel.files _ _ _ _ _ (path_fine memory (argument args 1)) (path_fine memory (argument args 3)))) },
          (
            record { leaves = λ args kernel memory left. gives_leaves 56 kernel memory _ left (on_good kernel _ (open_file_stays kernel.files _ _ _ _ _ _) (open_file_plain kernel.files _ _ _ _ _ _ (path_fine memory (argument args 1)))) },
            (
              record { leaves = λ args kernel memory left. bytes_count 78 kernel memory (argument args 2) _ left (read_link_looks kernel.files _ _ _).same (read_link_plain kernel.files _ _ _ (path_fine memory (argument args 1))) },
              tt,
            ),
          ),
        ),
      ),
    ),
  ),
)

pub nodes_leave : CallsLeave node_calls
unfolding truncate_row ftruncate_row faccessat_row fchmod_row fchmodat_row newfstatat_row utimensat_row chdir_row fchdir_row getcwd_row umask_row
nodes_leave = (
  record { leaves = λ args kernel memory left. row_counts 17 kernel memory (argument args 0) with_nul _ left (working_directory_looks kernel.files _).same (working_directory_plain kernel.files _) },
  (
    record { leaves = λ args kernel memory left. gives_leaves 45 kernel memory _ left (zero_good kernel _ (truncate_stays kernel.files _ _ _ _) (truncate_plain kernel.files _ _ _ _ (path_fine memory (argument args 0)))) },
    (
      record { leaves = λ args kernel memory left. gives_leaves 46 kernel memory _ left (zero_good kernel _ (truncate_open_stays kernel.files _ _ _) (truncate_open_plain kernel.files _ _ _)) },
      (
        record { leaves = λ args kernel memory left. gives_leaves 48 kernel memory _ left (zero_good kernel _ (access_stays kernel.files _ _ _) (access_plain kernel.files _ _ _ (path_fine memory (argument args 1)))) },
        (
          record { leaves = λ args kernel memory left. gives_leaves 49 kernel memory _ left (zero_good kernel _ (change_directory_stays kernel.files _) (change_directory_plain kernel.files _ (path_fine memory (argument args 0)))) },
          (
            record { leaves = λ args kernel memory left. gives_leaves 50 kernel memory _ left (zero_good kernel _ (change_to_open_stays kernel.files _) (change_to_open_plain kernel.files _)) },
            (
              record { leaves = λ args kernel memory left. gives_leaves 52 kernel memory _ left (zero_good kernel _ (change_open_mode_stays kernel.files _ _ _) (change_open_mode_plain kernel.files _ _ _)) },
              (
                record { leaves = λ args kernel memory left. gives_leaves 53 kernel memory _ left (zero_good kernel _ (change_mode_stays kernel.files _ _ _ _) (change_mode_plain kernel.files _ _ _ _ (path_fine memory (argument args 1)))) },
                (
                  record { leaves = λ args kernel memory left. row_stores 79 kernel memory (argument args 2) status_bytes _ left (status_at_path_looks kernel.files _ _ _).same (status_at_path_plain kernel.files _ _ _ (path_fine memory (argument args 1))) },
                  (
                    record { leaves = λ args kernel memory left. gives_leaves 88 kernel memory _ left (zero_good kernel _ (set_times_stays kernel.files _ _ _ _ _) (set_times_plain kernel.files _ _ _ _ _ (unless_null_fine (argument args 1) (path_at memory (argument args 1)) (path_fine memory (argument args 1))) (unless_null_fine (argument args 2) (times_at memory (argument args 2)) (structure_fine times_in memory (argument args 2) 32)))) },
                    (
                      record { leaves = λ args kernel memory left. gives_leaves 166 kernel memory _ left (on_good kernel _ (set_umask_stays kernel.files _) (set_umask_plain kernel.files _)) },
                      tt,
                    ),
                  ),
                ),
              ),
            ),
          ),
        ),
      ),
    ),
  ),
)

pub system_leave : CallsLeave system_calls
unfolding uname_row prlimit_row getrandom_row
system_leave = (
  record { leaves = λ args kernel memory left. stores_leaves 160 kernel memory (argument args 0) (done kernel name_bytes) left refl (done_plain false kernel name_bytes) },
  (
    record { leaves = λ args kernel memory left. old_leaves 261 3 (Prlimit refl refl) kernel memory (argument args 3) _ left (told_good limit_bytes kernel _ (record { stays = set_limit_stays kernel _ _ _; plain = set_limit_plain kernel _ _ _ (unless_null_fine (argument args 2) (limit_at memory (argument args 2)) (structure_fine limit_in memory (argument args 2) 16)) })) },
    (
      record { leaves = λ args kernel memory left. fills_leaves 278 kernel _ memory _ left (record { stays = random_bytes_stays kernel _ _ _; plain = random_bytes_plain kernel _ _ _ }) },
      tt,
    ),
  ),
)

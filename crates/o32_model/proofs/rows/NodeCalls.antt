-- Worked rows on nodes, the working directory and the umask.
use Rattle.std.specs.Prelude.{◌≡◌, ℕ, pos, negsuc, true, List, [], ◌∷◌, ◌++◌, codes, Some, None, Ok, Err, refl}
use Rattle.std.specs.FinMap.{get, len}
use Rattle.guest_space.specs.Access.{first_denied, refusal}
use Rattle.guest_space.specs.Bytes.{bytes_at, copied_out}
use Rattle.guest_space.specs.Memory.{Memory}
use Rattle.guest_space.specs.declared.access.Access.TheVariants.{Load}
use Rattle.kernel_core.specs.Nodes.{Nodes}
use Rattle.kernel_core.specs.PathWalk.{components_after, ends_with_slash}
use Rattle.kernel_core.specs.Queries.{walked, walked_from, walked_through}
use Rattle.kernel_core.specs.declared.error.Errno.{Errno}
use Rattle.kernel_core.specs.declared.error.Errno.TheVariants.{EACCES, EBADF, EFAULT, EFBIG, EINVAL, EISDIR, ENAMETOOLONG, ENOENT, ENOTDIR, ERANGE}
use Rattle.kernel_core.specs.declared.open_flags.Access.TheVariants.{Read}
use Rattle.kernel_model.specs.Clock.{now}
use Rattle.kernel_model.specs.ContentRows.{sync}
use Rattle.kernel_model.specs.Descriptions.{description_of, no_flags}
use Rattle.kernel_model.specs.NodeRows.{Leave, SetTo, access, change_mode, change_open_mode, set_times, truncate, truncate_open, change_directory, change_to_open, working_directory, set_umask, names_to, after_mode, after_times, after_truncate, after_change}
use Rattle.kernel_model.specs.Paths.{walk}
use Rattle.kernel_model.specs.State.{Kernel, Files}
use Rattle.kernel_model.specs.Whole.{with_files}
use Rattle.kernel_model.specs.declared.descriptor.Object.TheVariants.{Node}
use Rattle.layouts.specs.Number.{bytes_of}
use Rattle.mips_exec.specs.Processor.{Processor}
use Rattle.o32_model.proofs.rows.Small.{at_first, with_node_at, page_of, words, guest, leaves, to, input, output, error_output}
use Rattle.o32_model.proofs.rows.SmallTree.{mode_and_links, root_inode, file_inode, directory_inode, link_inode, removed_inode, executable_inode}
use Rattle.o32_model.specs.NodeCalls.{access_row, chmod_row, fchmod_row, utimensat_row, truncate_row, ftruncate_row, sync_row, chdir_row, fchdir_row, getcwd_row, umask_row}
use Rattle.o32_model.specs.Paths.{path_at}
use Rattle.o32_model.specs.Step.{O32Step}
use Rattle.o32_model.specs.Table.{o32_call}
use Rattle.o32_model.specs.declared.call_words.CallWords.{CallWords}
use Rattle.o32_model.specs.declared.outcome.Outcome.{Outcome}
use Rattle.o32_model.specs.declared.outcome.Outcome.TheVariants.{Value, Error}

-- a number of 4 bytes
abbrev u32 : ℕ → List ℕ
u32 value = bytes_of true 4 value

module _ (whole : Kernel) (nodes : Nodes) (processor : Processor) (memory : Memory) where
  abbrev called : Kernel → CallWords → O32Step
  called kernel call = o32_call kernel (guest call processor memory) []

  abbrev at_start : CallWords → O32Step
  at_start call = called (with_files whole (at_first nodes)) call

  abbrev stays : Files → Outcome → O32Step
  stays files outcome = leaves whole files processor memory [] outcome

  abbrev refuses : Errno → O32Step
  refuses error = stays (at_first nodes) (Error error)

  -- node 5 is at descriptor 3
  abbrev with_node : ℕ → CallWords → O32Step
  with_node position call = called (with_files whole (with_node_at nodes position)) call

  abbrev node_stays : ℕ → Outcome → O32Step
  node_stays position outcome = stays (with_node_at nodes position) outcome

  -- files become these, and the result is 0
  abbrev becomes : Files → O32Step
  becomes files = stays files (Value 0)

  -- paths that can't be read

  access_unread : path_at memory 65536 ≡ Err EFAULT → at_start (words 4033 65536 0xFFFF_FFFF 0 0) ≡ refuses EFAULT
  unfolding access_row access
  access_unread unread = simp unread refl

  faccessat_too_long : path_at memory 65536 ≡ Err ENAMETOOLONG → at_start (words 4300 9 65536 8 0) ≡ refuses ENAMETOOLONG
  unfolding access_row access
  faccessat_too_long long = simp long refl

  chmod_unread : path_at memory 65536 ≡ Err EFAULT → at_start (words 4015 65536 420 0 0) ≡ refuses EFAULT
  unfolding chmod_row change_mode
  chmod_unread unread = simp unread refl

  fchmodat_too_long : path_at memory 65536 ≡ Err ENAMETOOLONG → at_start (words 4299 9 65536 420 0) ≡ refuses ENAMETOOLONG
  unfolding chmod_row change_mode
  fchmodat_too_long long = simp long refl

  truncate_unread : path_at memory 65536 ≡ Err EFAULT → at_start (words 4092 65536 0xFFFF_FFFF 0 0) ≡ refuses EFAULT
  unfolding truncate_row truncate
  truncate_unread unread = simp unread refl

  truncate64_too_long : path_at memory 65536 ≡ Err ENAMETOOLONG → at_start (words 4211 65536 0 0xFFFF_FFFF 0) ≡ refuses ENAMETOOLONG
  unfolding truncate_row truncate
  truncate64_too_long long = simp long refl

  chdir_unread : path_at memory 65536 ≡ Err EFAULT → at_start (words 4012 65536 0 0 0) ≡ refuses EFAULT
  unfolding chdir_row change_directory
  chdir_unread unread = simp unread refl

  chdir_too_long : path_at memory 65536 ≡ Err ENAMETOOLONG → at_start (words 4012 65536 0 0 0) ≡ refuses ENAMETOOLONG
  unfolding chdir_row change_directory
  chdir_too_long long = simp long refl

  utimensat_unread : path_at memory 65536 ≡ Err EFAULT → at_start (words 4316 9 65536 69632 0x200) ≡ refuses EFAULT
  unfolding utimensat_row set_times
  utimensat_unread unread = simp unread refl

  utimensat_too_long : path_at memory 65536 ≡ Err ENAMETOOLONG → at_start (words 4316 9 65536 69632 0x200) ≡ refuses ENAMETOOLONG
  unfolding utimensat_row set_times
  utimensat_too_long long = simp long refl

  -- numbers are looked at before the walk

  access_above_7 : path_at memory 65536 ≡ Ok (codes "f") → at_start (words 4033 65536 8 0 0) ≡ refuses EINVAL
  unfolding access_row access
  access_above_7 path = simp path refl

  truncate_below_zero : path_at memory 65536 ≡ Ok (codes "f") → at_start (words 4092 65536 0xFFFF_FFFF 0 0) ≡ refuses EINVAL
  unfolding truncate_row truncate
  truncate_below_zero path = simp path refl

  truncate64_below_zero : path_at memory 65536 ≡ Ok (codes "f") → at_start (words 4211 65536 0 0x8000_0000 0) ≡ refuses EINVAL
  unfolding truncate_row truncate
  truncate64_below_zero path = simp path refl

  faccessat_closed : path_at memory 65536 ≡ Ok (codes "f") → at_start (words 4300 9 65536 4 0) ≡ refuses EBADF
  unfolding access_row access walk
  faccessat_closed path = simp path refl

  fchmodat_closed : path_at memory 65536 ≡ Ok (codes "f") → at_start (words 4299 9 65536 420 0) ≡ refuses EBADF
  unfolding chmod_row change_mode walk
  fchmodat_closed path = simp path refl

  module _ (at_1 : get nodes 1 ≡ Some root_inode) where
    access_missing : path_at memory 65536 ≡ Ok (codes "n") → at_start (words 4033 65536 0 0 0) ≡ refuses ENOENT
    unfolding access_row access walk walked walked_from walked_through components_after ends_with_slash root_inode mode_and_links
    access_missing path = simp (path, at_1) refl

    chmod_missing : path_at memory 65536 ≡ Ok (codes "n") → at_start (words 4015 65536 420 0 0) ≡ refuses ENOENT
    unfolding chmod_row change_mode walk walked walked_from walked_through components_after ends_with_slash root_inode mode_and_links
    chmod_missing path = simp (path, at_1) refl

    truncate_missing : path_at memory 65536 ≡ Ok (codes "n") → at_start (words 4092 65536 0 0 0) ≡ refuses ENOENT
    unfolding truncate_row truncate walk walked walked_from walked_through components_after ends_with_slash root_inode mode_and_links
    truncate_missing path = simp (path, at_1) refl

    utimensat_missing : path_at memory 65536 ≡ Ok (codes "n") → at_start (words 4316 0xFFFF_FF9C 65536 0 0) ≡ refuses ENOENT
    unfolding utimensat_row set_times walk walked walked_from walked_through components_after ends_with_slash root_inode mode_and_links
    utimensat_missing path = simp (path, at_1) refl

    access_executable : get nodes 2 ≡ Some executable_inode → path_at memory 65536 ≡ Ok (codes "f") → at_start (words 4033 65536 1 0 0) ≡ becomes (at_first nodes)
    unfolding access_row access walk walked walked_from walked_through components_after ends_with_slash root_inode mode_and_links executable_inode
    access_executable at_2 path = simp (at_2, path, at_1) refl

    access_directory : get nodes 3 ≡ Some directory_inode → path_at memory 65536 ≡ Ok (codes "d") → at_start (words 4033 65536 1 0 0) ≡ becomes (at_first nodes)
    unfolding access_row access walk walked walked_from walked_through components_after ends_with_slash root_inode mode_and_links directory_inode
    access_directory at_3 path = simp (at_3, path, at_1) refl

    chdir_missing : path_at memory 65536 ≡ Ok (codes "n") → at_start (words 4012 65536 0 0 0) ≡ refuses ENOENT
    unfolding chdir_row change_directory walk walked walked_from walked_through components_after ends_with_slash root_inode mode_and_links
    chdir_missing path = simp (path, at_1) refl

    -- the file `f`
    module _ (at_2 : get nodes 2 ≡ Some file_inode) where
      access_file : path_at memory 65536 ≡ Ok (codes "f") → at_start (words 4033 65536 6 0 0) ≡ becomes (at_first nodes)
      unfolding access_row access walk walked walked_from walked_through components_after ends_with_slash root_inode mode_and_links file_inode
      access_file path = simp (path, at_1, at_2) refl

      faccessat_file : path_at memory 65536 ≡ Ok (codes "f") → at_start (words 4300 0xFFFF_FF9C 65536 4 0) ≡ becomes (at_first nodes)
      unfolding access_row access walk walked walked_from walked_through components_after ends_with_slash root_inode mode_and_links file_inode
      faccessat_file path = simp (path, at_1, at_2) refl

      faccessat_not_executable : path_at memory 65536 ≡ Ok (codes "/f") → at_start (words 4300 9 65536 1 0) ≡ refuses EACCES
      unfolding access_row access walk walked walked_from walked_through components_after ends_with_slash root_inode mode_and_links file_inode
      faccessat_not_executable path = simp (path, at_1, at_2) refl

      chmod_file : path_at memory 65536 ≡ Ok (codes "f") → at_start (words 4015 65536 0xFFFF 0 0) ≡ becomes (after_mode (at_first nodes) (now whole) 0xFFF 2)
      unfolding chmod_row change_mode walk walked walked_from walked_through components_after ends_with_slash root_inode mode_and_links file_inode
      chmod_file path = simp (path, at_1, at_2) refl

      fchmodat_file : path_at memory 65536 ≡ Ok (codes "f") → at_start (words 4299 0xFFFF_FF9C 65536 420 0) ≡ becomes (after_mode (at_first nodes) (now whole) 420 2)
      unfolding chmod_row change_mode walk walked walked_from walked_through components_after ends_with_slash root_inode mode_and_links file_inode
      fchmodat_file path = simp (path, at_1, at_2) refl

      truncate_file : path_at memory 65536 ≡ Ok (codes "f") → at_start (words 4092 65536 0x7FFF_FFFF 0 0) ≡ becomes (after_truncate (at_first nodes) (now whole) 2 0x7FFF_FFFF)
      unfolding truncate_row truncate walk walked walked_from walked_through components_after ends_with_slash root_inode mode_and_links file_inode
      truncate_file path = simp (path, at_1, at_2) refl

      -- the high word first
      truncate64_file : path_at memory 65536 ≡ Ok (codes "f") → at_start (words 4211 65536 0 1 2) ≡ becomes (after_truncate (at_first nodes) (now whole) 2 0x1_0000_0002)
      unfolding truncate_row truncate walk walked walked_from walked_through components_after ends_with_slash root_inode mode_and_links file_inode
      truncate64_file path = simp (path, at_1, at_2) refl

      truncate64_too_large : path_at memory 65536 ≡ Ok (codes "f") → at_start (words 4211 65536 0 0x1000 1) ≡ refuses EFBIG
      unfolding truncate_row truncate walk walked walked_from walked_through components_after ends_with_slash root_inode mode_and_links file_inode
      truncate64_too_large path = simp (path, at_1, at_2) refl

      chdir_file : path_at memory 65536 ≡ Ok (codes "f") → at_start (words 4012 65536 0 0 0) ≡ refuses ENOTDIR
      unfolding chdir_row change_directory walk walked walked_from walked_through components_after ends_with_slash root_inode mode_and_links file_inode
      chdir_file path = simp (path, at_1, at_2) refl

    -- the directory `d`
    module _ (at_3 : get nodes 3 ≡ Some directory_inode) where
      chdir_directory : path_at memory 65536 ≡ Ok (codes "d") → at_start (words 4012 65536 0 0 0) ≡ becomes (after_change (at_first nodes) 3)
      unfolding chdir_row change_directory walk walked walked_from walked_through components_after ends_with_slash root_inode mode_and_links directory_inode
      chdir_directory path = simp (path, at_1, at_3) refl

      truncate_directory : path_at memory 65536 ≡ Ok (codes "d") → at_start (words 4092 65536 0 0 0) ≡ refuses EISDIR
      unfolding truncate_row truncate walk walked walked_from walked_through components_after ends_with_slash root_inode mode_and_links directory_inode
      truncate_directory path = simp (path, at_1, at_3) refl

    -- times: those at 65792, now without them, and those of a link itself under 0x100
    module _ (at_2 : get nodes 2 ≡ Some file_inode) (at_4 : get nodes 4 ≡ Some link_inode) where
      times_now : path_at memory 65536 ≡ Ok (codes "l") → at_start (words 4316 0xFFFF_FF9C 65536 0 0) ≡ becomes (after_times (at_first nodes) (now whole) (record { access = SetTo (now whole); modified = SetTo (now whole) }) 2)
      unfolding utimensat_row set_times walk walked walked_from walked_through components_after ends_with_slash root_inode mode_and_links file_inode link_inode
      times_now path = simp (path, at_1, at_2, at_4) refl

      times_of_link : path_at memory 65536 ≡ Ok (codes "l") → at_start (words 4316 0xFFFF_FF9C 65536 0 0x100) ≡ becomes (after_times (at_first nodes) (now whole) (record { access = SetTo (now whole); modified = SetTo (now whole) }) 4)
      unfolding utimensat_row set_times walk walked walked_from walked_through components_after ends_with_slash root_inode mode_and_links file_inode link_inode
      times_of_link path = simp (path, at_1, at_4) refl

      -- -1 seconds and 5 nanoseconds, and 3 seconds and 999,999,999
      times_given : path_at memory 65536 ≡ Ok (codes "f") → first_denied Load memory.pages 65792 16 ≡ None → bytes_at memory.pages 65792 16 ≡ u32 0xFFFF_FFFF ++ u32 5 ++ u32 3 ++ u32 999_999_999 → at_start (words 4316 0xFFFF_FF9C 65536 65792 0) ≡ becomes (after_times (at_first nodes) (now whole) (record { access = SetTo (negsuc 999_999_994); modified = SetTo (pos 3_999_999_999) }) 2)
      unfolding utimensat_row set_times walk walked walked_from walked_through components_after ends_with_slash root_inode mode_and_links file_inode link_inode
      times_given path loaded times = simp (path, loaded, times, at_1, at_2) refl

      times_left_and_now : path_at memory 65536 ≡ Ok (codes "f") → first_denied Load memory.pages 65792 16 ≡ None → bytes_at memory.pages 65792 16 ≡ u32 7 ++ u32 0x3FFF_FFFE ++ u32 7 ++ u32 0x3FFF_FFFF → at_start (words 4316 0xFFFF_FF9C 65536 65792 0) ≡ becomes (after_times (at_first nodes) (now whole) (record { access = Leave; modified = SetTo (now whole) }) 2)
      unfolding utimensat_row set_times walk walked walked_from walked_through components_after ends_with_slash root_inode mode_and_links file_inode link_inode
      times_left_and_now path loaded times = simp (path, loaded, times, at_1, at_2) refl

      -- with both times left as they are the time of change is set
      times_left : path_at memory 65536 ≡ Ok (codes "f") → first_denied Load memory.pages 65792 16 ≡ None → bytes_at memory.pages 65792 16 ≡ u32 0 ++ u32 0x3FFF_FFFE ++ u32 0 ++ u32 0x3FFF_FFFE → at_start (words 4316 0xFFFF_FF9C 65536 65792 0) ≡ becomes (after_times (at_first nodes) (now whole) (record { access = Leave; modified = Leave }) 2)
      unfolding utimensat_row set_times walk walked walked_from walked_through components_after ends_with_slash root_inode mode_and_links file_inode link_inode
      times_left path loaded times = simp (path, loaded, times, at_1, at_2) refl

      -- -1 nanoseconds
      times_below_zero : path_at memory 65536 ≡ Ok (codes "f") → first_denied Load memory.pages 65792 16 ≡ None → bytes_at memory.pages 65792 16 ≡ u32 0 ++ u32 0 ++ u32 0 ++ u32 0xFFFF_FFFF → at_start (words 4316 0xFFFF_FF9C 65536 65792 0) ≡ refuses EINVAL
      unfolding utimensat_row set_times walk walked walked_from walked_through components_after ends_with_slash root_inode mode_and_links file_inode link_inode
      times_below_zero path loaded times = simp (path, loaded, times) refl

      -- before the descriptor and the flags
      times_wrong : path_at memory 65536 ≡ Ok (codes "f") → first_denied Load memory.pages 65792 16 ≡ None → bytes_at memory.pages 65792 16 ≡ u32 0 ++ u32 0 ++ u32 0 ++ u32 1_000_000_000 → at_start (words 4316 9 65536 65792 0x200) ≡ refuses EINVAL
      unfolding utimensat_row set_times walk walked walked_from walked_through components_after ends_with_slash root_inode mode_and_links file_inode link_inode
      times_wrong path loaded times = simp (path, loaded, times) refl

  -- a null path means the descriptor, and there is none for the working directory

  times_of_descriptor : with_node 0 (words 4316 3 0 0 0) ≡ becomes (after_times (with_node_at nodes 0) (now whole) (record { access = SetTo (now whole); modified = SetTo (now whole) }) 5)
  unfolding utimensat_row set_times
  times_of_descriptor = refl

  times_of_stream : at_start (words 4316 1 0 0 0x100) ≡ becomes (at_first nodes)
  unfolding utimensat_row set_times
  times_of_stream = refl

  times_of_closed : at_start (words 4316 9 0 0 0) ≡ refuses EBADF
  unfolding utimensat_row set_times
  times_of_closed = refl

  times_of_nothing : at_start (words 4316 0xFFFF_FF9C 0 0 0) ≡ refuses EBADF
  unfolding utimensat_row set_times
  times_of_nothing = refl

  times_unlisted : at_start (words 4316 9 0 0 0x200) ≡ refuses EINVAL
  unfolding utimensat_row set_times
  times_unlisted = refl

  times_unread : get memory.pages 17 ≡ None → at_start (words 4316 9 0 69632 0x200) ≡ refuses EFAULT
  unfolding utimensat_row set_times first_denied refusal bytes_at
  times_unread absent = simp absent refl

  -- descriptors

  fchmod_node : with_node 0 (words 4094 3 0xFFFF 0 0) ≡ becomes (after_mode (with_node_at nodes 0) (now whole) 0xFFF 5)
  unfolding fchmod_row change_open_mode
  fchmod_node = refl

  fchmod_stream : at_start (words 4094 1 420 0 0) ≡ becomes (at_first nodes)
  unfolding fchmod_row change_open_mode
  fchmod_stream = refl

  fchmod_closed : at_start (words 4094 9 420 0 0) ≡ refuses EBADF
  unfolding fchmod_row change_open_mode
  fchmod_closed = refl

  fsync_node : with_node 0 (words 4118 3 0 0 0) ≡ node_stays 0 (Value 0)
  unfolding sync_row sync
  fsync_node = refl

  fdatasync_stream : at_start (words 4152 1 0 0 0) ≡ refuses EINVAL
  unfolding sync_row sync
  fdatasync_stream = refl

  fsync_closed : at_start (words 4118 9 0 0 0) ≡ refuses EBADF
  unfolding sync_row sync
  fsync_closed = refl

  fdatasync_node : with_node 0 (words 4152 3 0 0 0) ≡ node_stays 0 (Value 0)
  unfolding sync_row sync
  fdatasync_node = refl

  ftruncate_node : get nodes 5 ≡ Some file_inode → with_node 0 (words 4093 3 5 0 0) ≡ becomes (after_truncate (with_node_at nodes 0) (now whole) 5 5)
  unfolding ftruncate_row truncate_open file_inode mode_and_links
  ftruncate_node is = simp is refl

  ftruncate64_node : get nodes 5 ≡ Some file_inode → with_node 0 (words 4212 3 0 0x1000 0) ≡ becomes (after_truncate (with_node_at nodes 0) (now whole) 5 0x1000_0000_0000)
  unfolding ftruncate_row truncate_open file_inode mode_and_links
  ftruncate64_node is = simp is refl

  ftruncate64_too_large : get nodes 5 ≡ Some file_inode → with_node 0 (words 4212 3 0 0x1000 1) ≡ node_stays 0 (Error EFBIG)
  unfolding ftruncate_row truncate_open file_inode mode_and_links
  ftruncate64_too_large is = simp is refl

  ftruncate_below_zero : at_start (words 4093 1 0xFFFF_FFFF 0 0) ≡ refuses EINVAL
  unfolding ftruncate_row truncate_open
  ftruncate_below_zero = refl

  ftruncate_input : at_start (words 4093 0 0 0 0) ≡ refuses EINVAL
  unfolding ftruncate_row truncate_open
  ftruncate_input = refl

  ftruncate_output : at_start (words 4093 1 0 0 0) ≡ refuses EINVAL
  unfolding ftruncate_row truncate_open
  ftruncate_output = refl

  -- a directory is open for reading alone
  abbrev directory_open : Files
  directory_open = record (at_first nodes) {
    table = record {
      fds = to 0 ∷ to 1 ∷ to 2 ∷ to 3 ∷ None ∷ None ∷ None ∷ None ∷ [];
      live = Some input ∷ Some output ∷ Some error_output ∷ Some (description_of (Node 5) (no_flags Read)) ∷ None ∷ None ∷ None ∷ None ∷ [];
    };
  }

  ftruncate_directory : called (with_files whole directory_open) (words 4093 3 0 0 0) ≡ stays directory_open (Error EINVAL)
  unfolding ftruncate_row truncate_open
  ftruncate_directory = refl

  ftruncate_closed : at_start (words 4212 9 0 0xFFFF_FFFF 0) ≡ refuses EBADF
  unfolding ftruncate_row truncate_open
  ftruncate_closed = refl

  -- the working directory

  fchdir_directory : get nodes 5 ≡ Some directory_inode → with_node 0 (words 4133 3 0 0 0) ≡ becomes (after_change (with_node_at nodes 0) 5)
  unfolding fchdir_row change_to_open directory_inode mode_and_links
  fchdir_directory is = simp is refl

  fchdir_stream : at_start (words 4133 0 0 0 0) ≡ refuses ENOTDIR
  unfolding fchdir_row change_to_open
  fchdir_stream = refl

  fchdir_closed : at_start (words 4133 9 0 0 0) ≡ refuses EBADF
  unfolding fchdir_row change_to_open
  fchdir_closed = refl

  -- a slash and a NUL
  cwd_root : len nodes ≡ 6 → (held : List ℕ) → get memory.pages 16 ≡ Some (page_of held) → at_start (words 4203 65536 2 0 0) ≡ leaves whole (at_first nodes) processor (copied_out memory 65536 (47 ∷ 0 ∷ [])) [] (Value 2)
  unfolding getcwd_row working_directory names_to first_denied refusal
  cwd_root six held kept = simp (six, kept) refl

  cwd_short : len nodes ≡ 6 → at_start (words 4203 65536 1 0 0) ≡ refuses ERANGE
  unfolding getcwd_row working_directory names_to
  cwd_short six = simp six refl

  cwd_unstored : len nodes ≡ 6 → get memory.pages 17 ≡ None → at_start (words 4203 69632 9 0 0) ≡ refuses EFAULT
  unfolding getcwd_row working_directory names_to first_denied refusal
  cwd_unstored six absent = simp (six, absent) refl

  abbrev in_directory : Files
  in_directory = record (at_first nodes) { directory = 3 }

  cwd_directory : len nodes ≡ 6 → get nodes 1 ≡ Some root_inode → get nodes 3 ≡ Some directory_inode → (held : List ℕ) → get memory.pages 16 ≡ Some (page_of held) → called (with_files whole in_directory) (words 4203 65536 9 0 0) ≡ leaves whole in_directory processor (copied_out memory 65536 (codes "/d" ++ 0 ∷ [])) [] (Value 3)
  unfolding getcwd_row working_directory names_to first_denied refusal root_inode directory_inode mode_and_links
  cwd_directory six at_1 at_3 held kept = simp (six, at_1, at_3, kept) refl

  cwd_removed : len nodes ≡ 6 → get nodes 3 ≡ Some removed_inode → called (with_files whole in_directory) (words 4203 65536 0 0 0) ≡ stays in_directory (Error ENOENT)
  unfolding getcwd_row working_directory names_to removed_inode mode_and_links
  cwd_removed six at_3 = simp (six, at_3) refl

  nine_bits : at_start (words 4060 1023 0 0 0) ≡ stays (record (at_first nodes) { umask = 511 }) (Value 18)
  unfolding umask_row set_umask
  nine_bits = refl

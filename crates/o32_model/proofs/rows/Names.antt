-- Worked rows on names.
use Rattle.std.specs.Prelude.{◌≡◌, ℕ, List, [], codes, Some, None, Ok, Err, refl}
use Rattle.std.specs.FinMap.{get, len}
use Rattle.guest_space.specs.Access.{first_denied, refusal}
use Rattle.guest_space.specs.Bytes.{copied_out}
use Rattle.guest_space.specs.Memory.{Memory}
use Rattle.kernel_core.specs.NameCalls.{after_link, after_mkdir, after_rename, after_rmdir, after_symlink, after_unlink}
use Rattle.kernel_core.specs.Nodes.{Nodes, Link}
use Rattle.kernel_core.specs.PathWalk.{components_after, ends_with_slash}
use Rattle.kernel_core.specs.Queries.{new_number, walked, walked_from, walked_through}
use Rattle.kernel_core.specs.Totals.{live_entries}
use Rattle.kernel_core.specs.declared.error.Errno.{Errno}
use Rattle.kernel_core.specs.declared.error.Errno.TheVariants.{EBADF, EBUSY, EEXIST, EFAULT, EINVAL, EISDIR, ENAMETOOLONG, ENOENT, ENOSPC, ENOTDIR, ENOTEMPTY, EPERM}
use Rattle.kernel_model.specs.Clock.{now}
use Rattle.kernel_model.specs.NameRows.{make_directory, remove_name, link, make_link, rename, read_link, with_nodes}
use Rattle.kernel_model.specs.Paths.{walk}
use Rattle.kernel_model.specs.State.{Kernel, Files}
use Rattle.kernel_model.specs.Whole.{with_files}
use Rattle.mips_exec.specs.Processor.{Processor}
use Rattle.o32_model.proofs.rows.Small.{at_first, page_of, words, guest, leaves}
use Rattle.o32_model.proofs.rows.SmallTree.{mode_and_links, root_inode, file_inode, directory_inode, link_inode, missing, words_of_five, full_inode, removed_inode}
use Rattle.o32_model.specs.Names.{mkdir_row, remove_row, link_row, linkat_row, symlink_row, readlink_row, rename_row}
use Rattle.o32_model.specs.Paths.{path_at}
use Rattle.o32_model.specs.Step.{O32Step}
use Rattle.o32_model.specs.Table.{o32_call}
use Rattle.o32_model.specs.declared.call_words.CallWords.{CallWords}
use Rattle.o32_model.specs.declared.outcome.Outcome.{Outcome}
use Rattle.o32_model.specs.declared.outcome.Outcome.TheVariants.{Value, Error}

module _ (whole : Kernel) (nodes : Nodes) (processor : Processor) (memory : Memory) where
  abbrev called : Kernel → CallWords → O32Step
  called kernel call = o32_call kernel (guest call processor memory) []

  abbrev at_start : CallWords → O32Step
  at_start call = called (with_files whole (at_first nodes)) call

  abbrev stays : Files → Outcome → O32Step
  stays files outcome = leaves whole files processor memory [] outcome

  abbrev refuses : Errno → O32Step
  refuses error = stays (at_first nodes) (Error error)

  -- the nodes become these, and the result is 0
  abbrev becomes : Nodes → O32Step
  becomes changed = stays (with_nodes (at_first nodes) changed) (Value 0)

  -- paths that can't be read, and descriptors that are no directory

  mkdir_unread : path_at memory 65536 ≡ Err EFAULT → at_start (words 4039 65536 511 0 0) ≡ refuses EFAULT
  unfolding mkdir_row make_directory
  mkdir_unread unread = simp unread refl

  mkdirat_too_long : path_at memory 65536 ≡ Err ENAMETOOLONG → at_start (words 4289 9 65536 511 0) ≡ refuses ENAMETOOLONG
  unfolding mkdir_row make_directory
  mkdirat_too_long long = simp long refl

  rmdir_unread : path_at memory 65536 ≡ Err EFAULT → at_start (words 4040 65536 0 0 0) ≡ refuses EFAULT
  unfolding remove_row remove_name
  rmdir_unread unread = simp unread refl

  unlink_unread : path_at memory 65536 ≡ Err EFAULT → at_start (words 4010 65536 0 0 0) ≡ refuses EFAULT
  unfolding remove_row remove_name
  unlink_unread unread = simp unread refl

  unlinkat_too_long : path_at memory 65536 ≡ Err ENAMETOOLONG → at_start (words 4294 9 65536 0x400 0) ≡ refuses ENAMETOOLONG
  unfolding remove_row remove_name
  unlinkat_too_long long = simp long refl

  link_unread : path_at memory 65536 ≡ Err EFAULT → at_start (words 4009 65536 69632 0 0) ≡ refuses EFAULT
  unfolding link_row link
  link_unread unread = simp unread refl

  symlink_target_unread : path_at memory 65536 ≡ Err EFAULT → at_start (words 4083 65536 69632 0 0) ≡ refuses EFAULT
  unfolding symlink_row make_link
  symlink_target_unread unread = simp unread refl

  symlinkat_target_too_long : path_at memory 65536 ≡ Err ENAMETOOLONG → at_start (words 4297 65536 9 69632 0) ≡ refuses ENAMETOOLONG
  unfolding symlink_row make_link
  symlinkat_target_too_long long = simp long refl

  rename_unread : path_at memory 65536 ≡ Err EFAULT → at_start (words 4038 65536 69632 0 0) ≡ refuses EFAULT
  unfolding rename_row rename
  rename_unread unread = simp unread refl

  renameat_unread : path_at memory 65536 ≡ Err EFAULT → at_start (words 4295 9 65536 9 69632) ≡ refuses EFAULT
  unfolding rename_row rename
  renameat_unread unread = simp unread refl

  readlink_unread : path_at memory 65536 ≡ Err EFAULT → at_start (words 4085 65536 0x8000_0000 0 0) ≡ refuses EFAULT
  unfolding readlink_row read_link
  readlink_unread unread = simp unread refl

  readlinkat_too_long : path_at memory 65536 ≡ Err ENAMETOOLONG → at_start (words 4298 9 65536 0x8000_0000 0) ≡ refuses ENAMETOOLONG
  unfolding readlink_row read_link
  readlinkat_too_long long = simp long refl

  -- the second path is read before the first is walked

  link_second_unread : path_at memory 65536 ≡ Ok (codes "") → path_at memory 69632 ≡ Err EFAULT → at_start (words 4009 65536 69632 0 0) ≡ refuses EFAULT
  unfolding link_row link
  link_second_unread path_one unread = simp (path_one, unread) refl

  symlink_second_unread : path_at memory 65536 ≡ Ok (codes "") → path_at memory 69632 ≡ Err EFAULT → at_start (words 4083 65536 69632 0 0) ≡ refuses EFAULT
  unfolding symlink_row make_link
  symlink_second_unread path_one unread = simp (path_one, unread) refl

  rename_second_unread : path_at memory 65536 ≡ Ok (codes "") → path_at memory 69632 ≡ Err EFAULT → at_start (words 4038 65536 69632 0 0) ≡ refuses EFAULT
  unfolding rename_row rename
  rename_second_unread path_one unread = simp (path_one, unread) refl

  link_second_too_long : path_at memory 65536 ≡ Ok (codes "") → path_at memory 69632 ≡ Err ENAMETOOLONG → at_start (words 4009 65536 69632 0 0) ≡ refuses ENAMETOOLONG
  unfolding link_row link
  link_second_too_long path_one long = simp (path_one, long) refl

  symlink_second_too_long : path_at memory 65536 ≡ Ok (codes "") → path_at memory 69632 ≡ Err ENAMETOOLONG → at_start (words 4083 65536 69632 0 0) ≡ refuses ENAMETOOLONG
  unfolding symlink_row make_link
  symlink_second_too_long path_one long = simp (path_one, long) refl

  rename_second_too_long : path_at memory 65536 ≡ Ok (codes "") → path_at memory 69632 ≡ Err ENAMETOOLONG → at_start (words 4038 65536 69632 0 0) ≡ refuses ENAMETOOLONG
  unfolding rename_row rename
  rename_second_too_long path_one long = simp (path_one, long) refl

  mkdirat_closed : path_at memory 65536 ≡ Ok (codes "n") → at_start (words 4289 9 65536 511 0) ≡ refuses EBADF
  unfolding mkdir_row make_directory walk
  mkdirat_closed path = simp path refl

  unlinkat_stream : path_at memory 65536 ≡ Ok (codes "n") → at_start (words 4294 0 65536 0 0) ≡ refuses ENOTDIR
  unfolding remove_row remove_name walk
  unlinkat_stream path = simp path refl

  unlinkat_closed : path_at memory 65536 ≡ Ok (codes "n") → at_start (words 4294 9 65536 0 0) ≡ refuses EBADF
  unfolding remove_row remove_name walk
  unlinkat_closed path = simp path refl

  renameat_closed : path_at memory 65536 ≡ Ok (codes "f") → path_at memory 69632 ≡ Ok (codes "n") → at_start (words 4295 9 65536 0xFFFF_FF9C 69632) ≡ refuses EBADF
  unfolding rename_row rename walk
  renameat_closed path_one path_two = simp (path_one, path_two) refl

  symlinkat_closed : path_at memory 65536 ≡ Ok (codes "f") → path_at memory 69632 ≡ Ok (codes "n") → at_start (words 4297 65536 9 69632 0) ≡ refuses EBADF
  unfolding symlink_row make_link walk
  symlinkat_closed path_one path_two = simp (path_one, path_two) refl

  readlinkat_closed : path_at memory 65536 ≡ Ok (codes "l") → at_start (words 4298 9 65536 0x8000_0000 1) ≡ refuses EBADF
  unfolding readlink_row read_link walk
  readlinkat_closed path = simp path refl

  -- flags: those that are not listed, and those on the stack that can't be read, which comes before all else

  unlinkat_unlisted : path_at memory 65536 ≡ Ok (codes "n") → at_start (words 4294 9 65536 0x300 0) ≡ refuses EINVAL
  unfolding remove_row remove_name
  unlinkat_unlisted path = simp path refl

  linkat_unlisted : path_at memory 65536 ≡ Ok (codes "f") → path_at memory 69632 ≡ Ok (codes "n") → at_start (words_of_five 4296 9 65536 9 69632 0x100) ≡ refuses EINVAL
  unfolding linkat_row link
  linkat_unlisted path_one path_two = simp (path_one, path_two) refl

  linkat_flags_unread : at_start (words 4296 9 65536 9 69632) ≡ refuses EFAULT
  unfolding linkat_row
  linkat_flags_unread = refl

  linkat_unread : path_at memory 65536 ≡ Err EFAULT → at_start (words_of_five 4296 9 65536 9 69632 0x100) ≡ refuses EFAULT
  unfolding linkat_row link
  linkat_unread unread = simp unread refl

  -- both paths are read before the flags are looked at
  linkat_second_unread : path_at memory 65536 ≡ Ok (codes "f") → path_at memory 69632 ≡ Err EFAULT → at_start (words_of_five 4296 9 65536 9 69632 0x100) ≡ refuses EFAULT
  unfolding linkat_row link
  linkat_second_unread path_one unread = simp (path_one, unread) refl

  linkat_closed : path_at memory 65536 ≡ Ok (codes "f") → path_at memory 69632 ≡ Ok (codes "n") → at_start (words_of_five 4296 9 65536 0xFFFF_FF9C 69632 0) ≡ refuses EBADF
  unfolding linkat_row link walk
  linkat_closed path_one path_two = simp (path_one, path_two) refl

  symlink_of_nothing : path_at memory 65536 ≡ Ok (codes "") → path_at memory 69632 ≡ Ok (codes "n") → at_start (words 4083 65536 69632 0 0) ≡ refuses ENOENT
  unfolding symlink_row make_link
  symlink_of_nothing path_one path_two = simp (path_one, path_two) refl

  -- before the descriptor
  symlinkat_of_nothing : path_at memory 65536 ≡ Ok (codes "") → path_at memory 69632 ≡ Ok (codes "n") → at_start (words 4297 65536 9 69632 0) ≡ refuses ENOENT
  unfolding symlink_row make_link
  symlinkat_of_nothing path_one path_two = simp (path_one, path_two) refl

  readlink_into_nothing : path_at memory 65536 ≡ Ok (codes "l") → at_start (words 4085 65536 0x8000_0000 0 0) ≡ refuses EINVAL
  unfolding readlink_row read_link
  readlink_into_nothing path = simp path refl

  readlink_below_zero : path_at memory 65536 ≡ Ok (codes "l") → at_start (words 4085 65536 0x8000_0000 0xFFFF_FFFF 0) ≡ refuses EINVAL
  unfolding readlink_row read_link
  readlink_below_zero path = simp path refl

  module _ (at_1 : get nodes 1 ≡ Some root_inode) where
    -- what is made: 01777 less 022 is 01755

    mkdir_new : path_at memory 65536 ≡ Ok (codes "n") → len nodes ≡ 6 → live_entries nodes ≡ 5 → at_start (words 4039 65536 0xFFFF 0 0) ≡ becomes (after_mkdir nodes (missing (codes "n")) (new_number nodes) 1005 (now whole))
    unfolding mkdir_row make_directory walk walked walked_from walked_through components_after ends_with_slash root_inode mode_and_links
    mkdir_new path few entries = simp (path, few, entries, at_1) refl

    mkdirat_new : path_at memory 65536 ≡ Ok (codes "n/") → len nodes ≡ 6 → live_entries nodes ≡ 5 → at_start (words 4289 0xFFFF_FF9C 65536 511 0) ≡ becomes (after_mkdir nodes (missing (codes "n")) (new_number nodes) 493 (now whole))
    unfolding mkdir_row make_directory walk walked walked_from walked_through components_after ends_with_slash root_inode mode_and_links
    mkdirat_new path few entries = simp (path, few, entries, at_1) refl

    symlink_new : path_at memory 65536 ≡ Ok (codes "x") → path_at memory 69632 ≡ Ok (codes "n") → len nodes ≡ 6 → live_entries nodes ≡ 5 → at_start (words 4083 65536 69632 0 0) ≡ becomes (after_symlink nodes (missing (codes "n")) (new_number nodes) (codes "x") (now whole))
    unfolding symlink_row make_link walk walked walked_from walked_through components_after ends_with_slash root_inode mode_and_links
    symlink_new path_one path_two few entries = simp (path_one, path_two, few, entries, at_1) refl

    symlinkat_new : path_at memory 65536 ≡ Ok (codes "x") → path_at memory 69632 ≡ Ok (codes "n") → len nodes ≡ 6 → live_entries nodes ≡ 5 → at_start (words 4297 65536 0xFFFF_FF9C 69632 0) ≡ becomes (after_symlink nodes (missing (codes "n")) (new_number nodes) (codes "x") (now whole))
    unfolding symlink_row make_link walk walked walked_from walked_through components_after ends_with_slash root_inode mode_and_links
    symlinkat_new path_one path_two few entries = simp (path_one, path_two, few, entries, at_1) refl

    mkdir_no_room : path_at memory 65536 ≡ Ok (codes "n") → len nodes ≡ 65_536 → at_start (words 4039 65536 511 0 0) ≡ refuses ENOSPC
    unfolding mkdir_row make_directory walk walked walked_from walked_through components_after ends_with_slash root_inode mode_and_links
    mkdir_no_room path full = simp (path, full, at_1) refl

    mkdir_below_missing : path_at memory 65536 ≡ Ok (codes "n/x") → at_start (words 4039 65536 511 0 0) ≡ refuses ENOENT
    unfolding mkdir_row make_directory walk walked walked_from walked_through components_after ends_with_slash root_inode mode_and_links
    mkdir_below_missing path = simp (path, at_1) refl

    symlink_before_slash : path_at memory 65536 ≡ Ok (codes "x") → path_at memory 69632 ≡ Ok (codes "n/") → at_start (words 4083 65536 69632 0 0) ≡ refuses ENOENT
    unfolding symlink_row make_link walk walked walked_from walked_through components_after ends_with_slash root_inode mode_and_links
    symlink_before_slash path_one path_two = simp (path_one, path_two, at_1) refl

    symlink_no_room : path_at memory 65536 ≡ Ok (codes "x") → path_at memory 69632 ≡ Ok (codes "n") → len nodes ≡ 65_536 → at_start (words 4083 65536 69632 0 0) ≡ refuses ENOSPC
    unfolding symlink_row make_link walk walked walked_from walked_through components_after ends_with_slash root_inode mode_and_links
    symlink_no_room path_one path_two full = simp (path_one, path_two, full, at_1) refl

    link_missing : path_at memory 65536 ≡ Ok (codes "n") → path_at memory 69632 ≡ Ok (codes "x") → at_start (words 4009 65536 69632 0 0) ≡ refuses ENOENT
    unfolding link_row link walk walked walked_from walked_through components_after ends_with_slash root_inode mode_and_links
    link_missing path_one path_two = simp (path_one, path_two, at_1) refl

    rmdir_missing : path_at memory 65536 ≡ Ok (codes "n") → at_start (words 4040 65536 0 0 0) ≡ refuses ENOENT
    unfolding remove_row remove_name walk walked walked_from walked_through components_after ends_with_slash root_inode mode_and_links
    rmdir_missing path = simp (path, at_1) refl

    readlink_missing : path_at memory 65536 ≡ Ok (codes "n") → at_start (words 4085 65536 0x8000_0000 9 0) ≡ refuses ENOENT
    unfolding readlink_row read_link walk walked walked_from walked_through components_after ends_with_slash root_inode mode_and_links
    readlink_missing path = simp (path, at_1) refl

    unlink_missing : path_at memory 65536 ≡ Ok (codes "n") → at_start (words 4010 65536 0 0 0) ≡ refuses ENOENT
    unfolding remove_row remove_name walk walked walked_from walked_through components_after ends_with_slash root_inode mode_and_links
    unlink_missing path = simp (path, at_1) refl

    rmdir_root : path_at memory 65536 ≡ Ok (codes "/") → at_start (words 4040 65536 0 0 0) ≡ refuses EBUSY
    unfolding remove_row remove_name walk walked walked_from walked_through components_after ends_with_slash root_inode mode_and_links
    rmdir_root path = simp path refl

    rename_dot : path_at memory 65536 ≡ Ok (codes ".") → path_at memory 69632 ≡ Ok (codes "n") → at_start (words 4038 65536 69632 0 0) ≡ refuses EBUSY
    unfolding rename_row rename walk walked walked_from walked_through components_after ends_with_slash root_inode mode_and_links
    rename_dot path_one path_two = simp (path_one, path_two, at_1) refl

    -- the file `f`
    module _ (at_2 : get nodes 2 ≡ Some file_inode) where
      unlink_file : path_at memory 65536 ≡ Ok (codes "f") → at_start (words 4010 65536 0 0 0) ≡ becomes (after_unlink nodes (record { directory = 1; name = codes "f"; node = Some 2 }) 2 (now whole))
      unfolding remove_row remove_name walk walked walked_from walked_through components_after ends_with_slash root_inode mode_and_links file_inode
      unlink_file path = simp (path, at_1, at_2) refl

      unlinkat_file : path_at memory 65536 ≡ Ok (codes "/f") → at_start (words 4294 9 65536 0 0) ≡ becomes (after_unlink nodes (record { directory = 1; name = codes "f"; node = Some 2 }) 2 (now whole))
      unfolding remove_row remove_name walk walked walked_from walked_through components_after ends_with_slash root_inode mode_and_links file_inode
      unlinkat_file path = simp (path, at_1, at_2) refl

      rmdir_file : path_at memory 65536 ≡ Ok (codes "f") → at_start (words 4040 65536 0 0 0) ≡ refuses ENOTDIR
      unfolding remove_row remove_name walk walked walked_from walked_through components_after ends_with_slash root_inode mode_and_links file_inode
      rmdir_file path = simp (path, at_1, at_2) refl

      mkdir_old : path_at memory 65536 ≡ Ok (codes "f") → at_start (words 4039 65536 511 0 0) ≡ refuses EEXIST
      unfolding mkdir_row make_directory walk walked walked_from walked_through components_after ends_with_slash root_inode mode_and_links file_inode
      mkdir_old path = simp (path, at_1, at_2) refl

      mkdir_below_file : path_at memory 65536 ≡ Ok (codes "f/x") → at_start (words 4039 65536 511 0 0) ≡ refuses ENOTDIR
      unfolding mkdir_row make_directory walk walked walked_from walked_through components_after ends_with_slash root_inode mode_and_links file_inode
      mkdir_below_file path = simp (path, at_1, at_2) refl

      symlink_old : path_at memory 65536 ≡ Ok (codes "x") → path_at memory 69632 ≡ Ok (codes "f") → at_start (words 4083 65536 69632 0 0) ≡ refuses EEXIST
      unfolding symlink_row make_link walk walked walked_from walked_through components_after ends_with_slash root_inode mode_and_links file_inode
      symlink_old path_one path_two = simp (path_one, path_two, at_1, at_2) refl

      link_old : path_at memory 65536 ≡ Ok (codes "f") → path_at memory 69632 ≡ Ok (codes "f") → at_start (words 4009 65536 69632 0 0) ≡ refuses EEXIST
      unfolding link_row link walk walked walked_from walked_through components_after ends_with_slash root_inode mode_and_links file_inode
      link_old path_one path_two = simp (path_one, path_two, at_1, at_2) refl

      link_before_slash : path_at memory 65536 ≡ Ok (codes "f") → path_at memory 69632 ≡ Ok (codes "n/") → at_start (words 4009 65536 69632 0 0) ≡ refuses ENOENT
      unfolding link_row link walk walked walked_from walked_through components_after ends_with_slash root_inode mode_and_links file_inode
      link_before_slash path_one path_two = simp (path_one, path_two, at_1, at_2) refl

      link_no_room : path_at memory 65536 ≡ Ok (codes "f") → path_at memory 69632 ≡ Ok (codes "n") → live_entries nodes ≡ 131_072 → at_start (words 4009 65536 69632 0 0) ≡ refuses ENOSPC
      unfolding link_row link walk walked walked_from walked_through components_after ends_with_slash root_inode mode_and_links file_inode
      link_no_room path_one path_two full = simp (path_one, path_two, full, at_1, at_2) refl

      link_new : path_at memory 65536 ≡ Ok (codes "f") → path_at memory 69632 ≡ Ok (codes "n") → live_entries nodes ≡ 5 → at_start (words 4009 65536 69632 0 0) ≡ becomes (after_link nodes 2 (missing (codes "n")) (now whole))
      unfolding link_row link walk walked walked_from walked_through components_after ends_with_slash root_inode mode_and_links file_inode
      link_new path_one path_two entries = simp (path_one, path_two, entries, at_1, at_2) refl

      rename_new : path_at memory 65536 ≡ Ok (codes "f") → path_at memory 69632 ≡ Ok (codes "n") → at_start (words 4038 65536 69632 0 0) ≡ becomes (after_rename nodes (record { directory = 1; name = codes "f"; node = Some 2 }) (missing (codes "n")) 2 (now whole))
      unfolding rename_row rename walk walked walked_from walked_through components_after ends_with_slash root_inode mode_and_links file_inode
      rename_new path_one path_two = simp (path_one, path_two, at_1, at_2) refl

      renameat_new : path_at memory 65536 ≡ Ok (codes "/f") → path_at memory 69632 ≡ Ok (codes "n") → at_start (words 4295 9 65536 0xFFFF_FF9C 69632) ≡ becomes (after_rename nodes (record { directory = 1; name = codes "f"; node = Some 2 }) (missing (codes "n")) 2 (now whole))
      unfolding rename_row rename walk walked walked_from walked_through components_after ends_with_slash root_inode mode_and_links file_inode
      renameat_new path_one path_two = simp (path_one, path_two, at_1, at_2) refl

      read_no_link : path_at memory 65536 ≡ Ok (codes "f") → at_start (words 4085 65536 0x8000_0000 9 0) ≡ refuses EINVAL
      unfolding readlink_row read_link walk walked walked_from walked_through components_after ends_with_slash root_inode mode_and_links file_inode
      read_no_link path = simp (path, at_1, at_2) refl

    -- the directory `d`
    module _ (at_3 : get nodes 3 ≡ Some directory_inode) where
      rmdir_directory : path_at memory 65536 ≡ Ok (codes "d") → at_start (words 4040 65536 0 0 0) ≡ becomes (after_rmdir nodes (record { directory = 1; name = codes "d"; node = Some 3 }) 3 (now whole))
      unfolding remove_row remove_name walk walked walked_from walked_through components_after ends_with_slash root_inode mode_and_links directory_inode
      rmdir_directory path = simp (path, at_1, at_3) refl

      unlinkat_directory : path_at memory 65536 ≡ Ok (codes "d") → at_start (words 4294 0xFFFF_FF9C 65536 0x200 0) ≡ becomes (after_rmdir nodes (record { directory = 1; name = codes "d"; node = Some 3 }) 3 (now whole))
      unfolding remove_row remove_name walk walked walked_from walked_through components_after ends_with_slash root_inode mode_and_links directory_inode
      unlinkat_directory path = simp (path, at_1, at_3) refl

      unlink_directory : path_at memory 65536 ≡ Ok (codes "d") → at_start (words 4010 65536 0 0 0) ≡ refuses EISDIR
      unfolding remove_row remove_name walk walked walked_from walked_through components_after ends_with_slash root_inode mode_and_links directory_inode
      unlink_directory path = simp (path, at_1, at_3) refl

      rmdir_dots : path_at memory 65536 ≡ Ok (codes "d/..") → at_start (words 4040 65536 0 0 0) ≡ refuses ENOTEMPTY
      unfolding remove_row remove_name walk walked walked_from walked_through components_after ends_with_slash root_inode mode_and_links directory_inode
      rmdir_dots path = simp (path, at_1, at_3) refl

      rmdir_dot : path_at memory 65536 ≡ Ok (codes "d/.") → at_start (words 4040 65536 0 0 0) ≡ refuses EINVAL
      unfolding remove_row remove_name walk walked walked_from walked_through components_after ends_with_slash root_inode mode_and_links directory_inode
      rmdir_dot path = simp (path, at_1, at_3) refl

      link_directory : path_at memory 65536 ≡ Ok (codes "d") → path_at memory 69632 ≡ Ok (codes "n") → at_start (words 4009 65536 69632 0 0) ≡ refuses EPERM
      unfolding link_row link walk walked walked_from walked_through components_after ends_with_slash root_inode mode_and_links directory_inode
      link_directory path_one path_two = simp (path_one, path_two, at_1, at_3) refl

      -- EPERM comes before EEXIST
      link_directory_to_old : get nodes 2 ≡ Some file_inode → path_at memory 65536 ≡ Ok (codes "d") → path_at memory 69632 ≡ Ok (codes "f") → at_start (words 4009 65536 69632 0 0) ≡ refuses EPERM
      unfolding link_row link walk walked walked_from walked_through components_after ends_with_slash root_inode mode_and_links directory_inode file_inode
      link_directory_to_old at_2 path_one path_two = simp (path_one, path_two, at_1, at_2, at_3) refl

    rmdir_full : get nodes 3 ≡ Some full_inode → path_at memory 65536 ≡ Ok (codes "d") → at_start (words 4040 65536 0 0 0) ≡ refuses ENOTEMPTY
    unfolding remove_row remove_name walk walked walked_from walked_through components_after ends_with_slash root_inode mode_and_links full_inode
    rmdir_full at_3 path = simp (path, at_1, at_3) refl

    -- the link `l` to `f`: link does not follow it, and linkat does under 0x400
    module _ (at_2 : get nodes 2 ≡ Some file_inode) (at_4 : get nodes 4 ≡ Some link_inode) where
      link_link : path_at memory 65536 ≡ Ok (codes "l") → path_at memory 69632 ≡ Ok (codes "n") → live_entries nodes ≡ 5 → at_start (words 4009 65536 69632 0 0) ≡ becomes (after_link nodes 4 (missing (codes "n")) (now whole))
      unfolding link_row link walk walked walked_from walked_through components_after ends_with_slash root_inode mode_and_links file_inode link_inode
      link_link path_one path_two entries = simp (path_one, path_two, entries, at_1, at_4) refl

      linkat_link : path_at memory 65536 ≡ Ok (codes "l") → path_at memory 69632 ≡ Ok (codes "n") → live_entries nodes ≡ 5 → at_start (words_of_five 4296 0xFFFF_FF9C 65536 0xFFFF_FF9C 69632 0) ≡ becomes (after_link nodes 4 (missing (codes "n")) (now whole))
      unfolding linkat_row link walk walked walked_from walked_through components_after ends_with_slash root_inode mode_and_links file_inode link_inode
      linkat_link path_one path_two entries = simp (path_one, path_two, entries, at_1, at_4) refl

      linkat_followed : path_at memory 65536 ≡ Ok (codes "l") → path_at memory 69632 ≡ Ok (codes "n") → live_entries nodes ≡ 5 → at_start (words_of_five 4296 0xFFFF_FF9C 65536 0xFFFF_FF9C 69632 0x400) ≡ becomes (after_link nodes 2 (missing (codes "n")) (now whole))
      unfolding linkat_row link walk walked walked_from walked_through components_after ends_with_slash root_inode mode_and_links file_inode link_inode
      linkat_followed path_one path_two entries = simp (path_one, path_two, entries, at_1, at_2, at_4) refl

    -- the target of a link, without a NUL
    module _ (at_4 : get nodes 4 ≡ Some (mode_and_links 511 1 (Link (codes "xyz")))) where
      readlink_whole : path_at memory 65536 ≡ Ok (codes "l") → (held : List ℕ) → get memory.pages 16 ≡ Some (page_of held) → at_start (words 4085 65536 65792 9 0) ≡ leaves whole (at_first nodes) processor (copied_out memory 65792 (codes "xyz")) [] (Value 3)
      unfolding readlink_row read_link walk walked walked_from walked_through components_after ends_with_slash root_inode mode_and_links first_denied refusal
      readlink_whole path held kept = simp (path, kept, at_1, at_4) refl

      readlinkat_first : path_at memory 65536 ≡ Ok (codes "/l") → (held : List ℕ) → get memory.pages 16 ≡ Some (page_of held) → at_start (words 4298 9 65536 65792 2) ≡ leaves whole (at_first nodes) processor (copied_out memory 65792 (codes "xy")) [] (Value 2)
      unfolding readlink_row read_link walk walked walked_from walked_through components_after ends_with_slash root_inode mode_and_links first_denied refusal
      readlinkat_first path held kept = simp (path, kept, at_1, at_4) refl

      -- all of it is stored, or none
      readlink_unstored : path_at memory 65536 ≡ Ok (codes "l") → (held : List ℕ) → get memory.pages 16 ≡ Some (page_of held) → get memory.pages 17 ≡ None → at_start (words 4085 65536 69630 9 0) ≡ refuses EFAULT
      unfolding readlink_row read_link walk walked walked_from walked_through components_after ends_with_slash root_inode mode_and_links first_denied refusal
      readlink_unstored path held kept absent = simp (path, kept, absent, at_1, at_4) refl

  -- in a directory that was removed, `..` names nothing, and no name is made
  module _ (at_3 : get nodes 3 ≡ Some removed_inode) where
    abbrev in_removed : Files
    in_removed = record (at_first nodes) { directory = 3 }

    rmdir_above_removed : path_at memory 65536 ≡ Ok (codes "..") → called (with_files whole in_removed) (words 4040 65536 0 0 0) ≡ stays in_removed (Error ENOENT)
    unfolding remove_row remove_name walk walked walked_from walked_through components_after ends_with_slash removed_inode mode_and_links
    rmdir_above_removed path = simp (path, at_3) refl

    mkdir_in_removed : path_at memory 65536 ≡ Ok (codes "n") → called (with_files whole in_removed) (words 4039 65536 511 0 0) ≡ stays in_removed (Error ENOENT)
    unfolding mkdir_row make_directory walk walked walked_from walked_through components_after ends_with_slash removed_inode mode_and_links
    mkdir_in_removed path = simp (path, at_3) refl

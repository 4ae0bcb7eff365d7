-- Worked rows on the node that a path or a descriptor names, on the working directory and on the mode of new nodes. The nodes with names are
-- those of the rows on names. What is open has none, and the working directory is another one where the rows on it say so.
use Rattle.std.specs.Prelude.{◌≡◌, ℕ, ◌+◌, ◌-◌, ◌^◌, List, [], ◌∷◌, ◌++◌, codes, replicate, Some, None, pos, negsuc, refl}
use Rattle.std.specs.FinMap.{get, len, len-empty}
use Rattle.std.specs.Ordering.{nat_cmp}
use Rattle.kernel_core.specs.FileContent.{no_content}
use Rattle.kernel_core.specs.NodeCalls.{with_mode, with_times}
use Rattle.kernel_core.specs.Nodes.{Nodes, Inode, File, Directory, update}
use Rattle.kernel_core.specs.PathWalk.{components_after, ends_with_slash}
use Rattle.kernel_core.specs.Queries.{walked, walked_from, walked_through}
use Rattle.kernel_core.specs.declared.open_flags.Access.TheVariants.{Read, Write}
use Rattle.kernel_model.specs.Clock.{now}
use Rattle.kernel_model.specs.ContentRows.{status}
use Rattle.kernel_model.specs.Descriptions.{description_of, no_flags}
use Rattle.kernel_model.specs.NameRows.{with_nodes}
use Rattle.kernel_model.specs.NodeRows.{access, after_change, after_truncate, change_directory, change_mode, change_open_mode, change_to_open, names_to, set_times, set_umask, status_at_path, truncate, truncate_open, working_directory}
use Rattle.kernel_model.specs.Paths.{walk}
use Rattle.kernel_model.specs.State.{Files, Kernel}
use Rattle.kernel_model.specs.Whole.{with_files}
use Rattle.kernel_model.specs.declared.descriptor.Object.TheVariants.{Node}
use Rattle.native_calls.proofs.rows.Names.{at_low_working, at_working, empty, entry, file, inode, link_to_f, root, text}
use Rattle.native_calls.proofs.rows.Small.{at_first, error, leaves, number, six, u32, u64, with_open, zeros}
use Rattle.native_calls.specs.Nodes.{chdir_row, faccessat_row, fchdir_row, fchmod_row, fchmodat_row, ftruncate_row, getcwd_row, newfstatat_row, truncate_row, umask_row, utimensat_row}
use Rattle.native_calls.specs.Paths.{path_at}
use Rattle.native_calls.specs.Step.{NativeStep}
use Rattle.native_calls.specs.Table.{native_call}

-- a node that is open at descriptor 3
abbrev opened : Nodes → ℕ → Files
opened nodes node = with_open nodes (description_of (Node node) (no_flags Read))

abbrev opened_to_write : Nodes → ℕ → Files
opened_to_write nodes node = with_open nodes (description_of (Node node) (no_flags Write))

-- a file and a directory without a name that are held

unfoldable open_file : Inode
open_file = record (inode 420 0 (File no_content)) { holds = 1 }

unfoldable open_directory : Inode
open_directory = record (inode 493 0 (Directory (record { parent = None; greatest = 2; entries = [] }))) { holds = 1 }

-- the status of a node of device 1, all of whose times are 0: its number, mode, links, size and sectors

abbrev status_with : ℕ → ℕ → ℕ → ℕ → ℕ → List ℕ
status_with node mode links size sectors =
    u64 1 ++ u64 node ++ u32 mode ++ u32 links ++ u32 0 ++ u32 0 ++ u64 0 ++ zeros 8 ++ u64 size ++ u32 4096 ++ zeros 4 ++ u64 sectors ++ zeros 48 ++ zeros 8

abbrev status_of : ℕ → ℕ → ℕ → ℕ → List ℕ
status_of node mode links size = status_with node mode links size 0

module _ (whole : Kernel) (nodes : Nodes) (at_1 : get nodes 1 ≡ Some root) (at_2 : get nodes 2 ≡ Some file) (at_3 : get nodes 3 ≡ Some empty)
    (at_4 : get nodes 4 ≡ Some link_to_f) where
  abbrev call : ℕ → List ℕ → List ℕ → NativeStep
  call number args memory = native_call number args (with_files whole (at_first nodes)) memory []

  abbrev call_with : Files → ℕ → List ℕ → List ℕ → NativeStep
  call_with files number args memory = native_call number args (with_files whole files) memory []

  abbrev does : Files → List ℕ → ℕ → NativeStep
  does files memory value = leaves whole files memory [] (number value)

  abbrev refuses : List ℕ → ℕ → NativeStep
  refuses memory value = leaves whole (at_first nodes) memory [] (error value)

  -- truncate

  truncate_f : call 45 (six 65536 5 0 0) (text (codes "f")) ≡ does (after_truncate (at_first nodes) (now whole) 2 5) (text (codes "f")) 0
  unfolding truncate_row truncate path_at walk walked walked_from walked_through components_after ends_with_slash root file inode entry
  truncate_f = simp (at_1, at_2) refl

  truncate_below_zero : call 45 (six 65536 (2 ^ 64 - 1) 0 0) (text (codes "x")) ≡ refuses (text (codes "x")) 22
  unfolding truncate_row truncate path_at
  truncate_below_zero = refl

  truncate_directory : call 45 (six 65536 0 0 0) (text (codes "d")) ≡ refuses (text (codes "d")) 21
  unfolding truncate_row truncate path_at walk walked walked_from walked_through components_after ends_with_slash root empty inode entry
  truncate_directory = simp (at_1, at_3) refl

  truncate_too_far : call 45 (six 65536 (2 ^ 44 + 1) 0 0) (text (codes "f")) ≡ refuses (text (codes "f")) 27
  unfolding truncate_row truncate path_at walk walked walked_from walked_through components_after ends_with_slash root file inode entry
  truncate_too_far = simp (at_1, at_2) refl

  truncate_unreadable : call 45 (six 65537 0 0 0) (codes "f") ≡ refuses (codes "f") 14
  unfolding truncate_row truncate path_at
  truncate_unreadable = refl

  -- ftruncate

  ftruncate_open_file : get nodes 5 ≡ Some open_file
      → call_with (opened_to_write nodes 5) 46 (six 3 7 0 0) [] ≡ does (after_truncate (opened_to_write nodes 5) (now whole) 5 7) [] 0
  unfolding ftruncate_row truncate_open open_file inode
  ftruncate_open_file at_5 = simp at_5 refl

  ftruncate_to_read : call_with (opened nodes 5) 46 (six 3 5 0 0) [] ≡ leaves whole (opened nodes 5) [] [] (error 22)
  unfolding ftruncate_row truncate_open
  ftruncate_to_read = refl

  -- of the descriptor the low 32 bits count
  ftruncate_by_low_word : call_with (opened nodes 5) 46 (six (2 ^ 32 + 3) 5 0 0) [] ≡ leaves whole (opened nodes 5) [] [] (error 22)
  unfolding ftruncate_row truncate_open
  ftruncate_by_low_word = refl

  ftruncate_below_zero : call 46 (six 0 (2 ^ 64 - 1) 0 0) [] ≡ refuses [] 22
  unfolding ftruncate_row truncate_open
  ftruncate_below_zero = refl

  ftruncate_closed : call 46 (six 3 (2 ^ 64 - 1) 0 0) [] ≡ refuses [] 9
  unfolding ftruncate_row truncate_open
  ftruncate_closed = refl

  -- faccessat

  may_be_read : call 48 (six at_working 65536 6 0) (text (codes "l")) ≡ does (at_first nodes) (text (codes "l")) 0
  unfolding faccessat_row access path_at walk walked walked_from walked_through components_after ends_with_slash root link_to_f file inode entry
  may_be_read = simp (at_1, at_2, at_4) refl

  not_executable : call 48 (six at_working 65536 1 0) (text (codes "f")) ≡ refuses (text (codes "f")) 13
  unfolding faccessat_row access path_at walk walked walked_from walked_through components_after ends_with_slash root file inode entry
  not_executable = simp (at_1, at_2) refl

  -- of the directory and the mode the low 32 bits count
  not_executable_by_low_words : call 48 (six at_low_working 65536 (2 ^ 32 + 1) 0) (text (codes "f")) ≡ refuses (text (codes "f")) 13
  unfolding faccessat_row access path_at walk walked walked_from walked_through components_after ends_with_slash root file inode entry
  not_executable_by_low_words = simp (at_1, at_2) refl

  no_such_access : call 48 (six 99 65536 8 0) (text (codes "f")) ≡ refuses (text (codes "f")) 22
  unfolding faccessat_row access path_at
  no_such_access = refl

  access_unreadable : call 48 (six 99 0 8 0) [] ≡ refuses [] 14
  unfolding faccessat_row access path_at
  access_unreadable = refl

  -- chdir and fchdir

  to_d : call 49 (six 65536 0 0 0) (text (codes "d")) ≡ does (after_change (at_first nodes) 3) (text (codes "d")) 0
  unfolding chdir_row change_directory path_at walk walked walked_from walked_through components_after ends_with_slash root empty inode entry
  to_d = simp (at_1, at_3) refl

  to_a_file : call 49 (six 65536 0 0 0) (text (codes "f")) ≡ refuses (text (codes "f")) 20
  unfolding chdir_row change_directory path_at walk walked walked_from walked_through components_after ends_with_slash root file inode entry
  to_a_file = simp (at_1, at_2) refl

  to_nowhere : call 49 (six 0 0 0 0) [] ≡ refuses [] 14
  unfolding chdir_row change_directory path_at
  to_nowhere = refl

  to_open_directory : get nodes 5 ≡ Some open_directory → call_with (opened nodes 5) 50 (six 3 0 0 0) [] ≡ does (after_change (opened nodes 5) 5) [] 0
  unfolding fchdir_row change_to_open open_directory inode
  to_open_directory at_5 = simp at_5 refl

  to_open_by_low_word : get nodes 5 ≡ Some open_directory → call_with (opened nodes 5) 50 (six (2 ^ 32 + 3) 0 0 0) [] ≡ does (after_change (opened nodes 5) 5) [] 0
  unfolding fchdir_row change_to_open open_directory inode
  to_open_by_low_word at_5 = simp at_5 refl

  to_a_stream : call 50 (six 0 0 0 0) [] ≡ refuses [] 20
  unfolding fchdir_row change_to_open
  to_a_stream = refl

  to_closed : call 50 (six 3 0 0 0) [] ≡ refuses [] 9
  unfolding fchdir_row change_to_open
  to_closed = refl

  -- fchmod and fchmodat: twelve bits

  mode_of_open : call_with (opened nodes 5) 52 (six 3 0x1FFF 0 0) []
      ≡ does (with_nodes (opened nodes 5) (update nodes 5 (with_mode 0xFFF (now whole)))) [] 0
  unfolding fchmod_row change_open_mode
  mode_of_open = refl

  mode_of_stream : call 52 (six 0 0 0 0) [] ≡ does (at_first nodes) [] 0
  unfolding fchmod_row change_open_mode
  mode_of_stream = refl

  mode_by_low_word : call 52 (six (2 ^ 32) 0 0 0) [] ≡ does (at_first nodes) [] 0
  unfolding fchmod_row change_open_mode
  mode_by_low_word = refl

  mode_of_closed : call 52 (six 3 0 0 0) [] ≡ refuses [] 9
  unfolding fchmod_row change_open_mode
  mode_of_closed = refl

  mode_through_link : call 53 (six at_working 65536 420 0) (text (codes "l"))
      ≡ does (with_nodes (at_first nodes) (update nodes 2 (with_mode 420 (now whole)))) (text (codes "l")) 0
  unfolding fchmodat_row change_mode path_at walk walked walked_from walked_through components_after ends_with_slash root link_to_f file inode entry
  mode_through_link = simp (at_1, at_2, at_4) refl

  mode_of_missing : call 53 (six at_working 65536 420 0) (text (codes "x")) ≡ refuses (text (codes "x")) 2
  unfolding fchmodat_row change_mode path_at walk walked walked_from walked_through components_after ends_with_slash root inode entry
  mode_of_missing = simp at_1 refl

  mode_of_missing_by_low_word : call 53 (six at_low_working 65536 420 0) (text (codes "x")) ≡ refuses (text (codes "x")) 2
  unfolding fchmodat_row change_mode path_at walk walked walked_from walked_through components_after ends_with_slash root inode entry
  mode_of_missing_by_low_word = simp at_1 refl

  mode_unreadable : call 53 (six 99 0 420 0) [] ≡ refuses [] 14
  unfolding fchmodat_row change_mode path_at
  mode_unreadable = refl

  -- getcwd: the NUL counts

  in_root : len nodes ≡ 6 → call 17 (six 65536 2 0 0) (7 ∷ 7 ∷ 7 ∷ []) ≡ does (at_first nodes) (47 ∷ 0 ∷ 7 ∷ []) 2
  unfolding getcwd_row working_directory names_to
  in_root some = simp some refl

  -- of the size all 64 bits count
  in_root_by_long_size : len nodes ≡ 6 → call 17 (six 65536 (2 ^ 32 + 1) 0 0) (7 ∷ 7 ∷ 7 ∷ []) ≡ does (at_first nodes) (47 ∷ 0 ∷ 7 ∷ []) 2
  unfolding getcwd_row working_directory names_to
  in_root_by_long_size some = simp some refl

  too_short : len nodes ≡ 6 → call 17 (six 65536 1 0 0) (7 ∷ 7 ∷ []) ≡ refuses (7 ∷ 7 ∷ []) 34
  unfolding getcwd_row working_directory names_to
  too_short some = simp some refl

  working_outside : len nodes ≡ 6 → call 17 (six 65536 2 0 0) (7 ∷ []) ≡ refuses (7 ∷ []) 14
  unfolding getcwd_row working_directory names_to
  working_outside some = simp some refl

  -- newfstatat: the path stands behind the room for the status

  status_of_f : call 79 (six at_working 65664 65536 0) (replicate 128 7 ++ text (codes "l"))
      ≡ does (at_first nodes) (status_of 2 33188 1 0 ++ text (codes "l")) 0
  unfolding newfstatat_row status_at_path path_at walk walked walked_from walked_through components_after ends_with_slash root link_to_f file inode entry
  status_of_f = simp (at_1, at_2, at_4, len-empty nat_cmp (List ℕ)) refl

  -- 0x100 doesn't follow a last link, and 0x800 has no effect
  status_of_l : call 79 (six at_working 65664 65536 0x900) (replicate 128 7 ++ text (codes "l"))
      ≡ does (at_first nodes) (status_of 4 41471 1 1 ++ text (codes "l")) 0
  unfolding newfstatat_row status_at_path path_at walk walked walked_from walked_through components_after ends_with_slash root link_to_f inode entry
  status_of_l = simp (at_1, at_4) refl

  -- of the directory and the flags the low 32 bits count
  status_by_low_words : call 79 (six at_low_working 65664 65536 (2 ^ 32 + 0x900)) (replicate 128 7 ++ text (codes "l"))
      ≡ does (at_first nodes) (status_of 4 41471 1 1 ++ text (codes "l")) 0
  unfolding newfstatat_row status_at_path path_at walk walked walked_from walked_through components_after ends_with_slash root link_to_f inode entry
  status_by_low_words = simp (at_1, at_4) refl

  -- a path that isn't empty counts under 0x1000 too
  status_of_l_under_empty : call 79 (six at_working 65664 65536 0x1100) (replicate 128 7 ++ text (codes "l"))
      ≡ does (at_first nodes) (status_of 4 41471 1 1 ++ text (codes "l")) 0
  unfolding newfstatat_row status_at_path path_at walk walked walked_from walked_through components_after ends_with_slash root link_to_f inode entry
  status_of_l_under_empty = simp (at_1, at_4) refl

  -- and an empty one from -100 means the working directory
  status_of_working : call 79 (six at_working 65664 65536 0x1000) (replicate 128 7 ++ text [])
      ≡ does (at_first nodes) (status_with 1 16877 4 4096 8 ++ text []) 0
  unfolding newfstatat_row status_at_path path_at root inode entry
  status_of_working = simp at_1 refl

  -- an empty path means the descriptor itself under 0x1000
  status_of_input : call 79 (six 0 65664 65536 0x1000) (replicate 128 7 ++ text [])
      ≡ does (at_first nodes) (u64 2 ++ u64 1 ++ u32 4480 ++ u32 1 ++ u32 0 ++ u32 0 ++ u64 0 ++ zeros 8 ++ u64 0 ++ u32 4096 ++ zeros 4 ++ u64 0 ++ zeros 48 ++ zeros 8 ++ text []) 0
  unfolding newfstatat_row status_at_path status path_at
  status_of_input = refl

  status_of_closed : call 79 (six 3 65536 65536 0x1000) (text []) ≡ refuses (text []) 9
  unfolding newfstatat_row status_at_path status path_at
  status_of_closed = refl

  status_of_nothing : call 79 (six 0 65536 65536 0) (text []) ≡ refuses (text []) 2
  unfolding newfstatat_row status_at_path path_at walk
  status_of_nothing = refl

  -- flags are looked at before the path is read
  status_with_other_flags : call 79 (six at_working 0 0 0x200) [] ≡ refuses [] 22
  unfolding newfstatat_row status_at_path
  status_with_other_flags = refl

  status_unreadable : call 79 (six at_working 0 0 0) [] ≡ refuses [] 14
  unfolding newfstatat_row status_at_path path_at
  status_unreadable = refl

  status_outside : call 79 (six 0 65536 65536 0x1000) (text [] ++ replicate 126 7) ≡ refuses (text [] ++ replicate 126 7) 14
  unfolding newfstatat_row status_at_path status path_at
  status_outside = refl

  -- utimensat: the times stand before the path, and the nanoseconds 0x3FFFFFFF mean now, 0x3FFFFFFE leave

  abbrev times : ℕ → ℕ → ℕ → ℕ → List ℕ
  times access part modified other = u64 access ++ u64 part ++ u64 modified ++ u64 other

  times_of_f : call 88 (six at_working 65568 65536 0) (times (2 ^ 64 - 1) 5 2 999_999_999 ++ text (codes "f"))
      ≡ does (with_nodes (at_first nodes) (update nodes 2 (with_times (Some (negsuc 999_999_994)) (Some (pos 2_999_999_999)) (now whole))))
      (times (2 ^ 64 - 1) 5 2 999_999_999 ++ text (codes "f")) 0
  unfolding utimensat_row set_times path_at walk walked walked_from walked_through components_after ends_with_slash root file inode entry
  times_of_f = simp (at_1, at_2) refl

  now_and_left : call 88 (six at_working 65568 65536 0x100) (times 0 0x3FFFFFFF 0 0x3FFFFFFE ++ text (codes "l"))
      ≡ does (with_nodes (at_first nodes) (update nodes 4 (with_times (Some (now whole)) None (now whole)))) (times 0 0x3FFFFFFF 0 0x3FFFFFFE ++ text (codes "l")) 0
  unfolding utimensat_row set_times path_at walk walked walked_from walked_through components_after ends_with_slash root link_to_f inode entry
  now_and_left = simp (at_1, at_4) refl

  -- where both are left as they are, the time of change is set all the same
  both_left : call 88 (six at_working 65568 65536 0) (times 0 0x3FFFFFFE 0 0x3FFFFFFE ++ text (codes "f"))
      ≡ does (with_nodes (at_first nodes) (update nodes 2 (with_times None None (now whole)))) (times 0 0x3FFFFFFE 0 0x3FFFFFFE ++ text (codes "f")) 0
  unfolding utimensat_row set_times path_at walk walked walked_from walked_through components_after ends_with_slash root file inode entry
  both_left = simp (at_1, at_2) refl

  -- of the directory and the flags the low 32 bits count
  times_by_low_words : call 88 (six at_low_working 65536 0 (2 ^ 32 + 0x100)) (text (codes "x")) ≡ refuses (text (codes "x")) 2
  unfolding utimensat_row set_times path_at walk walked walked_from walked_through components_after ends_with_slash root inode entry
  times_by_low_words = simp at_1 refl

  -- null times mean now, and a null path the descriptor itself
  times_of_open : call_with (opened nodes 5) 88 (six 3 0 0 0) []
      ≡ does (with_nodes (opened nodes 5) (update nodes 5 (with_times (Some (now whole)) (Some (now whole)) (now whole)))) [] 0
  unfolding utimensat_row set_times
  times_of_open = refl

  times_of_stream : call 88 (six 0 0 0 0x100) [] ≡ does (at_first nodes) [] 0
  unfolding utimensat_row set_times
  times_of_stream = refl

  times_of_no_path : call 88 (six at_working 0 0 0) [] ≡ refuses [] 9
  unfolding utimensat_row set_times
  times_of_no_path = refl

  -- the path is read, then the times, which are then looked at, then the flags

  times_path_unreadable : call 88 (six 99 65535 65535 1) [] ≡ refuses [] 14
  unfolding utimensat_row set_times path_at
  times_path_unreadable = refl

  times_unreadable : call 88 (six 99 0 65536 1) (replicate 31 0) ≡ refuses (replicate 31 0) 14
  unfolding utimensat_row set_times
  times_unreadable = refl

  times_wrong : call 88 (six 99 0 65536 0) (times 0 0 0 1_000_000_000) ≡ refuses (times 0 0 0 1_000_000_000) 22
  unfolding utimensat_row set_times
  times_wrong = refl

  times_with_other_flags : call 88 (six 99 0 0 0x200) [] ≡ refuses [] 22
  unfolding utimensat_row set_times
  times_with_other_flags = refl

  -- umask: nine bits, and the old one is told

  umask_bits : call 166 (six 0x1FFF 0 0 0) [] ≡ does (record (at_first nodes) { umask = 511 }) [] 18
  unfolding umask_row set_umask
  umask_bits = refl

-- getcwd from other working directories: `d`; `g` in `e`; and one that was removed

unfoldable left_root : Inode
left_root = record root { holds = 0 }

unfoldable working : Inode
working = record empty { holds = 1 }

unfoldable above : Inode
above = inode 493 3 (Directory (record { parent = Some 1; greatest = 3; entries = entry 3 (codes "g") 7 ∷ [] }))

unfoldable working_below : Inode
working_below = record working { content = Directory (record { parent = Some 6; greatest = 2; entries = [] }) }

module _ (whole : Kernel) (nodes : Nodes) (some : len nodes ≡ 6) (at_1 : get nodes 1 ≡ Some left_root) where
  abbrev within : ℕ → Files
  within directory = record (at_first nodes) { directory = directory }

  abbrev call_within : ℕ → ℕ → List ℕ → NativeStep
  call_within directory size memory = native_call 17 (six 65536 size 0 0) (with_files whole (within directory)) memory []

  in_d : get nodes 3 ≡ Some working → call_within 3 100 (replicate 4 7) ≡ leaves whole (within 3) (codes "/d" ++ 0 ∷ 7 ∷ []) [] (number 3)
  unfolding getcwd_row working_directory names_to left_root root working empty inode entry
  in_d at_3 = simp (some, at_1, at_3) refl

  in_g : get nodes 6 ≡ Some above → get nodes 7 ≡ Some working_below
      → call_within 7 100 (replicate 6 7) ≡ leaves whole (within 7) (codes "/e/g" ++ 0 ∷ 7 ∷ []) [] (number 5)
  unfolding getcwd_row working_directory names_to left_root root above working_below working empty inode entry
  in_g at_6 at_7 = simp (some, at_1, at_6, at_7) refl

  in_removed : get nodes 9 ≡ Some open_directory → call_within 9 0 [] ≡ leaves whole (within 9) [] [] (error 2)
  unfolding getcwd_row working_directory names_to open_directory inode
  in_removed at_9 = simp (some, at_9) refl

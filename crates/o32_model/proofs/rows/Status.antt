-- Worked rows on status.
use Rattle.std.specs.Prelude.{◌≡◌, ℕ, true, List, [], ◌++◌, length, replicate, codes, Some, None, Ok, Err, refl}
use Rattle.std.specs.FinMap.{get, len, len-empty}
use Rattle.std.specs.Ordering.{nat_cmp}
use Rattle.guest_space.specs.Access.{first_denied, refusal}
use Rattle.guest_space.specs.Bytes.{copied_out}
use Rattle.guest_space.specs.Memory.{Memory}
use Rattle.guest_space.specs.declared.access.Access.TheVariants.{Store}
use Rattle.kernel_core.specs.FileContent.{Blocks}
use Rattle.kernel_core.specs.Nodes.{Nodes, File}
use Rattle.kernel_core.specs.PathWalk.{components_after, ends_with_slash}
use Rattle.kernel_core.specs.Queries.{walked, walked_from, walked_through}
use Rattle.kernel_core.specs.declared.error.Errno.{Errno}
use Rattle.kernel_core.specs.declared.error.Errno.TheVariants.{EBADF, EFAULT, EINVAL, ENAMETOOLONG, ENOENT, EOVERFLOW, ENOTDIR}
use Rattle.kernel_model.specs.Begin.{first_terminal}
use Rattle.kernel_model.specs.ContentRows.{status}
use Rattle.kernel_model.specs.NodeRows.{status_at_path}
use Rattle.kernel_model.specs.Paths.{walk}
use Rattle.kernel_model.specs.State.{Kernel, Files}
use Rattle.kernel_model.specs.Whole.{with_files}
use Rattle.layouts.specs.Number.{bytes_of}
use Rattle.mips_exec.specs.Processor.{Processor}
use Rattle.o32_model.proofs.rows.Small.{at_first, with_pipe_of, with_node_at, page_of, words, guest, leaves}
use Rattle.o32_model.proofs.rows.SmallTree.{mode_and_links, root_inode, file_inode, link_inode, large_inode, aged_inode, other_root, directory_inode, long_inode}
use Rattle.o32_model.specs.Paths.{path_at}
use Rattle.o32_model.specs.Status.{stat_row, fstat_row, stat64_row, fstat64_row, fstatat64_row}
use Rattle.o32_model.specs.Step.{O32Step}
use Rattle.o32_model.specs.Table.{o32_call}
use Rattle.o32_model.specs.declared.call_words.CallWords.{CallWords}
use Rattle.o32_model.specs.declared.outcome.Outcome.{Outcome}
use Rattle.o32_model.specs.declared.outcome.Outcome.TheVariants.{Value, Error}

-- numbers of 4 and of 8 bytes, the highest byte first
abbrev u32 : ℕ → List ℕ
u32 value = bytes_of true 4 value

abbrev u64 : ℕ → List ℕ
u64 value = bytes_of true 8 value

-- so many zeros
abbrev zeros : ℕ → List ℕ
zeros count = replicate count 0

-- dev, ino, mode, nlink, uid, gid, rdev, size, then atime, mtime and ctime each with its nanoseconds, blksize, blocks, with zeros where there
-- is no field

abbrev old : ℕ → ℕ → ℕ → ℕ → ℕ → ℕ → List ℕ → ℕ → List ℕ
old device number mode links terminal size times sectors =
    u32 device ++ zeros 12 ++ u32 number ++ u32 mode ++ u32 links ++ zeros 8 ++ u32 terminal ++ zeros 8 ++ u32 size ++ zeros 4
    ++ times ++ u32 4096 ++ u32 sectors ++ zeros 56

abbrev new : ℕ → ℕ → ℕ → ℕ → ℕ → ℕ → List ℕ → ℕ → List ℕ
new device number mode links terminal size times sectors =
    u32 device ++ zeros 12 ++ u64 number ++ u32 mode ++ u32 links ++ zeros 8 ++ u32 terminal ++ zeros 12 ++ u64 size
    ++ times ++ u32 4096 ++ zeros 4 ++ u64 sectors

abbrev no_times : List ℕ
no_times = zeros 24

old_has_144 : length (old 1 2 3 4 5 6 no_times 8) ≡ 144
old_has_144 = refl

new_has_104 : length (new 1 2 3 4 5 6 no_times 8) ≡ 104
new_has_104 = refl

module _ (whole : Kernel) (nodes : Nodes) (processor : Processor) (memory : Memory) where
  abbrev called : Kernel → CallWords → O32Step
  called kernel call = o32_call kernel (guest call processor memory) []

  abbrev at_start : CallWords → O32Step
  at_start call = called (with_files whole (at_first nodes)) call

  abbrev stays : Files → Outcome → O32Step
  stays files outcome = leaves whole files processor memory [] outcome

  abbrev refuses : Errno → O32Step
  refuses error = stays (at_first nodes) (Error error)

  -- node 5 is at descriptor 3
  abbrev with_node : ℕ → CallWords → O32Step
  with_node position call = called (with_files whole (with_node_at nodes position)) call

  abbrev node_stays : ℕ → Outcome → O32Step
  node_stays position outcome = stays (with_node_at nodes position) outcome

  -- these are stored
  abbrev stores : Files → List ℕ → O32Step
  stores files bytes = leaves whole files processor (copied_out memory 65792 bytes) [] (Value 0)

  -- of a descriptor

  fstat_output : first_denied Store memory.pages 65792 144 ≡ None → at_start (words 4108 1 65792 0 0) ≡ stores (at_first nodes) (old 2 2 4480 1 0 0 no_times 0)
  unfolding fstat_row status
  fstat_output room = simp room refl

  fstat64_output : first_denied Store memory.pages 65792 104 ≡ None → at_start (words 4215 1 65792 0 0) ≡ stores (at_first nodes) (new 2 2 4480 1 0 0 no_times 0)
  unfolding fstat64_row status
  fstat64_output room = simp room refl

  abbrev on_terminal : Files
  on_terminal = record (at_first nodes) { terminal = Some (first_terminal (record { rows = 25; cols = 80 })) }

  fstat_terminal : first_denied Store memory.pages 65792 144 ≡ None → called (with_files whole on_terminal) (words 4108 0 65792 0 0) ≡ stores on_terminal (old 2 1 8592 1 0x8800 0 no_times 0)
  unfolding fstat_row status
  fstat_terminal room = simp room refl

  fstat64_pipe : first_denied Store memory.pages 65792 104 ≡ None → called (with_files whole (with_pipe_of nodes [])) (words 4215 4 65792 0 0) ≡ stores (with_pipe_of nodes []) (new 2 4 4480 1 0 0 no_times 0)
  unfolding fstat64_row status
  fstat64_pipe room = simp room refl

  fstat_closed : at_start (words 4108 3 0x8000_0000 0 0) ≡ refuses EBADF
  unfolding fstat_row status
  fstat_closed = refl

  fstat64_closed : at_start (words 4215 3 0x8000_0000 0 0) ≡ refuses EBADF
  unfolding fstat64_row status
  fstat64_closed = refl

  fstat_unstored : get memory.pages 17 ≡ None → at_start (words 4108 1 69632 0 0) ≡ refuses EFAULT
  unfolding fstat_row status first_denied refusal
  fstat_unstored absent = simp absent refl

  fstat64_unstored : get memory.pages 17 ≡ None → at_start (words 4215 1 69632 0 0) ≡ refuses EFAULT
  unfolding fstat64_row status first_denied refusal
  fstat64_unstored absent = simp absent refl

  fstat_last_byte_absent : (held : List ℕ) → get memory.pages 16 ≡ Some (page_of held) → get memory.pages 17 ≡ None → at_start (words 4108 1 69489 0 0) ≡ refuses EFAULT
  unfolding fstat_row status first_denied refusal
  fstat_last_byte_absent held kept absent = simp (kept, absent) refl

  -- a size of 2^31, which is told before the structure is stored
  fstat_wide : get nodes 5 ≡ Some large_inode → with_node 0 (words 4108 3 0x8000_0000 0 0) ≡ node_stays 0 (Error EOVERFLOW)
  unfolding fstat_row status large_inode mode_and_links
  fstat_wide at_5 = simp at_5 refl

  -- and one of 2^31 - 1, and one of two blocks, of which each counts eight units of 512 bytes
  fstat_longest : first_denied Store memory.pages 65792 144 ≡ None → get nodes 5 ≡ Some long_inode → with_node 0 (words 4108 3 65792 0 0) ≡ stores (with_node_at nodes 0) (old 1 5 33188 1 0 0x7FFF_FFFF no_times 0)
  unfolding fstat_row status long_inode mode_and_links
  fstat_longest room at_5 = simp (room, at_5, len-empty nat_cmp (List ℕ)) refl

  fstat_two_blocks : (blocks : Blocks) → first_denied Store memory.pages 65792 144 ≡ None → len blocks ≡ 2 → get nodes 5 ≡ Some (mode_and_links 420 1 (File (record { size = 8192; blocks = blocks }))) → with_node 0 (words 4108 3 65792 0 0) ≡ stores (with_node_at nodes 0) (old 1 5 33188 1 0 8192 no_times 16)
  unfolding fstat_row status mode_and_links
  fstat_two_blocks blocks room two at_5 = simp (room, at_5, two) refl

  fstat64_large : first_denied Store memory.pages 65792 104 ≡ None → get nodes 5 ≡ Some large_inode → with_node 0 (words 4215 3 65792 0 0) ≡ stores (with_node_at nodes 0) (new 1 5 33188 1 0 0x8000_0000 no_times 0)
  unfolding fstat64_row status large_inode mode_and_links
  fstat64_large room at_5 = simp (room, at_5, len-empty nat_cmp (List ℕ)) refl

  -- of a path that can't be read, and one that names nothing

  stat_unread : path_at memory 65536 ≡ Err EFAULT → at_start (words 4106 65536 0x8000_0000 0 0) ≡ refuses EFAULT
  unfolding stat_row status_at_path
  stat_unread unread = simp unread refl

  lstat_too_long : path_at memory 65536 ≡ Err ENAMETOOLONG → at_start (words 4107 65536 0x8000_0000 0 0) ≡ refuses ENAMETOOLONG
  unfolding stat_row status_at_path
  lstat_too_long long = simp long refl

  stat64_empty : path_at memory 65536 ≡ Ok (codes "") → at_start (words 4213 65536 0x8000_0000 0 0) ≡ refuses ENOENT
  unfolding stat64_row status_at_path walk
  stat64_empty path = simp path refl

  lstat64_unread : path_at memory 65536 ≡ Err EFAULT → at_start (words 4214 65536 0x8000_0000 0 0) ≡ refuses EFAULT
  unfolding stat64_row status_at_path
  lstat64_unread unread = simp unread refl

  fstatat64_unread : path_at memory 65536 ≡ Err EFAULT → at_start (words 4293 9 65536 0x8000_0000 0) ≡ refuses EFAULT
  unfolding fstatat64_row status_at_path
  fstatat64_unread unread = simp unread refl

  fstatat64_closed : path_at memory 65536 ≡ Ok (codes "f") → at_start (words 4293 9 65536 0x8000_0000 0) ≡ refuses EBADF
  unfolding fstatat64_row status_at_path walk
  fstatat64_closed path = simp path refl

  fstatat64_stream : path_at memory 65536 ≡ Ok (codes "f") → at_start (words 4293 0 65536 0x8000_0000 0) ≡ refuses ENOTDIR
  unfolding fstatat64_row status_at_path walk
  fstatat64_stream path = simp path refl

  -- a flag that is not listed comes before the path
  fstatat64_unlisted : at_start (words 4293 9 0x8000_0000 0x8000_0000 0x200) ≡ refuses EINVAL
  unfolding fstatat64_row status_at_path
  fstatat64_unlisted = refl

  -- an empty path under 0x1000: the descriptor itself, and the working directory

  descriptor_itself : first_denied Store memory.pages 65792 104 ≡ None → path_at memory 65536 ≡ Ok (codes "") → at_start (words 4293 1 65536 65792 0x1000) ≡ stores (at_first nodes) (new 2 2 4480 1 0 0 no_times 0)
  unfolding fstatat64_row status_at_path status
  descriptor_itself room path = simp (room, path) refl

  closed_itself : path_at memory 65536 ≡ Ok (codes "") → at_start (words 4293 9 65536 65792 0x1000) ≡ refuses EBADF
  unfolding fstatat64_row status_at_path status
  closed_itself path = simp path refl

  working_directory_itself : first_denied Store memory.pages 65792 104 ≡ None → path_at memory 65536 ≡ Ok (codes "") → get nodes 1 ≡ Some root_inode → at_start (words 4293 0xFFFF_FF9C 65536 65792 0x1000) ≡ stores (at_first nodes) (new 1 1 16877 3 0 4096 no_times 8)
  unfolding fstatat64_row status_at_path root_inode mode_and_links
  working_directory_itself room path at_1 = simp (room, path, at_1) refl

  module _ (at_1 : get nodes 1 ≡ Some root_inode) where
    stat_missing : path_at memory 65536 ≡ Ok (codes "n") → at_start (words 4106 65536 0x8000_0000 0 0) ≡ refuses ENOENT
    unfolding stat_row status_at_path walk walked walked_from walked_through components_after ends_with_slash root_inode mode_and_links
    stat_missing path = simp (path, at_1) refl

    stat_directory : first_denied Store memory.pages 65792 144 ≡ None → get nodes 3 ≡ Some directory_inode → path_at memory 65536 ≡ Ok (codes "d") → at_start (words 4106 65536 65792 0 0) ≡ stores (at_first nodes) (old 1 3 16877 2 0 4096 no_times 8)
    unfolding stat_row status_at_path walk walked walked_from walked_through components_after ends_with_slash root_inode mode_and_links directory_inode
    stat_directory room at_3 path = simp (room, path, at_1, at_3) refl

    -- the file `f`, by its name and by the link `l`, and the link itself
    module _ (at_2 : get nodes 2 ≡ Some file_inode) (at_4 : get nodes 4 ≡ Some link_inode) where
      stat_file : first_denied Store memory.pages 65792 144 ≡ None → path_at memory 65536 ≡ Ok (codes "f") → at_start (words 4106 65536 65792 0 0) ≡ stores (at_first nodes) (old 1 2 33188 1 0 0 no_times 0)
      unfolding stat_row status_at_path walk walked walked_from walked_through components_after ends_with_slash root_inode mode_and_links file_inode link_inode
      stat_file room path = simp (room, path, at_1, at_2, len-empty nat_cmp (List ℕ)) refl

      stat_link : first_denied Store memory.pages 65792 144 ≡ None → path_at memory 65536 ≡ Ok (codes "l") → at_start (words 4106 65536 65792 0 0) ≡ stores (at_first nodes) (old 1 2 33188 1 0 0 no_times 0)
      unfolding stat_row status_at_path walk walked walked_from walked_through components_after ends_with_slash root_inode mode_and_links file_inode link_inode
      stat_link room path = simp (room, path, at_1, at_2, at_4, len-empty nat_cmp (List ℕ)) refl

      lstat_file : first_denied Store memory.pages 65792 144 ≡ None → path_at memory 65536 ≡ Ok (codes "f") → at_start (words 4107 65536 65792 0 0) ≡ stores (at_first nodes) (old 1 2 33188 1 0 0 no_times 0)
      unfolding stat_row status_at_path walk walked walked_from walked_through components_after ends_with_slash root_inode mode_and_links file_inode link_inode
      lstat_file room path = simp (room, path, at_1, at_2, len-empty nat_cmp (List ℕ)) refl

      lstat_link : first_denied Store memory.pages 65792 144 ≡ None → path_at memory 65536 ≡ Ok (codes "l") → at_start (words 4107 65536 65792 0 0) ≡ stores (at_first nodes) (old 1 4 41471 1 0 1 no_times 0)
      unfolding stat_row status_at_path walk walked walked_from walked_through components_after ends_with_slash root_inode mode_and_links file_inode link_inode
      lstat_link room path = simp (room, path, at_1, at_4) refl

      stat64_link : first_denied Store memory.pages 65792 104 ≡ None → path_at memory 65536 ≡ Ok (codes "l") → at_start (words 4213 65536 65792 0 0) ≡ stores (at_first nodes) (new 1 2 33188 1 0 0 no_times 0)
      unfolding stat64_row status_at_path walk walked walked_from walked_through components_after ends_with_slash root_inode mode_and_links file_inode link_inode
      stat64_link room path = simp (room, path, at_1, at_2, at_4, len-empty nat_cmp (List ℕ)) refl

      lstat64_link : first_denied Store memory.pages 65792 104 ≡ None → path_at memory 65536 ≡ Ok (codes "l") → at_start (words 4214 65536 65792 0 0) ≡ stores (at_first nodes) (new 1 4 41471 1 0 1 no_times 0)
      unfolding stat64_row status_at_path walk walked walked_from walked_through components_after ends_with_slash root_inode mode_and_links file_inode link_inode
      lstat64_link room path = simp (room, path, at_1, at_4) refl

      -- 0x800 says nothing, and 0x100 that a last link is not followed
      fstatat64_link : first_denied Store memory.pages 65792 104 ≡ None → path_at memory 65536 ≡ Ok (codes "l") → at_start (words 4293 0xFFFF_FF9C 65536 65792 0x800) ≡ stores (at_first nodes) (new 1 2 33188 1 0 0 no_times 0)
      unfolding fstatat64_row status_at_path walk walked walked_from walked_through components_after ends_with_slash root_inode mode_and_links file_inode link_inode
      fstatat64_link room path = simp (room, path, at_1, at_2, at_4, len-empty nat_cmp (List ℕ)) refl

      fstatat64_link_itself : first_denied Store memory.pages 65792 104 ≡ None → path_at memory 65536 ≡ Ok (codes "/l") → at_start (words 4293 9 65536 65792 0x1100) ≡ stores (at_first nodes) (new 1 4 41471 1 0 1 no_times 0)
      unfolding fstatat64_row status_at_path walk walked walked_from walked_through components_after ends_with_slash root_inode mode_and_links file_inode link_inode
      fstatat64_link_itself room path = simp (room, path, at_1, at_4) refl

    -- the file `w`: its number has more than 32 bits, its time of modification lies before the Epoch, and of the seconds of its change the low
    -- 32 bits are kept
    module _ (at_w : get nodes 0x1_0000_0001 ≡ Some aged_inode) where
      stat_wide : path_at memory 65536 ≡ Ok (codes "w") → at_start (words 4106 65536 0x8000_0000 0 0) ≡ refuses EOVERFLOW
      unfolding stat_row status_at_path walk walked walked_from walked_through components_after ends_with_slash root_inode mode_and_links aged_inode
      stat_wide path = simp (path, at_1, at_w) refl

      lstat_wide : path_at memory 65536 ≡ Ok (codes "w") → at_start (words 4107 65536 0x8000_0000 0 0) ≡ refuses EOVERFLOW
      unfolding stat_row status_at_path walk walked walked_from walked_through components_after ends_with_slash root_inode mode_and_links aged_inode
      lstat_wide path = simp (path, at_1, at_w) refl

      stat64_wide : first_denied Store memory.pages 65792 104 ≡ None → path_at memory 65536 ≡ Ok (codes "w") → at_start (words 4213 65536 65792 0 0) ≡ stores (at_first nodes)
          (new 1 0x1_0000_0001 33188 1 0 0 (zeros 8 ++ u32 0xFFFF_FFFF ++ u32 500_000_000 ++ u32 3 ++ u32 5) 0)
      unfolding stat64_row status_at_path walk walked walked_from walked_through components_after ends_with_slash root_inode mode_and_links aged_inode
      stat64_wide room path = simp (room, path, at_1, at_w, len-empty nat_cmp (List ℕ)) refl

  -- the number 2^32 - 1 is not too wide
  stat_greatest_number : get nodes 1 ≡ Some other_root → get nodes 0xFFFF_FFFF ≡ Some file_inode → first_denied Store memory.pages 65792 144 ≡ None → path_at memory 65536 ≡ Ok (codes "m") → at_start (words 4106 65536 65792 0 0) ≡ stores (at_first nodes) (old 1 0xFFFF_FFFF 33188 1 0 0 no_times 0)
  unfolding stat_row status_at_path walk walked walked_from walked_through components_after ends_with_slash other_root file_inode mode_and_links
  stat_greatest_number at_1 at_m room path = simp (room, path, at_1, at_m, len-empty nat_cmp (List ℕ)) refl

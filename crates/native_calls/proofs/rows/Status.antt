-- Worked rows on what a descriptor has open: places, status, entries, syncing.
use Rattle.std.specs.Prelude.{◌≡◌, ℕ, ◌-◌, ◌^◌, List, [], ◌∷◌, ◌++◌, replicate, Some, refl}
use Rattle.std.specs.FinMap.{get, len-empty}
use Rattle.std.specs.Ordering.{nat_cmp}
use Rattle.kernel_core.specs.Nodes.{Nodes}
use Rattle.kernel_model.specs.ContentRows.{seek, status, entries, sync}
use Rattle.kernel_model.specs.State.{Kernel}
use Rattle.kernel_model.specs.Whole.{with_files}
use Rattle.native_calls.proofs.rows.Small.{aged_file, at_first, empty_file, error, inode, leaves, number, on_a_terminal, removed_directory, six, some_directory, u32, u64, with_node_at, with_pipe_of, zeros}
use Rattle.native_calls.specs.Status.{lseek_row, fstat_row, sync_row, getdents_row}
use Rattle.native_calls.specs.Step.{NativeStep}
use Rattle.native_calls.specs.Table.{native_call}

module _ (whole : Kernel) (nodes : Nodes) where
  abbrev at_start : ℕ → List ℕ → List ℕ → NativeStep
  at_start call args memory = native_call call args (with_files whole (at_first nodes)) memory []

  abbrev refuses : List ℕ → ℕ → NativeStep
  refuses memory value = leaves whole (at_first nodes) memory [] (error value)

  -- node 5 is at descriptor 3
  abbrev with_node : ℕ → ℕ → List ℕ → List ℕ → NativeStep
  with_node position call args memory = native_call call args (with_files whole (with_node_at nodes position)) memory []

  abbrev node_left_at : ℕ → List ℕ → NativeStep
  node_left_at position memory = leaves whole (with_node_at nodes position) memory [] (number position)

  abbrev refuses_with_node : ℕ → List ℕ → ℕ → NativeStep
  refuses_with_node position memory value = leaves whole (with_node_at nodes position) memory [] (error value)

  -- lseek

  seek_stream : at_start 62 (six 0 0 0 0) [] ≡ refuses [] 29
  unfolding lseek_row seek
  seek_stream = refl

  seek_closed : at_start 62 (six 3 0 9 0) [] ≡ refuses [] 9
  unfolding lseek_row seek
  seek_closed = refl

  seek_pipe : native_call 62 (six 3 0 0 0) (with_files whole (with_pipe_of nodes [])) [] [] ≡ leaves whole (with_pipe_of nodes []) [] [] (error 29)
  unfolding lseek_row seek
  seek_pipe = refl

  -- a directory has no end
  seek_from_end_of_directory : get nodes 5 ≡ Some some_directory → with_node 0 62 (six 3 0 2 0) [] ≡ refuses_with_node 0 [] 22
  unfolding lseek_row seek some_directory
  seek_from_end_of_directory kept = simp kept refl

  -- a file that is empty
  module _ (kept : get nodes 5 ≡ Some empty_file) where
    seek_from_start : with_node 7 62 (six 3 5 0 0) [] ≡ node_left_at 5 []
    unfolding lseek_row seek
    seek_from_start = refl

    -- back by 2
    seek_from_position : with_node 7 62 (six 3 (2 ^ 64 - 2) 1 0) [] ≡ node_left_at 5 []
    unfolding lseek_row seek
    seek_from_position = refl

    seek_from_end : with_node 7 62 (six 3 0x80000000 2 0) [] ≡ node_left_at 0x80000000 []
    unfolding lseek_row seek empty_file
    seek_from_end = simp kept refl

    seek_to_greatest : with_node 7 62 (six 3 (2 ^ 44) 0 0) [] ≡ node_left_at 17592186044416 []
    unfolding lseek_row seek
    seek_to_greatest = refl

    seek_past_greatest : with_node 7 62 (six 3 (2 ^ 44 - 6) 1 0) [] ≡ refuses_with_node 7 [] 22
    unfolding lseek_row seek
    seek_past_greatest = refl

    seek_before_start : with_node 7 62 (six 3 (2 ^ 64 - 8) 1 0) [] ≡ refuses_with_node 7 [] 22
    unfolding lseek_row seek
    seek_before_start = refl

    seek_from_nowhere : with_node 7 62 (six 3 0 3 0) [] ≡ refuses_with_node 7 [] 22
    unfolding lseek_row seek
    seek_from_nowhere = refl

  -- fstat: dev, ino, mode, nlink, uid, gid, rdev, 8 bytes of nothing, size, blksize, 4 bytes of nothing, blocks, the times of access,
  -- modification and change, each seconds and nanoseconds, and 8 bytes of nothing

  status_of_output : at_start 80 (six 1 65536 0 0) (replicate 129 7) ≡ leaves whole (at_first nodes)
      (u64 2 ++ u64 2 ++ u32 4480 ++ u32 1 ++ u32 0 ++ u32 0 ++ u64 0 ++ zeros 8 ++ u64 0 ++ u32 4096 ++ zeros 4 ++ u64 0 ++ zeros 48 ++ zeros 8 ++ 7 ∷ [])
      [] (number 0)
  unfolding fstat_row status
  status_of_output = refl

  -- modified half a second before the Epoch, and changed 3 seconds and 5 nanoseconds past it
  status_of_file : get nodes 5 ≡ Some aged_file → with_node 0 80 (six 3 65536 0 0) (replicate 129 7) ≡ leaves whole (with_node_at nodes 0)
      (u64 1 ++ u64 5 ++ u32 33188 ++ u32 1 ++ u32 0 ++ u32 0 ++ u64 0 ++ zeros 8 ++ u64 0 ++ u32 4096 ++ zeros 4 ++ u64 0
      ++ zeros 16 ++ u64 (2 ^ 64 - 1) ++ u64 500_000_000 ++ u64 3 ++ u64 5 ++ zeros 8 ++ 7 ∷ [])
      [] (number 0)
  unfolding fstat_row status aged_file
  status_of_file kept = simp (kept, len-empty nat_cmp (List ℕ)) refl

  status_of_terminal : native_call 80 (six 0 65536 0 0) (with_files whole (on_a_terminal (at_first nodes))) (replicate 129 7) [] ≡ leaves whole (on_a_terminal (at_first nodes))
      (u64 2 ++ u64 1 ++ u32 8592 ++ u32 1 ++ u32 0 ++ u32 0 ++ u64 0x8800 ++ zeros 8 ++ u64 0 ++ u32 4096 ++ zeros 4 ++ u64 0 ++ zeros 48 ++ zeros 8 ++ 7 ∷ [])
      [] (number 0)
  unfolding fstat_row status
  status_of_terminal = refl

  status_of_pipe : native_call 80 (six 4 65536 0 0) (with_files whole (with_pipe_of nodes (1 ∷ []))) (replicate 129 7) [] ≡ leaves whole (with_pipe_of nodes (1 ∷ []))
      (u64 2 ++ u64 4 ++ u32 4480 ++ u32 1 ++ u32 0 ++ u32 0 ++ u64 0 ++ zeros 8 ++ u64 0 ++ u32 4096 ++ zeros 4 ++ u64 0 ++ zeros 48 ++ zeros 8 ++ 7 ∷ [])
      [] (number 0)
  unfolding fstat_row status
  status_of_pipe = refl

  status_of_directory : get nodes 5 ≡ Some some_directory → with_node 0 80 (six 3 65536 0 0) (replicate 129 7) ≡ leaves whole (with_node_at nodes 0)
      (u64 1 ++ u64 5 ++ u32 16804 ++ u32 2 ++ u32 0 ++ u32 0 ++ u64 0 ++ zeros 8 ++ u64 4096 ++ u32 4096 ++ zeros 4 ++ u64 8 ++ zeros 48 ++ zeros 8 ++ 7 ∷ [])
      [] (number 0)
  unfolding fstat_row status some_directory inode
  status_of_directory kept = simp kept refl

  status_outside : at_start 80 (six 1 65538 0 0) (replicate 129 7) ≡ refuses (replicate 129 7) 14
  unfolding fstat_row status
  status_outside = refl

  status_of_closed : at_start 80 (six 3 0 0 0) [] ≡ refuses [] 9
  unfolding fstat_row status
  status_of_closed = refl

  -- fsync and fdatasync

  sync_file : with_node 0 82 (six 3 0 0 0) [] ≡ node_left_at 0 []
  unfolding sync_row sync
  sync_file = refl

  sync_data_of_file : with_node 0 83 (six 3 0 0 0) [] ≡ node_left_at 0 []
  unfolding sync_row sync
  sync_data_of_file = refl

  sync_stream : at_start 82 (six 1 0 0 0) [] ≡ refuses [] 22
  unfolding sync_row sync
  sync_stream = refl

  sync_data_of_closed : at_start 83 (six 3 0 0 0) [] ≡ refuses [] 9
  unfolding sync_row sync
  sync_data_of_closed = refl

  sync_closed : at_start 82 (six 3 0 0 0) [] ≡ refuses [] 9
  unfolding sync_row sync
  sync_closed = refl

  sync_data_of_stream : at_start 83 (six 1 0 0 0) [] ≡ refuses [] 22
  unfolding sync_row sync
  sync_data_of_stream = refl

  sync_pipe : native_call 82 (six 4 0 0 0) (with_files whole (with_pipe_of nodes [])) [] [] ≡ leaves whole (with_pipe_of nodes []) [] [] (error 22)
  unfolding sync_row sync
  sync_pipe = refl

  -- getdents64

  entries_of_stream : at_start 61 (six 0 65536 100 0) [] ≡ refuses [] 20
  unfolding getdents_row entries
  entries_of_stream = refl

  entries_of_closed : at_start 61 (six 3 65536 100 0) [] ≡ refuses [] 9
  unfolding getdents_row entries
  entries_of_closed = refl

  entries_of_file : get nodes 5 ≡ Some empty_file → with_node 0 61 (six 3 65536 100 0) [] ≡ refuses_with_node 0 [] 20
  unfolding getdents_row entries empty_file
  entries_of_file kept = simp kept refl

  entries_of_removed : get nodes 5 ≡ Some removed_directory → with_node 0 61 (six 3 65536 100 0) [] ≡ refuses_with_node 0 [] 2
  unfolding getdents_row entries removed_directory
  entries_of_removed kept = simp kept refl

  -- an entry: ino, off, reclen of 2 bytes, type, name, NULs
  module _ (kept : get nodes 5 ≡ Some some_directory) where
    abbrev dots : List ℕ
    dots = u64 5 ++ u64 1 ++ 24 ∷ 0 ∷ 4 ∷ 46 ∷ 0 ∷ 0 ∷ 0 ∷ 0 ∷ u64 1 ++ u64 2 ++ 24 ∷ 0 ∷ 4 ∷ 46 ∷ 46 ∷ 0 ∷ 0 ∷ 0 ∷ []

    -- 71 bytes hold `.` and `..`, and the position is then 2
    dots_first : with_node 0 61 (six 3 65536 71 0) (replicate 72 7) ≡ leaves whole (with_node_at nodes 2) (dots ++ replicate 24 7) [] (number 48)
    unfolding getdents_row entries some_directory
    dots_first = simp kept refl

    then_the_file : get nodes 8 ≡ Some empty_file → with_node 2 61 (six 3 65536 71 0) (replicate 24 7)
        ≡ leaves whole (with_node_at nodes 3) (u64 8 ++ u64 3 ++ 24 ∷ 0 ∷ 8 ∷ 97 ∷ 0 ∷ 0 ∷ 0 ∷ 0 ∷ []) [] (number 24)
    unfolding getdents_row entries some_directory empty_file
    then_the_file other = simp (kept, other) refl

    -- at the end no byte is wanted of the buffer
    then_nothing : with_node 3 61 (six 3 0 71 0) [] ≡ leaves whole (with_node_at nodes 3) [] [] (number 0)
    unfolding getdents_row entries some_directory
    then_nothing = simp kept refl

    entries_too_small : with_node 0 61 (six 3 65536 23 0) (replicate 24 7) ≡ refuses_with_node 0 (replicate 24 7) 22
    unfolding getdents_row entries some_directory
    entries_too_small = simp kept refl

    -- the size is 32 bits
    entries_low_bits : with_node 0 61 (six 3 65536 (2 ^ 32) 0) (replicate 24 7) ≡ refuses_with_node 0 (replicate 24 7) 22
    unfolding getdents_row entries some_directory
    entries_low_bits = simp kept refl

    -- a byte is missing: nothing is written, and the position stays
    entries_outside : with_node 0 61 (six 3 65537 71 0) (replicate 48 7) ≡ refuses_with_node 0 (replicate 48 7) 14
    unfolding getdents_row entries some_directory
    entries_outside = simp kept refl

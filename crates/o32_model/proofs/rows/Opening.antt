-- Worked rows on opening and seeking.
use Rattle.std.specs.Prelude.{◌≡◌, ℕ, List, true, [], ◌∷◌, codes, Some, None, Ok, Err, refl, replicate}
use Rattle.std.specs.FinMap.{get, len}
use Rattle.guest_space.specs.Access.{first_denied, refusal}
use Rattle.guest_space.specs.Bytes.{copied_out}
use Rattle.guest_space.specs.Memory.{Memory}
use Rattle.kernel_core.specs.NodeCalls.{after_resize}
use Rattle.kernel_core.specs.Nodes.{Nodes}
use Rattle.kernel_core.specs.OpenSet.{OpenSet}
use Rattle.kernel_core.specs.PathWalk.{components_after, ends_with_slash}
use Rattle.kernel_core.specs.Queries.{new_number, walked, walked_from, walked_through}
use Rattle.kernel_core.specs.Totals.{live_entries}
use Rattle.kernel_core.specs.declared.error.Errno.{Errno}
use Rattle.kernel_core.specs.declared.error.Errno.TheVariants.{EBADF, EEXIST, EFAULT, EINVAL, EISDIR, ELOOP, EMFILE, ENAMETOOLONG, ENOENT, ENOSPC, ENOTDIR, EOVERFLOW, ESPIPE}
use Rattle.kernel_core.specs.declared.open_flags.Access.TheVariants.{Read, Write, ReadWrite}
use Rattle.kernel_model.specs.Clock.{now}
use Rattle.kernel_model.specs.ContentRows.{seek}
use Rattle.kernel_model.specs.Descriptions.{no_flags}
use Rattle.kernel_model.specs.Opening.{open_file, after_open, create}
use Rattle.kernel_model.specs.Paths.{walk}
use Rattle.kernel_model.specs.State.{Kernel, Files}
use Rattle.kernel_model.specs.Whole.{with_files}
use Rattle.mips_exec.specs.Processor.{Processor}
use Rattle.o32_model.proofs.rows.Small.{to, at_first, streams_alone, with_pipe_of, with_node_at, page_of, words, guest, leaves}
use Rattle.o32_model.proofs.rows.SmallTree.{mode_and_links, root_inode, file_inode, directory_inode, link_inode, large_inode, missing, words_of_five, removed_inode, circle_inode, long_inode}
use Rattle.o32_model.specs.Opening.{open_row, creat_flags, lseek_row, llseek_row}
use Rattle.o32_model.specs.Paths.{path_at}
use Rattle.o32_model.specs.Step.{O32Step}
use Rattle.o32_model.specs.Table.{o32_call}
use Rattle.o32_model.specs.declared.call_words.CallWords.{CallWords}
use Rattle.o32_model.specs.declared.outcome.Outcome.{Outcome}
use Rattle.o32_model.specs.declared.outcome.Outcome.TheVariants.{Value, Error}

module _ (whole : Kernel) (nodes : Nodes) (processor : Processor) (memory : Memory) where
  abbrev called : Kernel → CallWords → O32Step
  called kernel call = o32_call kernel (guest call processor memory) []

  abbrev at_start : CallWords → O32Step
  at_start call = called (with_files whole (at_first nodes)) call

  abbrev stays : Files → Outcome → O32Step
  stays files outcome = leaves whole files processor memory [] outcome

  abbrev refuses : Errno → O32Step
  refuses error = stays (at_first nodes) (Error error)

  -- node 5 is at descriptor 3
  abbrev with_node : ℕ → CallWords → O32Step
  with_node position call = called (with_files whole (with_node_at nodes position)) call

  abbrev node_stays : ℕ → Outcome → O32Step
  node_stays position outcome = stays (with_node_at nodes position) outcome

  -- Checks before the path is looked at: the access mode 3, a flag that is not listed, SYNC without DSYNC, and CREAT with DIRECTORY

  open_without_mode : at_start (words 4005 0x8000_0000 3 0 0) ≡ refuses EINVAL
  unfolding open_row open_file
  open_without_mode = refl

  open_unlisted : at_start (words 4005 0x8000_0000 0x40 0 0) ≡ refuses EINVAL
  unfolding open_row open_file
  open_unlisted = refl

  open_half_synced : at_start (words 4005 0x8000_0000 0x4000 0 0) ≡ refuses EINVAL
  unfolding open_row open_file
  open_half_synced = refl

  open_makes_directory : at_start (words 4005 0x8000_0000 0x10100 0 0) ≡ refuses EINVAL
  unfolding open_row open_file
  open_makes_directory = refl

  open_unread : path_at memory 65536 ≡ Err EFAULT → at_start (words 4005 65536 0 0 0) ≡ refuses EFAULT
  unfolding open_row open_file
  open_unread unread = simp unread refl

  open_too_long : path_at memory 65536 ≡ Err ENAMETOOLONG → at_start (words 4005 65536 0 0 0) ≡ refuses ENAMETOOLONG
  unfolding open_row open_file
  open_too_long long = simp long refl

  creat_unread : path_at memory 65536 ≡ Err EFAULT → at_start (words 4008 65536 420 0 0) ≡ refuses EFAULT
  unfolding open_row open_file
  creat_unread unread = simp unread refl

  openat_unread : path_at memory 65536 ≡ Err EFAULT → at_start (words 4288 9 65536 0 0) ≡ refuses EFAULT
  unfolding open_row open_file
  openat_unread unread = simp unread refl

  openat_unlisted : at_start (words 4288 9 0x8000_0000 0x40 0) ≡ refuses EINVAL
  unfolding open_row open_file
  openat_unlisted = refl

  -- of four places none is free, which comes before the walk
  abbrev none_free : Files
  none_free = record (at_first nodes) { table = record streams_alone { fds = to 0 ∷ to 1 ∷ to 2 ∷ to 0 ∷ [] } }

  open_none_free : path_at memory 65536 ≡ Ok (codes "f") → called (with_files whole none_free) (words 4005 65536 0 0 0) ≡ stays none_free (Error EMFILE)
  unfolding open_row open_file
  open_none_free path = simp path refl

  -- also where the name is not there and would be made
  open_new_none_free : path_at memory 65536 ≡ Ok (codes "n") → called (with_files whole none_free) (words 4005 65536 0x101 420 0) ≡ stays none_free (Error EMFILE)
  unfolding open_row open_file
  open_new_none_free path = simp path refl

  openat_closed : path_at memory 65536 ≡ Ok (codes "f") → at_start (words 4288 9 65536 0 0) ≡ refuses EBADF
  unfolding open_row open_file walk
  openat_closed path = simp path refl

  openat_stream : path_at memory 65536 ≡ Ok (codes "f") → at_start (words 4288 0 65536 0 0) ≡ refuses ENOTDIR
  unfolding open_row open_file walk
  openat_stream path = simp path refl

  openat_empty : path_at memory 65536 ≡ Ok (codes "") → at_start (words 4288 9 65536 0 0) ≡ refuses ENOENT
  unfolding open_row open_file walk
  openat_empty path = simp path refl

  module _ (at_1 : get nodes 1 ≡ Some root_inode) where
    open_missing : path_at memory 65536 ≡ Ok (codes "n") → at_start (words 4005 65536 0 0 0) ≡ refuses ENOENT
    unfolding open_row open_file walk walked walked_from walked_through components_after ends_with_slash root_inode mode_and_links
    open_missing path = simp (path, at_1) refl

    -- a new file has the mode's bits that the umask leaves
    abbrev made : ℕ → Files
    made mode = create (at_first nodes) (now whole) mode (missing (codes "n"))

    abbrev makes : OpenSet
    makes = record (no_flags Write) { creat = true }

    open_new : path_at memory 65536 ≡ Ok (codes "n") → len nodes ≡ 6 → live_entries nodes ≡ 5 → at_start (words 4005 65536 0x101 511 0) ≡ stays (after_open (made 511) makes 3 (new_number nodes)) (Value 3)
    unfolding open_row open_file walk walked walked_from walked_through components_after ends_with_slash root_inode mode_and_links
    open_new path few entries = simp (path, few, entries, at_1) refl

    openat_new : path_at memory 65536 ≡ Ok (codes "n") → len nodes ≡ 6 → live_entries nodes ≡ 5 → at_start (words 4288 0xFFFF_FF9C 65536 0x101 420) ≡ stays (after_open (made 420) makes 3 (new_number nodes)) (Value 3)
    unfolding open_row open_file walk walked walked_from walked_through components_after ends_with_slash root_inode mode_and_links
    openat_new path few entries = simp (path, few, entries, at_1) refl

    creat_new : path_at memory 65536 ≡ Ok (codes "n") → len nodes ≡ 6 → live_entries nodes ≡ 5 → at_start (words 4008 65536 420 0 0) ≡ stays (after_open (made 420) creat_flags 3 (new_number nodes)) (Value 3)
    unfolding open_row open_file walk walked walked_from walked_through components_after ends_with_slash root_inode mode_and_links
    creat_new path few entries = simp (path, few, entries, at_1) refl

    open_no_room : path_at memory 65536 ≡ Ok (codes "n") → len nodes ≡ 65_536 → at_start (words 4005 65536 0x101 511 0) ≡ refuses ENOSPC
    unfolding open_row open_file walk walked walked_from walked_through components_after ends_with_slash root_inode mode_and_links
    open_no_room path full = simp (path, full, at_1) refl

    -- twelve bits of the mode count
    open_new_mode : path_at memory 65536 ≡ Ok (codes "n") → len nodes ≡ 6 → live_entries nodes ≡ 5 → at_start (words 4005 65536 0x101 0xFFFF 0) ≡ stays (after_open (made 0xFFF) makes 3 (new_number nodes)) (Value 3)
    unfolding open_row open_file walk walked walked_from walked_through components_after ends_with_slash root_inode mode_and_links
    open_new_mode path few entries = simp (path, few, entries, at_1) refl

    open_new_before_slash : path_at memory 65536 ≡ Ok (codes "n/") → at_start (words 4005 65536 0x101 420 0) ≡ refuses ENOENT
    unfolding open_row open_file walk walked walked_from walked_through components_after ends_with_slash root_inode mode_and_links
    open_new_before_slash path = simp (path, at_1) refl

    open_long_name : path_at memory 65536 ≡ Ok (replicate 256 97) → at_start (words 4005 65536 0 0 0) ≡ refuses ENAMETOOLONG
    unfolding open_row open_file walk walked walked_from walked_through components_after ends_with_slash root_inode mode_and_links
    open_long_name path = simp (path, at_1) refl

    -- the file `f`
    module _ (at_2 : get nodes 2 ≡ Some file_inode) where
      open_file_to_read : path_at memory 65536 ≡ Ok (codes "f") → at_start (words 4005 65536 0 0 0) ≡ stays (after_open (at_first nodes) (no_flags Read) 3 2) (Value 3)
      unfolding open_row open_file walk walked walked_from walked_through components_after ends_with_slash root_inode mode_and_links file_inode
      open_file_to_read path = simp (path, at_1, at_2) refl

      open_on_exec : path_at memory 65536 ≡ Ok (codes "f") → at_start (words 4005 65536 0x82002 0 0) ≡ stays (after_open (at_first nodes) (record (no_flags ReadWrite) { largefile = true; cloexec = true }) 3 2) (Value 3)
      unfolding open_row open_file walk walked walked_from walked_through components_after ends_with_slash root_inode mode_and_links file_inode
      open_on_exec path = simp (path, at_1, at_2) refl

      -- a path that begins with a slash looks at no descriptor
      openat_root : path_at memory 65536 ≡ Ok (codes "/f") → at_start (words 4288 9 65536 0 0) ≡ stays (after_open (at_first nodes) (no_flags Read) 3 2) (Value 3)
      unfolding open_row open_file walk walked walked_from walked_through components_after ends_with_slash root_inode mode_and_links file_inode
      openat_root path = simp (path, at_1, at_2) refl

      creat_old : path_at memory 65536 ≡ Ok (codes "f") → at_start (words 4008 65536 420 0 0) ≡ stays (after_open (record (at_first nodes) { nodes = after_resize nodes 2 0 (now whole) }) creat_flags 3 2) (Value 3)
      unfolding open_row open_file walk walked walked_from walked_through components_after ends_with_slash root_inode mode_and_links file_inode
      creat_old path = simp (path, at_1, at_2) refl

      open_old_as_new : path_at memory 65536 ≡ Ok (codes "f") → at_start (words 4005 65536 0x501 420 0) ≡ refuses EEXIST
      unfolding open_row open_file walk walked walked_from walked_through components_after ends_with_slash root_inode mode_and_links file_inode
      open_old_as_new path = simp (path, at_1, at_2) refl

      open_file_as_directory : path_at memory 65536 ≡ Ok (codes "f") → at_start (words 4005 65536 0x10000 0 0) ≡ refuses ENOTDIR
      unfolding open_row open_file walk walked walked_from walked_through components_after ends_with_slash root_inode mode_and_links file_inode
      open_file_as_directory path = simp (path, at_1, at_2) refl

      open_file_before_slash : path_at memory 65536 ≡ Ok (codes "f/") → at_start (words 4005 65536 0 0 0) ≡ refuses ENOTDIR
      unfolding open_row open_file walk walked walked_from walked_through components_after ends_with_slash root_inode mode_and_links file_inode
      open_file_before_slash path = simp (path, at_1, at_2) refl

      open_synced : path_at memory 65536 ≡ Ok (codes "f") → at_start (words 4005 65536 0x4010 0 0) ≡ stays (after_open (at_first nodes) (record (no_flags Read) { dsync = true; sync = true }) 3 2) (Value 3)
      unfolding open_row open_file walk walked walked_from walked_through components_after ends_with_slash root_inode mode_and_links file_inode
      open_synced path = simp (path, at_1, at_2) refl

    -- a file of 2^31 - 1 bytes needs no LARGEFILE
    open_longest : get nodes 2 ≡ Some long_inode → path_at memory 65536 ≡ Ok (codes "f") → at_start (words 4005 65536 0 0 0) ≡ stays (after_open (at_first nodes) (no_flags Read) 3 2) (Value 3)
    unfolding open_row open_file walk walked walked_from walked_through components_after ends_with_slash root_inode mode_and_links long_inode
    open_longest at_2 path = simp (at_2, path, at_1) refl

    -- the directory `d`, and the link `l`

    open_directory_to_write : get nodes 3 ≡ Some directory_inode → path_at memory 65536 ≡ Ok (codes "d") → at_start (words 4005 65536 1 0 0) ≡ refuses EISDIR
    unfolding open_row open_file walk walked walked_from walked_through components_after ends_with_slash root_inode mode_and_links directory_inode
    open_directory_to_write at_3 path = simp (at_3, path, at_1) refl

    creat_directory : get nodes 3 ≡ Some directory_inode → path_at memory 65536 ≡ Ok (codes "d") → at_start (words 4008 65536 420 0 0) ≡ refuses EISDIR
    unfolding open_row open_file walk walked walked_from walked_through components_after ends_with_slash root_inode mode_and_links directory_inode
    creat_directory at_3 path = simp (at_3, path, at_1) refl

    open_link_itself : get nodes 4 ≡ Some link_inode → path_at memory 65536 ≡ Ok (codes "l") → at_start (words 4005 65536 0x20000 0 0) ≡ refuses ELOOP
    unfolding open_row open_file walk walked walked_from walked_through components_after ends_with_slash root_inode mode_and_links link_inode
    open_link_itself at_4 path = simp (at_4, path, at_1) refl

    open_directory : get nodes 3 ≡ Some directory_inode → path_at memory 65536 ≡ Ok (codes "d") → at_start (words 4005 65536 0x12000 0 0) ≡ stays (after_open (at_first nodes) (record (no_flags Read) { largefile = true; directory = true }) 3 3) (Value 3)
    unfolding open_row open_file walk walked walked_from walked_through components_after ends_with_slash root_inode mode_and_links directory_inode
    open_directory at_3 path = simp (at_3, path, at_1) refl

    open_directory_to_truncate : get nodes 3 ≡ Some directory_inode → path_at memory 65536 ≡ Ok (codes "d") → at_start (words 4005 65536 0x200 0 0) ≡ refuses EISDIR
    unfolding open_row open_file walk walked walked_from walked_through components_after ends_with_slash root_inode mode_and_links directory_inode
    open_directory_to_truncate at_3 path = simp (at_3, path, at_1) refl

    open_directory_to_make : get nodes 3 ≡ Some directory_inode → path_at memory 65536 ≡ Ok (codes "d") → at_start (words 4005 65536 0x100 420 0) ≡ refuses EISDIR
    unfolding open_row open_file walk walked walked_from walked_through components_after ends_with_slash root_inode mode_and_links directory_inode
    open_directory_to_make at_3 path = simp (at_3, path, at_1) refl

    open_link_as_directory : get nodes 4 ≡ Some link_inode → path_at memory 65536 ≡ Ok (codes "l") → at_start (words 4005 65536 0x30000 0 0) ≡ refuses ENOTDIR
    unfolding open_row open_file walk walked walked_from walked_through components_after ends_with_slash root_inode mode_and_links link_inode
    open_link_as_directory at_4 path = simp (at_4, path, at_1) refl

    open_link_as_new : get nodes 4 ≡ Some link_inode → path_at memory 65536 ≡ Ok (codes "l") → at_start (words 4005 65536 0x501 420 0) ≡ refuses EEXIST
    unfolding open_row open_file walk walked walked_from walked_through components_after ends_with_slash root_inode mode_and_links link_inode
    open_link_as_new at_4 path = simp (at_4, path, at_1) refl

    open_followed : get nodes 4 ≡ Some link_inode → get nodes 2 ≡ Some file_inode → path_at memory 65536 ≡ Ok (codes "l") → at_start (words 4005 65536 0 0 0) ≡ stays (after_open (at_first nodes) (no_flags Read) 3 2) (Value 3)
    unfolding open_row open_file walk walked walked_from walked_through components_after ends_with_slash root_inode mode_and_links link_inode file_inode
    open_followed at_4 at_2 path = simp (at_4, at_2, path, at_1) refl

    -- the forty-first link
    open_circle : get nodes 4 ≡ Some circle_inode → path_at memory 65536 ≡ Ok (codes "l") → at_start (words 4005 65536 0 0 0) ≡ refuses ELOOP
    unfolding open_row open_file walk walked walked_from walked_through components_after ends_with_slash root_inode mode_and_links circle_inode
    open_circle at_4 path = simp (at_4, path, at_1) refl

    -- the file `g` of 2^31 bytes: without LARGEFILE it is left as it was, and with it TRUNC makes it empty
    module _ (at_5 : get nodes 5 ≡ Some large_inode) where
      open_large : path_at memory 65536 ≡ Ok (codes "g") → at_start (words 4005 65536 0 0 0) ≡ refuses EOVERFLOW
      unfolding open_row open_file walk walked walked_from walked_through components_after ends_with_slash root_inode mode_and_links large_inode
      open_large path = simp (path, at_1, at_5) refl

      open_large_to_truncate : path_at memory 65536 ≡ Ok (codes "g") → at_start (words 4005 65536 0x202 0 0) ≡ refuses EOVERFLOW
      unfolding open_row open_file walk walked walked_from walked_through components_after ends_with_slash root_inode mode_and_links large_inode
      open_large_to_truncate path = simp (path, at_1, at_5) refl

      creat_large : path_at memory 65536 ≡ Ok (codes "g") → at_start (words 4008 65536 420 0 0) ≡ refuses EOVERFLOW
      unfolding open_row open_file walk walked walked_from walked_through components_after ends_with_slash root_inode mode_and_links large_inode
      creat_large path = simp (path, at_1, at_5) refl

      open_large_by_flag : path_at memory 65536 ≡ Ok (codes "g") → at_start (words 4005 65536 0x2202 0 0) ≡ stays (after_open (record (at_first nodes) { nodes = after_resize nodes 5 0 (now whole) }) (record (no_flags ReadWrite) { trunc = true; largefile = true }) 3 5) (Value 3)
      unfolding open_row open_file walk walked walked_from walked_through components_after ends_with_slash root_inode mode_and_links large_inode
      open_large_by_flag path = simp (path, at_1, at_5) refl

  -- no name is made in a directory that was removed
  abbrev in_removed : Files
  in_removed = record (at_first nodes) { directory = 3 }

  open_in_removed : get nodes 3 ≡ Some removed_inode → path_at memory 65536 ≡ Ok (codes "n") → called (with_files whole in_removed) (words 4005 65536 0x101 420 0) ≡ stays in_removed (Error ENOENT)
  unfolding open_row open_file walk walked walked_from walked_through components_after ends_with_slash removed_inode mode_and_links
  open_in_removed at_3 path = simp (path, at_3) refl

  -- Seeking

  seek_closed : at_start (words 4019 3 0 9 0) ≡ refuses EBADF
  unfolding lseek_row seek
  seek_closed = refl

  seek_stream : at_start (words 4019 0 0 9 0) ≡ refuses ESPIPE
  unfolding lseek_row seek
  seek_stream = refl

  seek_from_start : with_node 7 (words 4019 3 5 0 0) ≡ node_stays 5 (Value 5)
  unfolding lseek_row seek
  seek_from_start = refl

  -- by -2
  seek_back : with_node 7 (words 4019 3 0xFFFF_FFFE 1 0) ≡ node_stays 5 (Value 5)
  unfolding lseek_row seek
  seek_back = refl

  seek_before_start : with_node 7 (words 4019 3 0xFFFF_FFF8 1 0) ≡ node_stays 7 (Error EINVAL)
  unfolding lseek_row seek
  seek_before_start = refl

  seek_from_nowhere : with_node 7 (words 4019 3 0 3 0) ≡ node_stays 7 (Error EINVAL)
  unfolding lseek_row seek
  seek_from_nowhere = refl

  -- the position moves, and the result is too wide
  seek_far : with_node 0x7FFF_FFFF (words 4019 3 1 1 0) ≡ node_stays 0x8000_0000 (Error EOVERFLOW)
  unfolding lseek_row seek
  seek_far = refl

  seek_to_last : with_node 0x7FFF_FFFE (words 4019 3 1 1 0) ≡ node_stays 0x7FFF_FFFF (Value 0x7FFF_FFFF)
  unfolding lseek_row seek
  seek_to_last = refl

  seek_to_end : get nodes 5 ≡ Some large_inode → with_node 0 (words 4019 3 0 2 0) ≡ node_stays 0x8000_0000 (Error EOVERFLOW)
  unfolding lseek_row seek large_inode mode_and_links
  seek_to_end at_5 = simp at_5 refl

  seek_end_of_directory : get nodes 5 ≡ Some directory_inode → with_node 0 (words 4019 3 0 2 0) ≡ node_stays 0 (Error EINVAL)
  unfolding lseek_row seek directory_inode mode_and_links
  seek_end_of_directory is = simp is refl

  -- with an offset of 64 bits

  place_of_64_bits : (held : List ℕ) → get memory.pages 16 ≡ Some (page_of held) → with_node 0x8000_0000 (words_of_five 4140 3 0 0 65536 1) ≡ leaves whole (with_node_at nodes 0x8000_0000) processor (copied_out memory 65536 (0 ∷ 0 ∷ 0 ∷ 0 ∷ 0x80 ∷ 0 ∷ 0 ∷ 0 ∷ [])) [] (Value 0)
  unfolding llseek_row seek first_denied refusal
  place_of_64_bits held kept = simp kept refl

  high_word_first : (held : List ℕ) → get memory.pages 16 ≡ Some (page_of held) → with_node 7 (words_of_five 4140 3 1 2 65536 0) ≡ leaves whole (with_node_at nodes 0x1_0000_0002) processor (copied_out memory 65536 (0 ∷ 0 ∷ 0 ∷ 1 ∷ 0 ∷ 0 ∷ 0 ∷ 2 ∷ [])) [] (Value 0)
  unfolding llseek_row seek first_denied refusal
  high_word_first held kept = simp kept refl

  -- by -1
  back_from_end : (held : List ℕ) → get memory.pages 16 ≡ Some (page_of held) → get nodes 5 ≡ Some large_inode → with_node 7 (words_of_five 4140 3 0xFFFF_FFFF 0xFFFF_FFFF 65536 2) ≡ leaves whole (with_node_at nodes 0x7FFF_FFFF) processor (copied_out memory 65536 (0 ∷ 0 ∷ 0 ∷ 0 ∷ 0x7F ∷ 0xFF ∷ 0xFF ∷ 0xFF ∷ [])) [] (Value 0)
  unfolding llseek_row seek first_denied refusal large_inode mode_and_links
  back_from_end held kept at_5 = simp (kept, at_5) refl

  -- 2^44
  greatest_of_all : (held : List ℕ) → get memory.pages 16 ≡ Some (page_of held) → with_node 7 (words_of_five 4140 3 0x1000 0 65536 0) ≡ leaves whole (with_node_at nodes 0x1000_0000_0000) processor (copied_out memory 65536 (0 ∷ 0 ∷ 0x10 ∷ 0 ∷ 0 ∷ 0 ∷ 0 ∷ 0 ∷ [])) [] (Value 0)
  unfolding llseek_row seek first_denied refusal
  greatest_of_all held kept = simp kept refl

  -- 2^44 + 1
  past_greatest : with_node 7 (words_of_five 4140 3 0x1000 1 65536 0) ≡ node_stays 7 (Error EINVAL)
  unfolding llseek_row seek
  past_greatest = refl

  origin_unlisted : with_node 7 (words_of_five 4140 3 0 0 65536 3) ≡ node_stays 7 (Error EINVAL)
  unfolding llseek_row seek
  origin_unlisted = refl

  place_of_pipe : called (with_files whole (with_pipe_of nodes [])) (words_of_five 4140 4 0 0 65536 9) ≡ stays (with_pipe_of nodes []) (Error ESPIPE)
  unfolding llseek_row seek
  place_of_pipe = refl

  place_of_closed : at_start (words_of_five 4140 3 0 0 65536 0) ≡ refuses EBADF
  unfolding llseek_row seek
  place_of_closed = refl

  -- the place can't be stored, and the position has moved
  place_unstored : get memory.pages 17 ≡ None → with_node 7 (words_of_five 4140 3 0 5 69632 0) ≡ node_stays 5 (Error EFAULT)
  unfolding llseek_row seek first_denied refusal
  place_unstored absent = simp absent refl

  -- an origin that can't be read comes before all else
  origin_unread : with_node 7 (words 4140 9 0 5 65536) ≡ node_stays 7 (Error EFAULT)
  unfolding llseek_row seek
  origin_unread = refl

-- Worked rows on the entries of a directory.
use Rattle.std.specs.Prelude.{◌≡◌, ℕ, true, List, [], ◌∷◌, ◌++◌, length, replicate, codes, Some, refl}
use Rattle.std.specs.FinMap.{get}
use Rattle.guest_space.specs.Access.{writable_prefix, first_denied, refusal}
use Rattle.guest_space.specs.Bytes.{copied_out, with_bytes}
use Rattle.guest_space.specs.Memory.{Memory}
use Rattle.kernel_core.specs.Nodes.{Nodes, Inode, Directory}
use Rattle.kernel_core.specs.declared.error.Errno.{Errno}
use Rattle.kernel_core.specs.declared.error.Errno.TheVariants.{EBADF, EFAULT, EINVAL, ENOENT, ENOTDIR, EOVERFLOW}
use Rattle.kernel_model.specs.ContentRows.{entries}
use Rattle.kernel_model.specs.State.{Kernel, Files}
use Rattle.kernel_model.specs.Whole.{with_files}
use Rattle.layouts.specs.Number.{bytes_of}
use Rattle.mips_exec.specs.Processor.{Processor}
use Rattle.o32_model.proofs.rows.Small.{at_first, with_node_at, words, guest, leaves}
use Rattle.o32_model.proofs.rows.SmallTree.{named, mode_and_links, file_inode, link_inode, removed_inode}
use Rattle.o32_model.specs.Entries.{getdents_row}
use Rattle.o32_model.specs.Step.{O32Step}
use Rattle.o32_model.specs.Table.{o32_call}
use Rattle.o32_model.specs.declared.call_words.CallWords.{CallWords}
use Rattle.o32_model.specs.declared.outcome.Outcome.{Outcome}
use Rattle.o32_model.specs.declared.outcome.Outcome.TheVariants.{Value, Error}

-- a directory with `a` and `bb`, one with `a` and a node whose number has more than 32 bits, and one with that alone

unfoldable pub listed : Inode
unfolding mode_and_links
listed = mode_and_links 493 2 (Directory (record { parent = Some 1; greatest = 4; entries = named 3 (codes "a") 8 ∷ named 4 (codes "bb") 9 ∷ [] }))

unfoldable pub wide_second : Inode
unfolding mode_and_links
wide_second = mode_and_links 493 2 (Directory (record { parent = Some 1; greatest = 4; entries = named 3 (codes "a") 8 ∷ named 4 (codes "w") 0x1_0000_0001 ∷ [] }))

-- an entry: its number, its own cookie, its length, its name, zeros, and its type

abbrev old : ℕ → ℕ → ℕ → List ℕ → ℕ → ℕ → List ℕ
old number cookie length name spare kind =
    bytes_of true 4 number ++ bytes_of true 4 cookie ++ bytes_of true 2 length ++ name ++ replicate spare 0 ++ kind ∷ []

-- one of 64 bits: the type stands before the name
abbrev new : ℕ → ℕ → ℕ → ℕ → List ℕ → ℕ → List ℕ
new number cookie length kind name spare =
    bytes_of true 8 number ++ bytes_of true 8 cookie ++ bytes_of true 2 length ++ kind ∷ name ++ replicate spare 0

module _ (whole : Kernel) (nodes : Nodes) (processor : Processor) (memory : Memory) where
  abbrev called : Kernel → CallWords → O32Step
  called kernel call = o32_call kernel (guest call processor memory) []

  abbrev at_start : CallWords → O32Step
  at_start call = called (with_files whole (at_first nodes)) call

  abbrev stays : Files → Outcome → O32Step
  stays files outcome = leaves whole files processor memory [] outcome

  abbrev refuses : Errno → O32Step
  refuses error = stays (at_first nodes) (Error error)

  -- node 5 is at descriptor 3
  abbrev with_node : ℕ → CallWords → O32Step
  with_node position call = called (with_files whole (with_node_at nodes position)) call

  abbrev node_stays : ℕ → Outcome → O32Step
  node_stays position outcome = stays (with_node_at nodes position) outcome

  -- these are stored, and the position moves
  abbrev fills : ℕ → List ℕ → O32Step
  fills position bytes = leaves whole (with_node_at nodes position) processor (copied_out memory 65536 bytes) [] (Value (length bytes))

  entries_of_closed : at_start (words 4141 3 0x8000_0000 39 0) ≡ refuses EBADF
  unfolding getdents_row entries writable_prefix first_denied refusal
  entries_of_closed = refl

  entries_of_stream : at_start (words 4219 0 0x8000_0000 39 0) ≡ refuses ENOTDIR
  unfolding getdents_row entries writable_prefix first_denied refusal
  entries_of_stream = refl

  entries_of_file : get nodes 5 ≡ Some file_inode → writable_prefix memory.pages 65536 39 ≡ 39 → with_node 0 (words 4141 3 65536 39 0) ≡ node_stays 0 (Error ENOTDIR)
  unfolding getdents_row entries file_inode mode_and_links
  entries_of_file is room = simp (is, room) refl

  entries_of_removed : get nodes 5 ≡ Some removed_inode → writable_prefix memory.pages 65536 39 ≡ 39 → with_node 0 (words 4141 3 65536 39 0) ≡ node_stays 0 (Error ENOENT)
  unfolding getdents_row entries removed_inode mode_and_links
  entries_of_removed is room = simp (is, room) refl

  module _ (at_8 : get nodes 8 ≡ Some file_inode) (at_9 : get nodes 9 ≡ Some link_inode) where
    -- 39 bytes hold `.` and `..`, and then `a` and `bb`

    dots_first : get nodes 5 ≡ Some listed → writable_prefix memory.pages 65536 39 ≡ 39 → with_node 0 (words 4141 3 65536 39 0) ≡ fills 2 (old 5 1 16 (codes ".") 4 4 ++ old 1 2 16 (codes "..") 3 4)
    unfolding getdents_row entries listed mode_and_links file_inode link_inode
    dots_first is room = simp (is, room) refl

    then_names : get nodes 5 ≡ Some listed → writable_prefix memory.pages 65536 39 ≡ 39 → with_node 2 (words 4141 3 65536 39 0) ≡ fills 4 (old 8 3 16 (codes "a") 4 8 ++ old 9 4 16 (codes "bb") 3 10)
    unfolding getdents_row entries listed mode_and_links file_inode link_inode
    then_names is room = simp (is, room, at_8, at_9) refl

    then_nothing : get nodes 5 ≡ Some listed → writable_prefix memory.pages 65536 39 ≡ 39 → with_node 4 (words 4141 3 65536 39 0) ≡ node_stays 4 (Value 0)
    unfolding getdents_row entries listed mode_and_links file_inode link_inode copied_out with_bytes
    then_nothing is room = simp (is, room) refl

    too_small : get nodes 5 ≡ Some listed → writable_prefix memory.pages 65536 15 ≡ 15 → with_node 0 (words 4141 3 65536 15 0) ≡ node_stays 0 (Error EINVAL)
    unfolding getdents_row entries listed mode_and_links file_inode link_inode
    too_small is room = simp is refl

    -- 20 bytes hold `.` alone
    one_fits : get nodes 5 ≡ Some listed → writable_prefix memory.pages 65536 20 ≡ 20 → with_node 0 (words 4141 3 65536 20 0) ≡ fills 1 (old 5 1 16 (codes ".") 4 4)
    unfolding getdents_row entries listed mode_and_links file_inode link_inode
    one_fits is room = simp (is, room) refl

    -- the records take 32 bytes, of which 31 lie before the end of a page that none follows: none is stored, and the position stays
    not_stored : get nodes 5 ≡ Some listed → writable_prefix memory.pages 69601 39 ≡ 31 → with_node 0 (words 4141 3 69601 39 0) ≡ node_stays 0 (Error EFAULT)
    unfolding getdents_row entries listed mode_and_links file_inode link_inode
    not_stored is room = simp (is, room) refl

    -- 32 are enough
    all_stored : get nodes 5 ≡ Some listed → writable_prefix memory.pages 69600 39 ≡ 32
        → with_node 0 (words 4141 3 69600 39 0) ≡ leaves whole (with_node_at nodes 2) processor (copied_out memory 69600 (old 5 1 16 (codes ".") 4 4 ++ old 1 2 16 (codes "..") 3 4)) [] (Value 32)
    unfolding getdents_row entries listed mode_and_links file_inode link_inode
    all_stored is room = simp (is, room) refl

    -- a number above 2^32 - 1 ends them, and is EOVERFLOW where it is the first; getdents64 gives it
    module _ (is : get nodes 5 ≡ Some wide_second) (at_w : get nodes 0x1_0000_0001 ≡ Some file_inode) where
      before_wide : writable_prefix memory.pages 65536 64 ≡ 64 → with_node 2 (words 4141 3 65536 64 0) ≡ fills 3 (old 8 3 16 (codes "a") 4 8)
      unfolding getdents_row entries wide_second mode_and_links file_inode link_inode
      before_wide room = simp (room, is, at_8) refl

      wide_first : writable_prefix memory.pages 65536 64 ≡ 64 → with_node 3 (words 4141 3 65536 64 0) ≡ node_stays 3 (Error EOVERFLOW)
      unfolding getdents_row entries wide_second mode_and_links file_inode link_inode
      wide_first room = simp (room, is) refl

      -- one that does not fit comes before that
      wide_too_small : writable_prefix memory.pages 65536 15 ≡ 15 → with_node 3 (words 4141 3 65536 15 0) ≡ node_stays 3 (Error EINVAL)
      unfolding getdents_row entries wide_second mode_and_links file_inode link_inode
      wide_too_small room = simp (room, is) refl

      wide_of_64_bits : writable_prefix memory.pages 65536 64 ≡ 64 → with_node 3 (words 4219 3 65536 64 0) ≡ fills 4 (new 0x1_0000_0001 4 24 8 (codes "w") 4)
      unfolding getdents_row entries wide_second mode_and_links file_inode link_inode
      wide_of_64_bits room = simp (room, is, at_w) refl

      dots_of_64_bits : writable_prefix memory.pages 65536 48 ≡ 48 → with_node 0 (words 4219 3 65536 48 0) ≡ fills 2 (new 5 1 24 4 (codes ".") 4 ++ new 1 2 24 4 (codes "..") 3)
      unfolding getdents_row entries wide_second mode_and_links file_inode link_inode
      dots_of_64_bits room = simp (room, is) refl

      too_small_for_64_bits : writable_prefix memory.pages 65536 23 ≡ 23 → with_node 0 (words 4219 3 65536 23 0) ≡ node_stays 0 (Error EINVAL)
      unfolding getdents_row entries wide_second mode_and_links file_inode link_inode
      too_small_for_64_bits room = simp is refl

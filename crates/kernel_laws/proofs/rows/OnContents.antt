-- Worked rows on an open node: descriptor 2 leads to node 5, a file or a directory, for reading and writing.
use Rattle.std.specs.Prelude.{◌≡◌, ℕ, ◌+◌, ◌^◌, ℤ, pos, true, List, [], ◌∷◌, Some, None, Ok, Err, refl}
use Rattle.std.specs.FinMap.{get, get-empty}
use Rattle.std.specs.Ordering.{nat_cmp}
use Rattle.kernel_core.specs.FileContent.{absent_blocks, bytes_at, longest_write, no_content}
use Rattle.kernel_core.specs.NodeCalls.{after_write}
use Rattle.kernel_core.specs.Nodes.{Nodes, Inode, File, Directory}
use Rattle.kernel_core.specs.Totals.{live_blocks}
use Rattle.kernel_core.specs.declared.error.Errno.TheVariants.{EBADF, EFAULT, EFBIG, EINVAL, EISDIR, ENOSPC, ENOTTY}
use Rattle.kernel_core.specs.declared.open_flags.Access.TheVariants.{ReadWrite}
use Rattle.file_system_laws.proofs.Lookups.{get-update}
use Rattle.kernel_model.proofs.rows.Names.{inode}
use Rattle.kernel_model.proofs.rows.Small.{input, output, read_end, small, to, to_on_exec, write_end}
use Rattle.kernel_model.specs.Came.{done, refused}
use Rattle.kernel_model.specs.ContentRows.{bytes_ready, seek, sync}
use Rattle.kernel_model.specs.Descriptions.{description_of, no_flags}
use Rattle.kernel_model.specs.NodeRows.{Leave, SetTo, after_times, set_times, truncate_open}
use Rattle.kernel_model.specs.Paths.{Descriptor}
use Rattle.kernel_model.specs.State.{Files}
use Rattle.kernel_model.specs.Transfers.{read_at, write_at}
use Rattle.kernel_model.specs.declared.descriptor.Description.{Description}
use Rattle.kernel_model.specs.declared.descriptor.Object.TheVariants.{Node}
use Rattle.kernel_model.specs.declared.time.TimeSpec.{TimeSpec}

directory : Inode
directory = inode 493 2 (Directory (record { parent = Some 1; greatest = 2; entries = [] }))

file : Inode
file = inode 420 1 (File no_content)

at : ℕ → Description
at position = record (description_of (Node 5) (no_flags ReadWrite)) { position = position }

opened_at : Nodes → ℕ → Files
opened_at nodes position = record (small nodes []) {
  table = record {
    fds = to 0 ∷ to 1 ∷ to 4 ∷ to 2 ∷ to 3 ∷ to_on_exec 3 ∷ None ∷ None ∷ [];
    live = Some input ∷ Some output ∷ Some read_end ∷ Some write_end ∷ Some (at position) ∷ None ∷ [];
  };
}

-- 2 s and 3 ns; UTIME_OMIT of utimensat(2); and a whole second of nanoseconds

two_seconds : TimeSpec
two_seconds = record { seconds = pos 2; nanoseconds = pos 3 }

left_out : TimeSpec
left_out = record { seconds = pos 2; nanoseconds = pos 0x3FFFFFFE }

too_many : TimeSpec
too_many = record { seconds = pos 2; nanoseconds = pos 1_000_000_000 }

module _ (nodes : Nodes) (now : ℤ) where
  files : Files
  files = opened_at nodes 0

  module _ (is : get nodes 5 ≡ Some directory) where
    read_at_of_directory : read_at files 2 (pos 0) (Ok 1) 1 ≡ refused files EISDIR
    unfolding read_at files opened_at at directory inode
    read_at_of_directory = simp is refl

    in_no_directory : bytes_ready files 2 ≡ refused files ENOTTY
    unfolding bytes_ready files opened_at at directory inode
    in_no_directory = simp is refl

  sync_node : sync files 2 ≡ done files tt
  unfolding sync files opened_at at
  sync_node = refl

  -- lseek: from the beginning, and the greatest place

  seek_place : seek files 2 (pos 9) 0 ≡ done (opened_at nodes 9) 9
  unfolding seek files opened_at at
  seek_place = refl

  seek_greatest : seek files 2 (pos (2 ^ 44)) 0 ≡ done (opened_at nodes (2 ^ 44)) (2 ^ 44)
  unfolding seek files opened_at at
  seek_greatest = refl

  seek_past_it : seek files 2 (pos (2 ^ 44 + 1)) 0 ≡ refused files EINVAL
  unfolding seek files opened_at at
  seek_past_it = refl

  -- times of the descriptor itself

  times_set : set_times files now (Descriptor 2) None (Some (Ok (record { access = two_seconds; modified = left_out }))) (Some true)
      ≡ done (after_times files now (record { access = SetTo (pos 2_000_000_003); modified = Leave }) 5) tt
  unfolding set_times files opened_at at two_seconds left_out
  times_set = refl

  times_are : get nodes 5 ≡ Some file → get (after_times files now (record { access = SetTo (pos 2_000_000_003); modified = Leave }) 5).nodes 5
      ≡ Some (record file { access = pos 2_000_000_003; changed = now })
  unfolding files opened_at file inode
  times_are is = simp (get-update, is) refl

  wrong_time : set_times files now (Descriptor 2) None (Some (Ok (record { access = left_out; modified = too_many }))) None ≡ refused files EINVAL
  unfolding set_times files left_out too_many
  wrong_time = refl

  times_unreadable : set_times files now (Descriptor 99) None (Some (Err EFAULT)) None ≡ refused files EFAULT
  unfolding set_times files
  times_unreadable = refl

  times_with_other_flags : set_times files now (Descriptor 99) None None None ≡ refused files EINVAL
  unfolding set_times files
  times_with_other_flags = refl

  times_of_closed : set_times files now (Descriptor 6) None None (Some true) ≡ refused files EBADF
  unfolding set_times files opened_at at
  times_of_closed = refl

  -- a file, which has no bytes yet

  module _ (is : get nodes 5 ≡ Some file) where
    read_at_nowhere : read_at files 2 (pos 0) (Ok 1) 0 ≡ refused files EFAULT
    unfolding read_at files opened_at at
    read_at_nowhere = refl

    read_at_the_end : read_at files 2 (pos 7) (Ok 1) 1 ≡ done files []
    unfolding read_at files opened_at at file inode bytes_at
    read_at_the_end = simp is refl

    size_past_all : truncate_open files now 2 (pos (2 ^ 44 + 1)) ≡ refused files EFBIG
    unfolding truncate_open files opened_at at file inode
    size_past_all = simp is refl

    -- the position stays
    write_at_place : live_blocks nodes ≡ 0 → write_at files None now 2 (pos 3) (Ok 1) (9 ∷ []) ≡ done (record files { nodes = after_write nodes 5 3 (9 ∷ []) now }) 1
    unfolding write_at files opened_at at file inode longest_write absent_blocks
    write_at_place none = simp (is, none, get-empty {X = List ℕ} nat_cmp) refl

    write_at_no_byte : write_at files None now 2 (pos 3) (Ok 0) [] ≡ done files 0
    unfolding write_at files opened_at at
    write_at_no_byte = refl

    write_at_unreadable : write_at files None now 2 (pos 3) (Ok 1) [] ≡ refused files EFAULT
    unfolding write_at files opened_at at
    write_at_unreadable = refl

    write_at_past_all : write_at files None now 2 (pos (2 ^ 44)) (Ok 1) (9 ∷ []) ≡ refused files EFBIG
    unfolding write_at files opened_at at file inode
    write_at_past_all = simp is refl

    -- without LARGEFILE
    write_at_past_limit : write_at files (Some 0x7FFFFFFF) now 2 (pos 0x7FFFFFFF) (Ok 1) (9 ∷ []) ≡ refused files EFBIG
    unfolding write_at files opened_at at file inode
    write_at_past_limit = simp is refl

    write_at_without_block : live_blocks nodes ≡ 65_536 → write_at files None now 2 (pos 3) (Ok 1) (9 ∷ []) ≡ refused files ENOSPC
    unfolding write_at files opened_at at file inode longest_write absent_blocks
    write_at_without_block full = simp (is, full, get-empty {X = List ℕ} nat_cmp) refl

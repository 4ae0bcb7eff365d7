-- Worked rows on nodes: a root with the file `f` and the link `l` to it. Descriptor 2 leads to the file, for reading and writing.
use Rattle.std.specs.Prelude.{◌≡◌, ℕ, ℤ, pos, negsuc, true, false, List, [], ◌∷◌, codes, Some, None, Ok, refl}
use Rattle.std.specs.FinMap.{empty, get, insert, len-empty}
use Rattle.std.specs.Ordering.{nat_cmp}
use Rattle.kernel_core.specs.FileContent.{byte_at, bytes_at, no_content}
use Rattle.kernel_core.specs.Nodes.{Nodes, Inode, File, Directory, Link}
use Rattle.kernel_core.specs.PathWalk.{components_after, ends_with_slash}
use Rattle.kernel_core.specs.Queries.{walked, walked_from, walked_through}
use Rattle.kernel_core.specs.declared.error.Errno.TheVariants.{EBADF, EINVAL, ENOENT}
use Rattle.kernel_core.specs.declared.open_flags.Access.TheVariants.{ReadWrite}
use Rattle.file_system_laws.proofs.Lookups.{get-insert_same, get-update}
use Rattle.kernel_model.proofs.rows.Names.{inode, entry}
use Rattle.kernel_model.proofs.rows.Small.{input, output, read_end, small, to, to_on_exec, write_end}
use Rattle.kernel_model.specs.Came.{done, refused}
use Rattle.kernel_model.specs.ContentRows.{Status, bytes_ready, status}
use Rattle.kernel_model.specs.Descriptions.{description_of, no_flags}
use Rattle.kernel_model.specs.NodeRows.{StatusFlags, after_mode, after_truncate, change_mode, change_open_mode, status_at_path, truncate_open}
use Rattle.kernel_model.specs.Paths.{Descriptor, Working, walk}
use Rattle.kernel_model.specs.State.{Files}
use Rattle.kernel_model.specs.Transfers.{read, read_at, reading}
use Rattle.kernel_model.specs.declared.descriptor.Description.{Description}
use Rattle.kernel_model.specs.declared.descriptor.Object.TheVariants.{Node}

root : Inode
root = inode 493 2 (Directory (record { parent = Some 1; greatest = 4; entries = entry 3 (codes "f") 2 ∷ entry 4 (codes "l") 3 ∷ [] }))

file : Inode
file = inode 420 1 (File no_content)

link : Inode
link = inode 511 1 (Link (codes "f"))

-- with this position
open_file_at : ℕ → Description
open_file_at position = record (description_of (Node 2) (no_flags ReadWrite)) { position = position }

opened_at : Nodes → ℕ → Files
opened_at nodes position = record (small nodes []) {
  table = record {
    fds = to 0 ∷ to 1 ∷ to 4 ∷ to 2 ∷ to 3 ∷ to_on_exec 3 ∷ None ∷ None ∷ [];
    live = Some input ∷ Some output ∷ Some read_end ∷ Some write_end ∷ Some (open_file_at position) ∷ None ∷ [];
  };
}

-- of device 1; S_IFREG with 0644, and S_IFLNK with 0777
file_status : Status
file_status = record {
  device = 1;
  number = 2;
  mode = 0x81A4;
  links = 1;
  terminal_device = 0;
  size = 0;
  sectors = 0;
  access = pos 0;
  modified = pos 0;
  changed = pos 0;
}

link_status : Status
link_status = record file_status { number = 3; mode = 0xA1FF; size = 1 }

follows : StatusFlags
follows = record { follow = true; empty = false }

module _ (nodes : Nodes) (now : ℤ) (at_1 : get nodes 1 ≡ Some root) (at_2 : get nodes 2 ≡ Some file) (at_3 : get nodes 3 ≡ Some link) where
  files : Files
  files = opened_at nodes 0

  -- chmod

  mode_of_f : change_mode files now Working (Ok (codes "f")) 0x1ED ≡ done (after_mode files now 0x1ED 2) tt
  unfolding change_mode walk walked walked_from walked_through components_after ends_with_slash files opened_at open_file_at root file inode entry
  mode_of_f = simp (at_1, at_2) refl

  -- a link is followed, and twelve bits are kept
  mode_through_l : change_mode files now Working (Ok (codes "l")) 0x81ED ≡ done (after_mode files now 0x1ED 2) tt
  unfolding change_mode walk walked walked_from walked_through components_after ends_with_slash files opened_at open_file_at root file link inode entry
  mode_through_l = simp (at_1, at_2, at_3) refl

  mode_set : get (after_mode files now 0x1ED 2).nodes 2 ≡ Some (record file { mode = 0x1ED; changed = now })
  unfolding files opened_at open_file_at file inode
  mode_set = simp (get-update, at_2) refl

  mode_of_nothing : change_mode files now Working (Ok (codes "g")) 0x1ED ≡ refused files ENOENT
  unfolding change_mode walk walked walked_from walked_through components_after ends_with_slash files opened_at open_file_at root inode entry
  mode_of_nothing = simp at_1 refl

  open_mode : change_open_mode files now 2 0x1ED ≡ done (after_mode files now 0x1ED 2) tt
  unfolding change_open_mode files opened_at open_file_at
  open_mode = refl

  mode_of_closed : change_open_mode files now 6 0x1ED ≡ refused files EBADF
  unfolding change_open_mode files opened_at open_file_at
  mode_of_closed = refl

  -- status by a path

  status_of_f : status_at_path files Working (Ok (codes "/f")) (Some follows) ≡ done files file_status
  unfolding status_at_path walk walked walked_from walked_through components_after ends_with_slash files opened_at open_file_at root file inode entry file_status follows
  status_of_f = simp (at_1, at_2, len-empty nat_cmp (List ℕ)) refl

  status_through_l : status_at_path files Working (Ok (codes "l")) (Some follows) ≡ done files file_status
  unfolding status_at_path walk walked walked_from walked_through components_after ends_with_slash files opened_at open_file_at root file link inode entry file_status follows
  status_through_l = simp (at_1, at_2, at_3, len-empty nat_cmp (List ℕ)) refl

  status_of_l : status_at_path files Working (Ok (codes "l")) (Some (record follows { follow = false })) ≡ done files link_status
  unfolding status_at_path walk walked walked_from walked_through components_after ends_with_slash files opened_at open_file_at root link inode entry file_status link_status follows
  status_of_l = simp (at_1, at_3) refl

  status_of_open : status files 2 ≡ done files file_status
  unfolding status files opened_at open_file_at file inode file_status
  status_of_open = simp (at_2, len-empty nat_cmp (List ℕ)) refl

  -- an empty path is the descriptor itself, where the flags say so
  status_by_descriptor : status_at_path files (Descriptor 2) (Ok []) (Some (record follows { empty = true })) ≡ done files file_status
  unfolding status_at_path status files opened_at open_file_at file inode file_status follows
  status_by_descriptor = simp (at_2, len-empty nat_cmp (List ℕ)) refl

  status_of_no_path : status_at_path files (Descriptor 2) (Ok []) (Some follows) ≡ refused files ENOENT
  unfolding status_at_path walk files opened_at open_file_at follows
  status_of_no_path = refl

  status_with_other_flags : status_at_path files Working (Ok (codes "g")) None ≡ refused files EINVAL
  unfolding status_at_path files
  status_with_other_flags = refl

  -- an open file gets another size, and the position stays

  longer : truncate_open files now 2 (pos 7) ≡ done (after_truncate files now 2 7) tt
  unfolding truncate_open files opened_at open_file_at file inode
  longer = simp at_2 refl

  below_zero : truncate_open files now 2 (negsuc 0) ≡ refused files EINVAL
  unfolding truncate_open files opened_at open_file_at
  below_zero = refl

  of_a_stream : truncate_open files now 1 (pos 7) ≡ refused files EINVAL
  unfolding truncate_open files opened_at open_file_at
  of_a_stream = refl

  not_for_writing : truncate_open files now 0 (pos 7) ≡ refused files EINVAL
  unfolding truncate_open files opened_at open_file_at
  not_for_writing = refl

  of_a_closed_one : truncate_open files now 6 (pos 7) ≡ refused files EBADF
  unfolding truncate_open files opened_at open_file_at
  of_a_closed_one = refl

-- The bytes of a file: 3 of its first block are there, and what is not kept reads as 0.

block : List ℕ
block = 7 ∷ 8 ∷ 9 ∷ []

module _ (nodes : Nodes) (there : get nodes 2 ≡ Some (inode 420 1 (File (record { size = 5; blocks = insert empty 0 block })))) where
  two_bytes : read (opened_at nodes 1) [] 2 (Ok 2) 2 ≡ done (reading [] (opened_at nodes 3)) (8 ∷ 9 ∷ [])
  unfolding read opened_at open_file_at inode bytes_at byte_at block
  two_bytes = simp (there, get-insert_same) refl

  up_to_the_end : read (opened_at nodes 2) [] 2 (Ok 9) 9 ≡ done (reading [] (opened_at nodes 5)) (9 ∷ 0 ∷ 0 ∷ [])
  unfolding read opened_at open_file_at inode bytes_at byte_at block
  up_to_the_end = simp (there, get-insert_same) refl

  at_the_end : read (opened_at nodes 5) [] 2 (Ok 9) 9 ≡ done (reading [] (opened_at nodes 5)) []
  unfolding read opened_at open_file_at inode bytes_at byte_at block
  at_the_end = simp (there, get-insert_same) refl

  -- the position stays
  at_a_place : read_at (opened_at nodes 5) 2 (pos 0) (Ok 1) 1 ≡ done (opened_at nodes 5) (7 ∷ [])
  unfolding read_at opened_at open_file_at inode bytes_at byte_at block
  at_a_place = simp (there, get-insert_same) refl

  some_ready : bytes_ready (opened_at nodes 1) 2 ≡ done (opened_at nodes 1) 4
  unfolding bytes_ready opened_at open_file_at inode
  some_ready = simp there refl

-- Worked rows on names: a root with the file `f`, the directory `d`, the link `l` to `f`, and nothing else.
use Rattle.std.specs.Prelude.{◌≡◌, ℕ, ℤ, pos, negsuc, true, false, List, [], ◌∷◌, codes, Some, None, Ok, Err, refl}
use Rattle.std.specs.FinMap.{get}
use Rattle.kernel_core.specs.FileContent.{no_content}
use Rattle.kernel_core.specs.Nodes.{Nodes, Inode, NodeContent, File, Directory, Link}
use Rattle.kernel_core.specs.PathWalk.{components_after, ends_with_slash}
use Rattle.kernel_core.specs.Queries.{walked, walked_from, walked_through}
use Rattle.kernel_core.specs.declared.tree.DirEntry.{DirEntry}
use Rattle.kernel_core.specs.declared.error.Errno.TheVariants.{EACCES, EBADF, EEXIST, EFAULT, EINVAL, EISDIR, ELOOP, ENAMETOOLONG, ENOENT, ENOTDIR, EBUSY, EPERM, ENOTTY, ESPIPE}
use Rattle.kernel_core.specs.declared.open_flags.Access.TheVariants.{Read, Write}
use Rattle.kernel_model.proofs.rows.Small.{small}
use Rattle.kernel_model.specs.Came.{done, refused}
use Rattle.kernel_model.specs.ContentRows.{seek, status, stream_status, pipe_status, sync, window_size}
use Rattle.kernel_model.specs.Descriptions.{no_flags}
use Rattle.kernel_model.specs.NameRows.{remove_name, link, make_link, rename, read_link}
use Rattle.kernel_model.specs.NodeRows.{access, truncate, change_directory, change_to_open, set_umask, set_times}
use Rattle.kernel_model.specs.Opening.{open_file, after_open}
use Rattle.kernel_model.specs.Paths.{Working, Descriptor, walk}
use Rattle.kernel_model.specs.Shared.{OpenSet}
use Rattle.kernel_model.specs.State.{Files}

unfoldable pub inode : ℕ → ℕ → NodeContent → Inode
inode mode links content = record { mode = mode; access = pos 0; modified = pos 0; changed = pos 0; links = links; holds = 0; content = content }

unfoldable pub entry : ℕ → List ℕ → ℕ → DirEntry
entry cookie name node = record { cookie = cookie; name = name; node = node }

root_inode : Inode
root_inode = inode 493 3 (Directory (record {
  parent = Some 1;
  greatest = 5;
  entries = entry 3 (codes "f") 2 ∷ entry 4 (codes "d") 3 ∷ entry 5 (codes "l") 4 ∷ [];
}))

file_inode : Inode
file_inode = inode 420 1 (File no_content)

directory_inode : Inode
directory_inode = inode 493 2 (Directory (record { parent = Some 1; greatest = 2; entries = [] }))

link_inode : Inode
link_inode = inode 511 1 (Link (codes "f"))

module _ (nodes : Nodes) (now : ℤ) (at_1 : get nodes 1 ≡ Some root_inode) (at_2 : get nodes 2 ≡ Some file_inode)
    (at_3 : get nodes 3 ≡ Some directory_inode) (at_4 : get nodes 4 ≡ Some link_inode) where
  files : Files
  files = small nodes []

  reads : OpenSet
  reads = no_flags Read

  -- a file is opened at the least free descriptor, and held
  open_f : open_file files None now Working (Ok (codes "/f")) (Some reads) 0 ≡ done (after_open files reads 2 2) 2
  unfolding open_file walk walked walked_from walked_through components_after ends_with_slash files reads root_inode file_inode inode entry
  open_f = simp (at_1, at_2) refl

  -- through a link
  open_l : open_file files None now Working (Ok (codes "l")) (Some reads) 0 ≡ done (after_open files reads 2 2) 2
  unfolding open_file walk walked walked_from walked_through components_after ends_with_slash files reads root_inode file_inode link_inode inode entry
  open_l = simp (at_1, at_2, at_4) refl

  open_link_itself : open_file files None now Working (Ok (codes "l")) (Some (record reads { nofollow = true })) 0 ≡ refused files ELOOP
  unfolding open_file walk walked walked_from walked_through components_after ends_with_slash files reads root_inode file_inode link_inode inode entry
  open_link_itself = simp (at_1, at_2, at_4) refl

  open_missing_name : open_file files None now Working (Ok (codes "/g")) (Some reads) 0 ≡ refused files ENOENT
  unfolding open_file walk walked walked_from walked_through components_after ends_with_slash files reads root_inode inode entry
  open_missing_name = simp (at_1, at_2) refl

  open_empty_path : open_file files None now (Descriptor 99) (Ok []) (Some reads) 0 ≡ refused files ENOENT
  unfolding open_file walk files reads
  open_empty_path = refl

  open_from_closed : open_file files None now (Descriptor 99) (Ok (codes "f")) (Some reads) 0 ≡ refused files EBADF
  unfolding open_file walk files reads
  open_from_closed = refl

  open_from_stream : open_file files None now (Descriptor 0) (Ok (codes "f")) (Some reads) 0 ≡ refused files ENOTDIR
  unfolding open_file walk files reads
  open_from_stream = refl

  open_unreadable : open_file files None now Working (Err EFAULT) (Some reads) 0 ≡ refused files EFAULT
  unfolding open_file files reads
  open_unreadable = refl

  open_wrong_flags : open_file files None now Working (Err EFAULT) None 0 ≡ refused files EINVAL
  unfolding open_file files
  open_wrong_flags = refl

  open_make_directory : open_file files None now Working (Err EFAULT) (Some (record reads { creat = true; directory = true })) 0 ≡ refused files EINVAL
  unfolding open_file files reads
  open_make_directory = refl

  open_made_already : open_file files None now Working (Ok (codes "/f")) (Some (record reads { creat = true; excl = true })) 0 ≡ refused files EEXIST
  unfolding open_file walk walked walked_from walked_through components_after ends_with_slash files reads root_inode file_inode inode entry
  open_made_already = simp (at_1, at_2) refl

  open_as_directory : open_file files None now Working (Ok (codes "/f")) (Some (record reads { directory = true })) 0 ≡ refused files ENOTDIR
  unfolding open_file walk walked walked_from walked_through components_after ends_with_slash files reads root_inode file_inode inode entry
  open_as_directory = simp (at_1, at_2) refl

  open_before_slash : open_file files None now Working (Ok (codes "/f/")) (Some reads) 0 ≡ refused files ENOTDIR
  unfolding open_file walk walked walked_from walked_through components_after ends_with_slash files reads root_inode file_inode inode entry
  open_before_slash = simp (at_1, at_2) refl

  open_directory_to_write : open_file files None now Working (Ok (codes "d")) (Some (no_flags Write)) 0 ≡ refused files EISDIR
  unfolding open_file walk walked walked_from walked_through components_after ends_with_slash files root_inode directory_inode inode entry
  open_directory_to_write = simp (at_1, at_3) refl

  -- the rows on other names

  unlink_directory : remove_name files now Working (Ok (codes "d")) (Some false) ≡ refused files EISDIR
  unfolding remove_name walk walked walked_from walked_through components_after ends_with_slash files root_inode directory_inode inode entry
  unlink_directory = simp (at_1, at_3) refl

  remove_file_as_directory : remove_name files now Working (Ok (codes "f")) (Some true) ≡ refused files ENOTDIR
  unfolding remove_name walk walked walked_from walked_through components_after ends_with_slash files root_inode file_inode inode entry
  remove_file_as_directory = simp (at_1, at_2) refl

  remove_dot : remove_name files now Working (Ok (codes "d/.")) (Some true) ≡ refused files EINVAL
  unfolding remove_name walk walked walked_from walked_through components_after ends_with_slash files root_inode directory_inode inode entry
  remove_dot = simp (at_1, at_3) refl

  remove_with_other_flags : remove_name files now Working (Ok (codes "d")) None ≡ refused files EINVAL
  unfolding remove_name files
  remove_with_other_flags = refl

  link_to_directory : link files now Working (Ok (codes "d")) Working (Ok (codes "f")) (Some false) ≡ refused files EPERM
  unfolding link walk walked walked_from walked_through components_after ends_with_slash files root_inode directory_inode file_inode inode entry
  link_to_directory = simp (at_1, at_2, at_3) refl

  link_before_slash : link files now Working (Ok (codes "f")) Working (Ok (codes "g/")) (Some false) ≡ refused files ENOENT
  unfolding link walk walked walked_from walked_through components_after ends_with_slash files root_inode file_inode inode entry
  link_before_slash = simp (at_1, at_2) refl

  second_path_first : link files now Working (Ok (codes "none")) Working (Err ENAMETOOLONG) None ≡ refused files ENAMETOOLONG
  unfolding link files
  second_path_first = refl

  empty_target : make_link files now (Ok []) (Descriptor 99) (Ok (codes "f")) ≡ refused files ENOENT
  unfolding make_link files
  empty_target = refl

  rename_dot : rename files now Working (Ok (codes ".")) Working (Ok (codes "g")) ≡ refused files EBUSY
  unfolding rename walk walked walked_from walked_through components_after ends_with_slash files root_inode file_inode inode entry
  rename_dot = simp (at_1, at_2) refl

  rename_file_before_slash : rename files now Working (Ok (codes "f")) Working (Ok (codes "g/")) ≡ refused files ENOENT
  unfolding rename walk walked walked_from walked_through components_after ends_with_slash files root_inode file_inode inode entry
  rename_file_before_slash = simp (at_1, at_2) refl

  read_target : read_link files Working (Ok (codes "l")) (pos 9) ≡ done files (codes "f")
  unfolding read_link walk walked walked_from walked_through components_after ends_with_slash files root_inode link_inode inode entry
  read_target = simp (at_1, at_4) refl

  read_no_link : read_link files Working (Ok (codes "f")) (pos 9) ≡ refused files EINVAL
  unfolding read_link walk walked walked_from walked_through components_after ends_with_slash files root_inode file_inode inode entry
  read_no_link = simp (at_1, at_2) refl

  read_into_nothing : read_link files (Descriptor 99) (Ok (codes "f")) (pos 0) ≡ refused files EINVAL
  unfolding read_link files
  read_into_nothing = refl

  not_executable : access files Working (Ok (codes "f")) 1 ≡ refused files EACCES
  unfolding access walk walked walked_from walked_through components_after ends_with_slash files root_inode file_inode inode entry
  not_executable = simp (at_1, at_2) refl

  may_be_read : access files Working (Ok (codes "f")) 6 ≡ done files tt
  unfolding access walk walked walked_from walked_through components_after ends_with_slash files root_inode file_inode inode entry
  may_be_read = simp (at_1, at_2) refl

  no_such_access : access files (Descriptor 99) (Ok (codes "f")) 8 ≡ refused files EINVAL
  unfolding access files
  no_such_access = refl

  truncate_directory : truncate files now Working (Ok (codes "d")) (pos 0) ≡ refused files EISDIR
  unfolding truncate walk walked walked_from walked_through components_after ends_with_slash files root_inode directory_inode inode entry
  truncate_directory = simp (at_1, at_3) refl

  truncate_below : truncate files now (Descriptor 99) (Ok (codes "f")) (negsuc 0) ≡ refused files EINVAL
  unfolding truncate files
  truncate_below = refl

  to_a_file : change_directory files (Ok (codes "f")) ≡ refused files ENOTDIR
  unfolding change_directory walk walked walked_from walked_through components_after ends_with_slash files root_inode file_inode inode entry
  to_a_file = simp (at_1, at_2) refl

  to_a_stream : change_to_open files 0 ≡ refused files ENOTDIR
  unfolding change_to_open files
  to_a_stream = refl

  to_a_closed_one : change_to_open files 2 ≡ refused files EBADF
  unfolding change_to_open files
  to_a_closed_one = refl

  nine_bits : set_umask files 1023 ≡ done (record files { umask = 511 }) 18
  unfolding set_umask files
  nine_bits = refl

  no_path_and_no_descriptor : set_times files now Working None None (Some true) ≡ refused files EBADF
  unfolding set_times files
  no_path_and_no_descriptor = refl

  times_of_a_stream : set_times files now (Descriptor 1) None None (Some true) ≡ done files tt
  unfolding set_times files
  times_of_a_stream = refl

  -- what descriptors have open that is no node

  seek_stream : seek files 0 (pos 0) 9 ≡ refused files ESPIPE
  unfolding seek files
  seek_stream = refl

  seek_closed : seek files 2 (pos 0) 9 ≡ refused files EBADF
  unfolding seek files
  seek_closed = refl

  status_of_output : status files 1 ≡ done files (stream_status 2 None)
  unfolding status files
  status_of_output = refl

  status_of_pipe : status files 3 ≡ done files pipe_status
  unfolding status files
  status_of_pipe = refl

  sync_pipe : sync files 3 ≡ refused files EINVAL
  unfolding sync files
  sync_pipe = refl

  no_terminal : window_size files 1 ≡ refused files ENOTTY
  unfolding window_size files
  no_terminal = refl

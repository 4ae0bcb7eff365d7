-- Worked rows on the working directory: a root with the directory `d` and the link `l` to it; descriptor 2 leads to `d`.
use Rattle.std.specs.Prelude.{◌≡◌, ℤ, true, [], ◌∷◌, codes, Some, None, Ok, Err, refl}
use Rattle.std.specs.FinMap.{get, len}
use Rattle.kernel_core.specs.Nodes.{Nodes, Inode, Directory, Link}
use Rattle.kernel_core.specs.PathWalk.{components_after, ends_with_slash}
use Rattle.kernel_core.specs.Queries.{walked, walked_from, walked_through}
use Rattle.kernel_core.specs.declared.error.Errno.TheVariants.{EFAULT, ENOENT}
use Rattle.kernel_core.specs.declared.open_flags.Access.TheVariants.{Read, Write}
use Rattle.file_system_laws.proofs.Lookups.{get-settled, get-update}
use Rattle.kernel_model.proofs.rows.Names.{inode, entry}
use Rattle.kernel_model.proofs.rows.Small.{input, output, read_end, small, to, to_on_exec, write_end}
use Rattle.kernel_model.specs.Came.{done, refused}
use Rattle.kernel_model.specs.Descriptions.{description_of, no_flags}
use Rattle.kernel_model.specs.NameRows.{make_directory}
use Rattle.kernel_model.specs.NodeRows.{after_change, change_directory, change_to_open, names_to, working_directory}
use Rattle.kernel_model.specs.Opening.{open_file}
use Rattle.kernel_model.specs.Paths.{Working, walk}
use Rattle.kernel_model.specs.State.{Files}
use Rattle.kernel_model.specs.declared.descriptor.Object.TheVariants.{Node}

-- the root is the working directory, which holds it
root : Inode
root = record (inode 493 3 (Directory (record { parent = Some 1; greatest = 4; entries = entry 3 (codes "d") 2 ∷ entry 4 (codes "l") 3 ∷ [] }))) { holds = 1 }

-- open once
directory : Inode
directory = record (inode 493 2 (Directory (record { parent = Some 1; greatest = 2; entries = [] }))) { holds = 1 }

link : Inode
link = inode 511 1 (Link (codes "d"))

opened : Nodes → Files
opened nodes = record (small nodes []) {
  table = record {
    fds = to 0 ∷ to 1 ∷ to 4 ∷ to 2 ∷ to 3 ∷ to_on_exec 3 ∷ None ∷ None ∷ [];
    live = Some input ∷ Some output ∷ Some read_end ∷ Some write_end ∷ Some (description_of (Node 2) (no_flags Read)) ∷ None ∷ [];
  };
}

module _ (nodes : Nodes) (at_1 : get nodes 1 ≡ Some root) (at_2 : get nodes 2 ≡ Some directory) (at_3 : get nodes 3 ≡ Some link) where
  files : Files
  files = opened nodes

  to_d : change_directory files (Ok (codes "d")) ≡ done (after_change files 2) tt
  unfolding change_directory walk walked walked_from walked_through components_after ends_with_slash files opened root directory inode entry
  to_d = simp (at_1, at_2) refl

  -- a link is followed
  to_l : change_directory files (Ok (codes "l")) ≡ done (after_change files 2) tt
  unfolding change_directory walk walked walked_from walked_through components_after ends_with_slash files opened root directory link inode entry
  to_l = simp (at_1, at_2, at_3) refl

  to_open : change_to_open files 2 ≡ done (after_change files 2) tt
  unfolding change_to_open files opened directory inode
  to_open = simp at_2 refl

  to_unreadable : change_directory files (Err EFAULT) ≡ refused files EFAULT
  unfolding change_directory files
  to_unreadable = refl

  to_nothing : change_directory files (Ok (codes "g")) ≡ refused files ENOENT
  unfolding change_directory walk walked walked_from walked_through components_after ends_with_slash files opened root inode entry
  to_nothing = simp at_1 refl

  -- the new one is held once more, and the old one once less

  is_there : (after_change files 2).directory ≡ 2
  is_there = refl

  d_is_held : get (after_change files 2).nodes 2 ≡ Some (record directory { holds = 2 })
  unfolding files opened root directory inode
  d_is_held = simp (get-settled, get-update, at_1, at_2) refl

  root_is_let_go : get (after_change files 2).nodes 1 ≡ Some (record root { holds = 0 })
  unfolding files opened root directory inode
  root_is_let_go = simp (get-settled, get-update, at_1, at_2) refl

-- A working directory that was removed has no path, and nothing is made in it.

removed : Inode
removed = record (inode 493 0 (Directory (record { parent = None; greatest = 2; entries = [] }))) { holds = 1 }

module _ (nodes : Nodes) (now : ℤ) (two : len nodes ≡ 2) (at_2 : get nodes 2 ≡ Some removed) where
  left : Files
  left = record (small nodes []) { directory = 2 }

  no_path : working_directory left 99 ≡ refused left ENOENT
  unfolding working_directory names_to left removed inode
  no_path = simp (two, at_2) refl

  -- also for a size that no path has
  no_path_at_all : working_directory left 0 ≡ refused left ENOENT
  unfolding working_directory names_to left removed inode
  no_path_at_all = simp (two, at_2) refl

  no_directory_there : make_directory left now Working (Ok (codes "g")) 511 ≡ refused left ENOENT
  unfolding make_directory walk walked walked_from walked_through components_after ends_with_slash left removed inode
  no_directory_there = simp at_2 refl

  no_file_there : open_file left None now Working (Ok (codes "g")) (Some (record (no_flags Write) { creat = true })) 420 ≡ refused left ENOENT
  unfolding open_file walk walked walked_from walked_through components_after ends_with_slash left removed inode
  no_file_there = simp at_2 refl

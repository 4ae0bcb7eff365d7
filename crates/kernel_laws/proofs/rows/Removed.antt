-- Worked rows on names that go: a root with the file `f`, the directory `d` and the link `l` to `f`.
use Rattle.std.specs.Prelude.{◌≡◌, ℤ, true, false, [], ◌∷◌, codes, Some, None, Ok, refl}
use Rattle.std.specs.FinMap.{get}
use Rattle.kernel_core.specs.FileContent.{no_content}
use Rattle.kernel_core.specs.NameCalls.{after_rmdir, after_unlink}
use Rattle.kernel_core.specs.Nodes.{Nodes, Inode, File, Directory, Link}
use Rattle.kernel_core.specs.PathWalk.{Place, components_after, ends_with_slash}
use Rattle.kernel_core.specs.Queries.{walked, walked_from, walked_through}
use Rattle.file_system_laws.proofs.Lookups.{get-settled, get-update}
use Rattle.kernel_model.proofs.rows.Names.{inode, entry}
use Rattle.kernel_model.proofs.rows.Small.{small}
use Rattle.kernel_model.specs.Came.{done}
use Rattle.kernel_model.specs.NameRows.{remove_name, with_nodes}
use Rattle.kernel_model.specs.Paths.{Working, walk}
use Rattle.kernel_model.specs.State.{Files}

root : Inode
root = inode 493 3 (Directory (record {
  parent = Some 1;
  greatest = 5;
  entries = entry 3 (codes "f") 2 ∷ entry 4 (codes "d") 3 ∷ entry 5 (codes "l") 4 ∷ [];
}))

file : Inode
file = inode 420 1 (File no_content)

directory : Inode
directory = inode 493 2 (Directory (record { parent = Some 1; greatest = 2; entries = [] }))

link : Inode
link = inode 511 1 (Link (codes "f"))

module _ (nodes : Nodes) (now : ℤ) (at_1 : get nodes 1 ≡ Some root) (at_2 : get nodes 2 ≡ Some file) (at_3 : get nodes 3 ≡ Some directory)
    (at_4 : get nodes 4 ≡ Some link) where
  files : Files
  files = small nodes []

  f : Place
  f = record { directory = 1; name = codes "f"; node = Some 2 }

  unlink_f : remove_name files now Working (Ok (codes "f")) (Some false) ≡ done (with_nodes files (after_unlink nodes f 2 now)) tt
  unfolding remove_name walk walked walked_from walked_through components_after ends_with_slash files f root file inode entry
  unlink_f = simp (at_1, at_2) refl

  -- its entry goes, and the file, which nothing holds
  f_is_gone : get (after_unlink nodes f 2 now) 2 ≡ None
  unfolding f root file inode entry
  f_is_gone = simp (get-settled, get-update, at_1, at_2) refl

  f_has_no_entry : get (after_unlink nodes f 2 now) 1 ≡ Some (record (inode 493 3 (Directory (record {
    parent = Some 1;
    greatest = 5;
    entries = entry 4 (codes "d") 3 ∷ entry 5 (codes "l") 4 ∷ [];
  }))) { modified = now; changed = now })
  unfolding f root file inode entry
  f_has_no_entry = simp (get-settled, get-update, at_1, at_2) refl

  l : Place
  l = record { directory = 1; name = codes "l"; node = Some 4 }

  -- a link goes, and not the file that it leads to
  unlink_l : remove_name files now Working (Ok (codes "l")) (Some false) ≡ done (with_nodes files (after_unlink nodes l 4 now)) tt
  unfolding remove_name walk walked walked_from walked_through components_after ends_with_slash files l root link inode entry
  unlink_l = simp (at_1, at_4) refl

  l_is_gone : get (after_unlink nodes l 4 now) 4 ≡ None
  unfolding l root link inode entry
  l_is_gone = simp (get-settled, get-update, at_1, at_4) refl

  f_stays : get (after_unlink nodes l 4 now) 2 ≡ Some file
  unfolding l root file link inode entry
  f_stays = simp (get-settled, get-update, at_1, at_2, at_4) refl

  -- an empty directory goes, and its parent has a link less

  d : Place
  d = record { directory = 1; name = codes "d"; node = Some 3 }

  rmdir_d : remove_name files now Working (Ok (codes "d")) (Some true) ≡ done (with_nodes files (after_rmdir nodes d 3 now)) tt
  unfolding remove_name walk walked walked_from walked_through components_after ends_with_slash files d root directory inode entry
  rmdir_d = simp (at_1, at_3) refl

  rmdir_before_slash : remove_name files now Working (Ok (codes "d/")) (Some true) ≡ done (with_nodes files (after_rmdir nodes d 3 now)) tt
  unfolding remove_name walk walked walked_from walked_through components_after ends_with_slash files d root directory inode entry
  rmdir_before_slash = simp (at_1, at_3) refl

  d_is_gone : get (after_rmdir nodes d 3 now) 3 ≡ None
  unfolding d root directory inode entry
  d_is_gone = simp (get-settled, get-update, at_1, at_3) refl

  root_has_less : get (after_rmdir nodes d 3 now) 1 ≡ Some (record (inode 493 2 (Directory (record {
    parent = Some 1;
    greatest = 5;
    entries = entry 3 (codes "f") 2 ∷ entry 5 (codes "l") 4 ∷ [];
  }))) { modified = now; changed = now })
  unfolding d root directory inode entry
  root_has_less = simp (get-settled, get-update, at_1, at_3) refl

-- What is held lives on without a name.

module _ (nodes : Nodes) (now : ℤ) (at_1 : get nodes 1 ≡ Some root) where
  open_file_stays : get nodes 2 ≡ Some (record file { holds = 1 }) → get (after_unlink nodes (record { directory = 1; name = codes "f"; node = Some 2 }) 2 now) 2
      ≡ Some (record file { holds = 1; links = 0; changed = now })
  unfolding root file inode entry
  open_file_stays at_2 = simp (get-settled, get-update, at_1, at_2) refl

  working_directory_stays : get nodes 3 ≡ Some (record directory { holds = 1 }) → get (after_rmdir nodes (record { directory = 1; name = codes "d"; node = Some 3 }) 3 now) 3
      ≡ Some (record directory { holds = 1; links = 0; content = Directory (record { parent = None; greatest = 2; entries = [] }) })
  unfolding root directory inode entry
  working_directory_stays at_3 = simp (get-settled, get-update, at_1, at_3) refl

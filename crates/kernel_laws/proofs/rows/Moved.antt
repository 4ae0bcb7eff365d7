-- Worked rows on names that move: a root with the files `f` and `g` and the directories `d` and `e`, all empty.
use Rattle.std.specs.Prelude.{◌≡◌, ℤ, [], ◌∷◌, codes, Some, None, Ok, refl}
use Rattle.std.specs.FinMap.{get, len}
use Rattle.kernel_core.specs.FileContent.{no_content}
use Rattle.kernel_core.specs.NameCalls.{after_rename, is_below}
use Rattle.kernel_core.specs.Nodes.{Nodes, Inode, File, Directory}
use Rattle.kernel_core.specs.PathWalk.{Place, components_after, ends_with_slash}
use Rattle.kernel_core.specs.Queries.{walked, walked_from, walked_through}
use Rattle.kernel_core.specs.declared.error.Errno.TheVariants.{EINVAL, ENOTDIR}
use Rattle.file_system_laws.proofs.Lookups.{get-settled, get-update}
use Rattle.kernel_model.proofs.rows.Names.{inode, entry}
use Rattle.kernel_model.proofs.rows.Small.{small}
use Rattle.kernel_model.specs.Came.{done, refused}
use Rattle.kernel_model.specs.NameRows.{rename, with_nodes}
use Rattle.kernel_model.specs.Paths.{Working, walk}
use Rattle.kernel_model.specs.State.{Files}

root : Inode
root = inode 493 4 (Directory (record {
  parent = Some 1;
  greatest = 6;
  entries = entry 3 (codes "f") 2 ∷ entry 4 (codes "g") 3 ∷ entry 5 (codes "d") 4 ∷ entry 6 (codes "e") 5 ∷ [];
}))

file : Inode
file = inode 420 1 (File no_content)

directory : Inode
directory = inode 493 2 (Directory (record { parent = Some 1; greatest = 2; entries = [] }))

module _ (nodes : Nodes) (now : ℤ) (five : len nodes ≡ 5) (at_1 : get nodes 1 ≡ Some root) (at_2 : get nodes 2 ≡ Some file) (at_3 : get nodes 3 ≡ Some file)
    (at_4 : get nodes 4 ≡ Some directory) (at_5 : get nodes 5 ≡ Some directory) where
  files : Files
  files = small nodes []

  f : Place
  f = record { directory = 1; name = codes "f"; node = Some 2 }

  g : Place
  g = record { directory = 1; name = codes "g"; node = Some 3 }

  d : Place
  d = record { directory = 1; name = codes "d"; node = Some 4 }

  e : Place
  e = record { directory = 1; name = codes "e"; node = Some 5 }

  -- over a file

  over_g : rename files now Working (Ok (codes "f")) Working (Ok (codes "g")) ≡ done (with_nodes files (after_rename nodes f g 2 now)) tt
  unfolding rename walk walked walked_from walked_through components_after ends_with_slash files f g root file inode entry
  over_g = simp (at_1, at_2, at_3) refl

  g_is_gone : get (after_rename nodes f g 2 now) 3 ≡ None
  unfolding f g root file inode entry
  g_is_gone = simp (get-settled, get-update, at_1, at_2, at_3) refl

  f_moved : get (after_rename nodes f g 2 now) 2 ≡ Some (record file { changed = now })
  unfolding f g root file inode entry
  f_moved = simp (get-settled, get-update, at_1, at_2, at_3) refl

  -- the entry is a new one
  named_g : get (after_rename nodes f g 2 now) 1 ≡ Some (record (inode 493 4 (Directory (record {
    parent = Some 1;
    greatest = 7;
    entries = entry 5 (codes "d") 4 ∷ entry 6 (codes "e") 5 ∷ entry 7 (codes "g") 2 ∷ [];
  }))) { modified = now; changed = now })
  unfolding f g root file inode entry
  named_g = simp (get-settled, get-update, at_1, at_2, at_3) refl

  -- over an empty directory

  over_e : rename files now Working (Ok (codes "d")) Working (Ok (codes "e")) ≡ done (with_nodes files (after_rename nodes d e 4 now)) tt
  unfolding rename walk walked walked_from walked_through components_after ends_with_slash is_below files d e root directory inode entry
  over_e = simp (five, at_1, at_4, at_5) refl

  e_is_gone : get (after_rename nodes d e 4 now) 5 ≡ None
  unfolding d e root directory inode entry
  e_is_gone = simp (get-settled, get-update, at_1, at_4, at_5) refl

  named_e : get (after_rename nodes d e 4 now) 1 ≡ Some (record (inode 493 3 (Directory (record {
    parent = Some 1;
    greatest = 7;
    entries = entry 3 (codes "f") 2 ∷ entry 4 (codes "g") 3 ∷ entry 7 (codes "e") 4 ∷ [];
  }))) { modified = now; changed = now })
  unfolding d e root directory inode entry
  named_e = simp (get-settled, get-update, at_1, at_4, at_5) refl

  -- kinds that don't fit, and a directory below itself

  directory_over_file : rename files now Working (Ok (codes "d")) Working (Ok (codes "f")) ≡ refused files ENOTDIR
  unfolding rename walk walked walked_from walked_through components_after ends_with_slash is_below files root file directory inode entry
  directory_over_file = simp (five, at_1, at_2, at_4) refl

  below_itself : rename files now Working (Ok (codes "d")) Working (Ok (codes "d/x")) ≡ refused files EINVAL
  unfolding rename walk walked walked_from walked_through components_after ends_with_slash is_below files root directory inode entry
  below_itself = simp (five, at_1, at_4) refl

-- Worked rows on names of directories: a root with the file `f`, the empty directory `d` and the directory `e`, in which `f` has the
-- name `g`.
use Rattle.std.specs.Prelude.{◌≡◌, ℤ, true, false, [], ◌∷◌, codes, Some, None, Ok, refl}
use Rattle.std.specs.FinMap.{get, len}
use Rattle.kernel_core.specs.FileContent.{no_content}
use Rattle.kernel_core.specs.NameCalls.{after_link, after_mkdir, is_below}
use Rattle.kernel_core.specs.Nodes.{Nodes, Inode, File, Directory}
use Rattle.kernel_core.specs.PathWalk.{components_after, ends_with_slash}
use Rattle.kernel_core.specs.Queries.{new_number, walked, walked_from, walked_through}
use Rattle.kernel_core.specs.Totals.{live_entries}
use Rattle.kernel_core.specs.declared.error.Errno.TheVariants.{EBUSY, EEXIST, EISDIR, ENOENT, ENOTEMPTY, EPERM}
use Rattle.kernel_model.proofs.rows.Names.{inode, entry}
use Rattle.kernel_model.proofs.rows.Small.{small}
use Rattle.kernel_model.specs.Came.{done, refused}
use Rattle.kernel_model.specs.NameRows.{link, make_directory, make_link, remove_name, rename, with_nodes}
use Rattle.kernel_model.specs.Paths.{Working, walk}
use Rattle.kernel_model.specs.State.{Files}

root : Inode
root = inode 493 4 (Directory (record {
  parent = Some 1;
  greatest = 5;
  entries = entry 3 (codes "f") 2 ∷ entry 4 (codes "d") 3 ∷ entry 5 (codes "e") 4 ∷ [];
}))

file : Inode
file = inode 420 2 (File no_content)

empty : Inode
empty = inode 493 2 (Directory (record { parent = Some 1; greatest = 2; entries = [] }))

filled : Inode
filled = inode 493 2 (Directory (record { parent = Some 1; greatest = 3; entries = entry 3 (codes "g") 2 ∷ [] }))

module _ (nodes : Nodes) (now : ℤ) (four : len nodes ≡ 4) (at_1 : get nodes 1 ≡ Some root) (at_2 : get nodes 2 ≡ Some file) (at_3 : get nodes 3 ≡ Some empty)
    (at_4 : get nodes 4 ≡ Some filled) where
  files : Files
  files = small nodes []

  -- the root stays

  remove_root : remove_name files now Working (Ok (codes "/")) (Some true) ≡ refused files EBUSY
  unfolding remove_name walk walked walked_from walked_through components_after ends_with_slash files
  remove_root = refl

  unlink_root : remove_name files now Working (Ok (codes "/")) (Some false) ≡ refused files EISDIR
  unfolding remove_name walk walked walked_from walked_through components_after ends_with_slash files root inode
  unlink_root = simp at_1 refl

  rename_root : rename files now Working (Ok (codes "/")) Working (Ok (codes "x")) ≡ refused files EBUSY
  unfolding rename walk walked walked_from walked_through components_after ends_with_slash files root inode entry
  rename_root = simp at_1 refl

  onto_root : rename files now Working (Ok (codes "d")) Working (Ok (codes "/")) ≡ refused files EBUSY
  unfolding rename walk walked walked_from walked_through components_after ends_with_slash files root empty inode entry
  onto_root = simp (at_1, at_3) refl

  remove_filled : remove_name files now Working (Ok (codes "e")) (Some true) ≡ refused files ENOTEMPTY
  unfolding remove_name walk walked walked_from walked_through components_after ends_with_slash files root filled inode entry
  remove_filled = simp (at_1, at_4) refl

  remove_missing : remove_name files now Working (Ok (codes "d/x")) (Some true) ≡ refused files ENOENT
  unfolding remove_name walk walked walked_from walked_through components_after ends_with_slash files root empty inode entry
  remove_missing = simp (at_1, at_3) refl

  -- an empty directory onto one that is not

  onto_filled : rename files now Working (Ok (codes "d")) Working (Ok (codes "e")) ≡ refused files ENOTEMPTY
  unfolding rename walk walked walked_from walked_through components_after ends_with_slash is_below files root empty filled inode entry
  onto_filled = simp (four, at_1, at_3, at_4) refl

  -- names that are there

  mkdir_there : make_directory files now Working (Ok (codes "d/")) 511 ≡ refused files EEXIST
  unfolding make_directory walk walked walked_from walked_through components_after ends_with_slash files root empty inode entry
  mkdir_there = simp (at_1, at_3) refl

  mkdir_root : make_directory files now Working (Ok (codes "/")) 511 ≡ refused files EEXIST
  unfolding make_directory walk walked walked_from walked_through components_after ends_with_slash files
  mkdir_root = refl

  symlink_there : make_link files now (Ok (codes "f")) Working (Ok (codes "d")) ≡ refused files EEXIST
  unfolding make_link walk walked walked_from walked_through components_after ends_with_slash files root empty inode entry
  symlink_there = simp (at_1, at_3) refl

  -- a slash behind a name that is missing
  symlink_before_slash : make_link files now (Ok (codes "f")) Working (Ok (codes "x/")) ≡ refused files ENOENT
  unfolding make_link walk walked walked_from walked_through components_after ends_with_slash files root inode entry
  symlink_before_slash = simp at_1 refl

  -- mkdir takes it; of 07777 ten bits count, and 01777 less 022 is 01755
  mkdir_before_slash : live_entries nodes ≡ 4 → make_directory files now Working (Ok (codes "d/x/")) 4095
      ≡ done (with_nodes files (after_mkdir nodes (record { directory = 3; name = codes "x"; node = None }) (new_number nodes) 1005 now)) tt
  unfolding make_directory walk walked walked_from walked_through components_after ends_with_slash files root empty inode entry
  mkdir_before_slash few = simp (four, at_1, at_3, few) refl

  link_into_directory : live_entries nodes ≡ 4 → link files now Working (Ok (codes "f")) Working (Ok (codes "d/x")) (Some true)
      ≡ done (with_nodes files (after_link nodes 2 (record { directory = 3; name = codes "x"; node = None }) now)) tt
  unfolding link walk walked walked_from walked_through components_after ends_with_slash files root file empty inode entry
  link_into_directory few = simp (at_1, at_2, at_3, few) refl

  -- a directory gets no second name, also where the new one is there
  link_of_directory : link files now Working (Ok (codes "d")) Working (Ok (codes "f")) (Some false) ≡ refused files EPERM
  unfolding link walk walked walked_from walked_through components_after ends_with_slash files root file empty inode entry
  link_of_directory = simp (at_1, at_2, at_3) refl

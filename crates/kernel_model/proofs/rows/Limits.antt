-- Worked rows at limits: a root with the file `f` and the directory `d`, in which the file has the name `f` too.
use Rattle.std.specs.Prelude.{◌≡◌, ℕ, ◌+◌, ◌^◌, ℤ, pos, true, [], ◌∷◌, codes, Some, None, Ok, refl}
use Rattle.std.specs.FinMap.{get, empty, len}
use Rattle.kernel_core.specs.NameCalls.{after_mkdir}
use Rattle.kernel_core.specs.Nodes.{Nodes, Inode, File, Directory}
use Rattle.kernel_core.specs.PathWalk.{components_after, ends_with_slash}
use Rattle.kernel_core.specs.Queries.{walked, walked_from, walked_through, new_number}
use Rattle.kernel_core.specs.Totals.{live_entries}
use Rattle.kernel_core.specs.declared.error.Errno.TheVariants.{EFBIG, EISDIR, ENOSPC, ENOTEMPTY, EOVERFLOW, ERANGE}
use Rattle.kernel_core.specs.declared.open_flags.Access.TheVariants.{Read, ReadWrite}
use Rattle.kernel_model.proofs.rows.Names.{inode, entry}
use Rattle.kernel_model.proofs.rows.Small.{small}
use Rattle.kernel_model.specs.Came.{done, refused}
use Rattle.kernel_model.specs.Descriptions.{no_flags}
use Rattle.kernel_model.specs.NameRows.{make_directory, remove_name, rename, with_nodes}
use Rattle.kernel_model.specs.NodeRows.{after_truncate, names_to, truncate, working_directory}
use Rattle.kernel_model.specs.Opening.{after_open, open_file}
use Rattle.kernel_model.specs.Paths.{Working, walk}
use Rattle.kernel_model.specs.Shared.{OpenSet}
use Rattle.kernel_model.specs.State.{Files}

root : Inode
root = inode 493 3 (Directory (record { parent = Some 1; greatest = 4; entries = entry 3 (codes "f") 2 ∷ entry 4 (codes "d") 3 ∷ [] }))

directory : Inode
directory = inode 493 2 (Directory (record { parent = Some 1; greatest = 3; entries = entry 3 (codes "f") 2 ∷ [] }))

-- a file of this size, without blocks
sized : ℕ → Inode
sized size = inode 420 2 (File (record { size = size; blocks = empty }))

reads : OpenSet
reads = no_flags Read

truncates : OpenSet
truncates = record (no_flags ReadWrite) { trunc = true }

module _ (nodes : Nodes) (now : ℤ) (at_1 : get nodes 1 ≡ Some root) where
  files : Files
  files = small nodes []

  -- a file of the greatest size that is opened without LARGEFILE, and a larger one
  module _ (at_2 : get nodes 2 ≡ Some (sized 0x7FFFFFFF)) where
    at_the_size : open_file files (Some 0x7FFFFFFF) now Working (Ok (codes "f")) (Some reads) 0 ≡ done (after_open files reads 2 2) 2
    unfolding open_file walk walked walked_from walked_through components_after ends_with_slash files reads root sized inode entry
    at_the_size = simp (at_1, at_2) refl

  module _ (at_2 : get nodes 2 ≡ Some (sized 0x80000000)) where
    past_the_size : open_file files (Some 0x7FFFFFFF) now Working (Ok (codes "f")) (Some reads) 0 ≡ refused files EOVERFLOW
    unfolding open_file walk walked walked_from walked_through components_after ends_with_slash files reads root sized inode entry
    past_the_size = simp (at_1, at_2) refl

    -- it is left as it was
    past_the_size_to_truncate : open_file files (Some 0x7FFFFFFF) now Working (Ok (codes "f")) (Some truncates) 0 ≡ refused files EOVERFLOW
    unfolding open_file walk walked walked_from walked_through components_after ends_with_slash files truncates root sized inode entry
    past_the_size_to_truncate = simp (at_1, at_2) refl

    with_largefile : open_file files (Some 0x7FFFFFFF) now Working (Ok (codes "f")) (Some (record reads { largefile = true })) 0
        ≡ done (after_open files (record reads { largefile = true }) 2 2) 2
    unfolding open_file walk walked walked_from walked_through components_after ends_with_slash files reads root sized inode entry
    with_largefile = simp (at_1, at_2) refl

    without_a_size : open_file files None now Working (Ok (codes "f")) (Some reads) 0 ≡ done (after_open files reads 2 2) 2
    unfolding open_file walk walked walked_from walked_through components_after ends_with_slash files reads root sized inode entry
    without_a_size = simp (at_1, at_2) refl

    -- the greatest size of a file
    as_large_as_can_be : truncate files now Working (Ok (codes "f")) (pos (2 ^ 44)) ≡ done (after_truncate files now 2 (2 ^ 44)) tt
    unfolding truncate walk walked walked_from walked_through components_after ends_with_slash files root sized inode entry
    as_large_as_can_be = simp (at_1, at_2) refl

    too_large : truncate files now Working (Ok (codes "f")) (pos (2 ^ 44 + 1)) ≡ refused files EFBIG
    unfolding truncate walk walked walked_from walked_through components_after ends_with_slash files root sized inode entry
    too_large = simp (at_1, at_2) refl

  -- Directories that are not empty

  module _ (at_2 : get nodes 2 ≡ Some (sized 0)) (at_3 : get nodes 3 ≡ Some directory) where
    remove_full_one : remove_name files now Working (Ok (codes "d")) (Some true) ≡ refused files ENOTEMPTY
    unfolding remove_name walk walked walked_from walked_through components_after ends_with_slash files root directory inode entry
    remove_full_one = simp (at_1, at_3) refl

    remove_dots : remove_name files now Working (Ok (codes "d/..")) (Some true) ≡ refused files ENOTEMPTY
    unfolding remove_name walk walked walked_from walked_through components_after ends_with_slash files root directory inode entry
    remove_dots = simp (at_1, at_3) refl

    file_onto_directory : rename files now Working (Ok (codes "f")) Working (Ok (codes "d")) ≡ refused files EISDIR
    unfolding rename walk walked walked_from walked_through components_after ends_with_slash files root sized directory inode entry
    file_onto_directory = simp (at_1, at_2, at_3) refl

    -- two names of one node stay
    onto_the_same : rename files now Working (Ok (codes "f")) Working (Ok (codes "d/f")) ≡ done files tt
    unfolding rename walk walked walked_from walked_through components_after ends_with_slash files root sized directory inode entry
    onto_the_same = simp (at_1, at_2, at_3) refl

  -- The path of the working directory, whose NUL counts

  module _ (three : len nodes ≡ 3) (at_3 : get nodes 3 ≡ Some directory) where
    root_short : working_directory files 1 ≡ refused files ERANGE
    unfolding working_directory names_to files
    root_short = simp three refl

    root_fits : working_directory files 2 ≡ done files (codes "/")
    unfolding working_directory names_to files
    root_fits = simp three refl

    path_short : working_directory (record files { directory = 3 }) 2 ≡ refused (record files { directory = 3 }) ERANGE
    unfolding working_directory names_to files root directory inode entry
    path_short = simp (three, at_1, at_3) refl

    path_fits : working_directory (record files { directory = 3 }) 3 ≡ done (record files { directory = 3 }) (codes "/d")
    unfolding working_directory names_to files root directory inode entry
    path_fits = simp (three, at_1, at_3) refl

  -- A full file system

  no_more_nodes : len nodes ≡ 65_536 → make_directory files now Working (Ok (codes "g")) 511 ≡ refused files ENOSPC
  unfolding make_directory walk walked walked_from walked_through components_after ends_with_slash files root inode entry
  no_more_nodes full = simp (at_1, full) refl

  no_more_entries : len nodes ≡ 65_535 → live_entries nodes ≡ 131_072 → make_directory files now Working (Ok (codes "g")) 511 ≡ refused files ENOSPC
  unfolding make_directory walk walked walked_from walked_through components_after ends_with_slash files root inode entry
  no_more_entries room full = simp (at_1, room, full) refl

  one_more : len nodes ≡ 65_535 → live_entries nodes ≡ 131_071 → make_directory files now Working (Ok (codes "g")) 511
      ≡ done (with_nodes files (after_mkdir nodes (record { directory = 1; name = codes "g"; node = None }) (new_number nodes) 493 now)) tt
  unfolding make_directory walk walked walked_from walked_through components_after ends_with_slash files root inode entry
  one_more room more = simp (at_1, room, more) refl

-- Worked rows on renaming, in a tree with the directories `d` and `e`.
use Rattle.std.specs.Prelude.{◌≡◌, ℕ, [], codes, Some, Ok, refl}
use Rattle.std.specs.FinMap.{get, len}
use Rattle.guest_space.specs.Memory.{Memory}
use Rattle.kernel_core.specs.NameCalls.{after_rename, is_below}
use Rattle.kernel_core.specs.Nodes.{Nodes}
use Rattle.kernel_core.specs.PathWalk.{Place, components_after, ends_with_slash}
use Rattle.kernel_core.specs.Queries.{walked, walked_from, walked_through}
use Rattle.kernel_core.specs.declared.error.Errno.{Errno}
use Rattle.kernel_core.specs.declared.error.Errno.TheVariants.{EBUSY, EINVAL, EISDIR, ENOENT, ENOSPC, ENOTDIR, ENOTEMPTY}
use Rattle.kernel_model.specs.Clock.{now}
use Rattle.kernel_model.specs.NameRows.{rename, with_nodes}
use Rattle.kernel_model.specs.Paths.{walk}
use Rattle.kernel_model.specs.State.{Kernel}
use Rattle.kernel_model.specs.Whole.{with_files}
use Rattle.mips_exec.specs.Processor.{Processor}
use Rattle.o32_model.proofs.rows.Small.{at_first, words, guest, leaves}
use Rattle.o32_model.proofs.rows.SmallTree.{mode_and_links, other_root, file_inode, directory_inode, full_inode, used_up_inode, missing}
use Rattle.o32_model.specs.Names.{rename_row}
use Rattle.o32_model.specs.Paths.{path_at}
use Rattle.o32_model.specs.Step.{O32Step}
use Rattle.o32_model.specs.Table.{o32_call}
use Rattle.o32_model.specs.declared.outcome.Outcome.TheVariants.{Value, Error}

module _ (whole : Kernel) (nodes : Nodes) (processor : Processor) (memory : Memory) (at_1 : get nodes 1 ≡ Some other_root) where
  -- the path at 65536 is renamed to that at 69632, and the second begins at the working directory or at a descriptor
  abbrev renamed_at : ℕ → O32Step
  renamed_at base = o32_call (with_files whole (at_first nodes)) (guest (words 4295 0xFFFF_FF9C 65536 base 69632) processor memory) []

  abbrev renamed : O32Step
  renamed = o32_call (with_files whole (at_first nodes)) (guest (words 4038 65536 69632 0 0) processor memory) []

  abbrev refuses : Errno → O32Step
  refuses error = leaves whole (at_first nodes) processor memory [] (Error error)

  abbrev becomes : Nodes → O32Step
  becomes changed = leaves whole (with_nodes (at_first nodes) changed) processor memory [] (Value 0)

  -- entries of the root
  abbrev file : Place
  file = record { directory = 1; name = codes "f"; node = Some 2 }

  abbrev directory : Place
  directory = record { directory = 1; name = codes "d"; node = Some 3 }

  -- the old name is looked for first
  missing_name : path_at memory 65536 ≡ Ok (codes "n") → path_at memory 69632 ≡ Ok (codes "x") → renamed ≡ refuses ENOENT
  unfolding rename_row rename walk walked walked_from walked_through components_after ends_with_slash other_root mode_and_links
  missing_name path_one path_two = simp (path_one, path_two, at_1) refl

  missing_before_closed : path_at memory 65536 ≡ Ok (codes "n") → path_at memory 69632 ≡ Ok (codes "x") → renamed_at 9 ≡ refuses ENOENT
  unfolding rename_row rename walk walked walked_from walked_through components_after ends_with_slash other_root mode_and_links
  missing_before_closed path_one path_two = simp (path_one, path_two, at_1) refl

  module _ (at_2 : get nodes 2 ≡ Some file_inode) where
    -- two names of one node stay
    onto_itself : path_at memory 65536 ≡ Ok (codes "f") → path_at memory 69632 ≡ Ok (codes "f") → renamed ≡ becomes nodes
    unfolding rename_row rename walk walked walked_from walked_through components_after ends_with_slash other_root mode_and_links file_inode
    onto_itself path_one path_two = simp (path_one, path_two, at_1, at_2) refl

    onto_dot : path_at memory 65536 ≡ Ok (codes "f") → path_at memory 69632 ≡ Ok (codes ".") → renamed ≡ refuses EBUSY
    unfolding rename_row rename walk walked walked_from walked_through components_after ends_with_slash other_root mode_and_links file_inode
    onto_dot path_one path_two = simp (path_one, path_two, at_1, at_2) refl

    onto_dots : path_at memory 65536 ≡ Ok (codes "f") → path_at memory 69632 ≡ Ok (codes "..") → renamed ≡ refuses EBUSY
    unfolding rename_row rename walk walked walked_from walked_through components_after ends_with_slash other_root mode_and_links file_inode
    onto_dots path_one path_two = simp (path_one, path_two, at_1, at_2) refl

    onto_root : path_at memory 65536 ≡ Ok (codes "f") → path_at memory 69632 ≡ Ok (codes "/") → renamed ≡ refuses EBUSY
    unfolding rename_row rename walk walked walked_from walked_through components_after ends_with_slash other_root mode_and_links file_inode
    onto_root path_one path_two = simp (path_one, path_two, at_1, at_2) refl

    file_before_slash : path_at memory 65536 ≡ Ok (codes "f") → path_at memory 69632 ≡ Ok (codes "n/") → renamed ≡ refuses ENOENT
    unfolding rename_row rename walk walked walked_from walked_through components_after ends_with_slash other_root mode_and_links file_inode
    file_before_slash path_one path_two = simp (path_one, path_two, at_1, at_2) refl

    -- a file takes another's place
    onto_file : get nodes 0xFFFF_FFFF ≡ Some file_inode → path_at memory 65536 ≡ Ok (codes "f") → path_at memory 69632 ≡ Ok (codes "m") → renamed ≡ becomes (after_rename nodes file (record { directory = 1; name = codes "m"; node = Some 0xFFFF_FFFF }) 2 (now whole))
    unfolding rename_row rename walk walked walked_from walked_through components_after ends_with_slash other_root mode_and_links file_inode
    onto_file at_m path_one path_two = simp (path_one, path_two, at_1, at_2, at_m) refl

    -- but not a directory's
    file_onto_directory : get nodes 3 ≡ Some directory_inode → path_at memory 65536 ≡ Ok (codes "f") → path_at memory 69632 ≡ Ok (codes "d") → renamed ≡ refuses EISDIR
    unfolding rename_row rename walk walked walked_from walked_through components_after ends_with_slash other_root mode_and_links file_inode directory_inode
    file_onto_directory at_3 path_one path_two = simp (path_one, path_two, at_1, at_2, at_3) refl

    -- the directory has no cookie left
    no_cookie : get nodes 3 ≡ Some used_up_inode → path_at memory 65536 ≡ Ok (codes "f") → path_at memory 69632 ≡ Ok (codes "d/x") → renamed ≡ refuses ENOSPC
    unfolding rename_row rename walk walked walked_from walked_through components_after ends_with_slash other_root mode_and_links file_inode used_up_inode
    no_cookie at_3 path_one path_two = simp (path_one, path_two, at_1, at_2, at_3) refl

    module _ (at_3 : get nodes 3 ≡ Some directory_inode) (five : len nodes ≡ 5) where
      directory_onto_file : path_at memory 65536 ≡ Ok (codes "d") → path_at memory 69632 ≡ Ok (codes "f") → renamed ≡ refuses ENOTDIR
      unfolding rename_row rename walk walked walked_from walked_through components_after ends_with_slash other_root mode_and_links file_inode directory_inode is_below
      directory_onto_file path_one path_two = simp (path_one, path_two, at_1, at_2, at_3, five) refl

      directory_before_slash : path_at memory 65536 ≡ Ok (codes "d") → path_at memory 69632 ≡ Ok (codes "n/") → renamed ≡ becomes (after_rename nodes directory (missing (codes "n")) 3 (now whole))
      unfolding rename_row rename walk walked walked_from walked_through components_after ends_with_slash other_root mode_and_links file_inode directory_inode is_below
      directory_before_slash path_one path_two = simp (path_one, path_two, at_1, at_3, five) refl

      -- into itself
      into_its_own : path_at memory 65536 ≡ Ok (codes "d") → path_at memory 69632 ≡ Ok (codes "d/x") → renamed ≡ refuses EINVAL
      unfolding rename_row rename walk walked walked_from walked_through components_after ends_with_slash other_root mode_and_links file_inode directory_inode is_below
      into_its_own path_one path_two = simp (path_one, path_two, at_1, at_3, five) refl

  -- `d` with the file `a`: a file is not put onto a directory in which it lies, and no directory onto one with entries
  module _ (at_3 : get nodes 3 ≡ Some full_inode) where
    onto_its_ancestor : get nodes 8 ≡ Some file_inode → path_at memory 65536 ≡ Ok (codes "d/a") → path_at memory 69632 ≡ Ok (codes "d") → renamed ≡ refuses EISDIR
    unfolding rename_row rename walk walked walked_from walked_through components_after ends_with_slash other_root mode_and_links file_inode full_inode
    onto_its_ancestor at_8 path_one path_two = simp (path_one, path_two, at_1, at_3, at_8) refl

    onto_full : get nodes 6 ≡ Some directory_inode → len nodes ≡ 6 → path_at memory 65536 ≡ Ok (codes "e") → path_at memory 69632 ≡ Ok (codes "d") → renamed ≡ refuses ENOTEMPTY
    unfolding rename_row rename walk walked walked_from walked_through components_after ends_with_slash other_root mode_and_links directory_inode full_inode is_below
    onto_full at_6 six path_one path_two = simp (path_one, path_two, at_1, at_3, at_6, six) refl

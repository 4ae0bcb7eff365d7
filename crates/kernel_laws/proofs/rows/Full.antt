-- Worked rows in a full file system: a root with the file `f`, and a root whose cookies have ended.
use Rattle.std.specs.Prelude.{◌≡◌, ℕ, ℤ, true, false, [], ◌∷◌, codes, Some, None, Ok, refl}
use Rattle.std.specs.FinMap.{get, len}
use Rattle.kernel_core.specs.FileContent.{no_content}
use Rattle.kernel_core.specs.NameCalls.{after_create, after_link, after_symlink}
use Rattle.kernel_core.specs.Nodes.{Nodes, Inode, File, Directory}
use Rattle.kernel_core.specs.PathWalk.{components_after, ends_with_slash}
use Rattle.kernel_core.specs.Queries.{walked, walked_from, walked_through, new_number}
use Rattle.kernel_core.specs.Totals.{live_entries}
use Rattle.kernel_core.specs.declared.error.Errno.TheVariants.{ENOSPC}
use Rattle.kernel_core.specs.declared.open_flags.Access.TheVariants.{Write}
use Rattle.kernel_model.proofs.rows.Names.{inode, entry}
use Rattle.kernel_model.proofs.rows.Small.{small}
use Rattle.kernel_model.specs.Came.{done, refused}
use Rattle.kernel_model.specs.Descriptions.{no_flags}
use Rattle.kernel_model.specs.NameRows.{link, make_directory, make_link, rename, with_nodes}
use Rattle.kernel_model.specs.Opening.{after_open, open_file}
use Rattle.kernel_model.specs.Paths.{Working, walk}
use Rattle.kernel_model.specs.Shared.{OpenSet}
use Rattle.kernel_model.specs.State.{Files}

-- with the greatest cookie that it ever had
root : ℕ → Inode
root greatest = inode 493 2 (Directory (record { parent = Some 1; greatest = greatest; entries = entry 3 (codes "f") 2 ∷ [] }))

file : Inode
file = inode 420 1 (File no_content)

makes : OpenSet
makes = record (no_flags Write) { creat = true }

module _ (nodes : Nodes) (now : ℤ) (at_2 : get nodes 2 ≡ Some file) where
  files : Files
  files = small nodes []

  module _ (at_1 : get nodes 1 ≡ Some (root 3)) where
    -- 65,536 nodes
    module _ (full : len nodes ≡ 65_536) where
      open_new : open_file files None now Working (Ok (codes "g")) (Some makes) 420 ≡ refused files ENOSPC
      unfolding open_file walk walked walked_from walked_through components_after ends_with_slash files makes root inode entry
      open_new = simp (at_1, full) refl

      symlink_new : make_link files now (Ok (codes "f")) Working (Ok (codes "g")) ≡ refused files ENOSPC
      unfolding make_link walk walked walked_from walked_through components_after ends_with_slash files root inode entry
      symlink_new = simp (at_1, full) refl

    -- a second name takes no node
    link_in_spite : len nodes ≡ 65_536 → live_entries nodes ≡ 131_071 → link files now Working (Ok (codes "f")) Working (Ok (codes "g")) (Some false)
        ≡ done (with_nodes files (after_link nodes 2 (record { directory = 1; name = codes "g"; node = None }) now)) tt
    unfolding link walk walked walked_from walked_through components_after ends_with_slash files root file inode entry
    link_in_spite full room = simp (at_1, at_2, full, room) refl

    -- 131,072 entries
    module _ (some : len nodes ≡ 2) (full : live_entries nodes ≡ 131_072) where
      open_more : open_file files None now Working (Ok (codes "g")) (Some makes) 420 ≡ refused files ENOSPC
      unfolding open_file walk walked walked_from walked_through components_after ends_with_slash files makes root inode entry
      open_more = simp (at_1, some, full) refl

      link_more : link files now Working (Ok (codes "f")) Working (Ok (codes "g")) (Some false) ≡ refused files ENOSPC
      unfolding link walk walked walked_from walked_through components_after ends_with_slash files root file inode entry
      link_more = simp (at_1, at_2, full) refl

      symlink_more : make_link files now (Ok (codes "f")) Working (Ok (codes "g")) ≡ refused files ENOSPC
      unfolding make_link walk walked walked_from walked_through components_after ends_with_slash files root inode entry
      symlink_more = simp (at_1, some, full) refl

    -- with room for both, 0666 less 022 is 0644
    module _ (some : len nodes ≡ 65_535) (room : live_entries nodes ≡ 131_071) where
      open_last : open_file files None now Working (Ok (codes "g")) (Some makes) 438
          ≡ done (after_open (with_nodes files (after_create nodes (record { directory = 1; name = codes "g"; node = None }) (new_number nodes) 420 now)) makes 2 (new_number nodes)) 2
      unfolding open_file walk walked walked_from walked_through components_after ends_with_slash files makes root inode entry
      open_last = simp (at_1, some, room) refl

      symlink_last : make_link files now (Ok (codes "f")) Working (Ok (codes "g"))
          ≡ done (with_nodes files (after_symlink nodes (record { directory = 1; name = codes "g"; node = None }) (new_number nodes) (codes "f") now)) tt
      unfolding make_link walk walked walked_from walked_through components_after ends_with_slash files root inode entry
      symlink_last = simp (at_1, some, room) refl

  -- the directory's cookies have ended
  module _ (at_1 : get nodes 1 ≡ Some (root 2_147_483_647)) (some : len nodes ≡ 2) (few : live_entries nodes ≡ 1) where
    open_without_cookie : open_file files None now Working (Ok (codes "g")) (Some makes) 420 ≡ refused files ENOSPC
    unfolding open_file walk walked walked_from walked_through components_after ends_with_slash files makes root inode entry
    open_without_cookie = simp (at_1, some, few) refl

    mkdir_without_cookie : make_directory files now Working (Ok (codes "g")) 511 ≡ refused files ENOSPC
    unfolding make_directory walk walked walked_from walked_through components_after ends_with_slash files root inode entry
    mkdir_without_cookie = simp (at_1, some, few) refl

    link_without_cookie : link files now Working (Ok (codes "f")) Working (Ok (codes "g")) (Some false) ≡ refused files ENOSPC
    unfolding link walk walked walked_from walked_through components_after ends_with_slash files root file inode entry
    link_without_cookie = simp (at_1, at_2, few) refl

    rename_without_cookie : rename files now Working (Ok (codes "f")) Working (Ok (codes "g")) ≡ refused files ENOSPC
    unfolding rename walk walked walked_from walked_through components_after ends_with_slash files root file inode entry
    rename_without_cookie = simp (at_1, at_2) refl

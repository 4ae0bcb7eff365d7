-- Worked rows on paths that lead nowhere, for each row that takes one: a path that can't be read, one without an end, one from a closed
-- descriptor, one through a file, one through a link to itself, and a name that is missing or there. A root with the file `f`,
-- the link `o` to itself and the link `s` to the root.
use Rattle.std.specs.Prelude.{◌≡◌, ℕ, zero, suc, ℤ, pos, Bool, true, false, List, [], ◌∷◌, codes, replicate, Some, None, Ok, Err, refl}
use Rattle.std.specs.FinMap.{get}
use Rattle.std.proofs.Common.{◌∙◌}
use Rattle.kernel_core.specs.FileContent.{no_content}
use Rattle.kernel_core.specs.Nodes.{Nodes, Inode, File, Directory, Link}
use Rattle.kernel_core.specs.PathWalk.{components_after, ends_with_slash}
use Rattle.kernel_core.specs.Queries.{walked, walked_from, walked_through}
use Rattle.kernel_core.specs.declared.error.Errno.TheVariants.{EBADF, EEXIST, EFAULT, EINVAL, ELOOP, ENAMETOOLONG, ENOENT, ENOTDIR}
use Rattle.kernel_core.specs.declared.open_flags.Access.TheVariants.{Read}
use Rattle.kernel_model.proofs.rows.Names.{inode, entry}
use Rattle.kernel_model.proofs.rows.Small.{small}
use Rattle.kernel_model.specs.Came.{refused}
use Rattle.kernel_model.specs.Descriptions.{no_flags}
use Rattle.kernel_model.specs.NameRows.{link, make_directory, make_link, read_link, remove_name, rename}
use Rattle.kernel_model.specs.NodeRows.{access, change_directory, change_mode, set_times, status_at_path, truncate}
use Rattle.kernel_model.specs.Opening.{open_file}
use Rattle.kernel_model.specs.Paths.{Descriptor, Working, walk}
use Rattle.kernel_model.specs.State.{Files}

root : Inode
root = inode 493 2 (Directory (record {
  parent = Some 1;
  greatest = 5;
  entries = entry 3 (codes "f") 2 ∷ entry 4 (codes "o") 3 ∷ entry 5 (codes "s") 4 ∷ [];
}))

file : Inode
file = inode 420 1 (File no_content)

circle : Inode
circle = inode 511 1 (Link (codes "o"))

step : Inode
step = inode 511 1 (Link (codes "."))

-- `s/` so many times, and then `f`
steps : ℕ → List ℕ
steps zero = codes "f"
steps (suc more) = 115 ∷ 47 ∷ steps more

names : ℕ → List (List ℕ)
names zero = codes "f" ∷ []
names (suc more) = codes "s" ∷ names more

module _ (nodes : Nodes) (now : ℤ) (at_1 : get nodes 1 ≡ Some root) (at_2 : get nodes 2 ≡ Some file) (at_3 : get nodes 3 ≡ Some circle)
    (at_4 : get nodes 4 ≡ Some step) where
  files : Files
  files = small nodes []

  -- where these paths lead, whether a last link is followed or not

  of_file : (follow : Bool) → walk files Working (codes "f") follow ≡ Ok (record { directory = 1; name = codes "f"; node = Some 2 })
  unfolding walk walked walked_from walked_through components_after ends_with_slash files root file inode entry
  of_file follow = simp (at_1, at_2) refl

  of_nothing : (follow : Bool) → walk files Working (codes "g") follow ≡ Ok (record { directory = 1; name = codes "g"; node = None })
  unfolding walk walked walked_from walked_through components_after ends_with_slash files root inode entry
  of_nothing follow = simp at_1 refl

  from_closed : (follow : Bool) → walk files (Descriptor 99) (codes "f") follow ≡ Err EBADF
  unfolding walk files
  from_closed follow = refl

  from_stream : (follow : Bool) → walk files (Descriptor 0) (codes "f") follow ≡ Err ENOTDIR
  unfolding walk files
  from_stream follow = refl

  through_nothing : (follow : Bool) → walk files Working (codes "g/x") follow ≡ Err ENOENT
  unfolding walk walked walked_from walked_through components_after ends_with_slash files root inode entry
  through_nothing follow = simp at_1 refl

  below_file : (follow : Bool) → walk files Working (codes "f/x") follow ≡ Err ENOTDIR
  unfolding walk walked walked_from walked_through components_after ends_with_slash files root file inode entry
  below_file follow = simp (at_1, at_2) refl

  -- the forty-first link
  in_circles : (follow : Bool) → walk files Working (codes "o/x") follow ≡ Err ELOOP
  unfolding walk walked walked_from walked_through components_after ends_with_slash files root circle inode entry
  in_circles follow = simp (at_1, at_3) refl

  -- one link to the root: so many more may be followed behind it
  one_link : (follow : Bool) (more : ℕ) (next : List ℕ) (rest : List (List ℕ)) → walked_from nodes follow false (walked_through (suc more) nodes follow false) 1 (codes "s" ∷ next ∷ rest) false
      ≡ walked_from nodes follow false (walked_through more nodes follow false) 1 (next ∷ rest) false
  unfolding walked_from walked_through components_after ends_with_slash root step inode entry
  one_link follow more next rest = simp (at_1, at_4) refl

  as_many_links : (follow : Bool) (count : ℕ) → walked_from nodes follow false (walked_through count nodes follow false) 1 (names count) false ≡ Ok (record { directory = 1; name = codes "f"; node = Some 2 })
  unfolding walked_from names root file inode entry
  as_many_links follow zero = simp (at_1, at_2) refl
  as_many_links follow (suc zero) = one_link follow zero (codes "f") [] ∙ as_many_links follow zero
  as_many_links follow (suc (suc more)) = one_link follow (suc more) (codes "s") (names more) ∙ as_many_links follow (suc more)

  one_link_more : (follow : Bool) (count : ℕ) → walked_from nodes follow false (walked_through count nodes follow false) 1 (names (suc count)) false ≡ Err ELOOP
  unfolding walked_from walked_through names root step inode entry
  one_link_more follow zero = simp (at_1, at_4) refl
  one_link_more follow (suc more) = one_link follow more (codes "s") (names more) ∙ one_link_more follow more

  forty_links : (follow : Bool) → walk files Working (steps 40) follow ≡ Ok (record { directory = 1; name = codes "f"; node = Some 2 })
  unfolding walk walked components_after ends_with_slash files steps names
  forty_links follow = as_many_links follow 40

  forty_one_links : (follow : Bool) → walk files Working (steps 41) follow ≡ Err ELOOP
  unfolding walk walked components_after ends_with_slash files steps names
  forty_one_links follow = one_link_more follow 40

  -- a name of 255 bytes, and one of 256
  longest_name : (follow : Bool) → walk files Working (replicate 255 120) follow ≡ Ok (record { directory = 1; name = replicate 255 120; node = None })
  unfolding walk walked walked_from walked_through components_after ends_with_slash files root inode entry
  longest_name follow = simp at_1 refl

  long_name : (follow : Bool) → walk files Working (replicate 256 120) follow ≡ Err ENAMETOOLONG
  unfolding walk walked walked_from walked_through components_after ends_with_slash files
  long_name follow = refl

  -- open(2)

  open_unreadable : open_file files None now Working (Err EFAULT) (Some (no_flags Read)) 0 ≡ refused files EFAULT
  unfolding open_file
  open_unreadable = refl

  open_too_long : open_file files None now Working (Err ENAMETOOLONG) (Some (no_flags Read)) 0 ≡ refused files ENAMETOOLONG
  unfolding open_file
  open_too_long = refl

  open_from_closed : open_file files None now (Descriptor 99) (Ok (codes "f")) (Some (no_flags Read)) 0 ≡ refused files EBADF
  unfolding open_file files
  open_from_closed = simp from_closed refl

  open_below_file : open_file files None now Working (Ok (codes "f/x")) (Some (no_flags Read)) 0 ≡ refused files ENOTDIR
  unfolding open_file files
  open_below_file = simp below_file refl

  open_in_circles : open_file files None now Working (Ok (codes "o/x")) (Some (no_flags Read)) 0 ≡ refused files ELOOP
  unfolding open_file files
  open_in_circles = simp in_circles refl

  open_through_nothing : open_file files None now Working (Ok (codes "g/x")) (Some (no_flags Read)) 0 ≡ refused files ENOENT
  unfolding open_file files
  open_through_nothing = simp through_nothing refl

  -- mkdir(2)

  mkdir_unreadable : make_directory files now Working (Err EFAULT) 511 ≡ refused files EFAULT
  unfolding make_directory
  mkdir_unreadable = refl

  mkdir_too_long : make_directory files now Working (Err ENAMETOOLONG) 511 ≡ refused files ENAMETOOLONG
  unfolding make_directory
  mkdir_too_long = refl

  mkdir_from_closed : make_directory files now (Descriptor 99) (Ok (codes "f")) 511 ≡ refused files EBADF
  unfolding make_directory
  mkdir_from_closed = simp from_closed refl

  mkdir_below_file : make_directory files now Working (Ok (codes "f/x")) 511 ≡ refused files ENOTDIR
  unfolding make_directory
  mkdir_below_file = simp below_file refl

  mkdir_in_circles : make_directory files now Working (Ok (codes "o/x")) 511 ≡ refused files ELOOP
  unfolding make_directory
  mkdir_in_circles = simp in_circles refl

  mkdir_through_nothing : make_directory files now Working (Ok (codes "g/x")) 511 ≡ refused files ENOENT
  unfolding make_directory
  mkdir_through_nothing = simp through_nothing refl

  mkdir_of_old_name : make_directory files now Working (Ok (codes "f")) 511 ≡ refused files EEXIST
  unfolding make_directory
  mkdir_of_old_name = simp of_file refl

  -- unlink(2)

  unlink_unreadable : remove_name files now Working (Err EFAULT) (Some false) ≡ refused files EFAULT
  unfolding remove_name
  unlink_unreadable = refl

  unlink_too_long : remove_name files now Working (Err ENAMETOOLONG) (Some false) ≡ refused files ENAMETOOLONG
  unfolding remove_name
  unlink_too_long = refl

  unlink_from_closed : remove_name files now (Descriptor 99) (Ok (codes "f")) (Some false) ≡ refused files EBADF
  unfolding remove_name
  unlink_from_closed = simp from_closed refl

  unlink_below_file : remove_name files now Working (Ok (codes "f/x")) (Some false) ≡ refused files ENOTDIR
  unfolding remove_name
  unlink_below_file = simp below_file refl

  unlink_in_circles : remove_name files now Working (Ok (codes "o/x")) (Some false) ≡ refused files ELOOP
  unfolding remove_name
  unlink_in_circles = simp in_circles refl

  unlink_through_nothing : remove_name files now Working (Ok (codes "g/x")) (Some false) ≡ refused files ENOENT
  unfolding remove_name
  unlink_through_nothing = simp through_nothing refl

  unlink_of_nothing : remove_name files now Working (Ok (codes "g")) (Some false) ≡ refused files ENOENT
  unfolding remove_name
  unlink_of_nothing = simp of_nothing refl

  -- link(2): the old path, and the new one

  link_from_unreadable : link files now Working (Err EFAULT) Working (Ok (codes "g")) (Some false) ≡ refused files EFAULT
  unfolding link
  link_from_unreadable = refl

  link_from_too_long : link files now Working (Err ENAMETOOLONG) Working (Ok (codes "g")) (Some false) ≡ refused files ENAMETOOLONG
  unfolding link
  link_from_too_long = refl

  link_from_from_closed : link files now (Descriptor 99) (Ok (codes "f")) Working (Ok (codes "g")) (Some false) ≡ refused files EBADF
  unfolding link
  link_from_from_closed = simp from_closed refl

  link_from_below_file : link files now Working (Ok (codes "f/x")) Working (Ok (codes "g")) (Some false) ≡ refused files ENOTDIR
  unfolding link
  link_from_below_file = simp below_file refl

  link_from_in_circles : link files now Working (Ok (codes "o/x")) Working (Ok (codes "g")) (Some false) ≡ refused files ELOOP
  unfolding link
  link_from_in_circles = simp in_circles refl

  link_from_through_nothing : link files now Working (Ok (codes "g/x")) Working (Ok (codes "g")) (Some false) ≡ refused files ENOENT
  unfolding link
  link_from_through_nothing = simp through_nothing refl

  link_from_of_nothing : link files now Working (Ok (codes "g")) Working (Ok (codes "g")) (Some false) ≡ refused files ENOENT
  unfolding link
  link_from_of_nothing = simp of_nothing refl

  link_unreadable : link files now Working (Ok (codes "f")) Working (Err EFAULT) (Some false) ≡ refused files EFAULT
  unfolding link
  link_unreadable = refl

  link_too_long : link files now Working (Ok (codes "f")) Working (Err ENAMETOOLONG) (Some false) ≡ refused files ENAMETOOLONG
  unfolding link
  link_too_long = refl

  link_from_closed : link files now Working (Ok (codes "f")) (Descriptor 99) (Ok (codes "f")) (Some false) ≡ refused files EBADF
  unfolding link
  link_from_closed = simp (of_file, from_closed) refl

  link_below_file : link files now Working (Ok (codes "f")) Working (Ok (codes "f/x")) (Some false) ≡ refused files ENOTDIR
  unfolding link
  link_below_file = simp (of_file, below_file) refl

  link_in_circles : link files now Working (Ok (codes "f")) Working (Ok (codes "o/x")) (Some false) ≡ refused files ELOOP
  unfolding link
  link_in_circles = simp (of_file, in_circles) refl

  link_through_nothing : link files now Working (Ok (codes "f")) Working (Ok (codes "g/x")) (Some false) ≡ refused files ENOENT
  unfolding link
  link_through_nothing = simp (of_file, through_nothing) refl

  -- symlink(2)

  symlink_unreadable : make_link files now (Ok (codes "f")) Working (Err EFAULT) ≡ refused files EFAULT
  unfolding make_link
  symlink_unreadable = refl

  symlink_too_long : make_link files now (Ok (codes "f")) Working (Err ENAMETOOLONG) ≡ refused files ENAMETOOLONG
  unfolding make_link
  symlink_too_long = refl

  symlink_from_closed : make_link files now (Ok (codes "f")) (Descriptor 99) (Ok (codes "f")) ≡ refused files EBADF
  unfolding make_link
  symlink_from_closed = simp from_closed refl

  symlink_below_file : make_link files now (Ok (codes "f")) Working (Ok (codes "f/x")) ≡ refused files ENOTDIR
  unfolding make_link
  symlink_below_file = simp below_file refl

  symlink_in_circles : make_link files now (Ok (codes "f")) Working (Ok (codes "o/x")) ≡ refused files ELOOP
  unfolding make_link
  symlink_in_circles = simp in_circles refl

  symlink_through_nothing : make_link files now (Ok (codes "f")) Working (Ok (codes "g/x")) ≡ refused files ENOENT
  unfolding make_link
  symlink_through_nothing = simp through_nothing refl

  symlink_of_old_name : make_link files now (Ok (codes "f")) Working (Ok (codes "f")) ≡ refused files EEXIST
  unfolding make_link
  symlink_of_old_name = simp of_file refl

  -- rename(2): the old path, and the new one

  rename_from_unreadable : rename files now Working (Err EFAULT) Working (Ok (codes "g")) ≡ refused files EFAULT
  unfolding rename
  rename_from_unreadable = refl

  rename_from_too_long : rename files now Working (Err ENAMETOOLONG) Working (Ok (codes "g")) ≡ refused files ENAMETOOLONG
  unfolding rename
  rename_from_too_long = refl

  rename_from_from_closed : rename files now (Descriptor 99) (Ok (codes "f")) Working (Ok (codes "g")) ≡ refused files EBADF
  unfolding rename
  rename_from_from_closed = simp from_closed refl

  rename_from_below_file : rename files now Working (Ok (codes "f/x")) Working (Ok (codes "g")) ≡ refused files ENOTDIR
  unfolding rename
  rename_from_below_file = simp below_file refl

  rename_from_in_circles : rename files now Working (Ok (codes "o/x")) Working (Ok (codes "g")) ≡ refused files ELOOP
  unfolding rename
  rename_from_in_circles = simp in_circles refl

  rename_from_through_nothing : rename files now Working (Ok (codes "g/x")) Working (Ok (codes "g")) ≡ refused files ENOENT
  unfolding rename
  rename_from_through_nothing = simp through_nothing refl

  rename_from_of_nothing : rename files now Working (Ok (codes "g")) Working (Ok (codes "g")) ≡ refused files ENOENT
  unfolding rename
  rename_from_of_nothing = simp of_nothing refl

  rename_unreadable : rename files now Working (Ok (codes "f")) Working (Err EFAULT) ≡ refused files EFAULT
  unfolding rename
  rename_unreadable = refl

  rename_too_long : rename files now Working (Ok (codes "f")) Working (Err ENAMETOOLONG) ≡ refused files ENAMETOOLONG
  unfolding rename
  rename_too_long = refl

  rename_from_closed : rename files now Working (Ok (codes "f")) (Descriptor 99) (Ok (codes "f")) ≡ refused files EBADF
  unfolding rename
  rename_from_closed = simp (of_file, from_closed) refl

  rename_below_file : rename files now Working (Ok (codes "f")) Working (Ok (codes "f/x")) ≡ refused files ENOTDIR
  unfolding rename
  rename_below_file = simp (of_file, below_file) refl

  rename_in_circles : rename files now Working (Ok (codes "f")) Working (Ok (codes "o/x")) ≡ refused files ELOOP
  unfolding rename
  rename_in_circles = simp (of_file, in_circles) refl

  rename_through_nothing : rename files now Working (Ok (codes "f")) Working (Ok (codes "g/x")) ≡ refused files ENOENT
  unfolding rename
  rename_through_nothing = simp (of_file, through_nothing) refl

  -- readlink(2)

  readlink_unreadable : read_link files Working (Err EFAULT) (pos 9) ≡ refused files EFAULT
  unfolding read_link
  readlink_unreadable = refl

  readlink_too_long : read_link files Working (Err ENAMETOOLONG) (pos 9) ≡ refused files ENAMETOOLONG
  unfolding read_link
  readlink_too_long = refl

  readlink_from_closed : read_link files (Descriptor 99) (Ok (codes "f")) (pos 9) ≡ refused files EBADF
  unfolding read_link
  readlink_from_closed = simp from_closed refl

  readlink_below_file : read_link files Working (Ok (codes "f/x")) (pos 9) ≡ refused files ENOTDIR
  unfolding read_link
  readlink_below_file = simp below_file refl

  readlink_in_circles : read_link files Working (Ok (codes "o/x")) (pos 9) ≡ refused files ELOOP
  unfolding read_link
  readlink_in_circles = simp in_circles refl

  readlink_through_nothing : read_link files Working (Ok (codes "g/x")) (pos 9) ≡ refused files ENOENT
  unfolding read_link
  readlink_through_nothing = simp through_nothing refl

  readlink_of_nothing : read_link files Working (Ok (codes "g")) (pos 9) ≡ refused files ENOENT
  unfolding read_link
  readlink_of_nothing = simp of_nothing refl

  -- access(2)

  access_unreadable : access files Working (Err EFAULT) 4 ≡ refused files EFAULT
  unfolding access
  access_unreadable = refl

  access_too_long : access files Working (Err ENAMETOOLONG) 4 ≡ refused files ENAMETOOLONG
  unfolding access
  access_too_long = refl

  access_from_closed : access files (Descriptor 99) (Ok (codes "f")) 4 ≡ refused files EBADF
  unfolding access
  access_from_closed = simp from_closed refl

  access_below_file : access files Working (Ok (codes "f/x")) 4 ≡ refused files ENOTDIR
  unfolding access
  access_below_file = simp below_file refl

  access_in_circles : access files Working (Ok (codes "o/x")) 4 ≡ refused files ELOOP
  unfolding access
  access_in_circles = simp in_circles refl

  access_through_nothing : access files Working (Ok (codes "g/x")) 4 ≡ refused files ENOENT
  unfolding access
  access_through_nothing = simp through_nothing refl

  access_of_nothing : access files Working (Ok (codes "g")) 4 ≡ refused files ENOENT
  unfolding access
  access_of_nothing = simp of_nothing refl

  -- chmod(2)

  chmod_unreadable : change_mode files now Working (Err EFAULT) 420 ≡ refused files EFAULT
  unfolding change_mode
  chmod_unreadable = refl

  chmod_too_long : change_mode files now Working (Err ENAMETOOLONG) 420 ≡ refused files ENAMETOOLONG
  unfolding change_mode
  chmod_too_long = refl

  chmod_from_closed : change_mode files now (Descriptor 99) (Ok (codes "f")) 420 ≡ refused files EBADF
  unfolding change_mode
  chmod_from_closed = simp from_closed refl

  chmod_below_file : change_mode files now Working (Ok (codes "f/x")) 420 ≡ refused files ENOTDIR
  unfolding change_mode
  chmod_below_file = simp below_file refl

  chmod_in_circles : change_mode files now Working (Ok (codes "o/x")) 420 ≡ refused files ELOOP
  unfolding change_mode
  chmod_in_circles = simp in_circles refl

  chmod_through_nothing : change_mode files now Working (Ok (codes "g/x")) 420 ≡ refused files ENOENT
  unfolding change_mode
  chmod_through_nothing = simp through_nothing refl

  chmod_of_nothing : change_mode files now Working (Ok (codes "g")) 420 ≡ refused files ENOENT
  unfolding change_mode
  chmod_of_nothing = simp of_nothing refl

  -- utimensat(2)

  utimensat_unreadable : set_times files now Working (Some (Err EFAULT)) None (Some true) ≡ refused files EFAULT
  unfolding set_times
  utimensat_unreadable = refl

  utimensat_too_long : set_times files now Working (Some (Err ENAMETOOLONG)) None (Some true) ≡ refused files ENAMETOOLONG
  unfolding set_times
  utimensat_too_long = refl

  utimensat_from_closed : set_times files now (Descriptor 99) (Some (Ok (codes "f"))) None (Some true) ≡ refused files EBADF
  unfolding set_times
  utimensat_from_closed = simp from_closed refl

  utimensat_below_file : set_times files now Working (Some (Ok (codes "f/x"))) None (Some true) ≡ refused files ENOTDIR
  unfolding set_times
  utimensat_below_file = simp below_file refl

  utimensat_in_circles : set_times files now Working (Some (Ok (codes "o/x"))) None (Some true) ≡ refused files ELOOP
  unfolding set_times
  utimensat_in_circles = simp in_circles refl

  utimensat_through_nothing : set_times files now Working (Some (Ok (codes "g/x"))) None (Some true) ≡ refused files ENOENT
  unfolding set_times
  utimensat_through_nothing = simp through_nothing refl

  utimensat_of_nothing : set_times files now Working (Some (Ok (codes "g"))) None (Some true) ≡ refused files ENOENT
  unfolding set_times
  utimensat_of_nothing = simp of_nothing refl

  -- truncate(2)

  truncate_unreadable : truncate files now Working (Err EFAULT) (pos 0) ≡ refused files EFAULT
  unfolding truncate
  truncate_unreadable = refl

  truncate_too_long : truncate files now Working (Err ENAMETOOLONG) (pos 0) ≡ refused files ENAMETOOLONG
  unfolding truncate
  truncate_too_long = refl

  truncate_from_closed : truncate files now (Descriptor 99) (Ok (codes "f")) (pos 0) ≡ refused files EBADF
  unfolding truncate
  truncate_from_closed = simp from_closed refl

  truncate_below_file : truncate files now Working (Ok (codes "f/x")) (pos 0) ≡ refused files ENOTDIR
  unfolding truncate
  truncate_below_file = simp below_file refl

  truncate_in_circles : truncate files now Working (Ok (codes "o/x")) (pos 0) ≡ refused files ELOOP
  unfolding truncate
  truncate_in_circles = simp in_circles refl

  truncate_through_nothing : truncate files now Working (Ok (codes "g/x")) (pos 0) ≡ refused files ENOENT
  unfolding truncate
  truncate_through_nothing = simp through_nothing refl

  truncate_of_nothing : truncate files now Working (Ok (codes "g")) (pos 0) ≡ refused files ENOENT
  unfolding truncate
  truncate_of_nothing = simp of_nothing refl

  -- stat(2)

  stat_unreadable : status_at_path files Working (Err EFAULT) (Some (record { follow = true; empty = false })) ≡ refused files EFAULT
  unfolding status_at_path
  stat_unreadable = refl

  stat_too_long : status_at_path files Working (Err ENAMETOOLONG) (Some (record { follow = true; empty = false })) ≡ refused files ENAMETOOLONG
  unfolding status_at_path
  stat_too_long = refl

  stat_from_closed : status_at_path files (Descriptor 99) (Ok (codes "f")) (Some (record { follow = true; empty = false })) ≡ refused files EBADF
  unfolding status_at_path
  stat_from_closed = simp from_closed refl

  stat_below_file : status_at_path files Working (Ok (codes "f/x")) (Some (record { follow = true; empty = false })) ≡ refused files ENOTDIR
  unfolding status_at_path
  stat_below_file = simp below_file refl

  stat_in_circles : status_at_path files Working (Ok (codes "o/x")) (Some (record { follow = true; empty = false })) ≡ refused files ELOOP
  unfolding status_at_path
  stat_in_circles = simp in_circles refl

  stat_through_nothing : status_at_path files Working (Ok (codes "g/x")) (Some (record { follow = true; empty = false })) ≡ refused files ENOENT
  unfolding status_at_path
  stat_through_nothing = simp through_nothing refl

  stat_of_nothing : status_at_path files Working (Ok (codes "g")) (Some (record { follow = true; empty = false })) ≡ refused files ENOENT
  unfolding status_at_path
  stat_of_nothing = simp of_nothing refl

  -- chdir(2), which begins at the working directory

  chdir_unreadable : change_directory files (Err EFAULT) ≡ refused files EFAULT
  unfolding change_directory
  chdir_unreadable = refl

  chdir_too_long : change_directory files (Err ENAMETOOLONG) ≡ refused files ENAMETOOLONG
  unfolding change_directory
  chdir_too_long = refl

  chdir_below_file : change_directory files (Ok (codes "f/x")) ≡ refused files ENOTDIR
  unfolding change_directory
  chdir_below_file = simp below_file refl

  chdir_in_circles : change_directory files (Ok (codes "o/x")) ≡ refused files ELOOP
  unfolding change_directory
  chdir_in_circles = simp in_circles refl

  chdir_through_nothing : change_directory files (Ok (codes "g/x")) ≡ refused files ENOENT
  unfolding change_directory
  chdir_through_nothing = simp through_nothing refl

  chdir_of_nothing : change_directory files (Ok (codes "g")) ≡ refused files ENOENT
  unfolding change_directory
  chdir_of_nothing = simp of_nothing refl

  -- flags that are not listed come behind both paths
  link_with_other_flags : link files now Working (Ok (codes "f")) Working (Ok (codes "g")) None ≡ refused files EINVAL
  unfolding link
  link_with_other_flags = refl

  link_of_old_name : link files now Working (Ok (codes "f")) Working (Ok (codes "o")) (Some false) ≡ refused files EEXIST
  unfolding link walk walked walked_from walked_through components_after ends_with_slash files root file circle inode entry
  link_of_old_name = simp (at_1, at_2, at_3) refl

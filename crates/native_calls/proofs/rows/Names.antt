-- Worked rows on names: a root with the file `f`, the empty directory `d`, the link `l` to `f`, and the directory `e`, in which a file has the
-- name `g`.
use Rattle.std.specs.Prelude.{◌≡◌, ℕ, ◌+◌, ◌-◌, ◌^◌, true, List, [], ◌∷◌, ◌++◌, codes, length, replicate, Some, None, Ok, Err, pos, refl}
use Rattle.std.specs.FinMap.{get, len}
use Rattle.kernel_core.specs.FileContent.{no_content}
use Rattle.kernel_core.specs.NameCalls.{after_create, after_link, after_mkdir, after_rename, after_rmdir, after_symlink, after_unlink, is_below}
use Rattle.kernel_core.specs.Nodes.{Nodes, Inode, NodeContent, File, Directory, Link}
use Rattle.kernel_core.specs.PathWalk.{Place, components_after, ends_with_slash}
use Rattle.kernel_core.specs.Queries.{new_number, walked, walked_from, walked_through}
use Rattle.kernel_core.specs.Totals.{live_entries}
use Rattle.kernel_core.specs.declared.error.Errno.TheVariants.{EFAULT, ENAMETOOLONG}
use Rattle.kernel_core.specs.declared.open_flags.Access.TheVariants.{Read, Write}
use Rattle.kernel_core.specs.declared.tree.DirEntry.{DirEntry}
use Rattle.kernel_model.specs.Clock.{now}
use Rattle.kernel_model.specs.Descriptions.{no_flags}
use Rattle.kernel_model.specs.NameRows.{link, make_directory, make_link, read_link, remove_name, rename, with_nodes}
use Rattle.kernel_model.specs.Opening.{after_open, open_file}
use Rattle.kernel_model.specs.Paths.{walk}
use Rattle.kernel_model.specs.Shared.{OpenSet}
use Rattle.kernel_model.specs.State.{Files, Kernel}
use Rattle.kernel_model.specs.Whole.{with_files}
use Rattle.native_calls.proofs.rows.Small.{at_first, error, leaves, number, six, streams_alone, to}
use Rattle.native_calls.specs.Names.{linkat_row, mkdirat_row, openat_row, readlinkat_row, renameat_row, symlinkat_row, unlinkat_row}
use Rattle.native_calls.specs.Paths.{path_at, path_in}
use Rattle.native_calls.specs.Step.{NativeStep}
use Rattle.native_calls.specs.Table.{native_call}

-- Nodes

unfoldable pub inode : ℕ → ℕ → NodeContent → Inode
inode mode links content = record { mode = mode; access = pos 0; modified = pos 0; changed = pos 0; links = links; holds = 0; content = content }

unfoldable pub entry : ℕ → List ℕ → ℕ → DirEntry
entry cookie name node = record { cookie = cookie; name = name; node = node }

unfoldable pub root : Inode
root = record (inode 493 4 (Directory (record {
  parent = Some 1;
  greatest = 6;
  entries = entry 3 (codes "f") 2 ∷ entry 4 (codes "d") 3 ∷ entry 5 (codes "l") 4 ∷ entry 6 (codes "e") 6 ∷ [];
}))) { holds = 1 }

unfoldable pub file : Inode
file = inode 420 1 (File no_content)

unfoldable pub empty : Inode
empty = inode 493 2 (Directory (record { parent = Some 1; greatest = 2; entries = [] }))

unfoldable pub link_to_f : Inode
link_to_f = inode 511 1 (Link (codes "f"))

unfoldable pub filled : Inode
filled = inode 493 2 (Directory (record { parent = Some 1; greatest = 3; entries = entry 3 (codes "g") 7 ∷ [] }))

-- a link to `f/g`, for the rows on its text
unfoldable pub long_link : Inode
long_link = inode 511 1 (Link (codes "f/g"))

-- Arguments

-- a text and its NUL
abbrev pub text : List ℕ → List ℕ
text name = name ++ 0 ∷ []

-- -100 as an int whose sign is carried on to 64 bits
abbrev pub at_working : ℕ
at_working = 2 ^ 64 - 100

-- the same, whose high 32 bits are 0 and don't count
abbrev pub at_low_working : ℕ
at_low_working = 2 ^ 32 - 100

abbrev pub five : ℕ → ℕ → ℕ → ℕ → ℕ → List ℕ
five first second third fourth fifth = first ∷ second ∷ third ∷ fourth ∷ fifth ∷ 0 ∷ []

-- where a name is, and where it is not
abbrev pub there : ℕ → List ℕ → ℕ → Place
there directory name node = record { directory = directory; name = name; node = Some node }

abbrev pub missing : ℕ → List ℕ → Place
missing directory name = record { directory = directory; name = name; node = None }

-- Paths

-- 4096 bytes without a NUL, and fewer, at which memory ends
no_nul : (bytes : List ℕ) → length bytes ≡ 4096 → path_in bytes None ≡ Err ENAMETOOLONG
no_nul bytes long = simp long refl

no_nul_before_the_end : (bytes : List ℕ) → length bytes ≡ 4095 → path_in bytes None ≡ Err EFAULT
no_nul_before_the_end bytes short = simp short refl

-- up to the first NUL
path_of_two : path_at (7 ∷ 47 ∷ 100 ∷ 0 ∷ 101 ∷ 0 ∷ []) 65537 ≡ Ok (47 ∷ 100 ∷ [])
unfolding path_at
path_of_two = refl

-- of 4096 bytes the last may be the NUL, and one behind them is not looked at; memory may end before it

path_of_4095 : path_at (replicate 4095 120 ++ 0 ∷ []) 65536 ≡ Ok (replicate 4095 120)
unfolding path_at
path_of_4095 = refl

path_of_4096 : path_at (replicate 4096 120 ++ 0 ∷ []) 65536 ≡ Err ENAMETOOLONG
unfolding path_at
path_of_4096 = refl

path_of_4095_at_the_end : path_at (replicate 4095 120) 65536 ≡ Err EFAULT
unfolding path_at
path_of_4095_at_the_end = refl

module _ (whole : Kernel) (nodes : Nodes) (at_1 : get nodes 1 ≡ Some root) (at_2 : get nodes 2 ≡ Some file) (at_3 : get nodes 3 ≡ Some empty)
    (at_4 : get nodes 4 ≡ Some link_to_f) (at_6 : get nodes 6 ≡ Some filled) where
  abbrev call : ℕ → List ℕ → List ℕ → NativeStep
  call number args memory = native_call number args (with_files whole (at_first nodes)) memory []

  -- the call leaves these files, and memory as it was
  abbrev does : Files → List ℕ → ℕ → NativeStep
  does files memory value = leaves whole files memory [] (number value)

  abbrev refuses : List ℕ → ℕ → NativeStep
  refuses memory value = leaves whole (at_first nodes) memory [] (error value)

  -- openat

  reads : OpenSet
  reads = no_flags Read

  open_f : call 56 (six at_working 65536 0 0) (text (codes "f")) ≡ does (after_open (at_first nodes) reads 3 2) (text (codes "f")) 3
  unfolding openat_row open_file path_at walk walked walked_from walked_through components_after ends_with_slash reads root file inode entry
  open_f = simp (at_1, at_2) refl

  -- a path that begins with a slash leads from the root, whatever the descriptor; the root follows `..` too
  open_from_root : call 56 (six 99 65536 0x80000 0) (text (codes "/../l")) ≡ does (after_open (at_first nodes) (record reads { cloexec = true }) 3 2) (text (codes "/../l")) 3
  unfolding openat_row open_file path_at walk walked walked_from walked_through components_after ends_with_slash reads root link_to_f file inode entry
  open_from_root = simp (at_1, at_2, at_4) refl

  open_access_3 : call 56 (six at_working 0 3 0) [] ≡ refuses [] 22
  unfolding openat_row open_file
  open_access_3 = refl

  -- 0x100000 alone, without 0x1000
  open_sync_alone : call 56 (six at_working 0 0x100000 0) [] ≡ refuses [] 22
  unfolding openat_row open_file
  open_sync_alone = refl

  open_makes_directory : call 56 (six at_working 0 0x10040 0) [] ≡ refuses [] 22
  unfolding openat_row open_file
  open_makes_directory = refl

  -- memory ends before the NUL
  open_unreadable : call 56 (six at_working 65536 0 0) (codes "f") ≡ refuses (codes "f") 14
  unfolding openat_row open_file path_at
  open_unreadable = refl

  open_null : call 56 (six at_working 0 0 0) (text (codes "f")) ≡ refuses (text (codes "f")) 14
  unfolding openat_row open_file path_at
  open_null = refl

  open_too_long : (memory : List ℕ) → path_at memory 65536 ≡ Err ENAMETOOLONG → call 56 (six at_working 65536 0 0) memory ≡ refuses memory 36
  unfolding openat_row open_file
  open_too_long memory long = simp long refl

  -- no descriptor is free, which comes before the walk
  abbrev none_free : Files
  none_free = record (at_first nodes) { table = record streams_alone { fds = to 0 ∷ to 1 ∷ to 2 ∷ to 0 ∷ [] } }

  open_none_free : native_call 56 (six at_working 65536 0x40 0) (with_files whole none_free) (text (codes "x")) [] ≡ leaves whole none_free (text (codes "x")) [] (error 24)
  unfolding openat_row open_file path_at
  open_none_free = refl

  open_missing : call 56 (six at_working 65536 0 0) (text (codes "x")) ≡ refuses (text (codes "x")) 2
  unfolding openat_row open_file path_at walk walked walked_from walked_through components_after ends_with_slash root inode entry
  open_missing = simp at_1 refl

  open_there_already : call 56 (six at_working 65536 0xC0 0) (text (codes "f")) ≡ refuses (text (codes "f")) 17
  unfolding openat_row open_file path_at walk walked walked_from walked_through components_after ends_with_slash root file inode entry
  open_there_already = simp (at_1, at_2) refl

  open_as_directory : call 56 (six at_working 65536 0x10000 0) (text (codes "f")) ≡ refuses (text (codes "f")) 20
  unfolding openat_row open_file path_at walk walked walked_from walked_through components_after ends_with_slash root file inode entry
  open_as_directory = simp (at_1, at_2) refl

  -- of the directory and the flags the low 32 bits count
  open_by_low_words : call 56 (six at_low_working 65536 (2 ^ 32 + 0x10000) 0) (text (codes "f")) ≡ refuses (text (codes "f")) 20
  unfolding openat_row open_file path_at walk walked walked_from walked_through components_after ends_with_slash root file inode entry
  open_by_low_words = simp (at_1, at_2) refl

  open_link_itself : call 56 (six at_working 65536 0x20000 0) (text (codes "l")) ≡ refuses (text (codes "l")) 40
  unfolding openat_row open_file path_at walk walked walked_from walked_through components_after ends_with_slash root link_to_f inode entry
  open_link_itself = simp (at_1, at_4) refl

  open_directory_to_write : call 56 (six at_working 65536 2 0) (text (codes "d")) ≡ refuses (text (codes "d")) 21
  unfolding openat_row open_file path_at walk walked walked_from walked_through components_after ends_with_slash root empty inode entry
  open_directory_to_write = simp (at_1, at_3) refl

  open_from_closed : call 56 (six 3 65536 0 0) (text (codes "f")) ≡ refuses (text (codes "f")) 9
  unfolding openat_row open_file path_at walk
  open_from_closed = refl

  open_from_stream : call 56 (six 0 65536 0 0) (text (codes "f")) ≡ refuses (text (codes "f")) 20
  unfolding openat_row open_file path_at walk
  open_from_stream = refl

  -- a component of 256 bytes
  open_long_component : call 56 (six at_working 65536 0 0) (text (replicate 256 97)) ≡ refuses (text (replicate 256 97)) 36
  unfolding openat_row open_file path_at walk walked walked_from walked_through components_after ends_with_slash
  open_long_component = refl

  -- 0666 less 022 is 0644
  open_new : len nodes ≡ 6 → live_entries nodes ≡ 5 → call 56 (six at_working 65536 0x41 438) (text (codes "x"))
      ≡ does (after_open (with_nodes (at_first nodes) (after_create nodes (missing 1 (codes "x")) (new_number nodes) 420 (now whole)))
      (record (no_flags Write) { creat = true }) 3 (new_number nodes)) (text (codes "x")) 3
  unfolding openat_row open_file path_at walk walked walked_from walked_through components_after ends_with_slash root inode entry
  open_new some few = simp (at_1, some, few) refl

  -- mkdirat: of 07777 ten bits count, and 01777 less 022 is 01755
  mkdir_new : len nodes ≡ 6 → live_entries nodes ≡ 5 → call 34 (six at_working 65536 0xFFF 0) (text (codes "x/"))
      ≡ does (with_nodes (at_first nodes) (after_mkdir nodes (missing 1 (codes "x")) (new_number nodes) 1005 (now whole))) (text (codes "x/")) 0
  unfolding mkdirat_row make_directory path_at walk walked walked_from walked_through components_after ends_with_slash root inode entry
  mkdir_new some few = simp (at_1, some, few) refl

  mkdir_there : call 34 (six at_working 65536 0 0) (text (codes "d")) ≡ refuses (text (codes "d")) 17
  unfolding mkdirat_row make_directory path_at walk walked walked_from walked_through components_after ends_with_slash root empty inode entry
  mkdir_there = simp (at_1, at_3) refl

  mkdir_by_low_word : call 34 (six at_low_working 65536 0 0) (text (codes "d")) ≡ refuses (text (codes "d")) 17
  unfolding mkdirat_row make_directory path_at walk walked walked_from walked_through components_after ends_with_slash root empty inode entry
  mkdir_by_low_word = simp (at_1, at_3) refl

  mkdir_unreadable : call 34 (six 99 65535 0 0) (text (codes "x")) ≡ refuses (text (codes "x")) 14
  unfolding mkdirat_row make_directory path_at
  mkdir_unreadable = refl

  -- unlinkat
  unlink_f : call 35 (six at_working 65536 0 0) (text (codes "f"))
      ≡ does (with_nodes (at_first nodes) (after_unlink nodes (there 1 (codes "f") 2) 2 (now whole))) (text (codes "f")) 0
  unfolding unlinkat_row remove_name path_at walk walked walked_from walked_through components_after ends_with_slash root file inode entry
  unlink_f = simp (at_1, at_2) refl

  unlink_directory : call 35 (six at_working 65536 0 0) (text (codes "d")) ≡ refuses (text (codes "d")) 21
  unfolding unlinkat_row remove_name path_at walk walked walked_from walked_through components_after ends_with_slash root empty inode entry
  unlink_directory = simp (at_1, at_3) refl

  remove_d : call 35 (six at_working 65536 0x200 0) (text (codes "d"))
      ≡ does (with_nodes (at_first nodes) (after_rmdir nodes (there 1 (codes "d") 3) 3 (now whole))) (text (codes "d")) 0
  unfolding unlinkat_row remove_name path_at walk walked walked_from walked_through components_after ends_with_slash root empty inode entry
  remove_d = simp (at_1, at_3) refl

  remove_file : call 35 (six at_working 65536 0x200 0) (text (codes "f")) ≡ refuses (text (codes "f")) 20
  unfolding unlinkat_row remove_name path_at walk walked walked_from walked_through components_after ends_with_slash root file inode entry
  remove_file = simp (at_1, at_2) refl

  remove_by_low_words : call 35 (six at_low_working 65536 (2 ^ 32 + 0x200) 0) (text (codes "f")) ≡ refuses (text (codes "f")) 20
  unfolding unlinkat_row remove_name path_at walk walked walked_from walked_through components_after ends_with_slash root file inode entry
  remove_by_low_words = simp (at_1, at_2) refl

  remove_filled : call 35 (six at_working 65536 0x200 0) (text (codes "e")) ≡ refuses (text (codes "e")) 39
  unfolding unlinkat_row remove_name path_at walk walked walked_from walked_through components_after ends_with_slash root filled inode entry
  remove_filled = simp (at_1, at_6) refl

  remove_root : call 35 (six at_working 65536 0x200 0) (text (codes "/")) ≡ refuses (text (codes "/")) 16
  unfolding unlinkat_row remove_name path_at walk walked walked_from walked_through components_after ends_with_slash
  remove_root = refl

  remove_dot : call 35 (six at_working 65536 0x200 0) (text (codes "d/.")) ≡ refuses (text (codes "d/.")) 22
  unfolding unlinkat_row remove_name path_at walk walked walked_from walked_through components_after ends_with_slash root empty inode entry
  remove_dot = simp (at_1, at_3) refl

  -- other flags are refused once the path is read
  unlink_with_other_flags : call 35 (six 99 65536 0x100 0) (text (codes "f")) ≡ refuses (text (codes "f")) 22
  unfolding unlinkat_row remove_name path_at
  unlink_with_other_flags = refl

  unlink_unreadable_first : call 35 (six 99 0 0x100 0) [] ≡ refuses [] 14
  unfolding unlinkat_row remove_name path_at
  unlink_unreadable_first = refl

  -- symlinkat: the target stands at 65536, the new name at 65538
  symlink_new : len nodes ≡ 6 → live_entries nodes ≡ 5 → call 36 (six 65536 at_working 65538 0) (text (codes "f") ++ text (codes "x"))
      ≡ does (with_nodes (at_first nodes) (after_symlink nodes (missing 1 (codes "x")) (new_number nodes) (codes "f") (now whole))) (text (codes "f") ++ text (codes "x")) 0
  unfolding symlinkat_row make_link path_at walk walked walked_from walked_through components_after ends_with_slash root inode entry
  symlink_new some few = simp (at_1, some, few) refl

  symlink_to_nothing : call 36 (six 65537 99 65538 0) (text (codes "f") ++ text (codes "x")) ≡ refuses (text (codes "f") ++ text (codes "x")) 2
  unfolding symlinkat_row make_link path_at
  symlink_to_nothing = refl

  symlink_there : call 36 (six 65536 at_working 65538 0) (text (codes "f") ++ text (codes "d")) ≡ refuses (text (codes "f") ++ text (codes "d")) 17
  unfolding symlinkat_row make_link path_at walk walked walked_from walked_through components_after ends_with_slash root empty inode entry
  symlink_there = simp (at_1, at_3) refl

  symlink_unreadable : call 36 (six 65537 99 0 0) (text (codes "f")) ≡ refuses (text (codes "f")) 14
  unfolding symlinkat_row make_link path_at
  symlink_unreadable = refl

  symlink_target_unreadable : call 36 (six 0 99 65536 0) (text (codes "x")) ≡ refuses (text (codes "x")) 14
  unfolding symlinkat_row make_link path_at
  symlink_target_unreadable = refl

  symlink_by_low_word : call 36 (six 65536 at_low_working 65538 0) (text (codes "f") ++ text (codes "f")) ≡ refuses (text (codes "f") ++ text (codes "f")) 17
  unfolding symlinkat_row make_link path_at walk walked walked_from walked_through components_after ends_with_slash root file inode entry
  symlink_by_low_word = simp (at_1, at_2) refl

  -- linkat: the old name stands at 65536, the new one at 65538
  link_f : live_entries nodes ≡ 5 → call 37 (five at_working 65536 at_working 65538 0) (text (codes "f") ++ text (codes "x"))
      ≡ does (with_nodes (at_first nodes) (after_link nodes 2 (missing 1 (codes "x")) (now whole))) (text (codes "f") ++ text (codes "x")) 0
  unfolding linkat_row link path_at walk walked walked_from walked_through components_after ends_with_slash root file inode entry
  link_f few = simp (at_1, at_2, few) refl

  -- a last link of the old name is followed under 0x400 alone
  link_followed : live_entries nodes ≡ 5 → call 37 (five at_working 65536 at_working 65538 0x400) (text (codes "l") ++ text (codes "x"))
      ≡ does (with_nodes (at_first nodes) (after_link nodes 2 (missing 1 (codes "x")) (now whole))) (text (codes "l") ++ text (codes "x")) 0
  unfolding linkat_row link path_at walk walked walked_from walked_through components_after ends_with_slash root file link_to_f inode entry
  link_followed few = simp (at_1, at_2, at_4, few) refl

  link_not_followed : live_entries nodes ≡ 5 → call 37 (five at_working 65536 at_working 65538 0) (text (codes "l") ++ text (codes "x"))
      ≡ does (with_nodes (at_first nodes) (after_link nodes 4 (missing 1 (codes "x")) (now whole))) (text (codes "l") ++ text (codes "x")) 0
  unfolding linkat_row link path_at walk walked walked_from walked_through components_after ends_with_slash root link_to_f inode entry
  link_not_followed few = simp (at_1, at_4, few) refl

  link_by_low_words : live_entries nodes ≡ 5 → call 37 (five at_low_working 65536 at_low_working 65538 (2 ^ 32 + 0x400)) (text (codes "l") ++ text (codes "x"))
      ≡ does (with_nodes (at_first nodes) (after_link nodes 2 (missing 1 (codes "x")) (now whole))) (text (codes "l") ++ text (codes "x")) 0
  unfolding linkat_row link path_at walk walked walked_from walked_through components_after ends_with_slash root file link_to_f inode entry
  link_by_low_words few = simp (at_1, at_2, at_4, few) refl

  link_with_other_flags : call 37 (five 99 65536 99 65538 0x1000) (text (codes "f") ++ text (codes "x")) ≡ refuses (text (codes "f") ++ text (codes "x")) 22
  unfolding linkat_row link path_at
  link_with_other_flags = refl

  -- the second path is read before the flags are looked at
  link_unreadable : call 37 (five 99 65536 99 0 0x1000) (text (codes "f")) ≡ refuses (text (codes "f")) 14
  unfolding linkat_row link path_at
  link_unreadable = refl

  link_old_unreadable : call 37 (five 99 0 99 65536 0x1000) (text (codes "x")) ≡ refuses (text (codes "x")) 14
  unfolding linkat_row link path_at
  link_old_unreadable = refl

  link_to_directory : call 37 (five at_working 65536 at_working 65538 0) (text (codes "d") ++ text (codes "x")) ≡ refuses (text (codes "d") ++ text (codes "x")) 1
  unfolding linkat_row link path_at walk walked walked_from walked_through components_after ends_with_slash root empty inode entry
  link_to_directory = simp (at_1, at_3) refl

  link_there : call 37 (five at_working 65536 at_working 65538 0) (text (codes "f") ++ text (codes "l")) ≡ refuses (text (codes "f") ++ text (codes "l")) 17
  unfolding linkat_row link path_at walk walked walked_from walked_through components_after ends_with_slash root file link_to_f inode entry
  link_there = simp (at_1, at_2, at_4) refl

  link_before_slash : call 37 (five at_working 65536 at_working 65538 0) (text (codes "f") ++ text (codes "x/")) ≡ refuses (text (codes "f") ++ text (codes "x/")) 2
  unfolding linkat_row link path_at walk walked walked_from walked_through components_after ends_with_slash root file inode entry
  link_before_slash = simp (at_1, at_2) refl

  -- renameat
  rename_f : call 38 (six at_working 65536 at_working 65538) (text (codes "f") ++ text (codes "d/x"))
      ≡ does (with_nodes (at_first nodes) (after_rename nodes (there 1 (codes "f") 2) (missing 3 (codes "x")) 2 (now whole))) (text (codes "f") ++ text (codes "d/x")) 0
  unfolding renameat_row rename path_at walk walked walked_from walked_through components_after ends_with_slash root file empty inode entry
  rename_f = simp (at_1, at_2, at_3) refl

  rename_by_low_words : call 38 (six at_low_working 65536 at_low_working 65538) (text (codes "f") ++ text (codes "d/x"))
      ≡ does (with_nodes (at_first nodes) (after_rename nodes (there 1 (codes "f") 2) (missing 3 (codes "x")) 2 (now whole))) (text (codes "f") ++ text (codes "d/x")) 0
  unfolding renameat_row rename path_at walk walked walked_from walked_through components_after ends_with_slash root file empty inode entry
  rename_by_low_words = simp (at_1, at_2, at_3) refl

  rename_into_itself : len nodes ≡ 6 → call 38 (six at_working 65536 at_working 65538) (text (codes "d") ++ text (codes "d/x")) ≡ refuses (text (codes "d") ++ text (codes "d/x")) 22
  unfolding renameat_row rename path_at walk walked walked_from walked_through components_after ends_with_slash is_below root empty inode entry
  rename_into_itself some = simp (at_1, at_3, some) refl

  rename_missing : call 38 (six at_working 65536 at_working 65538) (text (codes "x") ++ text (codes "y")) ≡ refuses (text (codes "x") ++ text (codes "y")) 2
  unfolding renameat_row rename path_at walk walked walked_from walked_through components_after ends_with_slash root inode entry
  rename_missing = simp at_1 refl

  rename_dot : call 38 (six at_working 65536 at_working 65538) (text (codes ".") ++ text (codes "x")) ≡ refuses (text (codes ".") ++ text (codes "x")) 16
  unfolding renameat_row rename path_at walk walked walked_from walked_through components_after ends_with_slash root inode entry
  rename_dot = simp at_1 refl

  rename_file_onto_directory : call 38 (six at_working 65536 at_working 65538) (text (codes "f") ++ text (codes "d")) ≡ refuses (text (codes "f") ++ text (codes "d")) 21
  unfolding renameat_row rename path_at walk walked walked_from walked_through components_after ends_with_slash root file empty inode entry
  rename_file_onto_directory = simp (at_1, at_2, at_3) refl

  rename_directory_onto_file : len nodes ≡ 6 → call 38 (six at_working 65536 at_working 65538) (text (codes "d") ++ text (codes "f")) ≡ refuses (text (codes "d") ++ text (codes "f")) 20
  unfolding renameat_row rename path_at walk walked walked_from walked_through components_after ends_with_slash is_below root file empty inode entry
  rename_directory_onto_file some = simp (at_1, at_2, at_3, some) refl

  rename_onto_filled : len nodes ≡ 6 → call 38 (six at_working 65536 at_working 65538) (text (codes "d") ++ text (codes "e")) ≡ refuses (text (codes "d") ++ text (codes "e")) 39
  unfolding renameat_row rename path_at walk walked walked_from walked_through components_after ends_with_slash is_below root empty filled inode entry
  rename_onto_filled some = simp (at_1, at_3, at_6, some) refl

  rename_unreadable : call 38 (six 99 65536 99 65540) (text (codes "f")) ≡ refuses (text (codes "f")) 14
  unfolding renameat_row rename path_at
  rename_unreadable = refl

  rename_old_unreadable : call 38 (six 99 0 99 65536) (text (codes "x")) ≡ refuses (text (codes "x")) 14
  unfolding renameat_row rename path_at
  rename_old_unreadable = refl

  -- readlinkat: `l` stands at 65538, and its text is one byte
  read_target : call 78 (six at_working 65538 65536 9) (7 ∷ 7 ∷ text (codes "l")) ≡ does (at_first nodes) (102 ∷ 7 ∷ text (codes "l")) 1
  unfolding readlinkat_row read_link path_at walk walked walked_from walked_through components_after ends_with_slash root link_to_f inode entry
  read_target = simp (at_1, at_4) refl

  -- of a size the low 32 bits count, with a sign

  read_target_by_low_words : call 78 (six at_low_working 65538 65536 (2 ^ 32 + 9)) (7 ∷ 7 ∷ text (codes "l")) ≡ does (at_first nodes) (102 ∷ 7 ∷ text (codes "l")) 1
  unfolding readlinkat_row read_link path_at walk walked walked_from walked_through components_after ends_with_slash root link_to_f inode entry
  read_target_by_low_words = simp (at_1, at_4) refl

  read_target_into_none : call 78 (six 99 65536 65536 (2 ^ 32 - 1)) (text (codes "l")) ≡ refuses (text (codes "l")) 22
  unfolding readlinkat_row read_link path_at
  read_target_into_none = refl

  read_no_link : call 78 (six at_working 65536 65536 9) (text (codes "f")) ≡ refuses (text (codes "f")) 22
  unfolding readlinkat_row read_link path_at walk walked walked_from walked_through components_after ends_with_slash root file inode entry
  read_no_link = simp (at_1, at_2) refl

  read_target_outside : call 78 (six at_working 65536 65538 9) (text (codes "l")) ≡ refuses (text (codes "l")) 14
  unfolding readlinkat_row read_link path_at walk walked walked_from walked_through components_after ends_with_slash root link_to_f inode entry
  read_target_outside = simp (at_1, at_4) refl

  read_target_unreadable : call 78 (six 99 0 65536 9) [] ≡ refuses [] 14
  unfolding readlinkat_row read_link path_at
  read_target_unreadable = refl

-- a size shorter than the text gives its first part
read_target_part : (whole : Kernel) (nodes : Nodes) → get nodes 1 ≡ Some root → get nodes 4 ≡ Some long_link
    → native_call 78 (six at_working 65538 65536 2) (with_files whole (at_first nodes)) (7 ∷ 7 ∷ text (codes "l")) []
    ≡ leaves whole (at_first nodes) (codes "f/" ++ text (codes "l")) [] (number 2)
unfolding readlinkat_row read_link path_at walk walked walked_from walked_through components_after ends_with_slash root long_link inode entry
read_target_part whole nodes at_1 at_4 = simp (at_1, at_4) refl

-- no node is free
open_full : (whole : Kernel) (nodes : Nodes) → get nodes 1 ≡ Some root → len nodes ≡ 65536
    → native_call 56 (six at_working 65536 0x41 438) (with_files whole (at_first nodes)) (text (codes "x")) []
    ≡ leaves whole (at_first nodes) (text (codes "x")) [] (error 28)
unfolding openat_row open_file path_at walk walked walked_from walked_through components_after ends_with_slash root inode entry
open_full whole nodes at_1 full = simp (at_1, full) refl

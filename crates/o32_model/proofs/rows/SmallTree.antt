-- A small tree for worked rows: the root with the file `f`, the directory `d`, the link `l` to `f`, the file `g` of 2^31 bytes and the file
-- `w` with a number above 2^32.
use Rattle.std.specs.Prelude.{ℕ, List, [], ◌∷◌, codes, Some, None, pos, negsuc}
use Rattle.kernel_core.specs.FileContent.{no_content}
use Rattle.kernel_core.specs.Nodes.{Inode, NodeContent, File, Directory, Link}
use Rattle.kernel_core.specs.PathWalk.{Place}
use Rattle.kernel_core.specs.declared.tree.DirEntry.{DirEntry}
use Rattle.o32_model.specs.declared.call_words.CallWords.{CallWords}

abbrev pub named : ℕ → List ℕ → ℕ → DirEntry
named cookie name node = record { cookie = cookie; name = name; node = node }

unfoldable pub mode_and_links : ℕ → ℕ → NodeContent → Inode
mode_and_links mode links content =
    record { mode = mode; access = pos 0; modified = pos 0; changed = pos 0; links = links; holds = 0; content = content }

unfoldable pub root_inode : Inode
unfolding mode_and_links
root_inode = mode_and_links 493 3 (Directory (record {
  parent = Some 1;
  greatest = 7;
  entries =
      named 3 (codes "f") 2 ∷ named 4 (codes "d") 3 ∷ named 5 (codes "l") 4 ∷ named 6 (codes "g") 5
      ∷ named 7 (codes "w") 0x1_0000_0001 ∷ [];
}))

unfoldable pub file_inode : Inode
unfolding mode_and_links
file_inode = mode_and_links 420 1 (File no_content)

unfoldable pub directory_inode : Inode
unfolding mode_and_links
directory_inode = mode_and_links 493 2 (Directory (record { parent = Some 1; greatest = 2; entries = [] }))

unfoldable pub link_inode : Inode
unfolding mode_and_links
link_inode = mode_and_links 511 1 (Link (codes "f"))

unfoldable pub large_inode : Inode
unfolding mode_and_links
large_inode = mode_and_links 420 1 (File (record no_content { size = 0x8000_0000 }))

-- modified half a second before the Epoch, and changed 2^32 + 3 seconds and 5 nanoseconds past it
unfoldable pub aged_inode : Inode
unfolding mode_and_links
aged_inode = record (mode_and_links 420 1 (File no_content)) { modified = negsuc 499_999_999; changed = pos 4_294_967_299_000_000_005 }

-- a directory that was removed
unfoldable pub removed_inode : Inode
unfolding mode_and_links
removed_inode = mode_and_links 493 0 (Directory (record { parent = None; greatest = 2; entries = [] }))

-- a name in the root that is not there
abbrev pub missing : List ℕ → Place
missing name = record { directory = 1; name = name; node = None }

-- a call with a fourth and a fifth argument
abbrev pub words_of_five : ℕ → ℕ → ℕ → ℕ → ℕ → ℕ → CallWords
words_of_five nr first second third fourth fifth =
    record { nr = nr; reg = first ∷ second ∷ third ∷ fourth ∷ []; stack = Some fifth ∷ None ∷ None ∷ None ∷ [] }

-- a call with six arguments
abbrev pub words_with_six : ℕ → ℕ → ℕ → ℕ → ℕ → ℕ → ℕ → CallWords
words_with_six nr first second third fourth fifth sixth =
    record { nr = nr; reg = first ∷ second ∷ third ∷ fourth ∷ []; stack = Some fifth ∷ Some sixth ∷ None ∷ None ∷ [] }

-- Nodes for another tree: the root with the directories `d` and `e`, the file `f` and the file `m` with the number 2^32 - 1

unfoldable pub other_root : Inode
unfolding mode_and_links
other_root = mode_and_links 493 4 (Directory (record {
  parent = Some 1;
  greatest = 6;
  entries = named 3 (codes "f") 2 ∷ named 4 (codes "d") 3 ∷ named 5 (codes "e") 6 ∷ named 6 (codes "m") 0xFFFF_FFFF ∷ [];
}))

-- a directory in the root with the file `a`, and one that has given out its last cookie
unfoldable pub full_inode : Inode
unfolding mode_and_links
full_inode = mode_and_links 493 2 (Directory (record { parent = Some 1; greatest = 3; entries = named 3 (codes "a") 8 ∷ [] }))

unfoldable pub used_up_inode : Inode
unfolding mode_and_links
used_up_inode = mode_and_links 493 2 (Directory (record { parent = Some 1; greatest = 0x7FFF_FFFF; entries = [] }))

-- a link `l` to itself
unfoldable pub circle_inode : Inode
unfolding mode_and_links
circle_inode = mode_and_links 511 1 (Link (codes "l"))

-- a file of 2^31 - 1 bytes, and one that may be executed
unfoldable pub long_inode : Inode
unfolding mode_and_links
long_inode = mode_and_links 420 1 (File (record no_content { size = 0x7FFF_FFFF }))

unfoldable pub executable_inode : Inode
unfolding mode_and_links
executable_inode = mode_and_links 493 1 (File no_content)

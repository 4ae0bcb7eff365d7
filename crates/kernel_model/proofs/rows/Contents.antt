-- Worked rows on files and directories that are open: 2 is the directory with `a` and `bb`, or a file.
use Rattle.std.specs.Prelude.{◌≡◌, ℕ, ◌+◌, ◌*◌, ◌/◌, ℤ, pos, negsuc, List, [], ◌∷◌, codes, Some, None, Ok, refl}
use Rattle.std.specs.FinMap.{get, get-empty}
use Rattle.std.specs.Ordering.{nat_cmp}
use Rattle.kernel_core.specs.FileContent.{no_content, longest_write, absent_blocks}
use Rattle.kernel_core.specs.NodeCalls.{after_write}
use Rattle.kernel_core.specs.Nodes.{Nodes, Inode, File, Directory}
use Rattle.kernel_core.specs.Queries.{FileKind}
use Rattle.kernel_core.specs.Totals.{live_blocks}
use Rattle.kernel_core.specs.declared.error.Errno.TheVariants.{EFAULT, EFBIG, EINVAL, EISDIR, ENOENT, ENOSPC, ENOTDIR, EOVERFLOW}
use Rattle.kernel_core.specs.declared.open_flags.Access.TheVariants.{ReadWrite}
use Rattle.kernel_model.proofs.rows.Names.{inode, entry}
use Rattle.kernel_model.proofs.rows.Small.{small, to, to_on_exec, input, output, read_end, write_end}
use Rattle.kernel_model.specs.Came.{done, refused}
use Rattle.kernel_model.specs.ContentRows.{Records, Entry, dot_entry, entries, seek, bytes_ready}
use Rattle.kernel_model.specs.Descriptions.{description_of, no_flags}
use Rattle.kernel_model.specs.State.{Files}
use Rattle.kernel_model.specs.Transfers.{read, reading, write, writing}
use Rattle.kernel_model.specs.declared.descriptor.Description.{Description}
use Rattle.kernel_model.specs.declared.descriptor.Object.TheVariants.{Node}

-- a record takes 12 bytes and the name, up to a multiple of 4, and holds node numbers of 32 bits
records : Records
records = record { length_for = λ n. (12 + n + 3) / 4 * 4; greatest = Some 0xFFFFFFFF }

directory : Inode
directory = inode 493 2 (Directory (record { parent = Some 1; greatest = 4; entries = entry 3 (codes "a") 8 ∷ entry 4 (codes "bb") 9 ∷ [] }))

wide : Inode
wide = inode 493 2 (Directory (record { parent = Some 1; greatest = 3; entries = entry 3 (codes "a") 4294967297 ∷ [] }))

removed : Inode
removed = inode 493 0 (Directory (record { parent = None; greatest = 4; entries = [] }))

file : Inode
file = inode 420 1 (File no_content)

at : ℕ → Description
at position = record (description_of (Node 5) (no_flags ReadWrite)) { position = position }

-- descriptor 2 leads to node 5, at this position
opened_at : Nodes → ℕ → Files
opened_at nodes position = record (small nodes []) {
  table = record {
    fds = to 0 ∷ to 1 ∷ to 4 ∷ to 2 ∷ to 3 ∷ to_on_exec 3 ∷ None ∷ None ∷ [];
    live = Some input ∷ Some output ∷ Some read_end ∷ Some write_end ∷ Some (at position) ∷ None ∷ [];
  };
}

named : ℕ → List ℕ → ℕ → Entry
named cookie name node = record { cookie = cookie; name = name; node = node; kind = FileKind }

module _ (nodes : Nodes) (kept : get nodes 8 ≡ Some file) (other : get nodes 9 ≡ Some file) where
  -- 39 bytes hold `.` and `..`, and then `a` and `bb`
  module _ (is : get nodes 5 ≡ Some directory) where
    dots_first : entries (opened_at nodes 0) 2 records 39 39 ≡ done (opened_at nodes 2) (dot_entry 1 (codes ".") 5 ∷ dot_entry 2 (codes "..") 1 ∷ [])
    unfolding entries opened_at at directory inode entry records file
    dots_first = simp (is, kept, other) refl

    then_names : entries (opened_at nodes 2) 2 records 39 39 ≡ done (opened_at nodes 4) (named 3 (codes "a") 8 ∷ named 4 (codes "bb") 9 ∷ [])
    unfolding entries opened_at at directory inode entry records file named
    then_names = simp (is, kept, other) refl

    then_nothing : entries (opened_at nodes 4) 2 records 39 39 ≡ done (opened_at nodes 4) []
    unfolding entries opened_at at directory inode entry records file
    then_nothing = simp (is, kept, other) refl

    too_small : entries (opened_at nodes 0) 2 records 15 15 ≡ refused (opened_at nodes 0) EINVAL
    unfolding entries opened_at at directory inode entry records file
    too_small = simp (is, kept, other) refl

    not_stored : entries (opened_at nodes 0) 2 records 39 31 ≡ refused (opened_at nodes 0) EFAULT
    unfolding entries opened_at at directory inode entry records file
    not_stored = simp (is, kept, other) refl

    from_the_end : seek (opened_at nodes 0) 2 (pos 0) 2 ≡ refused (opened_at nodes 0) EINVAL
    unfolding seek opened_at at directory inode
    from_the_end = simp is refl

    is_no_file : read (opened_at nodes 0) [] 2 (Ok 1) 1 ≡ refused (reading [] (opened_at nodes 0)) EISDIR
    unfolding read opened_at at directory inode
    is_no_file = simp is refl

  module _ (is : get nodes 5 ≡ Some wide) where
    too_wide : entries (opened_at nodes 2) 2 records 39 39 ≡ refused (opened_at nodes 2) EOVERFLOW
    unfolding entries opened_at at wide inode entry records
    too_wide = simp is refl

  module _ (is : get nodes 5 ≡ Some removed) where
    was_removed : entries (opened_at nodes 0) 2 records 39 39 ≡ refused (opened_at nodes 0) ENOENT
    unfolding entries opened_at at removed inode records
    was_removed = simp is refl

  module _ (is : get nodes 5 ≡ Some file) where
    no_directory : entries (opened_at nodes 0) 2 records 39 39 ≡ refused (opened_at nodes 0) ENOTDIR
    unfolding entries opened_at at file inode records
    no_directory = simp is refl

    seeks : seek (opened_at nodes 7) 2 (negsuc 1) 1 ≡ done (opened_at nodes 5) 5
    unfolding seek opened_at at file inode
    seeks = refl

    before_the_start : seek (opened_at nodes 7) 2 (negsuc 7) 1 ≡ refused (opened_at nodes 7) EINVAL
    unfolding seek opened_at at file inode
    before_the_start = refl

    no_origin : seek (opened_at nodes 7) 2 (pos 0) 3 ≡ refused (opened_at nodes 7) EINVAL
    unfolding seek opened_at at file inode
    no_origin = refl

    nothing_ready : bytes_ready (opened_at nodes 7) 2 ≡ done (opened_at nodes 7) 0
    unfolding bytes_ready opened_at at file inode
    nothing_ready = simp is refl

    -- from the limit on, without LARGEFILE
    past_the_limit : (now : ℤ) → write (opened_at nodes 0x7FFFFFFF) (Some 0x7FFFFFFF) now 2 (Ok 1) (1 ∷ []) ≡ refused (writing (opened_at nodes 0x7FFFFFFF)) EFBIG
    unfolding write opened_at at file inode
    past_the_limit now = simp is refl

    -- past the greatest size of a file
    past_the_end : (now : ℤ) → write (opened_at nodes 17592186044415) None now 2 (Ok 2) (1 ∷ 2 ∷ []) ≡ refused (writing (opened_at nodes 17592186044415)) EFBIG
    unfolding write opened_at at file inode
    past_the_end now = simp is refl

    -- what passes the limit is cut
    up_to_the_limit : (now : ℤ) → live_blocks nodes ≡ 0 → write (opened_at nodes 0x7FFFFFFD) (Some 0x7FFFFFFF) now 2 (Ok 3) (1 ∷ 2 ∷ 3 ∷ [])
        ≡ done (writing (record (opened_at nodes 0x7FFFFFFF) { nodes = after_write nodes 5 0x7FFFFFFD (1 ∷ 2 ∷ []) now })) 2
    unfolding write opened_at at file inode longest_write absent_blocks
    up_to_the_limit now none = simp (is, none, get-empty {X = List ℕ} nat_cmp) refl

    -- up to the greatest size of a file
    up_to_the_end : (now : ℤ) → live_blocks nodes ≡ 0 → write (opened_at nodes 17592186044415) None now 2 (Ok 1) (1 ∷ [])
        ≡ done (writing (record (opened_at nodes 17592186044416) { nodes = after_write nodes 5 17592186044415 (1 ∷ []) now })) 1
    unfolding write opened_at at file inode longest_write absent_blocks
    up_to_the_end now none = simp (is, none, get-empty {X = List ℕ} nat_cmp) refl

    no_block : (now : ℤ) → live_blocks nodes ≡ 65_536 → write (opened_at nodes 0) None now 2 (Ok 1) (1 ∷ []) ≡ refused (writing (opened_at nodes 0)) ENOSPC
    unfolding write opened_at at file inode longest_write absent_blocks
    no_block now full = simp (is, full, get-empty {X = List ℕ} nat_cmp) refl

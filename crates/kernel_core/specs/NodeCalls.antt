-- The calls on one node: its status, mode, times and holds, and the content of a file (stat(2), chmod(2), utimensat(2), open(2),
-- close(2), write(2), truncate(2)).
use Rattle.std.specs.Prelude.{find, ℕ, zero, suc, ◌+◌, ◌-◌, ◌*◌, ◌==◌, ℤ, List, [], ◌∷◌, length, Option, Some, None, nat_lt, if◌then◌else◌}
use Rattle.std.specs.Option.{unwrap_or}
use Rattle.kernel_core.specs.FileContent.{FileContent, written, resized, longest_write, kept_blocks, greatest_size}
use Rattle.kernel_core.specs.Nodes.{Nodes, Inode, NodeContent, File, Directory, Link, update, settled}
use Rattle.kernel_core.specs.Totals.{spare_blocks}
use Rattle.kernel_core.specs.declared.tree.DirEntry.{DirEntry}
use Rattle.kernel_core.specs.declared.error.Errno.{Errno}
use Rattle.kernel_core.specs.declared.error.Errno.TheVariants.{EFBIG, ENOSPC}

-- Status

-- the file type bits of a mode: S_IFREG, S_IFDIR and S_IFLNK of inode(7)
abbrev pub type_bits : NodeContent → ℕ
type_bits (File content) = 0x8000
type_bits (Directory listing) = 0x4000
type_bits (Link target) = 0xA000

-- the type and the mode bits (`st_mode`)
abbrev pub status_mode : Inode → ℕ
status_mode inode = type_bits inode.content + inode.mode

-- a directory has 4096 bytes (this project's own), a link as many as its target
abbrev pub content_size : NodeContent → ℕ
content_size (File content) = content.size
content_size (Directory listing) = 4096
content_size (Link target) = length target

-- in units of 512 bytes: 8 for each block that a file keeps, and 8 for a directory (this project's own)
abbrev pub content_sectors : NodeContent → ℕ
content_sectors (File content) = 8 * kept_blocks content
content_sectors (Directory listing) = 8
content_sectors (Link target) = 0

-- Mode, times and holds

abbrev pub with_mode : ℕ → ℤ → Inode → Inode
with_mode mode now inode = record inode { mode = mode; changed = now }

-- a time that is not given stays
abbrev pub with_times : Option ℤ → Option ℤ → ℤ → Inode → Inode
with_times access modified now inode = record inode {
  access = unwrap_or access inode.access;
  modified = unwrap_or modified inode.modified;
  changed = now;
}

abbrev pub held : Inode → Inode
held inode = record inode { holds = inode.holds + 1 }

abbrev pub let_go : Inode → Inode
let_go inode = record inode { holds = inode.holds - 1 }

-- the nodes after a hold was released: the node goes where it has no name and no other hold
abbrev pub released : Nodes → ℕ → Nodes
released nodes number = settled (update nodes number let_go) number

-- Entries

-- the entry of the least cookie above one, which is the first, since entries stand by rising cookie (getdents(2))
abbrev pub entry_above : List DirEntry → ℕ → Option DirEntry
entry_above entries cookie = find (λ e. nat_lt cookie e.cookie) entries

-- A file's content

abbrev pub with_content : (FileContent → FileContent) → NodeContent → NodeContent
with_content change (File content) = File (change content)
with_content change (Directory listing) = Directory listing
with_content change (Link target) = Link target

-- a file whose content changes gets the time of its modification and its change
abbrev pub modified_at : ℤ → (FileContent → FileContent) → Inode → Inode
modified_at now change inode = record inode { modified = now; changed = now; content = with_content change inode.content }

-- how many of `count` bytes a write takes: the longest prefix for which there are blocks
abbrev pub write_length : Nodes → FileContent → ℕ → ℕ → ℕ
write_length nodes content at count = longest_write content.blocks at count (spare_blocks nodes)

-- A write is EFBIG where it would end past the greatest size, and ENOSPC where no byte of it has a block. One of no byte is
-- never refused.
abbrev pub write_refusal : Nodes → FileContent → ℕ → ℕ → Option Errno
write_refusal nodes content at zero = None
write_refusal nodes content at (suc count) =
    if nat_lt greatest_size (at + suc count) then Some EFBIG
    else (if write_length nodes content at (suc count) == 0 then Some ENOSPC else None)

-- the nodes after a write of these bytes to a file; one of no byte changes nothing
abbrev pub after_write : Nodes → ℕ → ℕ → List ℕ → ℤ → Nodes
after_write nodes number at [] now = nodes
after_write nodes number at (byte ∷ bytes) now = update nodes number (modified_at now (λ c. written c at (byte ∷ bytes)))

abbrev pub resize_refusal : ℕ → Option Errno
resize_refusal size = if nat_lt greatest_size size then Some EFBIG else None

abbrev pub after_resize : Nodes → ℕ → ℕ → ℤ → Nodes
after_resize nodes number size now = update nodes number (modified_at now (λ c. resized c size))

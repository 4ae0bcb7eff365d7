-- What the calls on one node tell (stat(2), getdents(2)).
use Rattle.std.specs.Borrow.{Bor}
use Rattle.std.specs.Prelude.{ℕ, List}
use Rattle.kernel_core.specs.NodeCalls.{status_mode, content_size, content_sectors}
use Rattle.kernel_core.specs.Nodes.{Inode}
use Rattle.kernel_core.specs.Queries as queries
use Rattle.kernel_core.specs.declared.tree.DirEntry.{DirEntry}
use Rattle.native_vfs.specs.Keyed.{Keyed, number_at}
use Rattle.native_vfs.specs.declared.place.NodeKind.{NodeKind}
use Rattle.native_vfs.specs.declared.place.NodeKind.TheVariants.{File, Directory, Link}
use Rattle.native_vfs.specs.declared.place.Status.{Status}

-- the kind that is told
abbrev pub kind_told : NodeKind → queries.NodeKind
kind_told File = queries.FileKind
kind_told Directory = queries.DirectoryKind
kind_told Link = queries.LinkKind

abbrev pub status_of : ℕ → Inode → Status
status_of number inode = record {
  number = number;
  mode = status_mode inode;
  links = inode.links;
  size = content_size inode.content;
  blocks = content_sectors inode.content;
  access = inode.access;
  modified = inode.modified;
  changed = inode.changed;
}

-- an entry that is shown by its cookie, its name and the key of its node
abbrev pub shown_entry : Keyed → ℕ × Bor (List ℕ) × ℕ → DirEntry
shown_entry system entry = record { cookie = entry.0; name = entry.1.now; node = number_at system entry.2 }

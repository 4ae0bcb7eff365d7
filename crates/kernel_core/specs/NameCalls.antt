-- The calls on names: a file, a directory or a symbolic link is made, and a name is added, taken away or moved (open(2), mkdir(2),
-- symlink(2), link(2), unlink(2), rmdir(2), rename(2)). Each has the error that refuses it, where there is one, and the nodes after
-- it. Making, removing and renaming an entry set the times of modification and change of its directory.
use Rattle.std.specs.Prelude.{◌≡◌, ℕ, zero, suc, ◌+◌, ◌-◌, ◌≤◌, ◌<◌, Bool, true, false, not, ◌&&◌, ◌||◌, ◌==◌, ℤ, List, [], ◌∷◌, ◌++◌, filter, Option, Some, None, is_some, is_none, nat_le, if◌then◌else◌, codes}
use Rattle.std.specs.FinMap.{get, insert, len}
use Rattle.std.specs.Str.{bytes_eq}
use Rattle.kernel_core.specs.FileContent.{no_content}
use Rattle.kernel_core.specs.Nodes.{Nodes, Inode, NodeContent, File, Directory, Link, Listing, listing_at, is_directory, entries_in, update, settled}
use Rattle.kernel_core.specs.PathWalk.{Place}
use Rattle.kernel_core.specs.Totals.{nodes_full, entries_full}
use Rattle.kernel_core.specs.ValidTree.{root, greatest_cookie, is_dots}
use Rattle.kernel_core.specs.declared.error.Errno.{Errno}
use Rattle.kernel_core.specs.declared.error.Errno.TheVariants.{EPERM, EBUSY, EEXIST, EINVAL, EISDIR, ENOENT, ENOSPC, ENOTDIR, ENOTEMPTY}

-- Directories

-- a new entry has the cookie after the greatest that the directory ever had
abbrev pub with_entry : List ℕ → ℕ → Listing → Listing
with_entry name node listing = record listing {
  greatest = listing.greatest + 1;
  entries = listing.entries ++ record { cookie = listing.greatest + 1; name = name; node = node } ∷ [];
}

abbrev pub without_entry : List ℕ → Listing → Listing
without_entry name listing = record listing { entries = filter (λ e. not (bytes_eq e.name name)) listing.entries }

abbrev pub in_directory : (Listing → Listing) → NodeContent → NodeContent
in_directory change (File content) = File content
in_directory change (Directory listing) = Directory (change listing)
in_directory change (Link target) = Link target

-- a directory whose entries change
abbrev pub relisted : ℤ → (Listing → Listing) → Inode → Inode
relisted now change inode = record inode { modified = now; changed = now; content = in_directory change inode.content }

abbrev pub add_name : Nodes → ℕ → List ℕ → ℕ → ℤ → Nodes
add_name nodes directory name node now = update nodes directory (relisted now (with_entry name node))

abbrev pub take_name : Nodes → ℕ → List ℕ → ℤ → Nodes
take_name nodes directory name now = update nodes directory (relisted now (without_entry name))

-- Link counts: a file or a link counts its names, a directory 2 and its subdirectories, or 0 once it was removed.

abbrev pub one_link_more : Inode → Inode
one_link_more inode = record inode { links = inode.links + 1 }

abbrev pub one_link_less : Inode → Inode
one_link_less inode = record inode { links = inode.links - 1 }

abbrev pub changed_at : ℤ → Inode → Inode
changed_at now inode = record inode { changed = now }

-- Making

-- a number is the least from 2 on that no live node has
pub record IsNewNumber (nodes : Nodes) (number : ℕ) : Type 0 where
  pub from_two : 2 ≤ number
  pub unused : get nodes number ≡ None
  pub least : (lower : ℕ) → 2 ≤ lower → lower < number → is_some (get nodes lower) ≡ true

abbrev pub new_inode : ℕ → ℕ → NodeContent → ℤ → Inode
new_inode mode links content now = record {
  mode = mode;
  access = now;
  modified = now;
  changed = now;
  links = links;
  holds = 0;
  content = content;
}

abbrev pub new_file : ℕ → ℤ → Inode
new_file mode now = new_inode mode 1 (File no_content) now

abbrev pub new_directory : ℕ → ℕ → ℤ → Inode
new_directory mode parent now = new_inode mode 2 (Directory (record { parent = Some parent; greatest = 2; entries = [] })) now

-- a symbolic link has the mode 0777
abbrev pub new_link : List ℕ → ℤ → Inode
new_link target now = new_inode 511 1 (Link target) now

-- the nodes after a node was made under a name
abbrev pub after_make : Nodes → Place → ℕ → Inode → ℤ → Nodes
after_make nodes place number inode now = add_name (insert nodes number inode) place.directory place.name number now

abbrev pub after_create : Nodes → Place → ℕ → ℕ → ℤ → Nodes
after_create nodes place number mode now = after_make nodes place number (new_file mode now) now

abbrev pub after_mkdir : Nodes → Place → ℕ → ℕ → ℤ → Nodes
after_mkdir nodes place number mode now =
    update (after_make nodes place number (new_directory mode place.directory now) now) place.directory one_link_more

abbrev pub after_symlink : Nodes → Place → ℕ → List ℕ → ℤ → Nodes
after_symlink nodes place number target now = after_make nodes place number (new_link target now) now

-- a directory that was removed
abbrev pub is_orphan : Option Listing → Bool
is_orphan None = false
is_orphan (Some listing) = is_none listing.parent

-- the directory has given out its last cookie
abbrev pub is_used_up : Option Listing → Bool
is_used_up None = false
is_used_up (Some listing) = nat_le greatest_cookie listing.greatest

abbrev pub lacks_cookie : Nodes → Place → Bool
lacks_cookie nodes place = is_used_up (listing_at nodes place.directory)

-- A name is made: EEXIST where it is there, ENOENT where its directory was removed.
abbrev pub name_refusal : Nodes → Place → Bool → Option Errno
name_refusal nodes place full =
    if is_some place.node then Some EEXIST
    else (if is_orphan (listing_at nodes place.directory) then Some ENOENT
    else (if full || lacks_cookie nodes place then Some ENOSPC else None))

-- ENOSPC where 65,536 nodes or 131,072 entries live, or the directory's cookies end
abbrev pub make_refusal : Nodes → Place → Option Errno
make_refusal nodes place = name_refusal nodes place (nodes_full nodes || entries_full nodes)

-- An empty target is ENOENT before all else.
abbrev pub symlink_refusal : Nodes → Place → List ℕ → Option Errno
symlink_refusal nodes place [] = Some ENOENT
symlink_refusal nodes place (byte ∷ target) = make_refusal nodes place

-- A second name for a node. A directory is EPERM, before EEXIST (own).
abbrev pub link_refusal : Nodes → ℕ → Place → Option Errno
link_refusal nodes node place =
    if is_directory nodes node then Some EPERM else name_refusal nodes place (entries_full nodes)

abbrev pub after_link : Nodes → ℕ → Place → ℤ → Nodes
after_link nodes node place now =
    add_name (update nodes node (λ i. changed_at now (one_link_more i))) place.directory place.name node now

-- Removing

-- a file or link that lost a name
abbrev pub unlinked : ℤ → Inode → Inode
unlinked now inode = changed_at now (one_link_less inode)

abbrev pub unlink_of : Nodes → Option ℕ → Option Errno
unlink_of nodes None = Some ENOENT
unlink_of nodes (Some node) = if is_directory nodes node then Some EISDIR else None

abbrev pub unlink_refusal : Nodes → Place → Option Errno
unlink_refusal nodes place = unlink_of nodes place.node

abbrev pub after_unlink : Nodes → Place → ℕ → ℤ → Nodes
after_unlink nodes place node now =
    settled (update (take_name nodes place.directory place.name now) node (unlinked now)) node

-- a directory that lost its name: it has no parent and no link, and its times stay
abbrev pub orphaned : Inode → Inode
orphaned inode = record inode { links = 0; content = in_directory (λ l. record l { parent = None }) inode.content }

abbrev pub is_empty_list : {A : Type 0} → List A → Bool
is_empty_list [] = true
is_empty_list (first ∷ rest) = false

abbrev pub has_entries : Nodes → ℕ → Bool
has_entries nodes node = not (is_empty_list (entries_in (listing_at nodes node)))

-- A last `.` is EINVAL, a last `..` ENOTEMPTY, and the root EBUSY; a directory that the empty name names is as with `.` (own).
abbrev pub rmdir_of : Nodes → List ℕ → Option ℕ → Option Errno
rmdir_of nodes name None = Some ENOENT
rmdir_of nodes name (Some node) =
    if bytes_eq name (codes ".") then Some EINVAL
    else (if bytes_eq name (codes "..") then Some ENOTEMPTY
    else (if node == root then Some EBUSY
    else (if is_empty_list name then Some EINVAL
    else (if not (is_directory nodes node) then Some ENOTDIR
    else (if has_entries nodes node then Some ENOTEMPTY else None)))))

abbrev pub rmdir_refusal : Nodes → Place → Option Errno
rmdir_refusal nodes place = rmdir_of nodes place.name place.node

abbrev pub after_rmdir : Nodes → Place → ℕ → ℤ → Nodes
after_rmdir nodes place node now =
    settled (update (update (take_name nodes place.directory place.name now) place.directory one_link_less) node orphaned) node

-- Renaming

-- a name that names no entry: the empty one, `.` and `..`
abbrev pub is_no_entry : List ℕ → Bool
is_no_entry name = is_empty_list name || is_dots name

abbrev pub passes : (ℕ → Bool) → Option ℕ → Bool
passes test None = false
passes test (Some number) = test number

abbrev pub parent_passes : (ℕ → Bool) → Option Listing → Bool
parent_passes test None = false
parent_passes test (Some listing) = passes test listing.parent

-- whether a directory is `above`, or lies below it by at most `steps` parents; no directory lies above the root
unfoldable pub is_below : ℕ → Nodes → ℕ → ℕ → Bool
is_below zero nodes above directory = directory == above
is_below (suc steps) nodes above directory =
    (directory == above) || (not (directory == root) && parent_passes (is_below steps nodes above) (listing_at nodes directory))

-- whether a directory lies in the subtree of a node; it has fewer directories above it than there are nodes
abbrev pub is_in_subtree : Nodes → ℕ → ℕ → Bool
is_in_subtree nodes above directory = is_below (len nodes) nodes above directory

-- what is replaced and what replaces it are both directories, and the old one is empty, or neither is
abbrev pub replace_refusal : Nodes → ℕ → Option ℕ → Option Errno
replace_refusal nodes moved None = None
replace_refusal nodes moved (Some old) =
    if is_directory nodes moved
    then (if not (is_directory nodes old) then Some ENOTDIR else (if has_entries nodes old then Some ENOTEMPTY else None))
    else (if is_directory nodes old then Some EISDIR else None)

abbrev pub is_node : Option ℕ → ℕ → Bool
is_node None node = false
is_node (Some other) node = other == node

abbrev pub move_refusal : Nodes → Place → ℕ → Option Errno
move_refusal nodes to moved =
    if is_directory nodes moved && is_in_subtree nodes moved to.directory then Some EINVAL
    else (if is_some (replace_refusal nodes moved to.node) then replace_refusal nodes moved to.node
    else (if is_orphan (listing_at nodes to.directory) then Some ENOENT
    else (if lacks_cookie nodes to then Some ENOSPC else None)))

abbrev pub rename_of : Nodes → Place → Place → Option ℕ → Option Errno
rename_of nodes from to None = Some ENOENT
rename_of nodes from to (Some moved) =
    if is_no_entry from.name || is_no_entry to.name then Some EBUSY
    else (if is_node to.node moved then None else move_refusal nodes to moved)

-- Renaming `.`, `..` and the root, also as the new name, is EBUSY, and the empty name of another directory too (own); so is a new
-- name `..` in a removed directory, where it names nothing, with a slash behind it too. A directory into its own subtree is EINVAL; a file onto a directory EISDIR, also one that it lies in (own). Two names of one node
-- are left as they are. One entry is taken and one added, so the limit of entries plays no part.
abbrev pub rename_refusal : Nodes → Place → Place → Option Errno
rename_refusal nodes from to = rename_of nodes from to from.node

-- the nodes without what stood under the new name
abbrev pub replace_name : Nodes → Place → Option ℕ → ℤ → Nodes
replace_name nodes to None now = nodes
replace_name nodes to (Some old) now = if is_directory nodes old then after_rmdir nodes to old now else after_unlink nodes to old now

abbrev pub reparented : ℕ → Inode → Inode
reparented parent inode = record inode { content = in_directory (λ l. record l { parent = Some parent }) inode.content }

-- a directory that moves has another parent
abbrev pub move_parent : Nodes → ℕ → ℕ → ℕ → Nodes
move_parent nodes moved from to =
    if is_directory nodes moved
    then update (update (update nodes from one_link_less) to one_link_more) moved (reparented to)
    else nodes

abbrev pub after_move : Nodes → Place → Place → ℕ → ℤ → Nodes
after_move nodes from to moved now =
    let taken = take_name nodes from.directory from.name now in
    let cleared = replace_name taken to to.node now in
    let added = add_name cleared to.directory to.name moved now in
    update (move_parent added moved from.directory to.directory) moved (changed_at now)

abbrev pub after_rename : Nodes → Place → Place → ℕ → ℤ → Nodes
after_rename nodes from to moved now = if is_node to.node moved then nodes else after_move nodes from to moved now

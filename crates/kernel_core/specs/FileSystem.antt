-- Which nodes make up a file system: names, link counts, parents and entries agree, all that has a name hangs below the root, and
-- no limit is passed.
use Rattle.std.specs.Prelude.{◌≡◌, ◌≢◌, ℕ, zero, suc, ◌+◌, ◌*◌, ◌^◌, ◌<◌, ◌≤◌, true, ℤ, pos, neg_ℤ, ◌≤ℤ◌, ◌<ℤ◌, List, [], All, Option, Some, None, is_some, count_by}
use Rattle.std.specs.FinMap.{get, len}
use Rattle.kernel_core.specs.FileContent.{IsContent}
use Rattle.kernel_core.specs.Nodes.{Nodes, Inode, NodeContent, File, Directory, Link, Listing, listing_at, is_directory, entries_in}
use Rattle.kernel_core.specs.Totals.{total, content_entries, live_entries, live_blocks}
use Rattle.kernel_core.specs.ValidTree.{AreEntries, IsTarget, names_in, root, node_limit, block_limit, entry_limit, greatest_number, greatest_cookie, greatest_mode}
use Rattle.kernel_core.specs.declared.tree.DirEntry.{DirEntry}

-- how many entries name a node
abbrev pub name_count : Nodes → ℕ → ℕ
name_count nodes number = total (λ i. names_in (content_entries i.content) number) nodes

abbrev pub subdirectories : Nodes → List DirEntry → ℕ
subdirectories nodes entries = count_by (λ e. is_directory nodes e.node) entries

-- times reach as far as whole seconds of 64 bits do
abbrev pub IsTime : ℤ → Type 0
IsTime time = (neg_ℤ (pos (2 ^ 63 * 1_000_000_000)) ≤ℤ time) × (time <ℤ pos (2 ^ 63 * 1_000_000_000))

-- a directory's parent names it, and nothing else does; a removed one is not named, and is empty; the root is its own parent, and
-- nothing names it
abbrev pub HasParent : Nodes → ℕ → ℕ → Listing → Option ℕ → Type 0
HasParent nodes number links listing None = (listing.entries ≡ []) × (links ≡ 0) × (name_count nodes number ≡ 0) × (number ≢ root)
HasParent nodes number links listing (Some parent) =
    (links ≡ 2 + subdirectories nodes listing.entries)
    × (number ≡ root → (parent ≡ root) × (name_count nodes number ≡ 0))
    × (number ≢ root → (name_count nodes number ≡ 1) × (names_in (entries_in (listing_at nodes parent)) number ≡ 1))

abbrev pub parent_of : Option Listing → Option ℕ
parent_of None = None
parent_of (Some listing) = listing.parent

abbrev pub parent_at : Nodes → ℕ → Option ℕ
parent_at nodes number = parent_of (listing_at nodes number)

-- an entry of a directory names a live node, and a directory that it names has that directory as its parent
pub record IsLiveEntry (nodes : Nodes) (directory greatest : ℕ) (entry : DirEntry) : Type 0 where
  pub past : entry.cookie ≤ greatest
  pub live : is_some (get nodes entry.node) ≡ true
  pub child : is_directory nodes entry.node ≡ true → parent_at nodes entry.node ≡ Some directory

pub record IsListing (nodes : Nodes) (number links : ℕ) (listing : Listing) : Type 0 where
  pub low : 2 ≤ listing.greatest
  pub high : listing.greatest ≤ greatest_cookie
  pub entries : AreEntries listing.entries
  pub each : All (IsLiveEntry nodes number listing.greatest) listing.entries
  pub parent : HasParent nodes number links listing listing.parent

abbrev pub IsLiveContent : Nodes → ℕ → ℕ → NodeContent → Type 0
IsLiveContent nodes number links (File content) = IsContent content × (links ≡ name_count nodes number)
IsLiveContent nodes number links (Directory listing) = IsListing nodes number links listing
IsLiveContent nodes number links (Link target) = IsTarget target × (links ≡ name_count nodes number)

-- a live node has a link or a hold
pub record IsLive (nodes : Nodes) (number : ℕ) (inode : Inode) : Type 0 where
  pub low : 1 ≤ number
  pub high : number ≤ greatest_number
  pub mode : inode.mode ≤ greatest_mode
  pub access : IsTime inode.access
  pub modified : IsTime inode.modified
  pub changed : IsTime inode.changed
  pub used : 1 ≤ inode.links + inode.holds
  pub held : inode.holds < 2 ^ 32
  pub content : IsLiveContent nodes number inode.links inode.content

-- the root lies so many parents above a directory
unfoldable pub IsBelowRootBy : ℕ → Nodes → ℕ → Type 0
IsBelowRootBy zero nodes number = number ≡ root
IsBelowRootBy (suc steps) nodes number = (parent : ℕ) × (parent_at nodes number ≡ Some parent) × IsBelowRootBy steps nodes parent

abbrev pub IsBelowRoot : Nodes → ℕ → Type 0
IsBelowRoot nodes number = (steps : ℕ) × IsBelowRootBy steps nodes number

pub record IsFileSystem (nodes : Nodes) : Type 0 where
  pub top : parent_at nodes root ≡ Some root
  pub each : (number : ℕ) (inode : Inode) → get nodes number ≡ Some inode → IsLive nodes number inode
  pub below : (number parent : ℕ) → parent_at nodes number ≡ Some parent → IsBelowRoot nodes number
  pub few_nodes : len nodes ≤ node_limit
  pub few_blocks : live_blocks nodes ≤ block_limit
  pub few_entries : live_entries nodes ≤ entry_limit

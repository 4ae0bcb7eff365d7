-- The nodes of a file system by their numbers (inode(7)), and what changes one of them.
use Rattle.std.specs.Prelude.{◌≡◌, ◌⊎◌, ℕ, Bool, false, ◌&&◌, ◌==◌, ℤ, List, [], Option, Some, None, is_some, if◌then◌else◌, find, refl}
use mathlib.Core.Logic.{inl, inr}
use Rattle.std.specs.Coded.{Coded, code_by, coded×, coded⊎, coded_ℕ, coded_ℤ, coded_list, coded_option}
use Rattle.std.specs.Ordering.{nat_cmp}
use Rattle.std.specs.FinMap.{FinMap, code, get, insert, remove}
use Rattle.std.specs.Str.{bytes_eq}
use Rattle.kernel_core.specs.FileContent.{FileContent, file_content_code}
use Rattle.kernel_core.specs.declared.tree.DirEntry.{DirEntry}

-- A directory: the directory that its `..` names, which is none once it was removed; the greatest cookie that it ever had, which
-- is 2 in a new one, as `.` and `..` have 1 and 2; and its entries in the order in which they were made, by rising cookie.
pub record Listing : Type 0 where
  pub parent : Option ℕ
  pub greatest : ℕ
  pub entries : List DirEntry

-- a regular file, a directory, or a symbolic link with its target
pub data NodeContent : Type 0 where
  File : FileContent → NodeContent
  Directory : Listing → NodeContent
  Link : List ℕ → NodeContent

-- A node: its twelve mode bits, the times of its last access, modification and change in nanoseconds since the Epoch, its link
-- count, and its holds: how many file descriptions have it open, and uses as working directory.
pub record Inode : Type 0 where
  pub mode : ℕ
  pub access : ℤ
  pub modified : ℤ
  pub changed : ℤ
  pub links : ℕ
  pub holds : ℕ
  pub content : NodeContent

abbrev pub entry_code : Coded DirEntry
entry_code =
    code_by (ℕ × (List ℕ × ℕ)) (coded× coded_ℕ (coded× (coded_list coded_ℕ) coded_ℕ))
    (λ e. (e.cookie, (e.name, e.node))) (λ t. record { cookie = t.0; name = t.1.0; node = t.1.1 }) (λ _. refl)

abbrev pub listing_code : Coded Listing
listing_code =
    code_by (Option ℕ × (ℕ × List DirEntry)) (coded× (coded_option coded_ℕ) (coded× coded_ℕ (coded_list entry_code)))
    (λ l. (l.parent, (l.greatest, l.entries))) (λ t. record { parent = t.0; greatest = t.1.0; entries = t.1.1 }) (λ _. refl)

-- the three cases as a sum
abbrev pub split : NodeContent → FileContent ⊎ (Listing ⊎ List ℕ)
split (File content) = inl content
split (Directory listing) = inr (inl listing)
split (Link target) = inr (inr target)

abbrev pub join : FileContent ⊎ (Listing ⊎ List ℕ) → NodeContent
join (inl content) = File content
join (inr (inl listing)) = Directory listing
join (inr (inr target)) = Link target

pub join-split : (content : NodeContent) → join (split content) ≡ content
join-split (File content) = refl
join-split (Directory listing) = refl
join-split (Link target) = refl

abbrev pub node_content_code : Coded NodeContent
node_content_code =
    code_by (FileContent ⊎ (Listing ⊎ List ℕ)) (coded⊎ file_content_code (coded⊎ listing_code (coded_list coded_ℕ))) split join join-split

abbrev pub inode_code : Coded Inode
inode_code =
    code_by (ℕ × (ℤ × (ℤ × (ℤ × (ℕ × (ℕ × NodeContent))))))
    (coded× coded_ℕ (coded× coded_ℤ (coded× coded_ℤ (coded× coded_ℤ (coded× coded_ℕ (coded× coded_ℕ node_content_code))))))
    (λ i. (i.mode, (i.access, (i.modified, (i.changed, (i.links, (i.holds, i.content)))))))
    (λ t. record { mode = t.0; access = t.1.0; modified = t.1.1.0; changed = t.1.1.1.0; links = t.1.1.1.1.0; holds = t.1.1.1.1.1.0; content = t.1.1.1.1.1.1 })
    (λ _. refl)

-- the live nodes by their numbers
abbrev pub Nodes : Type 0
Nodes = FinMap nat_cmp Inode

abbrev pub nodes_code : Coded Nodes
nodes_code = code coded_ℕ inode_code

-- What a node is

abbrev pub listing_in : NodeContent → Option Listing
listing_in (File content) = None
listing_in (Directory listing) = Some listing
listing_in (Link target) = None

abbrev pub file_in : NodeContent → Option FileContent
file_in (File content) = Some content
file_in (Directory listing) = None
file_in (Link target) = None

abbrev pub target_in : NodeContent → Option (List ℕ)
target_in (File content) = None
target_in (Directory listing) = None
target_in (Link target) = Some target

abbrev pub in_inode : {A : Type 0} → (NodeContent → Option A) → Option Inode → Option A
in_inode part None = None
in_inode part (Some inode) = part inode.content

-- the directory of a number, where it is one
abbrev pub listing_at : Nodes → ℕ → Option Listing
listing_at nodes number = in_inode listing_in (get nodes number)

abbrev pub file_at : Nodes → ℕ → Option FileContent
file_at nodes number = in_inode file_in (get nodes number)

abbrev pub target_at : Nodes → ℕ → Option (List ℕ)
target_at nodes number = in_inode target_in (get nodes number)

abbrev pub is_directory : Nodes → ℕ → Bool
is_directory nodes number = is_some (listing_at nodes number)

abbrev pub entries_in : Option Listing → List DirEntry
entries_in None = []
entries_in (Some listing) = listing.entries

-- the entry of a name
abbrev pub entry_named : List DirEntry → List ℕ → Option DirEntry
entry_named entries name = find (λ e. bytes_eq e.name name) entries

-- What changes a node

-- the nodes with one of them, where it lives, changed
abbrev pub changed_inode : Nodes → ℕ → (Inode → Inode) → Option Inode → Nodes
changed_inode nodes number change None = nodes
changed_inode nodes number change (Some inode) = insert nodes number (change inode)

unfoldable pub update : Nodes → ℕ → (Inode → Inode) → Nodes
update nodes number change = changed_inode nodes number change (get nodes number)

-- A node that has no link and no hold goes (unlink(2), close(2)).
abbrev pub is_unused : Option Inode → Bool
is_unused None = false
is_unused (Some inode) = (inode.links == 0) && (inode.holds == 0)

unfoldable pub settled : Nodes → ℕ → Nodes
settled nodes number = if is_unused (get nodes number) then remove nodes number else nodes

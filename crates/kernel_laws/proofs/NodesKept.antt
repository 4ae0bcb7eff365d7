-- Nodes change, and keep their holds and kinds: what has a node open has it open still.
use Rattle.std.proofs.Common.{◌≡◌, ℕ, ◌≤◌, Bool, true, false, ◌||◌, refl, sym, ◌∙◌, ap, arith, inl, inr}
use Rattle.std.specs.Prelude.{Option, Some, None, is_some, count_by, not, option_map, ◌==◌, ◌⊎◌}
use Rattle.std.specs.FinMap.{get}
use Rattle.kernel_core.specs.FileSystem.{IsFileSystem}
use Rattle.kernel_core.specs.Nodes.{Nodes, Inode, NodeContent, File, Directory, Link, in_inode, is_directory, listing_in}
use Rattle.kernel_core.specs.Queries.{NodeKind, FileKind, DirectoryKind, LinkKind, KeepsHolds, KeepsKinds, holds_at, kind_at, kind_of}
use Rattle.file_system_laws.proofs.HeldNodes.{live_on}
use Rattle.kernel_laws.proofs.Lists.{one_counts, one_if, same}
use Rattle.kernel_model.proofs.Described.{within}
use Rattle.kernel_model.specs.Always.{IsFiles, IsOpen, fits_object, has_open, holders, is_node, only_reads}
use Rattle.kernel_model.specs.State.{Files}
use Rattle.kernel_model.specs.Table.{slot}
use Rattle.kernel_model.specs.declared.descriptor.Description.{Description}
use Rattle.kernel_model.specs.declared.descriptor.Object.{Object}
use Rattle.kernel_model.specs.declared.descriptor.Object.TheVariants as objects
use Rattle.kernel_model.specs.declared.stream.Stream.{Stream}
use Rattle.kernel_model.specs.declared.stream.Stream.TheVariants as streams

-- A directory is told by its kind

abbrev is_directory_kind : Option NodeKind → Bool
is_directory_kind None = false
is_directory_kind (Some FileKind) = false
is_directory_kind (Some DirectoryKind) = true
is_directory_kind (Some LinkKind) = false

abbrev kind_in : Option Inode → Option NodeKind
kind_in found = option_map (λ i. kind_of i.content) found

content_kind : (content : NodeContent) → is_some (listing_in content) ≡ is_directory_kind (Some (kind_of content))
content_kind (File content) = refl
content_kind (Directory listing) = refl
content_kind (Link target) = refl

inode_kind : (found : Option Inode) → is_some (in_inode listing_in found) ≡ is_directory_kind (kind_in found)
inode_kind None = refl
inode_kind (Some inode) = content_kind inode.content

pub by_kind : (nodes : Nodes) (number : ℕ) → is_directory nodes number ≡ is_directory_kind (kind_at nodes number)
by_kind nodes number = inode_kind (get nodes number)

pub same_directory : (old new : Nodes) (number : ℕ) → kind_at new number ≡ kind_at old number → is_directory new number ≡ is_directory old number
same_directory old new number e = by_kind new number ∙ ap is_directory_kind e ∙ sym (by_kind old number)

pub plain_file : (nodes : Nodes) (number : ℕ) → kind_at nodes number ≡ Some FileKind → is_directory nodes number ≡ false
plain_file nodes number e = by_kind nodes number ∙ ap is_directory_kind e

is_one : (kind : Option NodeKind) → is_directory_kind kind ≡ true → kind ≡ Some DirectoryKind
is_one None e = absurd cc
is_one (Some FileKind) e = absurd cc
is_one (Some DirectoryKind) e = refl
is_one (Some LinkKind) e = absurd cc

pub directory_has_kind : (nodes : Nodes) (number : ℕ) → is_directory nodes number ≡ true → kind_at nodes number ≡ Some DirectoryKind
directory_has_kind nodes number e = is_one (kind_at nodes number) (sym (by_kind nodes number) ∙ e)

-- What descriptions hold stays of its kind.

module _ (files : Files) (nodes : Nodes) (kinds : (number : ℕ) → 1 ≤ holders files number → kind_at nodes number ≡ kind_at files.nodes number) where
  abbrev changed : Files
  changed = record files { nodes = nodes }

  holds_open : (at : ℕ) (description : Description) (node : ℕ) → slot files.table.live at ≡ Some description → description.object ≡ objects.Node node → 1 ≤ holders files node
  holds_open at description node there object =
      let passes : has_open (is_node node) (slot files.table.live at) ≡ true = ap (λ o. has_open (is_node node) o) there ∙ ap (λ o. is_node node o) object ∙ same node in
      let some : 1 ≤ count_by (has_open (is_node node)) files.table.live = one_counts (has_open (is_node node)) files.table.live at None (within files.table.live at description there) passes in
      omega (arith, some)

  pub open_still : (at : ℕ) (description : Description) → slot files.table.live at ≡ Some description → IsOpen files description description.object
      → IsOpen changed description description.object
  open_still at description there is = by description.object refl is where
    by : (object : Object) → description.object ≡ object → IsOpen files description object → IsOpen changed description object
    by (objects.Stream stream) e h = h
    by (objects.ReadEnd pipe) e h = h
    by (objects.WriteEnd pipe) e h = h
    by (objects.Node node) e h = (h.0, either (kinds node (holds_open at description node there e)) h.1) where
      either : kind_at nodes node ≡ kind_at files.nodes node → (kind_at files.nodes node ≡ Some FileKind) ⊎ (kind_at files.nodes node ≡ Some DirectoryKind)
          → (kind_at nodes node ≡ Some FileKind) ⊎ (kind_at nodes node ≡ Some DirectoryKind)
      either k (inl file) = inl (k ∙ file)
      either k (inr directory) = inr (k ∙ directory)

  pub fits_still : (at : ℕ) (description : Description) → slot files.table.live at ≡ Some description
      → fits_object files.nodes description.flags.access description.object ≡ true → fits_object nodes description.flags.access description.object ≡ true
  fits_still at description there is = by description.object refl is where
    by : (object : Object) → description.object ≡ object → fits_object files.nodes description.flags.access object ≡ true → fits_object nodes description.flags.access object ≡ true
    by (objects.Stream stream) e h = other stream h where
      other : (stream : Stream) → fits_object files.nodes description.flags.access (objects.Stream stream) ≡ true → fits_object nodes description.flags.access (objects.Stream stream) ≡ true
      other streams.Input g = g
      other streams.Out g = g
      other streams.Err g = g
    by (objects.ReadEnd pipe) e h = h
    by (objects.WriteEnd pipe) e h = h
    by (objects.Node node) e h =
        ap (λ b. only_reads description.flags.access || not b) (same_directory files.nodes nodes node (kinds node (holds_open at description node there e))) ∙ h

  pub directory_still : is_directory files.nodes files.directory ≡ true → is_directory nodes files.directory ≡ true
  directory_still is =
      let one : one_if (files.directory == files.directory) ≡ 1 = ap one_if (same files.directory) in
      same_directory files.nodes nodes files.directory (kinds files.directory (omega (arith, one))) ∙ is

-- Files with other nodes

pub held_kinds : (files : Files) (nodes : Nodes) → IsFiles files → KeepsHolds files.nodes nodes → KeepsKinds files.nodes nodes
    → (number : ℕ) → 1 ≤ holders files number → kind_at nodes number ≡ kind_at files.nodes number
held_kinds files nodes is holds kinds number some =
    let before : 1 ≤ holds_at files.nodes number = omega (arith, some, is.holds number) in
    (live_on files.nodes nodes kinds number before (omega (arith, before, holds number))).1

pub nodes_kept : (files : Files) (nodes : Nodes) → IsFiles files → IsFileSystem nodes → KeepsHolds files.nodes nodes → KeepsKinds files.nodes nodes
    → IsFiles (record files { nodes = nodes })
nodes_kept files nodes is fs holds kinds =
    let held = held_kinds files nodes is holds kinds in
    record {
      nodes = fs;
      table = is.table;
      places = is.places;
      pipes = λ at pipe h. let p = is.pipes at pipe h in record { small = p.small; are_bytes = p.are_bytes; used = p.used; readers = p.readers; writers = p.writers };
      moved = is.moved;
      opens = λ at description h. open_still files nodes held at description h (is.opens at description h);
      kept = is.kept;
      fits = λ at description h. fits_still files nodes held at description h (is.fits at description h);
      directory = directory_still files nodes held is.directory;
      holds = λ node. holds node ∙ is.holds node;
      umask = is.umask;
    }

-- How many entries and kept blocks there are after a name was taken away.
use Rattle.std.proofs.Common.{◌≡◌, ◌+◌, ℕ, List, None, refl, ap, ◌∙◌}
use Rattle.std.specs.Prelude.{ℤ, length}
use Rattle.kernel_core.specs.Nodes.{Nodes, NodeContent, File, Directory, Link, update}
use Rattle.kernel_core.specs.Totals.{content_entries, content_blocks, live_entries, live_blocks}
use Rattle.kernel_core.specs.NameCalls.{in_directory, without_entry, take_name, one_link_less, unlinked, orphaned}
use Rattle.kernel_core.specs.ValidTree.{AreEntries}
use Rattle.file_system_laws.proofs.Totals.{total-kept}
use Rattle.file_system_laws.proofs.Counts.{live_entries-kept, live_blocks-kept, live_entries-take_name, live_blocks-relisted}
use Rattle.file_system_laws.proofs.Tallies.{own, IsTree, directory_found, is_listed}
use Rattle.file_system_laws.proofs.Places.{Stands}

-- the entries of a directory in which a name stands
pub stands-entries : (nodes : Nodes) (directory : ℕ) (name : List ℕ) (node : ℕ) (s : Stands nodes directory name node) → IsTree (own nodes) nodes → AreEntries (s.listing).entries
stands-entries nodes directory name node s tree =
    let d = directory_found nodes directory s.listing s.live in
    (is_listed nodes directory (own nodes) d.0 s.listing (tree.each directory d.0 d.1) d.2).entries

-- a directory that loses its parent has the entries and blocks that it had
module _ (nodes : Nodes) (node : ℕ) where
  entries_same : (c : NodeContent) → length (content_entries (in_directory (λ l. record l { parent = None }) c)) ≡ length (content_entries c)
  entries_same (File content) = refl
  entries_same (Directory listing) = refl
  entries_same (Link target) = refl

  blocks_same : (c : NodeContent) → content_blocks (in_directory (λ l. record l { parent = None }) c) ≡ content_blocks c
  blocks_same (File content) = refl
  blocks_same (Directory listing) = refl
  blocks_same (Link target) = refl

  pub orphaned-entries : live_entries (update nodes node orphaned) ≡ live_entries nodes
  orphaned-entries = total-kept (λ i. length (content_entries i.content)) nodes node orphaned (λ i found. entries_same i.content)

  pub orphaned-blocks : live_blocks (update nodes node orphaned) ≡ live_blocks nodes
  orphaned-blocks = total-kept (λ i. content_blocks i.content) nodes node orphaned (λ i found. blocks_same i.content)

module _ (nodes : Nodes) (tree : IsTree (own nodes) nodes) (directory : ℕ) (name : List ℕ) (node : ℕ) (s : Stands nodes directory name node) (now : ℤ) where
  -- one entry less
  pub taken-entries : live_entries (take_name nodes directory name now) + 1 ≡ live_entries nodes
  taken-entries = live_entries-take_name nodes directory name now s.listing s.entry s.live (stands-entries nodes directory name node s tree) s.named

  pub taken-blocks : live_blocks (take_name nodes directory name now) ≡ live_blocks nodes
  taken-blocks = live_blocks-relisted nodes directory now (without_entry name)

  -- a file or link that lost a name
  pub unlinked-entries : live_entries (update (take_name nodes directory name now) node (unlinked now)) + 1 ≡ live_entries nodes
  unlinked-entries = ap (λ n. n + 1) (live_entries-kept (take_name nodes directory name now) node (unlinked now) (λ i found. refl)) ∙ taken-entries

  pub unlinked-blocks : live_blocks (update (take_name nodes directory name now) node (unlinked now)) ≡ live_blocks nodes
  unlinked-blocks = live_blocks-kept (take_name nodes directory name now) node (unlinked now) (λ i found. refl) ∙ taken-blocks

  -- a directory that was removed
  abbrev parted : Nodes
  parted = update (take_name nodes directory name now) directory one_link_less

  pub removed-entries : live_entries (update parted node orphaned) + 1 ≡ live_entries nodes
  removed-entries =
      ap (λ n. n + 1) (orphaned-entries parted node ∙ live_entries-kept (take_name nodes directory name now) directory one_link_less (λ i found. refl)) ∙ taken-entries

  pub removed-blocks : live_blocks (update parted node orphaned) ≡ live_blocks nodes
  removed-blocks =
      orphaned-blocks parted node ∙ live_blocks-kept (take_name nodes directory name now) directory one_link_less (λ i found. refl) ∙ taken-blocks

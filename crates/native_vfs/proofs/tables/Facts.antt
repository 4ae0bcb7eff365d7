-- What one node is, as it is kept and as callers see it.
use Rattle.std.proofs.Common.{◌≡◌, ℕ, ◌<◌, ◌≤◌, ◌^◌, List, map, Option, Some, is_some, IsSome, IfSome, refl, sym, ap, subst, ◌∙◌, arith}
use Rattle.std.specs.Prelude.{option_map}
use Rattle.std.specs.FinMap.{get}
use Rattle.slab.specs.Slab.{get as slab_get}
use Rattle.kernel_core.specs.FileContent.{FileContent}
use Rattle.kernel_core.specs.FileSystem.{IsFileSystem, parent_at, parent_of}
use Rattle.kernel_core.specs.NodeCalls.{entry_above, content_sectors}
use Rattle.kernel_core.specs.Nodes.{Inode, NodeContent, listing_in, file_in, target_in, in_inode, listing_at, file_at, target_at, entries_in}
use Rattle.kernel_core.specs.Totals.{content_blocks}
use Rattle.kernel_core.specs.ValidTree.{block_limit, greatest_mode}
use Rattle.file_system_laws.proofs.Totals.{total-at_least}
use Rattle.directory_names.proofs.NameLemmas.{IsNext-entry_after}
use Rattle.directory_names.specs.Names.{NamedNode, AreNames, plain, entry_after}
use Rattle.directory_names.specs.declared.entry.NodeRef.{NodeRef}
use Rattle.native_vfs.specs.Keyed.{Keyed, IsLiveKey, number_at, inode_at}
use Rattle.native_vfs.specs.inside.Stored.{Table, nodes_of, keyed_of, inode_of, content_of, number_of, HasDistinctNumbers, HasReferences, Leads, OptionLeads, DirectoryLeads, ContentLeads}
use Rattle.native_vfs.specs.declared.stored.Stored.{Stored}
use Rattle.native_vfs.specs.declared.stored.StoredDirectory.{StoredDirectory}
use Rattle.native_vfs.specs.declared.stored.StoredContent.{StoredContent}
use Rattle.native_vfs.specs.declared.stored.StoredContent.TheVariants as kept
use Rattle.native_vfs.proofs.tables.Kept.{inode-live, keys-seen, number-seen}
use Rattle.native_vfs.proofs.tables.Names.{after-above}
use Rattle.native_vfs.proofs.tables.Tables.{key-there, node-there, number-there}

-- A kind that the content is not

pub no-file : (content : StoredContent) → ((x : FileContent) → content ≡ kept.File x → ⊥) → IsSome (file_in (content_of content)) → ⊥
no-file (kept.File content) none some = none content refl
no-file (kept.Directory directory) none some = cc
no-file (kept.Link target) none some = cc

pub no-link : (content : StoredContent) → ((x : List ℕ) → content ≡ kept.Link x → ⊥) → IsSome (target_in (content_of content)) → ⊥
no-link (kept.File content) none some = cc
no-link (kept.Directory directory) none some = cc
no-link (kept.Link target) none some = none target refl

pub no-directory : (content : StoredContent) → ((x : StoredDirectory) → content ≡ kept.Directory x → ⊥) → IsSome (listing_in (content_of content)) → ⊥
no-directory (kept.File content) none some = cc
no-directory (kept.Directory directory) none some = none directory refl
no-directory (kept.Link target) none some = cc

module _ (table : Table) (system : Keyed) (view : keyed_of table ≡ system) (distinct : HasDistinctNumbers table) where
  -- where a reference leads
  pub lead-live : (reference : NodeRef) → Leads table reference → IsLiveKey system reference.key
  lead-live reference lead = ap is_some (ap (λ keys. get keys reference.key) (sym (keys-seen table system view)) ∙ key-there table reference.key lead.0 lead.1)

  pub lead-number : (reference : NodeRef) → Leads table reference → number_at system reference.key ≡ reference.number
  lead-number reference lead = sym (number-seen table system view reference.key) ∙ number-there table reference.key lead.0 lead.1 ∙ lead.2

  module _ (key : ℕ) (node : Stored) (at : slab_get table key ≡ Some node) where
    -- a part of what the node is
    pub part-seen : {A : Type 0} (part : NodeContent → Option A) → in_inode part (inode_at system key) ≡ part (content_of node.content)
    part-seen part = ap (in_inode part) (inode-live table system view key node distinct at)

    pub file-seen : (content : FileContent) → node.content ≡ kept.File content → file_at system.nodes (number_at system key) ≡ Some content
    file-seen content is = part-seen file_in ∙ ap (λ c. file_in (content_of c)) is

    pub if-file : (content : FileContent) (P : FileContent → Type 0) → node.content ≡ kept.File content → P content → IfSome (file_at system.nodes (number_at system key)) P
    if-file content P is holds = subst (λ o. IfSome o P) (sym (file-seen content is)) holds

    pub if-inode : (P : Inode → Type 0) → P (inode_of node) → IfSome (inode_at system key) P
    if-inode P holds = subst (λ o. IfSome o P) (sym (inode-live table system view key node distinct at)) holds

    pub number-live : number_at system key ≡ node.number
    number-live = sym (number-seen table system view key) ∙ number-there table key node at

    pub target-seen : (target : List ℕ) → node.content ≡ kept.Link target → target_at system.nodes (number_at system key) ≡ Some target
    target-seen target is = part-seen target_in ∙ ap (λ c. target_in (content_of c)) is

    pub parent-seen : (directory : StoredDirectory) → node.content ≡ kept.Directory directory → parent_at system.nodes (number_at system key) ≡ option_map number_of directory.parent
    parent-seen directory is = ap parent_of (part-seen listing_in) ∙ ap (λ c. parent_of (listing_in (content_of c))) is

    pub entries-seen : (directory : StoredDirectory) → node.content ≡ kept.Directory directory
        → entries_in (listing_at system.nodes (number_at system key)) ≡ map plain directory.names.entries
    entries-seen directory is = ap entries_in (part-seen listing_in) ∙ ap (λ c. entries_in (listing_in (content_of c))) is

    pub directory-leads : HasReferences table → (directory : StoredDirectory) → node.content ≡ kept.Directory directory → DirectoryLeads table directory
    directory-leads references directory is = subst (ContentLeads table) is (references key node at)

    pub parent-leads : HasReferences table → (directory : StoredDirectory) → node.content ≡ kept.Directory directory → (parent : NodeRef) → directory.parent ≡ Some parent → Leads table parent
    parent-leads references directory is parent same = subst (OptionLeads table) same (directory-leads references directory is).parent

    -- the entry after a cookie leads to its node
    pub entry-leads : HasReferences table → (directory : StoredDirectory) → node.content ≡ kept.Directory directory → AreNames directory.names
        → (cookie : ℕ) (next : NamedNode) → entry_after directory.names.entries cookie ≡ Some next → Leads table (record { number = next.number; key = next.key })
    entry-leads references directory is are cookie next comes =
        let there = (IsNext-entry_after directory.names cookie next are comes).there in
        subst (λ e. Leads table (record { number = e.number; key = e.key })) there.2 ((directory-leads references directory is).names there.0 next there.1)

    pub entry-seen : (directory : StoredDirectory) → node.content ≡ kept.Directory directory → (cookie : ℕ)
        → entry_above (entries_in (listing_at system.nodes (number_at system key))) cookie ≡ option_map plain (entry_after directory.names.entries cookie)
    entry-seen directory is cookie = ap (λ entries. entry_above entries cookie) (entries-seen directory is) ∙ sym (after-above directory.names.entries cookie)

    -- what is within its bounds
    pub mode-small : IsFileSystem (nodes_of table) → node.mode ≤ greatest_mode
    mode-small is = (is.each node.number (inode_of node) (node-there table key node distinct at)).mode

    pub blocks-few : IsFileSystem (nodes_of table) → content_blocks (content_of node.content) ≤ block_limit
    blocks-few is =
        let least = total-at_least (λ i. content_blocks i.content) (nodes_of table) node.number (inode_of node) (node-there table key node distinct at) in
        let all = is.few_blocks in
        omega (arith, least, all)

pub sectors-few : (content : StoredContent) → content_blocks (content_of content) ≤ block_limit → content_sectors (content_of content) < 2 ^ 32
sectors-few (kept.File content) few = omega (arith, few)
sectors-few (kept.Directory directory) few = omega arith
sectors-few (kept.Link target) few = omega arith

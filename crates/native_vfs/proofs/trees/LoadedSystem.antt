-- When each node of a valid tree is in the table with its entries, the table stands for the file system that the tree is loaded as.
use Rattle.std.proofs.Common.{◌≡◌, ℕ, Bool, List, [], map, length, get_or, Some, refl, sym, ap, subst, ◌∙◌}
use Rattle.std.specs.Prelude.{sum_by}
use Rattle.std.specs.FinMap.{from_entries}
use Rattle.std.specs.BTreeMap as tree
use Rattle.std.specs.Ordering.{nat_cmp}
use Rattle.std.proofs.lemmas.List.{append-nil}
use Rattle.kernel_core.specs.FileSystem.{IsFileSystem}
use Rattle.kernel_core.specs.LoadedTree.{loaded, loaded_inode, content_of as content_in}
use Rattle.kernel_core.specs.Nodes.{Inode}
use Rattle.kernel_core.specs.Totals.{total, content_entries, content_blocks, live_entries, live_blocks}
use Rattle.kernel_core.specs.ValidTree.{IsValidTree, IsKind, all_entries, all_blocks, entries_of, blocks_of, root}
use Rattle.kernel_core.specs.declared.tree.Node.{Node}
use Rattle.kernel_core.specs.declared.tree.Kind.{Kind}
use Rattle.kernel_core.specs.declared.tree.Kind.TheVariants as kinds
use Rattle.file_system_laws.proofs.KeyedLists.{len-keyed, total-keyed, sum_by-same}
use Rattle.file_system_laws.proofs.Loading.{loaded_is_file_system}
use Rattle.native_vfs.specs.inside.Loading.{tree_of, Places, AreNamed, loaded_entry}
use Rattle.native_vfs.specs.inside.Stored.{Table, nodes_of, AgreesPool}
use Rattle.native_vfs.proofs.tables.Kept.{IsWhole}

kind_entries : (nodes : List Node) (number : ℕ) (kind : Kind) → content_entries (content_in nodes number kind) ≡ entries_of kind
kind_entries nodes number (kinds.File size blocks) = refl
kind_entries nodes number (kinds.Dir entries) = refl
kind_entries nodes number (kinds.Link target) = refl

kind_blocks : (nodes : List Node) (number : ℕ) (kind : Kind) → IsKind kind → content_blocks (content_in nodes number kind) ≡ length (blocks_of kind)
kind_blocks nodes number (kinds.File size blocks) is = len-keyed (λ b. b.index) (λ b. b.bytes) blocks (is.1).rising
kind_blocks nodes number (kinds.Dir entries) is = refl
kind_blocks nodes number (kinds.Link target) is = refl

module _ (all : List Node) (valid : IsValidTree (tree_of all)) (table : Table) (places : Places) (named : AreNamed all all [] table places) where
  pub nodes-loaded : nodes_of table ≡ loaded (tree_of all)
  unfolding loaded
  nodes-loaded = named.nodes ∙ ap from_entries (append-nil (map (loaded_entry all) all))

  -- a number of each node, added up
  total-loaded : (amount : Inode → ℕ) → total amount (nodes_of table) ≡ sum_by (λ n. amount (loaded_inode all n)) all
  total-loaded amount =
      ap (total amount) (named.nodes ∙ ap from_entries (append-nil (map (loaded_entry all) all)))
      ∙ total-keyed (λ n. n.number) (loaded_inode all) amount all valid.rising

  entries-loaded : live_entries (nodes_of table) ≡ all_entries all
  entries-loaded =
      total-loaded (λ i. length (content_entries i.content))
      ∙ sum_by-same (λ (n : Node). length (content_entries (content_in all n.number n.kind))) (λ n. length (entries_of n.kind)) all
      (λ k d short. let n = get_or all k d in ap length (kind_entries all n.number n.kind))

  blocks-loaded : live_blocks (nodes_of table) ≡ all_blocks all
  blocks-loaded =
      total-loaded (λ i. content_blocks i.content)
      ∙ sum_by-same (λ (n : Node). content_blocks (content_in all n.number n.kind)) (λ n. length (blocks_of n.kind)) all
      (λ k d short. let n = get_or all k d in kind_blocks all n.number n.kind (valid.each k d short).kind)

  pub whole-loaded : (taken : List Bool) (entry_count block_count root_key : ℕ) → AgreesPool (from_entries (map (loaded_entry all) all)) taken
      → entry_count ≡ all_entries all → block_count ≡ all_blocks all → tree.get nat_cmp places root ≡ Some root_key
      → IsWhole table taken entry_count block_count root_key
  whole-loaded taken entry_count block_count root_key pool entries blocks top = record {
    distinct = named.distinct;
    references = named.references;
    system = subst IsFileSystem (sym nodes-loaded) (loaded_is_file_system (tree_of all) valid);
    pool = subst (λ m. AgreesPool m taken) (sym (named.nodes ∙ ap from_entries (append-nil (map (loaded_entry all) all)))) pool;
    entry_total = entries ∙ sym entries-loaded;
    block_total = blocks ∙ sym blocks-loaded;
    top = named.leads root root_key top;
  }

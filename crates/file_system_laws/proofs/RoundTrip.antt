-- A valid file tree that is loaded and saved at once is the same tree.
use Rattle.std.proofs.Common.{◌≡◌, ◌*◌, ◌+◌, ℕ, suc, true, cond, List, [], ◌∷◌, refl, ap, ◌∙◌, arith}
use Rattle.std.specs.Prelude.{ℤ, pos, negsuc, neg_ℤ, map, filter, Contains}
use Rattle.std.specs.Int.{int_div_euclid}
use Rattle.std.specs.List.{AllByRecursion}
use Rattle.std.specs.FinMap.{entries}
use Rattle.std.proofs.Math.Nat.{mul-div_cancel}
use Rattle.std.proofs.lemmas.Bool.{lt-ltb}
use Rattle.std.proofs.lemmas.Nat.{div-mul-add}
use Rattle.std.proofs.lemmas.List.Elements.{All-contains, Contains-get_or, recursion_from_All}
use Rattle.kernel_core.specs.Nodes.{Inode}
use Rattle.kernel_core.specs.LoadedTree.{loaded, saved, loaded_inode, saved_node, content_of, kind_of, nanoseconds, whole_seconds}
use Rattle.kernel_core.specs.ValidTree.{IsValidTree, IsNode, IsKind}
use Rattle.kernel_core.specs.declared.tree.Tree.{Tree}
use Rattle.kernel_core.specs.declared.tree.Node.{Node}
use Rattle.kernel_core.specs.declared.tree.Kind.{Kind}
use Rattle.kernel_core.specs.declared.tree.Kind.TheVariants as kinds
use Rattle.kernel_core.specs.declared.tree.Block.{Block}
use Rattle.file_system_laws.proofs.KeyedLists.{entries-keyed}
use Rattle.file_system_laws.proofs.Loading.{linked}
use Rattle.file_system_laws.proofs.Saving.{is_linked, node_of, block_of}

-- Times

seconds_again : (time : ℤ) → whole_seconds (nanoseconds time) ≡ time
seconds_again (pos n) = ap pos (mul-div_cancel n (omega arith))
seconds_again (negsuc n) =
    ap (λ m. int_div_euclid (neg_ℤ (pos m)) (pos 1_000_000_000)) whole
    ∙ ap negsuc (div-mul-add n 1_000_000_000 999_999_999 (omega arith))
  where
    whole : suc n * 1_000_000_000 ≡ suc (n * 1_000_000_000 + 999_999_999)
    whole = omega arith

-- Kinds

blocks_again : (blocks : List Block) → map block_of (map (λ b. (b.index, b.bytes)) blocks) ≡ blocks
blocks_again [] = refl
blocks_again (b ∷ bs) = ap (λ rest. b ∷ rest) (blocks_again bs)

kind_again : (nodes : List Node) (number : ℕ) (kind : Kind) → IsKind kind → kind_of (content_of nodes number kind) ≡ kind
kind_again nodes number (kinds.File size blocks) is =
    ap (λ es. kinds.File size (map block_of es)) (entries-keyed (λ b. b.index) (λ b. b.bytes) blocks (is.1).rising) ∙ ap (kinds.File size) (blocks_again blocks)
kind_again nodes number (kinds.Dir entries) is = refl
kind_again nodes number (kinds.Link target) is = refl

node_again : (nodes : List Node) (n : Node) → IsNode n → saved_node n.number (loaded_inode nodes n) ≡ n
node_again nodes n is = λ i. record { number = n.number; mode = n.mode; mtime = seconds_again n.mtime i; kind = kind_again nodes n.number n.kind is.kind i }

-- All nodes

module _ (tree : Tree) (valid : IsValidTree tree) where
  abbrev entry : Node → ℕ × Inode
  entry n = (n.number, loaded_inode tree.nodes n)

  -- the node is saved, and as the node that it was
  abbrev ComesBack : Node → Type 0
  ComesBack n = (is_linked (entry n) ≡ true) × (node_of (entry n) ≡ n)

  comes_back : (n : Node) → Contains tree.nodes n → ComesBack n
  comes_back n here = (lt-ltb 0 _ (let some = linked tree valid n here n.kind refl in omega (arith, some)), node_again tree.nodes n (All-contains IsNode tree.nodes n valid.each here))

  all_again : (ns : List Node) → AllByRecursion ComesBack ns → map node_of (filter is_linked (map entry ns)) ≡ ns
  all_again [] h = refl
  all_again (n ∷ ns) h =
      ap (λ b. map node_of (cond b (entry n ∷ filter is_linked (map entry ns)) (filter is_linked (map entry ns)))) h.0.0
      ∙ (λ i. h.0.1 i ∷ all_again ns h.1 i)

  nodes_again : map node_of (filter is_linked (entries (loaded tree))) ≡ tree.nodes
  unfolding loaded
  nodes_again =
      ap (λ es. map node_of (filter is_linked es)) (entries-keyed (λ n. n.number) (loaded_inode tree.nodes) tree.nodes valid.rising)
      ∙ all_again tree.nodes (recursion_from_All ComesBack tree.nodes (λ k d short. comes_back _ (Contains-get_or tree.nodes k d short)))

  pub saved_again : saved (loaded tree) ≡ tree
  unfolding saved
  saved_again = λ i. record { nodes = nodes_again i }

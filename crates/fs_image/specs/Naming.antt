-- The rules of a tree that speak of all its nodes, 11 and 12 of this project's own format, and the first of them that fails,
-- with the offset in the tree's text of what breaks it. (path_resolution(7) has the words.)
use Rattle.std.specs.Prelude.{ℕ, zero, suc, ◌+◌, Bool, ◌&&◌, ◌||◌, ◌==◌, nat_lt, nat_le, List, [], ◌∷◌, length, Option, Some, None, if◌then◌else◌}
use Rattle.std.specs.List.{list_any}
use Rattle.kernel_core.specs.declared.tree.Tree.{Tree}
use Rattle.kernel_core.specs.declared.tree.Node.{Node}
use Rattle.kernel_core.specs.declared.tree.DirEntry.{DirEntry}
use Rattle.kernel_core.specs.ValidTree.{root, is_dir, entries_of, names_in, times_named}
use Rattle.fs_image.specs.declared.refusal.ImageRule.TheVariants as rule
use Rattle.fs_image.specs.declared.refusal.ImageRefusal.{ImageRefusal}
use Rattle.fs_image.specs.Refusal.{refused, first_of}
use Rattle.fs_image.specs.Text.{entry_text, head_text, node_text}

-- the offset of the first node, behind the first bytes and the count
abbrev pub first_node : ℕ
first_node = 12

-- Rule 11: an entry's node isn't there

abbrev pub is_there : List Node → ℕ → Bool
is_there nodes number = list_any (λ n. n.number == number) nodes

-- the first of the entries from a place on that breaks it
unfoldable pub lost_entry : List Node → ℕ → List DirEntry → Option ImageRefusal
lost_entry nodes place [] = None
lost_entry nodes place (entry ∷ entries) =
    if is_there nodes entry.node then lost_entry nodes (place + length (entry_text entry)) entries
    else Some (refused rule.Target place)

-- the first entry of the nodes `left`, which stand from a place on. Before a node's entries stand its front and their count
unfoldable pub lost_target : List Node → ℕ → List Node → Option ImageRefusal
lost_target nodes place [] = None
lost_target nodes place (node ∷ left) =
    first_of (lost_entry nodes (place + (length (head_text node) + 4)) (entries_of node.kind))
    (lost_target nodes (place + length (node_text node)) left)

-- Rule 12: a directory but node 1 that isn't named exactly once, node 1 named, a file or link not named, or a node that isn't
-- reached from node 1

-- whether a node may be named so many times
abbrev pub is_named_rightly : ℕ → Node → Bool
is_named_rightly times node =
    if node.number == root then times == 0 else if is_dir node.kind then times == 1 else nat_le 1 times

-- at most so many names lead to a node from the root
unfoldable pub is_reached_in : List Node → ℕ → ℕ → Bool
is_reached_in nodes zero number = number == root
is_reached_in nodes (suc steps) number =
    is_reached_in nodes steps number
    || list_any (λ parent. nat_lt 0 (names_in (entries_of parent.kind) number) && is_reached_in nodes steps parent.number) nodes

-- no node is farther from the root than there are nodes
unfoldable pub is_reached : List Node → ℕ → Bool
is_reached nodes number = is_reached_in nodes (length nodes) number

-- the first of the nodes `left`, which stand from a place on, that breaks it
unfoldable pub stray_node : List Node → ℕ → List Node → Option ImageRefusal
stray_node nodes place [] = None
stray_node nodes place (node ∷ left) =
    if is_named_rightly (times_named nodes node.number) node && is_reached nodes node.number then stray_node nodes (place + length (node_text node)) left
    else Some (refused rule.Tree place)

-- rule 11 over all nodes and entries in order, then rule 12 over the nodes
unfoldable pub naming_failure : Tree → Option ImageRefusal
naming_failure tree = first_of (lost_target tree.nodes first_node tree.nodes) (stray_node tree.nodes first_node tree.nodes)

-- Going over the nodes of a tree, one after the other.
use Rattle.std.proofs.Common.{◌≡◌, ℕ, ◌+◌, ◌<◌, ◌≤◌, Bool, true, false, cond, List, length, get_or, drop, Option, Some, None, sym, ap, ◌∙◌}
use Rattle.std.specs.Prelude.{◌&&◌, not, Contains}
use Rattle.std.specs.HashMap.{HashMap}
use Rattle.std.specs.HashSet.{HashSet}
use Rattle.fs_image.specs.inside.Walk.{count_of, is_in, AreUnreached}
use Rattle.std.proofs.lemmas.List.{drop_all}
use Rattle.kernel_core.specs.declared.tree.Node.{Node}
use Rattle.kernel_core.specs.declared.tree.DirEntry.{DirEntry}
use Rattle.kernel_core.specs.ValidTree.{entries_of, times_named}
use Rattle.fs_image.specs.declared.refusal.ImageRule.TheVariants as rule
use Rattle.fs_image.specs.declared.refusal.ImageRefusal.{ImageRefusal}
use Rattle.fs_image.specs.Refusal.{refused, first_of}
use Rattle.fs_image.specs.Text.{entry_text, head_text, node_text}
use Rattle.fs_image.specs.Naming.{is_there, lost_entry, lost_target, stray_node, is_named_rightly, is_reached}
use Rattle.fs_image.proofs.Lengths.{next_left}

abbrev entries_place : ℕ → Node → ℕ
entries_place place node = place + (length (head_text node) + 4)

pub lost_target-found : (nodes : List Node) (place i : ℕ) (node : Node) (lost total : Option ImageRefusal) (refusal : ImageRefusal) → i < length nodes → node ≡ get_or nodes i node
    → lost ≡ lost_entry nodes (place + 23) (entries_of node.kind) → lost ≡ Some refusal → lost_target nodes place (drop i nodes) ≡ total → lost ≡ total
unfolding lost_target
lost_target-found nodes place i node lost total refusal below is told some so_far =
    let left = next_left nodes i node below is in
    let here : lost_entry nodes (place + 23) (entries_of node.kind) ≡ Some refusal = sym told ∙ some in
    let whole : lost_target nodes place (drop i nodes) ≡ Some refusal =
    ap (lost_target nodes place) left ∙ ap (λ o. first_of o (lost_target nodes (place + length (node_text node)) (drop (i + 1) nodes))) here in
    some ∙ (sym whole ∙ so_far)

pub lost_target-next : (nodes : List Node) (place i : ℕ) (node : Node) (lost total : Option ImageRefusal) → i < length nodes → node ≡ get_or nodes i node
    → lost ≡ lost_entry nodes (place + 23) (entries_of node.kind) → lost ≡ None → lost_target nodes place (drop i nodes) ≡ total → lost_target nodes (place + length (node_text node)) (drop (i + 1) nodes) ≡ total
unfolding lost_target
lost_target-next nodes place i node lost total below is told none so_far =
    let left = next_left nodes i node below is in
    let here : lost_entry nodes (place + 23) (entries_of node.kind) ≡ None = sym told ∙ none in
    let whole : lost_target nodes place (drop i nodes) ≡ lost_target nodes (place + length (node_text node)) (drop (i + 1) nodes) =
    ap (lost_target nodes place) left ∙ ap (λ o. first_of o (lost_target nodes (place + length (node_text node)) (drop (i + 1) nodes))) here in
    sym whole ∙ so_far

pub lost_target-done : (nodes : List Node) (place i : ℕ) (total : Option ImageRefusal) → length nodes ≤ i → lost_target nodes place (drop i nodes) ≡ total → total ≡ None
unfolding lost_target
lost_target-done nodes place i total past so_far = sym so_far ∙ ap (lost_target nodes place) (drop_all i nodes past)

abbrev pub in_tree : List Node → Node → Bool
in_tree nodes node = is_named_rightly (times_named nodes node.number) node && is_reached nodes node.number

pub stray_node-found : (nodes : List Node) (place i : ℕ) (node : Node) (total : Option ImageRefusal) → i < length nodes → node ≡ get_or nodes i node
    → in_tree nodes node ≡ false → stray_node nodes place (drop i nodes) ≡ total → Some (refused rule.Tree place) ≡ total
unfolding stray_node
stray_node-found nodes place i node total below is stray so_far =
    let left = next_left nodes i node below is in
    let whole : stray_node nodes place (drop i nodes) ≡ Some (refused rule.Tree place) =
    ap (stray_node nodes place) left ∙ ap (λ b. cond b (stray_node nodes (place + length (node_text node)) (drop (i + 1) nodes)) (Some (refused rule.Tree place))) stray in
    sym whole ∙ so_far

pub stray_node-next : (nodes : List Node) (place i : ℕ) (node : Node) (total : Option ImageRefusal) → i < length nodes → node ≡ get_or nodes i node
    → in_tree nodes node ≡ true → stray_node nodes place (drop i nodes) ≡ total → stray_node nodes (place + length (node_text node)) (drop (i + 1) nodes) ≡ total
unfolding stray_node
stray_node-next nodes place i node total below is inside so_far =
    let left = next_left nodes i node below is in
    let whole : stray_node nodes place (drop i nodes) ≡ stray_node nodes (place + length (node_text node)) (drop (i + 1) nodes) =
    ap (stray_node nodes place) left ∙ ap (λ b. cond b (stray_node nodes (place + length (node_text node)) (drop (i + 1) nodes)) (Some (refused rule.Tree place))) inside in
    sym whole ∙ so_far

pub stray_node-done : (nodes : List Node) (place i : ℕ) (total : Option ImageRefusal) → length nodes ≤ i → stray_node nodes place (drop i nodes) ≡ total → total ≡ None
unfolding stray_node
stray_node-done nodes place i total past so_far = sym so_far ∙ ap (stray_node nodes place) (drop_all i nodes past)

pub lost_entry-found : (nodes : List Node) (place i : ℕ) (entries : List DirEntry) (entry : DirEntry) (total : Option ImageRefusal) → i < length entries → entry ≡ get_or entries i entry
    → is_there nodes entry.node ≡ false → lost_entry nodes place (drop i entries) ≡ total → Some (refused rule.Target place) ≡ total
unfolding lost_entry
lost_entry-found nodes place i entries entry total below is lost so_far =
    let left = next_left entries i entry below is in
    let whole : lost_entry nodes place (drop i entries) ≡ Some (refused rule.Target place) =
    ap (lost_entry nodes place) left ∙ ap (λ b. cond b (lost_entry nodes (place + length (entry_text entry)) (drop (i + 1) entries)) (Some (refused rule.Target place))) lost in
    sym whole ∙ so_far

pub lost_entry-next : (nodes : List Node) (place i : ℕ) (entries : List DirEntry) (entry : DirEntry) (total : Option ImageRefusal) → i < length entries → entry ≡ get_or entries i entry
    → is_there nodes entry.node ≡ true → lost_entry nodes place (drop i entries) ≡ total → lost_entry nodes (place + length (entry_text entry)) (drop (i + 1) entries) ≡ total
unfolding lost_entry
lost_entry-next nodes place i entries entry total below is there so_far =
    let left = next_left entries i entry below is in
    let whole : lost_entry nodes place (drop i entries) ≡ lost_entry nodes (place + length (entry_text entry)) (drop (i + 1) entries) =
    ap (lost_entry nodes place) left ∙ ap (λ b. cond b (lost_entry nodes (place + length (entry_text entry)) (drop (i + 1) entries)) (Some (refused rule.Target place))) there in
    sym whole ∙ so_far

pub lost_entry-done : (nodes : List Node) (place i : ℕ) (entries : List DirEntry) (total : Option ImageRefusal) → length entries ≤ i → lost_entry nodes place (drop i entries) ≡ total → total ≡ None
unfolding lost_entry
lost_entry-done nodes place i entries total past so_far = sym so_far ∙ ap (lost_entry nodes place) (drop_all i entries past)

-- the test of a node, by the counts and by what is not reached
pub in_tree-is : {S T : Type 0} (nodes : List Node) (node : Node) (counts : HashMap ℕ ℕ S) (unreached : HashSet ℕ T) → ((q : ℕ) → count_of counts q ≡ times_named nodes q) → AreUnreached nodes unreached → Contains nodes node
    → (is_named_rightly (count_of counts node.number) node && not (is_in unreached node.number)) ≡ in_tree nodes node
in_tree-is nodes node counts unreached counted left there =
    ap (λ t. is_named_rightly t node && not (is_in unreached node.number)) (counted node.number)
    ∙ ap (λ b. is_named_rightly (times_named nodes node.number) node && b) (sym (left node there))

use Rattle.std.proofs.Common.{◌≡◌, List, Option, Some, None, sym, ap, subst, ◌∙◌}
use Rattle.std.specs.Prelude.{slice_get}
use Rattle.kernel_core.specs.declared.tree.Node.{Node}
use Rattle.kernel_core.specs.ValidTree.{root}
use Rattle.fs_image.specs.declared.refusal.ImageRefusal.{ImageRefusal}
use Rattle.fs_image.specs.Refusal.{first_of}
use Rattle.fs_image.specs.Naming.{lost_target, stray_node, naming_failure}
use Rattle.fs_image.proofs.MeaningLaws.{first_of_some}
use Rattle.fs_image.proofs.naming.naming_failure.Goals as goal

abbrev lost : List Node → Option ImageRefusal
lost nodes = lost_target nodes 12 nodes

abbrev stray : List Node → Option ImageRefusal
stray nodes = stray_node nodes 12 nodes

pub returns-in-Some : goal.returns-in-Some
unfolding naming_failure
returns-in-Some c =
    let nodes = c.args.tree.now.nodes in
    let found : lost nodes ≡ Some c.in-Some.refusal = ap lost (sym c.as_slice-nodes.ensures) ∙ (sym c.lost_target.ensures ∙ c.in-Some.is) in
    sym (ap (λ o. first_of o (stray nodes)) found)

pub unreached-requires-clause-begins : goal.unreached-requires-clause-begins
unreached-requires-clause-begins c =
    let nodes = c.args.tree.now.nodes in
    let first = first_of_some nodes c.requires.read.some in
    let begins = c.requires.read.nodes.begins first.0 first.1 in
    let P : List Node → Type 0 = λ ns. (x : Node) × (slice_get ns 0 ≡ Some x) × (x.number ≡ root) in
    subst P (sym c.as_slice-nodes.ensures) (first.0, first.1, begins.0)

pub returns : goal.returns
unfolding naming_failure
returns c =
    let nodes = c.args.tree.now.nodes in
    let found : lost nodes ≡ None = ap lost (sym c.as_slice-nodes.ensures) ∙ (sym c.lost_target.ensures ∙ c.in_default.is) in
    c.stray_node.ensures ∙ (ap stray c.as_slice-nodes.ensures ∙ sym (ap (λ o. first_of o (stray nodes)) found))

use Rattle.std.proofs.Common.{◌≡◌, ◌++◌, [], ◌∷◌, List, ℕ, arith, sym, ap, subst, ◌∙◌}
use Rattle.std.specs.Prelude.{Contains}
use Rattle.std.proofs.lemmas.List.{nil_from_length}
use Rattle.kernel_core.specs.declared.tree.Node.{Node}
use Rattle.kernel_core.specs.ValidTree.{root, entries_of}
use Rattle.fs_image.specs.inside.Walk.{Spreads}
use Rattle.fs_image.proofs.Spreading.{Walked, walked_start, walked_on, walked_past, walked_all}
use Rattle.fs_image.proofs.walk.unreached.Goals as goal

pub loop-number-init : goal.loop-number-init
loop-number-init c =
    let one : c.push.new.self.items ≡ root ∷ [] = c.in_ok-push.ensures.items ∙ ap (λ (xs : List ℕ). xs ++ root ∷ []) c.new-stack.ensures.items in
    rw one (walked_start c.args.nodes.now c.in_ok-unreached.unreached c.remove.new.self c.in_ok-unreached.ensures c.remove.ensures.updates.0)

pub loop-number-preserved-in-Continue-branch-3 : goal.loop-number-preserved-in-Continue-branch-3
loop-number-preserved-in-Continue-branch-3 c =
    let nodes = c.args.nodes.now in
    let node = c.index-nodes-at.result in
    let there : Contains nodes node = (c.in-Some-place_of.at, c.in-Some-place_of.ensures.found.0, sym c.index-nodes-at.is) in
    let is : node.number ≡ c.in-Some.number = ap (λ (n : Node). n.number) c.index-nodes-at.is ∙ c.in-Some-place_of.ensures.found.1 node in
    let entries : c.entries.result.now ≡ entries_of node.kind = c.entries.ensures ∙ ap (λ (n : Node). entries_of n.kind) (sym c.index-nodes-at.is) in
    let walked = subst (λ (s : List ℕ). Walked nodes c.loop-number.unreached s) c.in-Some.ensures.items c.loop-number.invariant in
    let spread = subst (λ es. Spreads es c.loop-number.unreached c.pop.new.self.items c.spread.new.unreached c.spread.new.stack.items) entries c.in_ok-spread.ensures in
    walked_on nodes c.loop-number.unreached c.pop.new.self.items c.in-Some.number node c.spread.new.unreached c.spread.new.stack.items c.requires.sorted walked there is spread

pub loop-number-preserved : goal.loop-number-preserved
loop-number-preserved c =
    let walked = subst (λ (s : List ℕ). Walked c.args.nodes.now c.loop-number.unreached s) c.in-Some.ensures.items c.loop-number.invariant in
    walked_past c.args.nodes.now c.loop-number.unreached c.pop.new.self.items c.in-Some.number walked (sym c.in_default-place_of.ensures.there)

pub returns : goal.returns
returns c =
    let none : c.loop-number.stack.items ≡ [] = nil_from_length c.loop-number.stack.items (omega (arith, c.in_default.ensures.cases.0)) in
    let walked = subst (λ (s : List ℕ). Walked c.args.nodes.now c.loop-number.unreached s) none c.loop-number.invariant in
    walked_all c.args.nodes.now c.requires.begins.0 c.loop-number.unreached c.requires.begins.1 c.requires.begins.2 walked

use Rattle.std.proofs.Common.{arith, true, false, sym, ◌∙◌}
use Rattle.raw_pages.specs.Pages.{zero_page}
use Rattle.raw_pages.proofs.Tables.{store-inserted, view-inserted, len-map_of}
use Rattle.raw_pages.proofs.page_store.PageStore.map.Goals as goal

pub overflow_add-self : goal.overflow_add-self
overflow_add-self c = let bound = len-map_of c.self.inside.leaves.items in omega (arith, bound, c.self.invariant.counted)

pub invariant_of-self-then-branch : goal.invariant_of-self-then-branch
invariant_of-self-then-branch c =
    store-inserted c.self.inside.leaves.len c.self.inside.leaves.items c.as_mut_slice.result.now c.map.new.leaves c.self.inside.mapped c.args.self.now c.self.invariant c.self.view_is (sym c.self.inside.leaves.ok.0) c.as_mut_slice.ensures.value c.map.auto.leaves
    c.args.page (zero_page c.args.protection) c.in_ok-map.ensures.ok true (sym c.if-branch.true ∙ c.in_ok-map.ensures.was)

pub invariant_of-self-else-branch : goal.invariant_of-self-else-branch
invariant_of-self-else-branch c =
    store-inserted c.self.inside.leaves.len c.self.inside.leaves.items c.as_mut_slice.result.now c.map.new.leaves c.self.inside.mapped c.args.self.now c.self.invariant c.self.view_is (sym c.self.inside.leaves.ok.0) c.as_mut_slice.ensures.value c.map.auto.leaves
    c.args.page (zero_page c.args.protection) c.in_ok-map.ensures.ok false (sym c.if-branch.false ∙ c.in_ok-map.ensures.was)

pub returns-then-branch-clause-ok : goal.returns-then-branch-clause-ok
returns-then-branch-clause-ok c =
    view-inserted c.self.inside.leaves.len c.self.inside.leaves.items c.as_mut_slice.result.now c.map.new.leaves c.self.inside.mapped c.args.self.now c.self.invariant c.self.view_is (sym c.self.inside.leaves.ok.0) c.as_mut_slice.ensures.value c.map.auto.leaves
    c.args.page (zero_page c.args.protection) c.in_ok-map.ensures.ok

pub returns-else-branch-clause-ok : goal.returns-else-branch-clause-ok
returns-else-branch-clause-ok c =
    view-inserted c.self.inside.leaves.len c.self.inside.leaves.items c.as_mut_slice.result.now c.map.new.leaves c.self.inside.mapped c.args.self.now c.self.invariant c.self.view_is (sym c.self.inside.leaves.ok.0) c.as_mut_slice.ensures.value c.map.auto.leaves
    c.args.page (zero_page c.args.protection) c.in_ok-map.ensures.ok

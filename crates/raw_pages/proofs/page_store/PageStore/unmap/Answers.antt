use Rattle.std.proofs.Common.{true, false, ap, sym, ◌∙◌, is_some}
use Rattle.raw_pages.proofs.Tables.{store-removed, view-removed, some-mapped}
use Rattle.raw_pages.proofs.page_store.PageStore.unmap.Goals as goal

pub overflow_sub-self : goal.overflow_sub-self
overflow_sub-self c =
    some-mapped c.self.inside.leaves.len c.self.inside.leaves.items c.as_mut_slice.result.now c.take.new.leaves c.self.inside.mapped c.args.self.now c.self.invariant c.self.view_is (sym c.self.inside.leaves.ok.0) c.as_mut_slice.ensures.value c.take.auto.leaves
    c.args.page (ap is_some (sym c.take.ensures.was) ∙ sym c.if-is_some.ensures)

pub invariant_of-self : goal.invariant_of-self
invariant_of-self c =
    store-removed c.self.inside.leaves.len c.self.inside.leaves.items c.as_mut_slice.result.now c.take.new.leaves c.self.inside.mapped c.args.self.now c.self.invariant c.self.view_is (sym c.self.inside.leaves.ok.0) c.as_mut_slice.ensures.value c.take.auto.leaves
    c.args.page c.take.ensures.now true (c.if-is_some.ensures ∙ ap is_some c.take.ensures.was)

pub invariant_of-self-else-is_some : goal.invariant_of-self-else-is_some
invariant_of-self-else-is_some c =
    store-removed c.self.inside.leaves.len c.self.inside.leaves.items c.as_mut_slice.result.now c.take.new.leaves c.self.inside.mapped c.args.self.now c.self.invariant c.self.view_is (sym c.self.inside.leaves.ok.0) c.as_mut_slice.ensures.value c.take.auto.leaves
    c.args.page c.take.ensures.now false (c.if-is_some.ensures ∙ ap is_some c.take.ensures.was)

pub returns-then-is_some : goal.returns-then-is_some
returns-then-is_some c =
    view-removed c.self.inside.leaves.len c.self.inside.leaves.items c.as_mut_slice.result.now c.take.new.leaves c.self.inside.mapped c.args.self.now c.self.invariant c.self.view_is (sym c.self.inside.leaves.ok.0) c.as_mut_slice.ensures.value c.take.auto.leaves
    c.args.page c.take.ensures.now

pub returns-else-is_some : goal.returns-else-is_some
returns-else-is_some c =
    view-removed c.self.inside.leaves.len c.self.inside.leaves.items c.as_mut_slice.result.now c.take.new.leaves c.self.inside.mapped c.args.self.now c.self.invariant c.self.view_is (sym c.self.inside.leaves.ok.0) c.as_mut_slice.ensures.value c.take.auto.leaves
    c.args.page c.take.ensures.now

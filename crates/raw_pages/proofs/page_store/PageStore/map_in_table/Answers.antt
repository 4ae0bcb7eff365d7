use Rattle.std.proofs.Common.{◌≤◌, sym, arith}
use Rattle.raw_pages.proofs.Runs.{store-run, view-run, fits-run}
use Rattle.raw_pages.proofs.page_store.PageStore.map_in_table.Goals as goal

pub overflow_add-self : goal.overflow_add-self
overflow_add-self c =
    let order : c.args.first ≤ c.args.end = omega (arith, c.requires.some) in
    let bound = fits-run c.self.inside.leaves.len c.self.inside.leaves.items c.as_mut_slice-leaves.result.now c.map_run.new.leaves c.self.inside.mapped c.args.self.now c.self.invariant c.self.view_is (sym c.self.inside.leaves.ok.0) c.as_mut_slice-leaves.ensures.value c.map_run.auto.leaves
    c.args.first c.args.end c.args.protection order c.in_ok-fresh.ensures.ok c.in_ok-fresh.fresh c.in_ok-fresh.ensures.fresh in
    omega (arith, bound)

pub invariant_of-self-2 : goal.invariant_of-self-2
invariant_of-self-2 c =
    let order : c.args.first ≤ c.args.end = omega (arith, c.requires.some) in
    store-run c.self.inside.leaves.len c.self.inside.leaves.items c.as_mut_slice-leaves.result.now c.map_run.new.leaves c.self.inside.mapped c.args.self.now c.self.invariant c.self.view_is (sym c.self.inside.leaves.ok.0) c.as_mut_slice-leaves.ensures.value c.map_run.auto.leaves
    c.args.first c.args.end c.args.protection order c.in_ok-fresh.ensures.ok c.in_ok-fresh.fresh c.in_ok-fresh.ensures.fresh

pub returns-clause-ok : goal.returns-clause-ok
returns-clause-ok c =
    let order : c.args.first ≤ c.args.end = omega (arith, c.requires.some) in
    view-run c.self.inside.leaves.len c.self.inside.leaves.items c.as_mut_slice-leaves.result.now c.map_run.new.leaves c.self.inside.mapped c.args.self.now c.self.invariant c.self.view_is (sym c.self.inside.leaves.ok.0) c.as_mut_slice-leaves.ensures.value c.map_run.auto.leaves
    c.args.first c.args.end c.args.protection order c.in_ok-fresh.ensures.ok

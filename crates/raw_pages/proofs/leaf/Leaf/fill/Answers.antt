use Rattle.std.proofs.Common.{◌-◌, ℕ, None, get_or, arith}
use Rattle.raw_pages.proofs.Counts.{none-counted}
use Rattle.raw_pages.proofs.Fills.{absent_among-le}
use Rattle.raw_pages.proofs.leaf.Leaf.fill.Goals as goal

pub overflow_add-self : goal.overflow_add-self
overflow_add-self c =
    let small = none-counted c.self.inside.entries.items c.self.inside.mapped c.self.invariant in
    let most = absent_among-le (λ (p : ℕ). get_or c.as_mut_slice.result.now p None) c.args.first (c.args.end - c.args.first) in
    omega (arith, small, most, c.fill_entries-fresh.ensures.fresh)

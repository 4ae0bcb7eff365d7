use Rattle.std.proofs.Common.{rules, ◌≡◌, ◌-◌, None, length, [], ◌++◌, replicate, ap, ◌∙◌, arith}
use Rattle.raw_pages.proofs.Fills.{made-longer}
use Rattle.raw_pages.proofs.leaf.empty_entries.Goals as goal

pub returns : goal.returns
returns c =
    let old = c.in_ok-entries.entries.items in
    let new = c.resize_with.new.self.items in
    let empty : old ≡ [] = c.in_ok-entries.ensures.items in
    let none : length old ≡ 0 = ap length empty in
    let long : length new ≡ c.args.count = omega (arith, c.in_ok-resize_with.ensures.len, c.resize_with.new.self.ok.0) in
    made-longer _ None _ (λ y q h. search rules) old new c.args.count (omega (arith, none)) long c.in_ok-resize_with.ensures.items
    ∙ (λ i. empty i ++ replicate (let e : c.args.count - length old ≡ c.args.count = omega (arith, none) in e i) None)

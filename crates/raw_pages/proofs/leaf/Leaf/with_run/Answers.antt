use Rattle.std.proofs.Common.{rules, ◌≡◌, ◌-◌, Some, None, length, [], ◌++◌, replicate, append_assoc, ap, ◌∙◌, arith}
use Rattle.raw_pages.specs.Pages.{zero_page}
use Rattle.raw_pages.proofs.Fills.{made-longer, leaf-parts}
use Rattle.raw_pages.proofs.leaf.Leaf.with_run.Goals as goal

pub returns : goal.returns
returns c =
    let first = c.args.first in
    let end = c.args.end in
    let page = zero_page c.args.protection in
    let none = c.in_ok-entries.entries.items in
    let front = c.resize_with.new.self.items in
    let middle = c.resize_with-2.new.self.items in
    let all = c.resize_with-3.new.self.items in
    let empty : none ≡ [] = c.in_ok-entries.ensures.items in
    let size₀ : length none ≡ 0 = ap length empty in
    let size₁ : length front ≡ first = omega (arith, c.in_ok-resize_with.ensures.len, c.resize_with.new.self.ok.0) in
    let size₂ : length middle ≡ end = omega (arith, c.in_ok-resize_with-2.ensures.len, c.resize_with-2.new.self.ok.0) in
    let size₃ : length all ≡ 1024 = omega (arith, c.in_ok-resize_with-3.ensures.len, c.resize_with-3.new.self.ok.0) in
    let is₁ : front ≡ replicate first None =
    made-longer _ None _ (λ y q h. search rules) none front first (omega (arith, size₀)) size₁ c.in_ok-resize_with.ensures.items
    ∙ (λ i. empty i ++ replicate (let e : first - length none ≡ first = omega (arith, size₀) in e i) None) in
    let is₂ : middle ≡ front ++ replicate (end - first) (Some page) =
    made-longer _ (Some page) _ (λ y q h. search rules) front middle end (omega (arith, size₁, c.requires.order)) size₂ c.in_ok-resize_with-2.ensures.items
    ∙ ap (λ k. front ++ replicate (end - k) (Some page)) size₁ in
    let is₃ : all ≡ middle ++ replicate (1024 - end) None =
    made-longer _ None _ (λ y q h. search rules) middle all 1024 (omega (arith, size₂, c.requires.inside)) size₃ c.in_ok-resize_with-3.ensures.items
    ∙ ap (λ k. middle ++ replicate (1024 - k) None) size₂ in
    is₃
    ∙ ap (λ s. s ++ replicate (1024 - end) None) (is₂ ∙ ap (λ s. s ++ replicate (end - first) (Some page)) is₁)
    ∙ append_assoc (replicate first None) (replicate (end - first) (Some page)) (replicate (1024 - end) None)

pub invariant_of-result : goal.invariant_of-result
invariant_of-result c =
    leaf-parts c.args.first c.args.end (zero_page c.args.protection) c.resize_with-3.new.self.items c.requires.order c.requires.inside (returns c)

use Rattle.std.proofs.Common.{◌≡◌, ◌≤◌, None, is_some, not, get_or, sym, ap, ◌∙◌, arith}
use Rattle.std.proofs.lemmas.Bool.Decides.{nat_tests}
use Rattle.raw_pages.proofs.Counts.{none-there, all-there}
use Rattle.raw_pages.proofs.leaf.Leaf.has.Goals as goal

pub returns-then-mapped : goal.returns-then-mapped
returns-then-mapped c = λ none place inside.
    let nothing : c.self.inside.mapped ≡ 0 = grind (arith, nat_tests) in
    sym (ap (λ es. is_some (get_or es place None)) c.self.view_is)
    ∙ none-there c.self.inside.entries.items place (sym c.self.invariant.counted ∙ nothing)
    ∙ sym (ap not c.if-mapped.true)

pub returns-else-mapped : goal.returns-else-mapped
returns-else-mapped c = λ full place inside.
    let most : 1024 ≤ c.self.inside.mapped = grind (arith, nat_tests) in
    sym (ap (λ es. is_some (get_or es place None)) c.self.view_is)
    ∙ all-there c.self.inside.entries.items place
    (omega (arith, most, c.self.invariant.whole, c.self.invariant.counted))
    (omega (arith, inside, c.self.invariant.whole))
    ∙ sym (ap not c.if-mapped.false)

use Rattle.std.proofs.Common.{ℕ, nat_lt, sym, ap, ◌∙◌, subst}
use Rattle.std.specs.List.{list_any}
use Rattle.elf_image.specs.inside.Taken.{AreApart}
use Rattle.elf_image.proofs.Parts.{meets-filter, reach-last, apart-filter}
use Rattle.elf_image.proofs.taken.meets.Goals as goal

pub returns-in-Some : goal.returns-in-Some
returns-in-Some c =
    let es = c.args.taken.now.entries in
    let found = sym (c.range.ensures.between tt) ∙ c.in-Some.ensures.steps in
    sym (meets-filter c.args.start c.args.end es
    ∙ ap (list_any (λ (e : ℕ × ℕ). nat_lt c.args.start e.1)) found
    ∙ reach-last c.args.start _ _ (subst AreApart found (apart-filter _ es c.requires)))

pub returns-in-None : goal.returns-in-None
returns-in-None c =
    let es = c.args.taken.now.entries in
    let found = sym (c.range.ensures.between tt) ∙ c.in-None.ensures.steps.0 in
    sym (meets-filter c.args.start c.args.end es
    ∙ ap (list_any (λ (e : ℕ × ℕ). nat_lt c.args.start e.1)) found)

use Rattle.std.proofs.Common.{◌≡◌, ◌∷◌, ap, subst, arith}
use Rattle.elf_image.specs.inside.Taken.{entry_spans, AreApart}
use Rattle.elf_image.proofs.Counting.{pages_from, near-after, near-start, pages-none, pages-all, pages-le}
use Rattle.elf_image.proofs.taken.page_count.Goals as goal

pub loop-start-init : goal.loop-start-init
loop-start-init c =
    let es = c.args.taken.entries in
    let all = pages-all es c.requires in
    let le = pages-le (entry_spans es) in
    record { apart = c.requires; near = near-start es; sum = omega arith; bound = omega (arith, all, le) }

pub loop-start-preserved : goal.loop-start-preserved
loop-start-preserved c =
    let is : c.loop-start.taken.entries ≡ (c.in-Some.start, c.in-Some.end) ∷ c.pop_first.new.self.entries = c.in-Some.ensures.removal in
    let apart = subst AreApart is c.loop-start.invariant.apart in
    let split = ap (pages_from c.loop-start.next) is in
    let sum = c.loop-start.invariant.sum in
    let bound = c.loop-start.invariant.bound in
    let max_is = c.max.ensures in
    record {
      apart = apart.3;
      near = near-after (c.in-Some.start, c.in-Some.end) c.pop_first.new.self.entries apart.0 apart.2;
      sum = omega (arith, split, sum, max_is);
      bound = omega (arith, split, bound, max_is);
    }

pub returns : goal.returns
returns c =
    let all = pages-all c.args.taken.entries c.requires in
    let sum = c.loop-start.invariant.sum in
    let none = pages-none c.loop-start.next c.loop-start.taken.entries c.in_default.ensures.variant.1 in
    omega (arith, all, sum, none)

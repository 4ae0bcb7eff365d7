use Rattle.std.proofs.Common.{◌-◌, None, is_some, refl, sym, ap, ◌∙◌, arith}
use Rattle.std.proofs.lemmas.List.{get_or_read}
use Rattle.raw_pages.proofs.Counts.{leaf-less, some-counted}
use Rattle.raw_pages.proofs.leaf.Leaf.take.Goals as goal

pub overflow_sub-self : goal.overflow_sub-self
overflow_sub-self c =
    let read = get_or_read c.self.inside.entries.items c.args.place c.index_mut.result.now (omega (arith, c.requires, c.self.invariant.whole)) c.index_mut.ensures.value None in
    some-counted c.self.inside.entries.items c.self.inside.mapped c.args.place c.self.invariant
    (ap is_some (sym read) ∙ sym (ap is_some c.replace-before.ensures.value) ∙ sym c.if-is_some.ensures)

pub invariant_of-self : goal.invariant_of-self
invariant_of-self c =
    let read = get_or_read c.self.inside.entries.items c.args.place c.index_mut.result.now (omega (arith, c.requires, c.self.invariant.whole)) c.index_mut.ensures.value None in
    let there = ap is_some (sym read) ∙ sym (ap is_some c.replace-before.ensures.value) ∙ sym c.if-is_some.ensures in
    let more = some-counted c.self.inside.entries.items c.self.inside.mapped c.args.place c.self.invariant there in
    leaf-less c.self.inside.entries.items _ c.self.inside.mapped c.args.place c.replace-before.new.dest c.self.invariant c.requires refl
    there (ap is_some c.replace-before.ensures.after) (c.self.inside.mapped - 1) (omega (arith, more))

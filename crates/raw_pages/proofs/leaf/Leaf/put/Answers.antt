use Rattle.std.proofs.Common.{None, is_some, refl, sym, ap, ◌∙◌, arith}
use Rattle.std.proofs.lemmas.List.{get_or_read}
use Rattle.raw_pages.proofs.Counts.{leaf-more, leaf-same, none-counted}
use Rattle.raw_pages.proofs.leaf.Leaf.put.Goals as goal

pub overflow_add-self : goal.overflow_add-self
overflow_add-self c = let small = none-counted c.self.inside.entries.items c.self.inside.mapped c.self.invariant in omega (arith, small)

pub invariant_of-self : goal.invariant_of-self
invariant_of-self c =
    let read = get_or_read c.self.inside.entries.items c.args.place c.index_mut.result.now (omega (arith, c.requires, c.self.invariant.whole)) c.index_mut.ensures.value None in
    leaf-more c.self.inside.entries.items _ c.self.inside.mapped c.args.place c.replace-before.new.dest c.self.invariant c.requires refl
    (ap is_some (sym read) ∙ sym (ap is_some c.replace-before.ensures.value) ∙ c.if-is_none.ensures)
    (ap is_some c.replace-before.ensures.after)

pub invariant_of-self-else-is_none : goal.invariant_of-self-else-is_none
invariant_of-self-else-is_none c =
    let read = get_or_read c.self.inside.entries.items c.args.place c.index_mut.result.now (omega (arith, c.requires, c.self.invariant.whole)) c.index_mut.ensures.value None in
    leaf-same c.self.inside.entries.items _ c.self.inside.mapped c.args.place c.replace-before.new.dest c.self.invariant c.requires refl
    (ap is_some (sym read) ∙ sym (ap is_some c.replace-before.ensures.value) ∙ c.if-is_none.ensures ∙ sym (ap is_some c.replace-before.ensures.after))

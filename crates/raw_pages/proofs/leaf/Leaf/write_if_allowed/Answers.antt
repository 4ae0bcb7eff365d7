use Rattle.std.proofs.Common.{Some, None, is_some, refl, sym, ap, ◌∙◌, arith}
use Rattle.std.proofs.lemmas.List.{get_or_read}
use Rattle.raw_pages.proofs.Counts.{leaf-same}
use Rattle.raw_pages.proofs.leaf.Leaf.write_if_allowed.Goals as goal

pub invariant_of-self-2 : goal.invariant_of-self-2
invariant_of-self-2 c =
    let read = get_or_read c.self.inside.entries.items c.args.place c.index_mut.result.now (omega (arith, c.requires.place, c.self.invariant.whole)) c.index_mut.ensures.value None in
    leaf-same c.self.inside.entries.items _ c.self.inside.mapped c.args.place (Some c.write_if_allowed.new.self) c.self.invariant c.requires.place refl
    (ap is_some (sym read) ∙ ap is_some c.in-Some.is)

use Rattle.std.proofs.Common.{Some, None, is_some, refl, sym, ap, subst, ◌∙◌, arith}
use Rattle.std.proofs.lemmas.List.{get_or_read}
use Rattle.raw_pages.specs.inside.Tables.{IsLeaf}
use Rattle.raw_pages.proofs.Counts.{leaf-same}
use Rattle.raw_pages.proofs.leaf.Leaf.write.Goals as goal
use Rattle.raw_pages.proofs.leaf.Leaf.write.Goals.{in-Some+in_ok-write-in-Some, in-None}

pub invariant_of-self-2 : goal.invariant_of-self-2
invariant_of-self-2 c =
    let read = get_or_read c.self.inside.entries.items c.args.place c.index_mut.result.now (omega (arith, c.requires.place, c.self.invariant.whole)) c.index_mut.ensures.value None in
    elim c.match-index_mut.branch [
      | in-Some+in_ok-write-in-Some w ↦
          subst (λ s. IsLeaf s.entries.items s.mapped) (sym w.self-inside-is)
          (leaf-same c.self.inside.entries.items _ c.self.inside.mapped c.args.place (Some w.write.new.self) c.self.invariant c.requires.place refl
          (ap is_some (sym read) ∙ ap is_some w.in-Some.is))
      | in-None w ↦
          subst (λ s. IsLeaf s.entries.items s.mapped) (sym w.self-inside-is)
          (leaf-same c.self.inside.entries.items _ c.self.inside.mapped c.args.place c.index_mut.result.now c.self.invariant c.requires.place refl
          (ap is_some (sym read)))
    ]

use Rattle.std.proofs.Common.{sym, subst, arith}
use Rattle.file_blocks.proofs.Validity.{AreBlocks, cut-valid}
use Rattle.file_blocks.proofs.content.Content.set_size.Goals as goal

pub returns-clause-valid : goal.returns-clause-valid
returns-clause-valid c = record {
  small = c.requires;
  blocks = subst (AreBlocks c.args.to) (sym c.cut.ensures.value) (cut-valid c.self.inside.size c.args.to c.self.inside.blocks c.self.invariant.0.blocks);
}

pub invariant_of-self : goal.invariant_of-self
invariant_of-self c = (returns-clause-valid c, let before = c.self.invariant.1 in omega (arith, c.cut.ensures.fewer))

use Rattle.std.proofs.Common.{subst, arith}
use Rattle.kernel_core.specs.FileContent.{FileContent}
use Rattle.file_blocks.specs.Kept.{NoneFrom}
use Rattle.file_blocks.proofs.Validity.{none_far}
use Rattle.file_blocks.proofs.content.Content.first_from.Goals as goal

pub returns-in_default-clause-none : goal.returns-in_default-clause-none
returns-in_default-clause-none c =
    subst (λ (m : FileContent). NoneFrom m.blocks c.args.from) c.self.view_is
    (none_far _ c.args.from c.self.invariant.0 (let far = c.in_default.ensures in omega (arith, far)))

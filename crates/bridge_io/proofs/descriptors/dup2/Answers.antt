-- The native call mirrors the row.
use Rattle.std.proofs.Common.{arith}
use Rattle.std.proofs.lemmas.Bool.Decides.{nat_tests}
use Rattle.o32_model.specs.Descriptors.{dup2_row}
use Rattle.bridge_io.proofs.DescriptorMirrors.{dup2_mirrors, dup2_itself_mirrors}
use Rattle.bridge_io.proofs.descriptors.dup2.Goals as goal

pub returns-clause-row : goal.returns-clause-row
returns-clause-row g c = λ guest same.
    c.number_call.ensures.row guest (dup2_row c.args.below.now.kernel.now guest c.args.fd c.args.onto) same
    (λ left. dup2_mirrors guest c.args.below.now.kernel.now c.clear.new.self left _ _ c.args.fd c.args.onto c.from-2.ensures c.from-3.ensures c.ranges.fd.fits c.ranges.onto.fits (grind (arith, nat_tests)))

pub returns-clause-kept : goal.returns-clause-kept
returns-clause-kept g c = λ guest same.
    c.number_call.ensures.kept guest (dup2_row c.args.below.now.kernel.now guest c.args.fd c.args.onto) same
    (λ left. dup2_mirrors guest c.args.below.now.kernel.now c.clear.new.self left _ _ c.args.fd c.args.onto c.from-2.ensures c.from-3.ensures c.ranges.fd.fits c.ranges.onto.fits (grind (arith, nat_tests)))

pub returns-then-fd-onto-clause-row : goal.returns-then-fd-onto-clause-row
returns-then-fd-onto-clause-row g c = λ guest same.
    c.told_call.ensures.row guest (dup2_row c.args.below.now.kernel.now guest c.args.fd c.args.onto) same
    (λ left. dup2_itself_mirrors guest c.args.below.now.kernel.now c.clear.new.self left _ c.args.fd c.args.onto c.from.ensures c.ranges.fd.fits (grind (arith, nat_tests)))

pub returns-then-fd-onto-clause-kept : goal.returns-then-fd-onto-clause-kept
returns-then-fd-onto-clause-kept g c = λ guest same.
    c.told_call.ensures.kept guest (dup2_row c.args.below.now.kernel.now guest c.args.fd c.args.onto) same
    (λ left. dup2_itself_mirrors guest c.args.below.now.kernel.now c.clear.new.self left _ c.args.fd c.args.onto c.from.ensures c.ranges.fd.fits (grind (arith, nat_tests)))

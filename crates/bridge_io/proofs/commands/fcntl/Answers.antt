-- The native call mirrors the row.
use Rattle.o32_model.specs.Descriptors.{fcntl_row}
use Rattle.bridge_io.proofs.CommandMirrors.{getfl_mirrors, setfl_mirrors, other_mirrors}
use Rattle.bridge_io.proofs.commands.fcntl.Goals as goal

pub returns-then-command-eq3-clause-row : goal.returns-then-command-eq3-clause-row
returns-then-command-eq3-clause-row g c = λ guest same.
    c.flags_call.ensures.row guest (fcntl_row c.args.below.now.kernel.now guest c.args.fd c.args.command c.args.argument) same
    (λ left. getfl_mirrors guest c.args.below.now.kernel.now _ left _ c.args.fd c.args.command c.args.argument c.from-fd.ensures c.ranges.fd.fits c.if-command-eq3.true)

pub returns-then-command-eq4-clause-row : goal.returns-then-command-eq4-clause-row
returns-then-command-eq4-clause-row g c = λ guest same.
    c.number_call.ensures.row guest (fcntl_row c.args.below.now.kernel.now guest c.args.fd c.args.command c.args.argument) same
    (λ left. setfl_mirrors guest c.args.below.now.kernel.now _ left _ _ c.args.fd c.args.command c.args.argument c.from-fd.ensures c.ranges.fd.fits c.if-command-eq4.true c.native_status_flags.ensures)

pub returns-clause-row : goal.returns-clause-row
returns-clause-row g c = λ guest same.
    c.number_call-2.ensures.row guest (fcntl_row c.args.below.now.kernel.now guest c.args.fd c.args.command c.args.argument) same
    (λ left. other_mirrors guest c.args.below.now.kernel.now _ left _ _ _ c.args.fd c.args.command c.args.argument c.whole.ensures c.from-fd.ensures c.from.ensures c.handed.ensures c.ranges.fd.fits c.ranges.command.fits c.ranges.argument.fits c.if-command-eq3.false c.if-command-eq4.false)

pub returns-then-command-eq3-clause-kept : goal.returns-then-command-eq3-clause-kept
returns-then-command-eq3-clause-kept g c = λ guest same.
    c.flags_call.ensures.kept guest (fcntl_row c.args.below.now.kernel.now guest c.args.fd c.args.command c.args.argument) same
    (λ left. getfl_mirrors guest c.args.below.now.kernel.now _ left _ c.args.fd c.args.command c.args.argument c.from-fd.ensures c.ranges.fd.fits c.if-command-eq3.true)

pub returns-then-command-eq4-clause-kept : goal.returns-then-command-eq4-clause-kept
returns-then-command-eq4-clause-kept g c = λ guest same.
    c.number_call.ensures.kept guest (fcntl_row c.args.below.now.kernel.now guest c.args.fd c.args.command c.args.argument) same
    (λ left. setfl_mirrors guest c.args.below.now.kernel.now _ left _ _ c.args.fd c.args.command c.args.argument c.from-fd.ensures c.ranges.fd.fits c.if-command-eq4.true c.native_status_flags.ensures)

pub returns-clause-kept : goal.returns-clause-kept
returns-clause-kept g c = λ guest same.
    c.number_call-2.ensures.kept guest (fcntl_row c.args.below.now.kernel.now guest c.args.fd c.args.command c.args.argument) same
    (λ left. other_mirrors guest c.args.below.now.kernel.now _ left _ _ _ c.args.fd c.args.command c.args.argument c.whole.ensures c.from-fd.ensures c.from.ensures c.handed.ensures c.ranges.fd.fits c.ranges.command.fits c.ranges.argument.fits c.if-command-eq3.false c.if-command-eq4.false)

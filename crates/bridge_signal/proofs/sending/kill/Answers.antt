-- The native call mirrors the row.
use Rattle.bridge_signal.proofs.SendingMirrors.{kill_mirrors}
use Rattle.o32_model.specs.Sending.{kill_row}
use Rattle.std.specs.Int.{w32, cast_signed}
use Rattle.bridge_signal.proofs.sending.kill.Goals as goal

pub returns-clause-row : goal.returns-clause-row
returns-clause-row g c = λ guest same.
    c.number_call.ensures.row guest (kill_row c.args.below.now.kernel.now guest (cast_signed w32 c.args.pid) c.args.number) same
    (λ left. kill_mirrors guest c.args.below.now.kernel.now c.clear.new.self left _ _ c.args.pid c.args.number c.from.ensures c.ranges.pid.fits c.native_number.ensures)

pub returns-clause-kept : goal.returns-clause-kept
returns-clause-kept g c = λ guest same.
    c.number_call.ensures.kept guest (kill_row c.args.below.now.kernel.now guest (cast_signed w32 c.args.pid) c.args.number) same
    (λ left. kill_mirrors guest c.args.below.now.kernel.now c.clear.new.self left _ _ c.args.pid c.args.number c.from.ensures c.ranges.pid.fits c.native_number.ensures)

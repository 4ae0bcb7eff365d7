-- The native call tells for the row.
use Rattle.std.proofs.Common.{length, ap}
use Rattle.o32_model.specs.Small.{getrlimit_row}
use Rattle.bridge_system.proofs.LimitMirrors.{each_fits, getrlimit_tells}
use Rattle.bridge_system.proofs.limits.getrlimit.Goals as goal

pub returns-clause-row : goal.returns-clause-row
returns-clause-row g c = λ guest same memory.
    c.tell_call.ensures.row guest (getrlimit_row c.args.below.now.kernel.now guest c.args.resource c.args.address) same memory
    (λ left. getrlimit_tells guest c.args.below.now.kernel.now c.fresh_room.new.mem left c.native_number.result c.args.resource c.args.address (each_fits c.args.below.now.kernel.now c.limits_fit.ensures) (ap length c.in_ok-fresh_room.ensures) c.native_number.ensures)

pub returns-clause-kept : goal.returns-clause-kept
returns-clause-kept g c = λ guest same memory.
    c.tell_call.ensures.kept guest (getrlimit_row c.args.below.now.kernel.now guest c.args.resource c.args.address) same memory
    (λ left. getrlimit_tells guest c.args.below.now.kernel.now c.fresh_room.new.mem left c.native_number.result c.args.resource c.args.address (each_fits c.args.below.now.kernel.now c.limits_fit.ensures) (ap length c.in_ok-fresh_room.ensures) c.native_number.ensures)

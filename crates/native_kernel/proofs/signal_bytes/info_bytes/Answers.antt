use Rattle.std.proofs.Common.{arith, rules}
use Rattle.std.specs.Prelude.{FitsSigned}
use Rattle.std.specs.Int.{w32}
use Rattle.native_kernel.proofs.SignalFields.{info_fits}
use Rattle.native_kernel.proofs.signal_bytes.info_bytes.Goals as goal

pub put-requires-clause-fits : goal.put-requires-clause-fits
put-requires-clause-fits c =
    let info = c.args.info in
    let code : FitsSigned w32 c.args.info.code = search rules in
    let errno : FitsSigned w32 c.args.info.errno = search rules in
    rw c.info_values-values.ensures (info_fits info.sig info.code info.errno info.pid info.uid info.value code errno (omega arith) (omega arith) (omega arith))

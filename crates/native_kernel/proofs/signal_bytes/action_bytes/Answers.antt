use Rattle.std.proofs.Common.{arith}
use Rattle.signal_sets.proofs.Turned.{IsNativeSet-native_of}
use Rattle.native_kernel.proofs.SignalFields.{action_fits}
use Rattle.native_kernel.proofs.signal_bytes.action_bytes.Goals as goal

pub put-requires-clause-fits : goal.put-requires-clause-fits
put-requires-clause-fits c =
    let action = c.args.action in
    rw c.action_values-values.ensures (action_fits action.flags action.handler _ (omega arith) (IsNativeSet-native_of action.mask))

use Rattle.std.proofs.Common.{arith}
use Rattle.native_kernel.proofs.TerminalLemmas.{settings_fit}
use Rattle.native_kernel.proofs.terminal.settings_bytes.Goals as goal

pub put-requires-clause-fits : goal.put-requires-clause-fits
put-requires-clause-fits c =
    rw c.settings_values-values.ensures (settings_fit c.args.settings (omega arith) (omega arith) (omega arith) (omega arith) (omega arith) (omega arith) (omega arith) (omega arith) (omega arith) (omega arith) (omega arith) (omega arith) (omega arith) (omega arith) (omega arith) (omega arith) (omega arith) (omega arith) (omega arith) (omega arith) (omega arith) (omega arith))

use Rattle.std.proofs.Common.{arith}
use Rattle.bridge_signal.proofs.NewActions.{action_written}
use Rattle.bridge_signal.proofs.setting.action_bytes.Goals as goal

pub returns : goal.returns
returns c = action_written _ _ c.put_record.new.bytes _ c.args.action c.native_layout.ensures.table c.action_values-values.ensures (omega arith) c.put_record.ensures.bytes

use Rattle.std.proofs.Common.{sym, arith}
use Rattle.number_tables.specs.inside.SignalLaws.{real_time_some, real_time_none}
use Rattle.number_tables.proofs.signal.real_time_numbered.Goals as goal

pub returns-in-32-to-128 : goal.returns-in-32-to-128
returns-in-32-to-128 c = sym (real_time_some c.args.number _ (omega arith))

pub returns-in_default : goal.returns-in_default
returns-in_default c = sym (real_time_none c.args.number (λ from. omega arith))

pub returns-in_default-2 : goal.returns-in_default-2
returns-in_default-2 c = sym (real_time_none c.args.number (λ from. omega arith))

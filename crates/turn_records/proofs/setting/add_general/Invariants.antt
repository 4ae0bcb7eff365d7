use Rattle.std.proofs.Common.{◌≡◌}
use Rattle.mips_exec.specs.Processor.{Processor}
use Rattle.turn_records.proofs.Stepwise.{mixed}
use Rattle.turn_records.specs.inside.Setting.{Sets}
use Rattle.turn_records.proofs.setting.add_general.Given as goal

-- those before the number are set
abbrev pub invariant-loop-number : goal.invariant-loop-number
invariant-loop-number l =
    (from : Processor) → from.registers ≡ l.was → Sets l.fn.effects.items l.effects.items from (record from { registers = mixed l.number l.was l.now })

use Rattle.std.proofs.Common.{◌≡◌, ◌++◌, take}
use Rattle.soak_program.specs.Executable.{halves}
use Rattle.soak_program.proofs.executable.put_halves.Given as goal

abbrev pub invariant-loop-number : goal.invariant-loop-number
invariant-loop-number l = l.file.items ≡ l.fn.file.items ++ halves (take l.number-index l.numbers)

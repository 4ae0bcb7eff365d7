use Rattle.std.proofs.Common.{◌≡◌, ◌++◌, take}
use Rattle.soak_program.specs.Executable.{words}
use Rattle.soak_program.proofs.executable.put_words.Given as goal

abbrev pub invariant-loop-number : goal.invariant-loop-number
invariant-loop-number l = l.file.items ≡ l.fn.file.items ++ words (take l.number-index l.numbers)

-- the rounds so far and those to come are all of them
use Rattle.std.proofs.Common.{◌≡◌, ◌++◌, ◌-◌}
use Rattle.std.specs.List.{flat_map}
use Rattle.soak_program.specs.Instructions.{code_of, round}
use Rattle.soak_program.specs.Numbers.{numbers_from}
use Rattle.soak_program.proofs.instructions.put_rounds.Given as goal

abbrev pub invariant-loop : goal.invariant-loop
invariant-loop l =
    l.code.items ++ code_of (flat_map round (numbers_from l.number (l.count - l.counter)))
    ≡ l.fn.code.items ++ code_of (flat_map round (numbers_from l.count l.count))

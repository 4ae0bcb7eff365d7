use Rattle.std.proofs.Common.{◌≡◌, ◌++◌, take}
use Rattle.soak_program.specs.Instructions.{code_of}
use Rattle.soak_program.proofs.instructions.put.Given as goal

abbrev pub invariant-loop-insn : goal.invariant-loop-insn
invariant-loop-insn l = l.code.items ≡ l.fn.code.items ++ code_of (take l.insn-index l.insns)

-- The row of a plain call is that of the whole table, and so is that of no call.
use Rattle.std.proofs.Common.{Option, sym, subst, ◌∙◌}
use Rattle.bridge_system.specs.Found.{found}
use Rattle.o32_machine.proofs.Numbering.{plain_same, unlisted}
use Rattle.o32_machine.specs.inside.Plainly.{IsPlainly}
use Rattle.o32_calls.specs.declared.process.PlainCall.{PlainCall}
use Rattle.o32_machine.proofs.process.answer.Goals as goal

pub returns-in-Some : goal.returns-in-Some
returns-in-Some c = λ seen memory kernel left.
    sym (plain_same seen kernel (found c.args.words.now c.args.cpu.now memory) left c.in-Some.call (subst (λ (call : Option PlainCall). IsPlainly call c.args.words.now.nr) c.in-Some.is c.requires)) ∙ c.plain_call.ensures memory kernel left

pub returns-in-None : goal.returns-in-None
returns-in-None c = λ seen memory kernel left.
    sym (unlisted seen kernel (found c.args.words.now c.args.cpu.now memory) left (subst (λ (call : Option PlainCall). IsPlainly call c.args.words.now.nr) c.in-None.is c.requires))

use Rattle.std.proofs.Common.{◌≤◌, ◌+◌, Result, arith, subst}
use Rattle.kernel_core.specs.declared.core_error.NoMemory.{NoMemory}
use Rattle.mips_exec.specs.Going.{GoesThen}
use Rattle.mips_exec.specs.declared.execution.Stepped.{Stepped}
use Rattle.replay_core.specs.inside.Stretch.{unrecorded}
use Rattle.replay_core.proofs.Outputs.{counts_same, meets_counts}
use Rattle.replay_core.proofs.Stretches.{free_before, stretch_ends, stretch_lacks}
use Rattle.replay_core.proofs.machine.Machine.stretch.Goals as goal

pub returns-in-Ok-clause-came : goal.returns-in-Ok-clause-came
returns-in-Ok-clause-came c = λ held.
    let self = c.args.self.now in
    let ran = c.run-ran in
    let few = ran.ensures.few in
    let less : c.args.turns + ran.result.quiet + 1 ≤ c.args.turns + c.args.most + 1 = omega (arith, few) in
    stretch_ends self c.args.turns ran.result.quiet held (free_before (c.args.turns + ran.result.quiet + 1) (c.args.turns + c.args.most + 1) self.coming less c.requires.free) c.in-Ok.came
    ran.new.cpu ran.new.space c.check_unrecorded.result
    (subst (λ (r : Result Stepped NoMemory). GoesThen ran.result.quiet self.cpu self.space r ran.new.cpu ran.new.space) c.in-Ok.is ran.ensures.last) c.check_unrecorded.ensures

pub returns-in-Ok-clause-still : goal.returns-in-Ok-clause-still
returns-in-Ok-clause-still c = λ out err.
    meets_counts (unrecorded (c.args.turns + c.run-ran.result.quiet + 1) c.in-Ok.came c.args.self.now.coming) c.check_unrecorded.result out err c.check_unrecorded.ensures

pub returns-in-Err-clause-came : goal.returns-in-Err-clause-came
returns-in-Err-clause-came c = λ held.
    let self = c.args.self.now in
    let ran = c.run-ran in
    let few = ran.ensures.few in
    let less : c.args.turns + ran.result.quiet + 1 ≤ c.args.turns + c.args.most + 1 = omega (arith, few) in
    stretch_lacks self c.args.turns ran.result.quiet held (free_before (c.args.turns + ran.result.quiet + 1) (c.args.turns + c.args.most + 1) self.coming less c.requires.free) c.in-Err.field-0
    ran.new.cpu ran.new.space
    (subst (λ (r : Result Stepped NoMemory). GoesThen ran.result.quiet self.cpu self.space r ran.new.cpu ran.new.space) c.in-Err.is ran.ensures.last)

pub returns-in-Err-clause-still : goal.returns-in-Err-clause-still
returns-in-Err-clause-still c = λ out err. counts_same out err

use Rattle.std.proofs.Common.{◌+◌, ◌-◌, Ok, arith, ap, rules, subst, ◌∙◌}
use Rattle.mips_exec.specs.declared.running.Ended.{Ended}
use Rattle.mips_exec.specs.inside.Quietly.{IsEnded}
use Rattle.mips_exec.proofs.Going.{goes_as, goes_far, goes_nowhere, goes_on, goes_then, goes_to_call}
use Rattle.mips_exec.proofs.running.run.Goals as goal

pub loop-cpu-init : goal.loop-cpu-init
loop-cpu-init c = record {
  went = goes_as 0 (c.args.most - c.args.most) c.args.cpu.now c.args.space.now c.args.cpu.now c.args.space.now (omega arith) (goes_nowhere c.args.cpu.now c.args.space.now);
  few = omega arith;
}

pub loop-cpu-preserved : goal.loop-cpu-preserved
loop-cpu-preserved c =
    let stretch = c.run_to_store-stretch in
    let before = c.args.most - c.loop-cpu.left in
    let gone = c.loop-cpu.left - stretch.result.left in
    let far =
    goes_far before c.args.cpu.now c.args.space.now c.loop-cpu.cpu c.loop-cpu.space c.loop-cpu.invariant.went gone stretch.new.cpu stretch.new.space stretch.ensures.went in
    let less = stretch.ensures.few in
    let room = c.loop-cpu.invariant.few in
    record {
      went = goes_as (before + gone + 1) (c.args.most - (stretch.result.left - 1)) c.args.cpu.now c.args.space.now c.step.new.cpu c.step.new.space (omega arith)
          (goes_on (before + gone) c.args.cpu.now c.args.space.now stretch.new.cpu stretch.new.space far c.step.new.cpu c.step.new.space c.step.result
          (c.in-Ok-Next.is ∙ ap Ok c.in-Ok-Next.field-0-is) c.step.ensures.ok);
      few = omega arith;
    }

pub loop-cpu-preserved-in-Stored : goal.loop-cpu-preserved-in-Stored
loop-cpu-preserved-in-Stored c =
    let stretch = c.run_to_store-stretch in
    let before = c.args.most - c.loop-cpu.left in
    let gone = c.loop-cpu.left - stretch.result.left in
    let far =
    goes_far before c.args.cpu.now c.args.space.now c.loop-cpu.cpu c.loop-cpu.space c.loop-cpu.invariant.went gone stretch.new.cpu stretch.new.space stretch.ensures.went in
    let less = stretch.ensures.few in
    let room = c.loop-cpu.invariant.few in
    record {
      went = goes_as (before + gone) (c.args.most - stretch.result.left) c.args.cpu.now c.args.space.now stretch.new.cpu stretch.new.space (omega arith) far;
      few = omega arith;
    }

pub returns-in_default-clause-last : goal.returns-in_default-clause-last
returns-in_default-clause-last c =
    let stretch = c.run_to_store-stretch in
    let before = c.args.most - c.loop-cpu.left in
    let gone = c.loop-cpu.left - stretch.result.left in
    let less = stretch.ensures.few in
    let room = c.loop-cpu.invariant.few in
    let far =
    goes_as (before + gone) (c.args.most - stretch.result.left) c.args.cpu.now c.args.space.now stretch.new.cpu stretch.new.space (omega arith)
    (goes_far before c.args.cpu.now c.args.space.now c.loop-cpu.cpu c.loop-cpu.space c.loop-cpu.invariant.went gone stretch.new.cpu stretch.new.space stretch.ensures.went) in
    let went = goes_then (c.args.most - stretch.result.left) c.args.cpu.now c.args.space.now stretch.new.cpu stretch.new.space far c.step.new.cpu c.step.new.space c.step.result
    c.step.ensures.ok c.step.ensures.unchanged_cpu c.step.ensures.unchanged_space in
    search rules

pub returns-in-AtCall-clause-last : goal.returns-in-AtCall-clause-last
returns-in-AtCall-clause-last c =
    let stretch = c.run_to_store-stretch in
    let before = c.args.most - c.loop-cpu.left in
    let gone = c.loop-cpu.left - stretch.result.left in
    let less = stretch.ensures.few in
    let room = c.loop-cpu.invariant.few in
    let far =
    goes_as (before + gone) (c.args.most - stretch.result.left) c.args.cpu.now c.args.space.now stretch.new.cpu stretch.new.space (omega arith)
    (goes_far before c.args.cpu.now c.args.space.now c.loop-cpu.cpu c.loop-cpu.space c.loop-cpu.invariant.went gone stretch.new.cpu stretch.new.space stretch.ensures.went) in
    let at = subst (λ (e : Ended). IsEnded c.loop-cpu.left stretch.result.left stretch.new.cpu stretch.new.space e) c.in-AtCall.is stretch.ensures.ended in
    goes_to_call (c.args.most - stretch.result.left) c.args.cpu.now c.args.space.now stretch.new.cpu stretch.new.space far c.system_call.new.cpu c.system_call.result at
    c.system_call.ensures.processor c.system_call.ensures.came

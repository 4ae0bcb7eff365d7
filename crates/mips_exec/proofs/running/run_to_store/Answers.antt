use Rattle.std.proofs.Common.{◌+◌, ◌-◌, arith, refl, sym, subst}
use Rattle.mips_exec.specs.Going.{Goes}
use Rattle.mips_exec.specs.declared.running.Behind.{Behind}
use Rattle.mips_exec.specs.inside.Quietly.{IsNext}
use Rattle.mips_exec.specs.declared.effect.Effect.TheVariants as Effect
use Rattle.mips_exec.specs.declared.execution.Stepped.TheVariants.{Next}
use Rattle.mips_exec.proofs.Going.{goes_as, goes_one, step_by_effect}
use Rattle.mips_exec.proofs.running.run_to_store.Goals as goal

pub returns-then-store_quietly-clause-went : goal.returns-then-store_quietly-clause-went
returns-then-store_quietly-clause-went c =
    let rest = c.run_here-rest in
    let store = c.in-Store.store in
    let next = subst (λ (n : Behind). IsNext rest.result.left rest.new.cpu c.args.space.now n) c.in-Store.is rest.ensures.next in
    let few = rest.ensures.few in
    let some = next.0 in
    goes_as (c.args.most - rest.result.left + 1) (c.args.most - (rest.result.left - 1)) c.args.cpu.now c.args.space.now c.store_quietly.new.cpu c.store_quietly.new.space (omega arith)
    (goes_one (c.args.most - rest.result.left) c.args.cpu.now c.args.space.now rest.new.cpu c.args.space.now rest.ensures.went c.store_quietly.new.cpu c.store_quietly.new.space
    (step_by_effect rest.new.cpu c.args.space.now (Effect.Store store.span store.address store.value) (record { processor = c.store_quietly.new.cpu; memory = c.store_quietly.new.space; came = Next })
    next.1 (c.if-store_quietly.ensures.went refl)))

pub returns-else-store_quietly-clause-went : goal.returns-else-store_quietly-clause-went
returns-else-store_quietly-clause-went c =
    let rest = c.run_here-rest in
    subst (λ p. Goes (c.args.most - rest.result.left) c.args.cpu.now c.args.space.now p c.store_quietly.new.space) (sym (c.if-store_quietly.ensures.stays_cpu refl))
    (subst (λ m. Goes (c.args.most - rest.result.left) c.args.cpu.now c.args.space.now rest.new.cpu m) (sym (c.if-store_quietly.ensures.stays_space refl)) rest.ensures.went)

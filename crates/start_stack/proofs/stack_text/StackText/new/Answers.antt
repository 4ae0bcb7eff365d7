use Rattle.std.proofs.Common.{rules, ◌≡◌, ◌≤◌, ap, refl, arith, length, map, string_bytes}
use Rattle.std.proofs.lemmas.Grind.{common_steps}
use Rattle.start_stack.specs.Stack.{start_size, stack_pointer, stack_bytes}
use Rattle.start_stack.proofs.Lengths.{stack_bytes-end}
use Rattle.start_stack.proofs.stack_text.StackText.new.Goals as goal

pub returns-clause-bytes : goal.returns-clause-bytes
returns-clause-bytes c = first_of (search rules, grind (arith, common_steps))

pub returns-clause-stack_pointer : goal.returns-clause-stack_pointer
returns-clause-stack_pointer c = first_of (search rules, grind (arith, common_steps))

pub returns-clause-end : goal.returns-clause-end
returns-clause-end c =
    let args = map string_bytes c.args.args.now in
    let env = map string_bytes c.args.env.now in
    let fits : start_size args env ≤ 131072 = c.in-Some.ensures.fits.0 refl in
    let at : c.places_of-places.result.stack_pointer ≡ stack_pointer args env = returns-clause-stack_pointer c in
    let size : length c.push_texts.new.bytes.items ≡ length (stack_bytes c.args.plan.now args env c.args.random.now)
    = ap length (returns-clause-bytes c) in
    let end = stack_bytes-end c.args.plan.now args env c.args.random.now c.told-random fits in
    omega (arith, at, size, end)

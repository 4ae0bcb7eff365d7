use Rattle.std.proofs.Common.{sym, ap, ◌∙◌, arith}
use Rattle.guest_space.specs.Access.{bytes_before, first_denied}
use Rattle.guest_space.specs.Memory.{Memory}
use Rattle.guest_space.proofs.Uses.{prefix-part}
use Rattle.guest_space.proofs.Prefixes.{denied-stands, none_denied-within}
use Rattle.guest_space.proofs.space.Space.prefix.Goals as goal

pub overflow_sub-result : goal.overflow_sub-result
overflow_sub-result c = (denied-stands _ _ _ _ _ (sym c.in-Some.ensures.value)).from

pub returns-in-None-clause-within : goal.returns-in-None-clause-within
returns-in-None-clause-within c = none_denied-within _ _ _ _ (sym c.in-None.ensures.value)

pub returns-in-Some-clause-within : goal.returns-in-Some-clause-within
returns-in-Some-clause-within c =
    let stands = denied-stands _ _ _ _ _ (sym c.in-Some.ensures.value) in
    λ more. omega (arith, stands.from, stands.inside (omega (arith, stands.from)))

pub returns-in-None-clause-free : goal.returns-in-None-clause-free
returns-in-None-clause-free c =
    λ k within. sym (ap (λ (m : Memory). first_denied c.args.access m.pages c.args.address k) c.self.view_is)
    ∙ prefix-part c.args.access c.self.inside.pages c.args.n c.args.address k
    (omega (arith, ap (bytes_before c.args.address c.args.n) c.in-None.ensures.value))

pub returns-in-Some-clause-bound : goal.returns-in-Some-clause-bound
returns-in-Some-clause-bound c =
    let stands = denied-stands _ _ _ _ _ (sym c.in-Some.ensures.value) in
    omega (arith, stands.from, stands.below)

pub returns-in-Some-clause-free : goal.returns-in-Some-clause-free
returns-in-Some-clause-free c =
    λ k within. sym (ap (λ (m : Memory). first_denied c.args.access m.pages c.args.address k) c.self.view_is)
    ∙ prefix-part c.args.access c.self.inside.pages c.args.n c.args.address k
    (omega (arith, ap (bytes_before c.args.address c.args.n) c.in-Some.ensures.value))

use Rattle.std.proofs.Common.{subst, sym}
use Rattle.guest_space.specs.Memory.{IsValid}
use Rattle.guest_space.proofs.Validity.{valid-with_protection}
use Rattle.guest_space.proofs.space.Space.protect.Goals as goal

pub invariant_of-self : goal.invariant_of-self
invariant_of-self c =
    subst IsValid (sym c.protect_pages.ensures) (valid-with_protection _ _ _ _ c.self.invariant c.requires.protection)

pub returns-clause-valid : goal.returns-clause-valid
returns-clause-valid c =
    subst IsValid (sym c.protect_pages.ensures) (valid-with_protection _ _ _ _ c.self.invariant c.requires.protection)

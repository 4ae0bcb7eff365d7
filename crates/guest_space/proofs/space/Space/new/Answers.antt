use Rattle.std.proofs.Common.{subst, sym}
use Rattle.guest_space.specs.Memory.{IsValid}
use Rattle.guest_space.proofs.Validity.{valid-empty}
use Rattle.guest_space.proofs.space.Space.new.Goals as goal

pub invariant_of-result : goal.invariant_of-result
invariant_of-result c = subst IsValid (sym c.in_ok-pages.ensures) valid-empty

pub returns-clause-valid : goal.returns-clause-valid
returns-clause-valid c = subst IsValid (sym c.in_ok-pages.ensures) valid-empty

use Rattle.std.proofs.Common.{subst, sym, arith}
use Rattle.guest_space.specs.Memory.{IsValid}
use Rattle.guest_space.proofs.Validity.{valid-with_bytes}
use Rattle.guest_space.proofs.walk.store_across_pages.Goals as goal

pub returns-clause-valid : goal.returns-clause-valid
returns-clause-valid c =
    λ valid. subst IsValid (sym c.in_ok-write_across.ensures.ok) (valid-with_bytes _ _ _ valid (λ k. let byte = c.type_inv.bytes k in omega arith))

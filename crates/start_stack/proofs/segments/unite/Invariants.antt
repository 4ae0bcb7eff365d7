use Rattle.std.proofs.Common.{◌≡◌, ℕ, get_or}
use Rattle.std.specs.Prelude.{◌&&◌, nat_le, nat_lt, bit_or, if◌then◌else◌}
use Rattle.start_stack.specs.FirstMemory.{first_page}
use Rattle.start_stack.proofs.segments.unite.Given as goal

-- the pages so far have the protection added
abbrev pub invariant-loop-page : goal.invariant-loop-page
invariant-loop-page l = (q : ℕ) → get_or l.protections q 0
    ≡ (if nat_le (first_page l.segment) q && nat_lt q l.page then bit_or (get_or l.fn.protections q 0) l.segment.prot else get_or l.fn.protections q 0)

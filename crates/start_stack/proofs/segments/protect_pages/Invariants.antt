use Rattle.std.proofs.Common.{◌≡◌}
use Rattle.std.specs.Prelude.{slice_index}
use Rattle.start_stack.specs.FirstMemory.{with_page_protections}
use Rattle.start_stack.proofs.segments.protect_pages.Given as goal

-- the pages so far have their protections
abbrev pub invariant-loop-protection : goal.invariant-loop-protection
invariant-loop-protection l =
    (l.space ≡ with_page_protections l.fn.space (slice_index l.protections) l.page) × (l.page ≡ l.protection-index)

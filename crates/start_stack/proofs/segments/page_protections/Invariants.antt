use Rattle.std.proofs.Common.{◌≡◌, ℕ, length, drop, get_or}
use Rattle.start_stack.specs.FirstMemory.{top_page, united, page_protection}
use Rattle.start_stack.proofs.segments.page_protections.Given as goal

-- each page's union is what is united so far, and the segments to come
abbrev pub invariant-loop-segment : goal.invariant-loop-segment
invariant-loop-segment l =
    (length l.protections.items ≡ top_page l.segments)
    × ((q : ℕ) → united (get_or l.protections.items q 0) (drop l.segment-index l.segments) q ≡ page_protection l.segments q)

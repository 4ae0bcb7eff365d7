use Rattle.std.proofs.Common.{◌≡◌, ◌≤◌, drop, max}
use Rattle.std.specs.List.{fold}
use Rattle.start_stack.specs.FirstMemory.{end_page, top_page}
use Rattle.start_stack.proofs.segments.top_page.Given as goal

-- the top of all is that of the highest so far and those to come
abbrev pub invariant-loop-segment : goal.invariant-loop-segment
invariant-loop-segment l =
    (fold (λ top s. max top (end_page s)) l.top (drop l.segment-index l.segments) ≡ top_page l.segments)
    × (l.top ≤ 0x7F7F0)

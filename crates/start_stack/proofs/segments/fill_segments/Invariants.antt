use Rattle.std.proofs.Common.{◌≡◌, ℕ, true, drop}
use Rattle.std.specs.FinMap.{get}
use Rattle.start_stack.specs.FirstMemory.{no_memory, with_segment_pages, with_segment_bytes}
use Rattle.start_stack.proofs.Writable.{is_writable}
use Rattle.start_stack.proofs.segments.fill_segments.Given as goal

-- the whole is what is written, and the segments to come; pages that were mapped writable still are
abbrev pub invariant-loop-segment : goal.invariant-loop-segment
invariant-loop-segment l =
    (with_segment_bytes l.fn.space l.segments ≡ with_segment_bytes l.space (drop l.segment-index l.segments))
    × ((q : ℕ) → is_writable (get (with_segment_pages no_memory l.segments).pages q) ≡ true → is_writable (get l.space.pages q) ≡ true)

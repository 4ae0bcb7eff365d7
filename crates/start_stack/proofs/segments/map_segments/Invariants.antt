use Rattle.std.proofs.Common.{◌≡◌, drop, map}
use Rattle.elf_image.specs.Loading.{segment_span}
use Rattle.start_stack.specs.FirstMemory.{with_segment_pages}
use Rattle.start_stack.proofs.Counting.{KeysBelow}
use Rattle.start_stack.proofs.segments.map_segments.Given as goal

-- the whole is what is mapped, and the segments to come; only pages that segments touch are mapped
abbrev pub invariant-loop-segment : goal.invariant-loop-segment
invariant-loop-segment l =
    (with_segment_pages l.fn.space l.segments ≡ with_segment_pages l.space (drop l.segment-index l.segments))
    × KeysBelow (map segment_span l.segments) 1048576 l.space.pages

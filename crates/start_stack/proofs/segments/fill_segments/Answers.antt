use Rattle.std.proofs.Common.{◌≡◌, ◌+◌, ◌∙◌, true, ap, sym, subst, drop, length}
use Rattle.std.proofs.lemmas.List.{drop_more}
use Rattle.std.specs.FinMap.{get}
use Rattle.guest_space.specs.declared.access.Access.TheVariants.{Store}
use Rattle.guest_space.specs.Access.{first_denied}
use Rattle.guest_space.specs.Bytes.{copied_out}
use Rattle.guest_space.specs.Memory.{Memory}
use Rattle.elf_image.specs.declared.load_plan.Segment.{Segment}
use Rattle.start_stack.specs.FirstMemory.{with_segment_bytes}
use Rattle.start_stack.proofs.SegmentPages.{segment-allowed}
use Rattle.start_stack.proofs.Writable.{is_writable, copied_out-writable}
use Rattle.start_stack.proofs.segments.fill_segments.Goals as goal

pub write_bytes-requires : goal.write_bytes-requires
write_bytes-requires c =
    let s = c.segment-item.result in
    let pages = c.loop-segment.space.pages in
    ap (λ bytes. first_denied Store pages s.vaddr (length bytes)) c.as_slice.ensures
    ∙ segment-allowed c.args.segments.now _ s pages c.loop-segment-test.true c.segment-item.is c.requires.valid c.loop-segment.invariant.1

pub loop-segment-preserved : goal.loop-segment-preserved
loop-segment-preserved c =
    let s = c.segment-item.result in
    let segments = c.args.segments.now in
    let space = c.loop-segment.space in
    let i = c.loop-segment.segment-index in
    let step = c.in_ok-write_bytes.ensures.ok ∙ ap (copied_out space s.vaddr) c.as_slice.ensures in (
      c.loop-segment.invariant.0
          ∙ ap (with_segment_bytes space) (drop_more segments i s c.loop-segment-test.true)
          ∙ ap (λ (t : Segment). with_segment_bytes (copied_out space t.vaddr t.bytes) (drop (i + 1) segments)) (sym c.segment-item.is)
          ∙ ap (λ m. with_segment_bytes m (drop (i + 1) segments)) (sym step),
      λ q found. subst (λ (m : Memory). is_writable (get m.pages q) ≡ true) (sym step)
          (copied_out-writable space s.vaddr s.bytes q (c.loop-segment.invariant.1 q found)),
    )

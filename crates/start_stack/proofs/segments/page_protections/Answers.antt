use Rattle.std.proofs.Common.{◌≤◌, ap, sym, subst, arith, length}
use Rattle.elf_image.specs.declared.load_plan.Segment.{Segment}
use Rattle.start_stack.specs.FirstMemory.{end_page, top_page}
use Rattle.start_stack.proofs.Protections.{top_page-at}
use Rattle.start_stack.proofs.segments.page_protections.Goals as goal

pub unite-requires-clause-room : goal.unite-requires-clause-room
unite-requires-clause-room c =
    let below = subst (λ (t : Segment). end_page t ≤ top_page c.args.segments.now) (sym c.segment-item.is)
    (top_page-at c.args.segments.now c.loop-segment.segment-index c.segment-item.result c.loop-segment-test.true) in
    omega (arith, below, c.loop-segment.invariant.0, c.deref_mut.ensures.len, ap (length) c.deref_mut.ensures.value)

use Rattle.std.proofs.Common.{◌-◌, ◌+◌, ◌∙◌, ap, sym, refl, arith, drop}
use Rattle.std.proofs.lemmas.List.{drop_more}
use Rattle.std.proofs.lemmas.Bool.{false≢true}
use Rattle.std.specs.Prelude.{is_some}
use Rattle.std.specs.Ordering.{nat_cmp}
use Rattle.std.specs.FinMap.{len, get, get-empty}
use Rattle.guest_space.specs.Memory.{Memory}
use Rattle.guest_space.specs.Mapping.{with_zeros}
use Rattle.elf_image.specs.declared.load_plan.Segment.{Segment}
use Rattle.start_stack.specs.FirstMemory.{first_page, page_count, with_pages, with_segment_pages}
use Rattle.start_stack.proofs.SegmentPages.{segment-keys, keys-few}
use Rattle.start_stack.proofs.segments.map_segments.Goals as goal

pub loop-segment-init : goal.loop-segment-init
loop-segment-init c =
    (refl, λ q found. absurd (false≢true (sym (ap is_some (ap (λ (m : Memory). get m.pages q) c.requires.empty ∙ get-empty nat_cmp q)) ∙ found)))

pub map_pages-requires-clause-room : goal.map_pages-requires-clause-room
map_pages-requires-clause-room c =
    let s = c.segment-item.result in
    let pages = c.loop-segment.space.pages in
    let keys = segment-keys c.args.segments.now _ s pages c.loop-segment-test.true c.segment-item.is c.requires.valid c.loop-segment.invariant.1 in
    let few = keys-few c.args.segments.now _ c.requires.few keys in
    let same = ap (λ n. with_zeros pages n (c.end_page.result - n) 3) c.first_page-first.ensures
    ∙ ap (λ n. with_zeros pages (first_page s) (n - first_page s) 3) c.end_page.ensures.value in
    omega (arith, ap len same, few)

pub loop-segment-preserved : goal.loop-segment-preserved
loop-segment-preserved c =
    let s = c.segment-item.result in
    let segments = c.args.segments.now in
    let space = c.loop-segment.space in
    let i = c.loop-segment.segment-index in
    let keys = segment-keys segments i s space.pages c.loop-segment-test.true c.segment-item.is c.requires.valid c.loop-segment.invariant.1 in
    let step = c.in_ok-map_pages.ensures.ok
    ∙ ap (λ n. with_pages space n (c.end_page.result - n)) c.first_page-first.ensures
    ∙ ap (λ n. with_pages space (first_page s) (n - first_page s)) c.end_page.ensures.value in (
      c.loop-segment.invariant.0
          ∙ ap (with_segment_pages space) (drop_more segments i s c.loop-segment-test.true)
          ∙ ap (λ (t : Segment). with_segment_pages (with_pages space (first_page t) (page_count t)) (drop (i + 1) segments)) (sym c.segment-item.is)
          ∙ ap (λ m. with_segment_pages m (drop (i + 1) segments)) (sym step),
      λ q found. keys q (sym (ap (λ (m : Memory). is_some (get m.pages q)) step) ∙ found),
    )

pub returns-clause-room : goal.returns-clause-room
returns-clause-room c = keys-few c.args.segments.now c.loop-segment.space.pages c.requires.few c.loop-segment.invariant.1

use Rattle.std.proofs.Common.{◌≤◌, ◌∙◌, ap, sym, subst, arith, get_or, length}
use Rattle.std.specs.Prelude.{slice_index}
use Rattle.std.proofs.lemmas.List.{get_or_default}
use Rattle.std.specs.FinMap.{len}
use Rattle.guest_space.specs.Memory.{Memory}
use Rattle.start_stack.proofs.Counting.{with_segment_bytes-len, with_page_protections-len}
use Rattle.start_stack.specs.FirstMemory.{top_page, page_protection, with_segment_bytes, with_page_protections}
use Rattle.start_stack.proofs.Protections.{top_page-high, united-fits, with_page_protections-same}
use Rattle.start_stack.proofs.segments.load_segments.Goals as goal

pub protect_pages-requires-clause-room : goal.protect_pages-requires-clause-room
protect_pages-requires-clause-room c =
    let value = ap length c.deref.ensures.value in
    omega (arith, value, c.in_ok-protections.ensures.len, top_page-high c.args.segments.now c.requires.valid)

pub protect_pages-requires-clause-each : goal.protect_pages-requires-clause-each
protect_pages-requires-clause-each c k d below =
    let table = c.deref.result.now in
    let size = ap length c.deref.ensures.value in
    let value = get_or_default table k d 0 below ∙ ap (λ t. get_or t k 0) c.deref.ensures.value
    ∙ c.in_ok-protections.ensures.each k (omega arith) in
    subst (λ n. n ≤ 7) (sym value) (united-fits 0 c.args.segments.now k c.requires.valid (omega arith))

pub returns-clause-ok : goal.returns-clause-ok
returns-clause-ok c =
    let segments = c.args.segments.now in
    let table = c.deref.result.now in
    let memory = c.fill_segments.new.space in
    let size = ap length c.deref.ensures.value ∙ c.in_ok-protections.ensures.len in
    c.protect_pages.ensures
    ∙ ap (with_page_protections memory (slice_index table)) size
    ∙ with_page_protections-same memory (slice_index table) (page_protection segments) (top_page segments)
    (λ q below. ap (λ t. get_or t q 0) c.deref.ensures.value ∙ c.in_ok-protections.ensures.each q (omega (arith, c.in_ok-protections.ensures.len)))
    ∙ ap (λ m. with_page_protections m (page_protection segments) (top_page segments))
    (c.in_ok-fill_segments.ensures.ok ∙ ap (λ m. with_segment_bytes m segments) c.in_ok-map_segments.ensures.ok)

pub returns-clause-room : goal.returns-clause-room
returns-clause-room c =
    let segments = c.args.segments.now in
    let table = c.deref.result.now in
    omega (
      arith,
      ap (λ (m : Memory). len m.pages) c.protect_pages.ensures,
      with_page_protections-len c.fill_segments.new.space (slice_index table) (length table),
      ap (λ (m : Memory). len m.pages) c.in_ok-fill_segments.ensures.ok,
      with_segment_bytes-len c.map_segments.new.space segments,
      c.in_ok-map_segments.ensures.room,
    )

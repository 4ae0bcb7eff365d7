use Rattle.std.proofs.Common.{◌∙◌, ap, sym, refl, arith}
use Rattle.std.specs.Prelude.{slice_index}
use Rattle.start_stack.specs.FirstMemory.{with_protected}
use Rattle.start_stack.proofs.Protections.{with_page_protections-none, with_page_protections-next}
use Rattle.start_stack.proofs.segments.protect_pages.Goals as goal

pub loop-protection-init : goal.loop-protection-init
loop-protection-init c = (sym (with_page_protections-none c.args.space.now (slice_index c.args.protections.now)), refl)

pub loop-protection-preserved : goal.loop-protection-preserved
loop-protection-preserved c =
    let table = c.args.protections.now in
    let page = c.loop-protection.page in (
      c.protect_page.ensures
          ∙ ap (λ i. with_protected c.loop-protection.space page 1 (slice_index table i)) (sym c.loop-protection.invariant.1)
          ∙ ap (λ m. with_protected m page 1 (slice_index table page)) c.loop-protection.invariant.0
          ∙ sym (with_page_protections-next c.args.space.now (slice_index table) page),
      omega (arith, c.loop-protection.invariant.1),
    )

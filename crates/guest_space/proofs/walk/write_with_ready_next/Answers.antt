use Rattle.std.proofs.Common.{◌≡◌, ◌+◌, true, false, ap, ◌∙◌}
use Rattle.std.specs.FinMap.{get}
use Rattle.raw_pages.specs.Pages.{is_ready, pages_with_piece}
use Rattle.guest_space.specs.Memory.{Pages}
use Rattle.guest_space.proofs.Writes.{in_order, next_kept, unready_of, on_err}
use Rattle.guest_space.proofs.walk.write_with_ready_next.Goals as goal

pub returns-in_err-write-clause-unready : goal.returns-in_err-write-clause-unready
returns-in_err-write-clause-unready c =
    on_err c.from_residual.result (unready_of (is_ready (get c.args.pages.now c.args.page)) (λ ready. let failed : false ≡ true = c.in_err-write.ensures.ready ready in absurd (cc)))

pub returns-in_err-write-2-clause-err : goal.returns-in_err-write-2-clause-err
returns-in_err-write-2-clause-err c =
    let number = c.args.page + 1 in
    let still = ap (λ m. is_ready (get m number)) c.in_ok-write.ensures.ok ∙ ap is_ready (next_kept c.args.pages.now c.args.page c.args.place c.args.front.now c.args.back.now) ∙ c.requires.ready in
    let failed : false ≡ true = c.in_err-write-2.ensures.ready still in
    absurd (cc)

pub returns-in_err-write-2-clause-unready : goal.returns-in_err-write-2-clause-unready
returns-in_err-write-2-clause-unready c =
    let number = c.args.page + 1 in
    let still = ap (λ m. is_ready (get m number)) c.in_ok-write.ensures.ok ∙ ap is_ready (next_kept c.args.pages.now c.args.page c.args.place c.args.front.now c.args.back.now) ∙ c.requires.ready in
    let failed : false ≡ true = c.in_err-write-2.ensures.ready still in
    absurd (cc)

pub returns-clause-ok : goal.returns-clause-ok
returns-clause-ok c =
    let number = c.args.page + 1 in
    c.in_ok-write-2.ensures.ok
    ∙ ap (λ (m : Pages). pages_with_piece m number (get m number) 0 c.args.back.now) c.in_ok-write.ensures.ok
    ∙ in_order c.args.pages.now c.args.page c.args.place c.args.front.now c.args.back.now

use Rattle.std.proofs.Common.{◌+◌, refl, ap, ◌∙◌}
use Rattle.std.specs.FinMap.{get}
use Rattle.raw_pages.specs.Pages.{pages_with_piece, pages_cleared}
use Rattle.guest_space.specs.Memory.{Pages}
use Rattle.guest_space.proofs.Writes.{other_order, cleared-back}
use Rattle.guest_space.proofs.walk.write_with_unready_next.Goals as goal

pub returns-in-Err-clause-err : goal.returns-in-Err-clause-err
returns-in-Err-clause-err c =
    let number = c.args.page + 1 in
    c.clear.ensures
    ∙ ap (λ (m : Pages). pages_cleared m number (get m number)) (c.in-Err.ensures.err ∙ c.in_ok-write.ensures.ok)
    ∙ cleared-back c.args.pages.now number 0 c.args.back.now (get c.args.pages.now number) refl c.requires.unready c.requires.zeros

pub returns-clause-ok : goal.returns-clause-ok
returns-clause-ok c =
    c.in_default.ensures.ok
    ∙ ap (λ (m : Pages). pages_with_piece m c.args.page (get m c.args.page) c.args.place c.args.front.now) c.in_ok-write.ensures.ok
    ∙ other_order c.args.pages.now c.args.page c.args.place c.args.front.now c.args.back.now

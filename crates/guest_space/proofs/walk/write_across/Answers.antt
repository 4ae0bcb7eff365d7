use Rattle.std.proofs.Common.{sym, ◌∙◌}
use Rattle.guest_space.proofs.Writes.{across-pages, first_unready, next_unready, on_err}
use Rattle.guest_space.proofs.walk.write_across.Goals as goal

pub returns-in_err-write_with_ready_next-clause-ready : goal.returns-in_err-write_with_ready_next-clause-ready
returns-in_err-write_with_ready_next-clause-ready c =
    on_err c.from_residual.result (first_unready c.args.pages.now c.args.address c.args.bytes.now c.requires.across c.requires.short c.in_err-write_with_ready_next.ensures.unready)

pub returns-in_ok-write_with_ready_next-clause-ok : goal.returns-in_ok-write_with_ready_next-clause-ok
returns-in_ok-write_with_ready_next-clause-ok c =
    c.in_ok-write_with_ready_next.ensures.ok ∙ across-pages c.args.pages.now c.args.address c.args.bytes.now c.requires.across c.requires.short

pub returns-in_err-write_with_unready_next-clause-ready : goal.returns-in_err-write_with_unready_next-clause-ready
returns-in_err-write_with_unready_next-clause-ready c =
    on_err c.from_residual-in_err-write_with_unready_next.result
    (next_unready c.args.pages.now c.args.address c.args.bytes.now c.requires.across c.requires.short (sym c.if-ready.ensures.value))

pub returns-in_ok-write_with_unready_next-clause-ok : goal.returns-in_ok-write_with_unready_next-clause-ok
returns-in_ok-write_with_unready_next-clause-ok c =
    c.in_ok-write_with_unready_next.ensures.ok ∙ across-pages c.args.pages.now c.args.address c.args.bytes.now c.requires.across c.requires.short

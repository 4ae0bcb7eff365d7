use Rattle.std.proofs.Common.{ap, ◌∙◌, sym, arith}
use Rattle.guest_space.specs.Mapping.{mapped_run}
use Rattle.bridge_map.proofs.Runs.{run_past, run_inside, run_again, run_none, run_ends}
use Rattle.bridge_map.proofs.range.mapped.Goals as goal

pub returns-then-first-ge-USER_PAGES-clause-value : goal.returns-then-first-ge-USER_PAGES-clause-value
returns-then-first-ge-USER_PAGES-clause-value c = sym (run_past _ _ _ c.whole.ensures c.if-first-ge-USER_PAGES.true)

pub returns-then-first-ge-USER_PAGES-clause-run : goal.returns-then-first-ge-USER_PAGES-clause-run
returns-then-first-ge-USER_PAGES-clause-run c = run_none _ _

pub returns-clause-value : goal.returns-clause-value
returns-clause-value c =
    c.mapped.ensures.value ∙ ap (mapped_run c.args.space.now.pages c.args.first) c.min.ensures
    ∙ run_inside c.args.space.now.pages c.args.count c.args.first c.whole.ensures (omega arith)

pub returns-clause-run : goal.returns-clause-run
returns-clause-run c =
    ap (mapped_run c.args.space.now.pages c.args.first) c.mapped.ensures.value
    ∙ run_again c.args.space.now.pages c.min.result c.args.first
    ∙ sym c.mapped.ensures.value

pub returns-clause-inside : goal.returns-clause-inside
returns-clause-inside c some =
    let ends = run_ends c.args.space.now.pages c.min.result c.args.first c.whole.ensures (omega arith) in
    (c.if-first-ge-USER_PAGES.false, omega (arith, ends, c.mapped.ensures.value))

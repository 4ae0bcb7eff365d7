use Rattle.std.proofs.Common.{◌≡◌, ◌+◌, ◌-◌, sym, ap, ◌∙◌, arith}
use Rattle.raw_pages.specs.Pages.{pages_with_zeros}
use Rattle.raw_pages.proofs.Runs.{with_zeros-none, with_zeros-join}
use Rattle.raw_pages.proofs.page_store.PageStore.map_run.Goals as goal

pub loop-at-init : goal.loop-at-init
loop-at-init c =
    let none : c.args.first - c.args.first ≡ 0 = omega arith in
    record {
      from = omega arith;
      within = omega arith;
      done =
          sym (with_zeros-none c.args.self.now c.args.first c.args.protection)
          ∙ ap (λ n. pages_with_zeros c.args.self.now c.args.first n c.args.protection) (sym none);
    }

pub loop-at-preserved : goal.loop-at-preserved
loop-at-preserved c =
    let first = c.args.first in
    let at = c.loop-at.at in
    let past = c.end_in_table-past.result in
    let here : at ≡ first + (at - first) = omega (arith, c.loop-at.invariant.from) in
    let sum : at - first + (past - at) ≡ past - first = omega (arith, c.loop-at.invariant.from, c.end_in_table-past.ensures.from) in
    record {
      from = omega (arith, c.loop-at.invariant.from, c.end_in_table-past.ensures.from);
      within = omega (arith, c.end_in_table-past.ensures.end);
      done =
          c.in_ok-map_in_table.ensures.ok
          ∙ (λ i. pages_with_zeros (c.loop-at.invariant.done i) (here i) (past - at) c.args.protection)
          ∙ with_zeros-join c.args.self.now first c.args.protection (at - first) (past - at)
          ∙ ap (λ n. pages_with_zeros c.args.self.now first n c.args.protection) sum;
    }

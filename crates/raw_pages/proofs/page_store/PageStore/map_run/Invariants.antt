use Rattle.std.proofs.Common.{◌≡◌, ◌≤◌, ◌-◌}
use Rattle.raw_pages.specs.Pages.{pages_with_zeros}
use Rattle.raw_pages.proofs.page_store.PageStore.map_run.Given as goal

abbrev pub invariant-loop-at : goal.invariant-loop-at
invariant-loop-at l = record {
  from : l.first ≤ l.at;
  within : l.at ≤ l.end;
  done : l.self ≡ pages_with_zeros l.fn.self l.first (l.at - l.first) l.protection;
}

abbrev pub decreases-loop-at : goal.decreases-loop-at
decreases-loop-at l = l.end - l.at

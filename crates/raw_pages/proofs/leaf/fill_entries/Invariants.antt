use Rattle.std.proofs.Common.{◌≡◌, ◌≤◌, ◌+◌, ◌-◌, ℕ, None, get_or}
use Rattle.raw_pages.specs.Pages.{zero_page}
use Rattle.raw_pages.specs.inside.Tables.{Fills, absent_among, entry_count}
use Rattle.raw_pages.proofs.leaf.fill_entries.Given as goal

abbrev pub invariant-loop-place : goal.invariant-loop-place
invariant-loop-place l = record {
  from : l.first ≤ l.place;
  fills : Fills (λ (p : ℕ). get_or l.fn.entries p None) (λ (p : ℕ). get_or l.entries p None) l.first l.place (zero_page l.protection);
  fresh : l.fresh ≡ absent_among (λ (p : ℕ). get_or l.fn.entries p None) l.first (l.place - l.first);
  counted : entry_count l.entries ≡ entry_count l.fn.entries + l.fresh;
}

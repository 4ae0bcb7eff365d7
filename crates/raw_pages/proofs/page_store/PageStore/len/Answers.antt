use Rattle.std.proofs.Common.{◌≤◌, ℕ, subst, sym}
use Rattle.raw_pages.proofs.Tables.{len-map_of}
use Rattle.raw_pages.proofs.page_store.PageStore.len.Goals as goal

pub returns-clause-small : goal.returns-clause-small
returns-clause-small c = subst (λ (n : ℕ). n ≤ 1048576) (sym c.self.invariant.counted) (len-map_of c.self.inside.leaves.items)

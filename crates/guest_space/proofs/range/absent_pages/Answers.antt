use Rattle.std.proofs.Common.{sym}
use Rattle.guest_space.proofs.MappingLemmas.{absent-told}
use Rattle.guest_space.proofs.range.absent_pages.Goals as goal

pub returns-then-is_none-clause-value : goal.returns-then-is_none-clause-value
returns-then-is_none-clause-value c =
    sym (absent-told c.args.pages.now c.args.first c.args.count c.last_mapped.result c.if-is_none.ensures c.last_mapped.ensures)

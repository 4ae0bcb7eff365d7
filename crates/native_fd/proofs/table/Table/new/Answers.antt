use Rattle.std.proofs.Common.{sym, subst}
use Rattle.kernel_model.specs.Begin.{free_places}
use Rattle.native_fd.specs.inside.Links.{AreLive}
use Rattle.native_fd.proofs.TableLemmas.{AreLive-none}
use Rattle.native_fd.proofs.table.Table.new.Goals as goal

pub invariant_of-result : goal.invariant_of-result
invariant_of-result g c =
    subst (λ l. AreLive l c.new-2.result) (sym c.in_ok-new.ensures)
    (subst (λ l. AreLive (free_places 1024) l) (sym c.new-2.ensures) AreLive-none)

use Rattle.std.proofs.Common.{sym, subst}
use Rattle.native_fd.specs.inside.Links.{AreLive}
use Rattle.native_fd.proofs.TableLemmas.{AreLive-cloexec}
use Rattle.native_fd.proofs.table.Table.set_cloexec.Goals as goal

pub invariant_of-self : goal.invariant_of-self
invariant_of-self g c =
    subst (λ l. AreLive l c.self.inside.descriptions) (sym c.set_cloexec.ensures)
    (AreLive-cloexec c.self.inside.links c.self.inside.descriptions c.self.invariant c.args.fd c.args.on)

use Rattle.std.proofs.Common.{sym, subst}
use Rattle.native_fd.specs.inside.Links.{AreLive}
use Rattle.native_fd.proofs.LinkLemmas.{leading-some}
use Rattle.native_fd.proofs.TableLemmas.{live_some, AreLive-changed}
use Rattle.native_fd.proofs.table.Table.set.Goals as goal

pub set-requires : goal.set-requires
set-requires g c =
    record {
      there = live_some c.self.inside.links c.self.inside.descriptions c.self.invariant c.in-Some.descriptor.number
          (leading-some c.self.inside.links c.args.fd c.in-Some.descriptor (sym c.in-Some.ensures.found));
    }

pub invariant_of-self : goal.invariant_of-self
invariant_of-self g c =
    subst (λ l. AreLive c.self.inside.links l) (sym c.set.ensures)
    (AreLive-changed c.self.inside.links c.self.inside.descriptions c.self.invariant c.in-Some.descriptor.number c.args.item
    (leading-some c.self.inside.links c.args.fd c.in-Some.descriptor (sym c.in-Some.ensures.found)))
